-- What reading an image leaves is what load leaves.
use Prim.Native.Nat.{ℕ, ◌*◌}
use mathlib.Core.Path.{◌≡◌, refl, sym, ap, ◌∙◌, subst}
use mathlib.Core.Bool.{Bool, true, false}
use mathlib.Core.List.{List, ◌++◌}
use lib.Dec.{T, leb, eqb, le→leb}
use lib.ListN.{length, drop, replicate, length-replicate}
use native.Mathlib.Omega.{arith}
use borrow.Author.Tests.{eq-eqb}
use Rattle.bytecode.proofs.TestLaws.{and_both, true→T}
use Rattle.bytecode.specs.Test.{when◌then◌else◌}
use Rattle.model.specs.Limits.{entry_words, header_words}
use Rattle.model.specs.Image.{Room, Header, Verdict, accepted, refused, image_header, image_objects, image_bytes, length_fine, buffers_fine, load_verdict}
use Rattle.image.proofs.RoundTrip.{objects_fit}
use Rattle.store.specs.Answer.{room_for, Stored, stored, in_front, stored_by}
use Rattle.plain.specs.Registers as R
use Rattle.plain.specs.Flat.{Flat, flat, room_of}
use Rattle.plain.specs.Calls.{loaded, done, refused_by, result, wrote}
use Rattle.plain.specs.FlatCalls.{Given, gives, no_answer, with_registers, zeroed, after_load, flat_load}
use Rattle.plain.proofs.LoadLaws.{accepts}
use Rattle.std.specs.Prelude.{Ok, Err}
use Rattle.model.specs.declared.numbers.Refusal.{Refusal}
use Rattle.model.specs.Numbers.{number_of}
use Rattle.image.specs.declared.Header as Read
use Rattle.image.specs.Heads.{as_header}
use Rattle.loads.specs.Answers.{loadGives}
use Rattle.machine.proofs.Calling.{emptied}

given_eq : {k k' : Rattle.plain.specs.Calls.Answer} {r r' : R.Registers} {c c' b b' s s' x x' : List ℕ} → k ≡ k' → r ≡ r' → c ≡ c' → b ≡ b' → s ≡ s' → x ≡ x'
    → gives k (flat r c b s x) ≡ gives k' (flat r' c' b' s' x')
given_eq p q r s t u = λ i. gives (p i) (flat (q i) (r i) (s i) (t i) (u i))

-- an accepted image has the length that its header asks for
long : (room : Room) (image : List ℕ) → Rattle.plain.proofs.LoadLaws.Accepted room image → T (length_fine image)
unfolding length_fine
long room image a =
    let e = a.long in
    and_both (leb (2 * header_words) (length image)) (eqb (length image) (image_bytes (image_header image).n (image_header image).b)) (le→leb (2 * header_words) (length image) (omega arith))
    (true→T (eq-eqb (length image) (image_bytes (image_header image).n (image_header image).b) e))

module _ (image contents bodies cache contents' bodies' : List ℕ) where
  abbrev verdict : Verdict
  verdict = load_verdict (room_for (length contents) (length bodies) (length cache)) image

  abbrev h : Header
  h = image_header image

  module _ (g : R.Registers) (stack : List ℕ) where
    abbrev s : Flat
    s = flat g contents bodies stack cache

    -- load looks at no stack
    same_verdict : load_verdict (room_of s) image ≡ verdict
    unfolding load_verdict buffers_fine
    same_verdict = refl

    load_is : (v : Verdict) → verdict ≡ v → flat_load s image ≡ after_load s image v
    unfolding flat_load
    load_is v e = ap (after_load s image) (same_verdict ∙ e)

    pub load_accepted : (x : Read.Header) (cache' : List ℕ) → accepted ≡ verdict → as_header x ≡ h
        → stored 0 contents' bodies' ≡ stored_by verdict image contents bodies → cache' ≡ replicate (length cache) 0
        → loadGives (Ok (record { n = x.n; b = x.b; receiver = x.receiver; selector = x.selector; phase = 0; top = 0; value = 0; edition = x.edition })) contents' bodies' stack cache' ≡ flat_load s image
    load_accepted x cache' e z q c = unfold loadGives stored_by loaded in (
        let a = accepts (room_of s) image (same_verdict ∙ sym e) in
        let f = objects_fit image (long (room_of s) image a) in
        let w = q ∙ ap (λ (v : Verdict). stored_by v image contents bodies) (sym e) in
        given_eq refl (λ i. record { n = (z i).n; b = (z i).b; start_receiver = (z i).receiver; start_selector = (z i).selector; phase = 0; top = 0; value = 0; edition = (z i).edition })
        (ap (λ (y : Stored). y.contents) w ∙ ap (λ (k : ℕ). (image_objects image).contents ++ drop k contents) (sym f.contents))
        (ap (λ (y : Stored). y.bodies) w ∙ ap (λ (k : ℕ). (image_objects image).bodies ++ drop k bodies) (sym f.bodies))
        refl (c ∙ emptied cache a.cache)
        ∙ sym (load_is accepted (sym e)))

    pub load_refused : (k : Refusal) → refused (number_of k) ≡ verdict → stored (number_of k) contents' bodies' ≡ stored_by verdict image contents bodies
        → loadGives (Err k) contents' bodies' stack cache ≡ flat_load s image
    load_refused k e q = unfold loadGives stored_by in
        (by_number (leb (number_of k) 3) (q ∙ ap (λ (v : Verdict). stored_by v image contents bodies) (sym e)) ∙ sym (load_is (refused (number_of k)) (sym e)))
      where
        by_number : (b : Bool) → stored (number_of k) contents' bodies' ≡ (when b then stored (number_of k) contents bodies else in_front (number_of k) h.n h.b
            (replicate (entry_words * h.n) 0) (replicate h.b 0) contents bodies)
            → gives (refused_by (number_of k)) (flat R.no_registers contents' bodies' stack cache) ≡ gives (refused_by (number_of k)) (when b then with_registers s R.no_registers else zeroed s h.n h.b)
        by_number true q = unfold when◌then◌else◌ in given_eq refl refl (ap (λ (z : Stored). z.contents) q) (ap (λ (z : Stored). z.bodies) q) refl refl
        by_number false q = unfold when◌then◌else◌ zeroed in
            given_eq refl refl
            (ap (λ (z : Stored). z.contents) q ∙ ap (λ (l : ℕ). replicate (entry_words * h.n) 0 ++ drop l contents) (sym (length-replicate {A = ℕ} (entry_words * h.n) 0)))
            (ap (λ (z : Stored). z.bodies) q ∙ ap (λ (l : ℕ). replicate h.b 0 ++ drop l bodies) (sym (length-replicate {A = ℕ} h.b 0))) refl refl

-- A refused load gives no registers.
pub none_given : (s : Flat) (image : List ℕ) (k : ℕ) (t : Flat) → gives (refused_by k) t ≡ flat_load s image → t.registers ≡ R.no_registers
unfolding flat_load
none_given s image k t e = go (load_verdict (room_of s) image) e
  where
    registers : Given → R.Registers
    registers (gives a x) = x.registers
    registers no_answer = R.no_registers

    is_refused : Given → Type 0
    is_refused (gives (refused_by i) x) = Unit {0}
    is_refused (gives (wrote i) x) = ⊥
    is_refused (gives (result p i v h d) x) = ⊥
    is_refused (gives done x) = ⊥
    is_refused no_answer = ⊥

    either : (b : Bool) (n m : ℕ) → (when b then with_registers s R.no_registers else zeroed s n m).registers ≡ R.no_registers
    either true n m = unfold when◌then◌else◌ in refl
    either false n m = unfold when◌then◌else◌ zeroed in refl

    go : (v : Verdict) → gives (refused_by k) t ≡ after_load s image v → t.registers ≡ R.no_registers
    go accepted e = absurd (subst is_refused e tt)
    go (refused j) e = ap registers e ∙ either (leb j 3) (image_header image).n (image_header image).b

-- Save and load undo each other: the statements are in specs/SaveLoad.antt.
use Prim.Native.Nat.{ℕ, ◌*◌, ◌≤◌}
use mathlib.Core.Path.{◌≡◌, refl, sym, ap, ap₂, ◌∙◌, subst}
use mathlib.Core.Bool.{true}
use mathlib.Core.List.{List, [], ◌++◌}
use lib.ListN.{length, take, drop}
use lib.Seq.{length-take-le}
use Rattle.bytecode.proofs.TestLaws.{T→true, and_both, rules}
use Rattle.model.specs.Limits.{is_edition, entry_words}
use Rattle.model.specs.Objects.{objects_at}
use Rattle.model.specs.Rules.{sizes_fine, header_fine}
use Rattle.model.specs.Image.{Header, Verdict, accepted, refused, tests_of, buffers_fine, image_header, image_objects, objects_in, image_of, object_tests, objects_verdict, load_verdict}
use Rattle.model.proofs.OrderLaws.{all→accepted}
use Rattle.image.proofs.RoundTrip.{Fitting, front}
use Rattle.image.proofs.SaveLoad.{Back, written_read, read_written}
use Rattle.plain.specs.Registers as R
use Rattle.plain.specs.State.{objects}
use Rattle.plain.specs.Flat.{Flat, flat, room_of, flat_objects, plain_of}
use Rattle.plain.specs.Cache.{empty_cache}
use Rattle.plain.specs.Check.{check}
use Rattle.plain.specs.Calls.{done, refused_by, result, wrote, loaded}
use Rattle.plain.specs.FlatCalls as A
use Rattle.plain.specs.FlatCalls.{Given, gives, no_answer, with_plain, after_load, flat_load, flat_save, saved}
use Rattle.plain.specs.CallLists.{next_state}
use Rattle.plain.proofs.FlatLaws.{check_right}
use Rattle.plain.proofs.LoadLaws.{Accepted, accepts}
use Rattle.plain.proofs.Theorem.{from_load}
use Rattle.machine.specs.declared.Registers.{Registers}
use Rattle.std.specs.Prelude.{Result, Ok, Err}
use Rattle.model.specs.declared.numbers.Refusal.{Refusal}
use Rattle.machine.specs.State.{state}
use Rattle.loads.specs.Answers.{loadGives, saveGives}
use Rattle.loads.specs.SaveLoad.{saved_bytes, Reloaded, SaveThenLoad, Resaved, LoadThenSave, idle_again, SavedLoaded, LoadedSaved}
use Rattle.loads.proofs.Saving.{save_done}

-- ---- an accepted load

module _ (t : Flat) (image : List ℕ) (e : load_verdict (room_of t) image ≡ accepted) where
  -- the state that it leaves
  abbrev after : Flat
  after = with_plain t (loaded image) t.stack empty_cache

  load_gives : flat_load t image ≡ gives done after
  unfolding flat_load
  load_gives = ap (after_load t image) e

  same_after : (from_load t image e).0 ≡ after
  same_after = ap (next_state t) (sym (from_load t image e).1.gave ∙ load_gives)

  after_checks : check after ≡ accepted
  after_checks = subst (λ (x : Flat). check x ≡ accepted) same_after (from_load t image e).1.checks

  after_plain : plain_of after ≡ loaded image
  after_plain = subst (λ (x : Flat). plain_of x ≡ loaded image) same_after (from_load t image e).1.start

  after_objects : flat_objects after ≡ image_objects image
  after_objects = from_plain ∙ ap objects after_plain ∙ from_loaded
    where
      from_plain : flat_objects after ≡ objects (plain_of after)
      from_plain = unfold plain_of in refl

      from_loaded : objects (loaded image) ≡ image_objects image
      from_loaded = unfold loaded image_objects objects_in in refl

-- ---- a state that check accepts

module _ (s : Flat) (e : check s ≡ accepted) where
  abbrev h : Header
  h = record { edition = s.registers.edition; n = s.registers.n; b = s.registers.b; receiver = s.registers.start_receiver; selector = s.registers.start_selector }

  fits : Fitting h (flat_objects s)
  fits =
      let f = check_right s e in
      record { objects = refl; words = refl; contents = length-take-le (entry_words * s.registers.n) s.contents f.contents; bodies = length-take-le s.registers.b s.bodies f.bodies }

  header_passes : header_fine h.edition h.n h.b ≡ true
  unfolding plain_of
  header_passes =
      let i = (check_right s e).plain.image in
      T→true (header_fine h.edition h.n h.b) (and_both (is_edition h.edition) (sizes_fine h.edition h.n h.b) i.edition i.sizes)

  objects_pass : objects_verdict h.edition (flat_objects s) h.receiver h.selector ≡ accepted
  unfolding objects_verdict plain_of
  objects_pass =
      let r = (check_right s e).plain in
      let tests = object_tests h.edition (flat_objects s) h.receiver h.selector in
      all→accepted tests (rules (tests_of tests) (r.image.rule_4, (r.image.rule_5, (r.image.rule_14, (r.image.rule_6, (r.image.rule_7, (r.starts, tt)))))))

-- ---- save, then load
pub save_then_load : SaveThenLoad
save_then_load s t output e long room = (
  output',
  t',
  record {
    saves = saves';
    loads = loads';
    registers = registers';
    objects = objects';
    stack = refl;
    cache = refl;
    checks = after_checks t image back.taken;
  },
)
  where
    image : List ℕ
    image = image_of (h s e) (flat_objects s)

    output' : List ℕ
    output' = image ++ drop (saved_bytes s) output

    back : Back (room_of t) (h s e) (flat_objects s)
    back = written_read (room_of t) (h s e) (flat_objects s) (fits s e) (header_passes s e) room (objects_pass s e)

    t' : Flat
    t' = after t image back.taken

    saves' : flat_save s output ≡ saved (wrote (saved_bytes s)) output'
    saves' = sym (save_done s.registers s.contents s.bodies s.stack s.cache output long (saved_bytes s) output' (sym e) refl refl)

    loads' : flat_load t (take (saved_bytes s) output') ≡ gives done t'
    loads' = ap (flat_load t) (front (h s e) (flat_objects s) (fits s e) (drop (saved_bytes s) output)) ∙ load_gives t image back.taken

    registers' : t'.registers ≡ R.with_phase s.registers R.idle 0 0
    registers' = unfold loaded in
        ap (λ (x : Header). record { n = x.n; b = x.b; start_receiver = x.receiver; start_selector = x.selector; phase = R.idle; top = 0; value = 0; edition = x.edition }) back.header

    objects' : flat_objects t' ≡ flat_objects s
    objects' = after_objects t image back.taken ∙ back.objects

-- ---- load, then save

-- load answered, so it accepted
module _ (t s : Flat) (image : List ℕ) (g : flat_load t image ≡ gives done s) where
  took : load_verdict (room_of t) image ≡ accepted
  unfolding flat_load
  took = go (load_verdict (room_of t) image) refl
    where
      is_done : Given → Type 0
      is_done (gives done x) = Unit {0}
      is_done (gives (refused_by k) x) = ⊥
      is_done (gives (result p k v h d) x) = ⊥
      is_done (gives (wrote k) x) = ⊥
      is_done no_answer = ⊥

      go : (v : Verdict) → load_verdict (room_of t) image ≡ v → load_verdict (room_of t) image ≡ accepted
      go accepted e = e
      go (refused k) e = absurd (subst is_done (sym g ∙ ap (after_load t image) e) tt)

  left : after t image took ≡ s
  left = ap (next_state t) (sym (load_gives t image took) ∙ g)

pub load_then_save : LoadThenSave
unfolding loaded
load_then_save t s image output bytes g long =
    subst (λ (x : Flat). Resaved image x output) (left t s image g)
    (record {
      checks = after_checks t image e;
      bytes = sym a.long;
      saves = sym (save_done s₀.registers s₀.contents s₀.bodies s₀.stack
          s₀.cache output room (length image) _ (sym (after_checks t image e)) a.long written);
    })
  where
    e : load_verdict (room_of t) image ≡ accepted
    e = took t s image g

    a : Accepted (room_of t) image
    a = accepts (room_of t) image e

    s₀ : Flat
    s₀ = after t image e

    room : saved_bytes s₀ ≤ length output
    room = subst (λ (k : ℕ). k ≤ length output) a.long long

    written : image ++ drop (length image) output ≡ image_of (h s₀ (after_checks t image e)) (flat_objects s₀) ++ drop (saved_bytes s₀) output
    written =
        ap₂ (λ (l : List ℕ) (k : ℕ). l ++ drop k output)
        (sym (read_written (room_of t) image bytes e) ∙ ap (image_of (image_header image)) (sym (after_objects t image e))) a.long

-- ---- the answers of the functions

saves_as : (a : Result ℕ Refusal) (output output' : List ℕ) (k : ℕ) → saveGives a output ≡ saved (wrote k) output' → (a ≡ Ok k) × (output ≡ output')
unfolding saveGives
saves_as (Ok j) output output' k e = (ap Ok (ap number e), ap written e)
  where
    number : A.Saved → ℕ
    number (saved (wrote i) l) = i
    number (saved (refused_by i) l) = i
    number (saved (result p i v h d) l) = i
    number (saved done l) = 0

    written : A.Saved → List ℕ
    written (saved x l) = l
saves_as (Err j) output output' k e = absurd (subst is_refused e tt)
  where
    is_refused : A.Saved → Type 0
    is_refused (saved (refused_by i) l) = Unit {0}
    is_refused (saved (wrote i) l) = ⊥
    is_refused (saved (result p i v h d) l) = ⊥
    is_refused (saved done l) = ⊥

loads_as : (a : Result Registers Refusal) (contents bodies stack cache : List ℕ) (t : Flat) → loadGives a contents bodies stack cache ≡ gives done t
    → (r : Registers) × (a ≡ Ok r) × (state r contents bodies stack cache ≡ t)
unfolding loadGives
loads_as (Ok r) contents bodies stack cache t e = (r, refl, ap (next_state t) e)
loads_as (Err k) contents bodies stack cache t e = absurd (subst is_refused e tt)
  where
    is_refused : Given → Type 0
    is_refused (gives (refused_by i) x) = Unit {0}
    is_refused (gives (wrote i) x) = ⊥
    is_refused (gives (result p i v h d) x) = ⊥
    is_refused (gives done x) = ⊥
    is_refused no_answer = ⊥

pub saved_loaded : SavedLoaded
unfolding buffers_fine
saved_loaded r contents bodies stack cache output a output' contents₁ bodies₁ cache₁ l contents' bodies' cache' p q e long room =
    record { wrote = w.0; accepts = (at []).0; objects = (at []).1; cache = (at []).2; checks = λ stack₁. (at stack₁).3 }
  where
    s : Flat
    s = state r contents bodies stack cache

    t : List ℕ → Flat
    t stack₁ = flat R.no_registers contents₁ bodies₁ stack₁ cache₁

    both : (stack₁ : List ℕ) → (output'' : List ℕ) × (t' : Flat) × Reloaded s output (t stack₁) output'' t'
    both stack₁ = save_then_load s (t stack₁) output e long room

    writes : (stack₁ : List ℕ) → (a ≡ Ok (saved_bytes s)) × (output' ≡ (both stack₁).0)
    writes stack₁ = saves_as a output' (both stack₁).0 (saved_bytes s) (p ∙ (both stack₁).2.saves)

    w : (a ≡ Ok (saved_bytes s)) × (output' ≡ (both []).0)
    w = writes []

    at : (stack₁ : List ℕ) → (l ≡ Ok (idle_again r)) × (objects_at r.n r.b contents' bodies' ≡ objects_at r.n r.b contents bodies) × (cache' ≡ empty_cache)
        × (check (state (idle_again r) contents' bodies' stack₁ cache') ≡ accepted)
    at stack₁ = (
      x.1 ∙ ap Ok same,
      ap (λ (y : Registers). objects_at y.n y.b contents' bodies') (sym same) ∙ ap flat_objects x.2
          ∙ b.objects,
      ap (λ (y : Flat). y.cache) x.2 ∙ b.cache,
      ap (λ (y : Registers). check (state y contents' bodies' stack₁ cache')) (sym same)
          ∙ ap check x.2 ∙ b.checks,
    )
      where
        t' : Flat
        t' = (both stack₁).1

        b : Reloaded s output (t stack₁) (both stack₁).0 t'
        b = (both stack₁).2

        x : (r' : Registers) × (l ≡ Ok r') × (state r' contents' bodies' stack₁ cache' ≡ t')
        x = loads_as l contents' bodies' stack₁ cache' t' (q R.no_registers stack₁ ∙ ap (λ (y : List ℕ). flat_load (t stack₁) (take (saved_bytes s) y)) (writes stack₁).1 ∙ b.loads)

        again : R.Registers → Registers
        again y = record { n = y.n; b = y.b; receiver = y.start_receiver; selector = y.start_selector; phase = y.phase; top = y.top; value = y.value; edition = y.edition }

        same : x.0 ≡ idle_again r
        same = ap (λ (y : Flat). again y.registers) x.2 ∙ ap again b.registers

pub loaded_saved : LoadedSaved
unfolding loadGives
loaded_saved image contents bodies cache r contents' bodies' cache' stack output a output' bytes q p long =
    saves_as a output' (image ++ drop (length image) output) (length image)
    (p ∙ (load_then_save (flat R.no_registers contents bodies stack cache) (state r contents' bodies' stack cache') image output bytes (sym (q R.no_registers stack)) long).saves)

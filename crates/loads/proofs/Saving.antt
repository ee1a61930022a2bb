-- Save, behind a check.
use Prim.Native.Nat.{ℕ, ◌*◌, ◌≤◌, ◌<◌}
use mathlib.Core.Path.{◌≡◌, refl, sym, ap, ap₂, ◌∙◌}
use mathlib.Core.Bool.{Bool, true, false, ◌&&◌}
use mathlib.Core.List.{List, ◌++◌}
use borrow.Author.Tests.{le-leb, lt-leb}
use lib.ListN.{length, drop}
use lib.Seq.{length-take-le}
use Rattle.model.specs.Limits.{entry_words}
use Rattle.model.specs.Objects.{objects_at}
use Rattle.model.specs.Image.{Header, accepted, refused, unless, ◌then◌, buffers_fine, image_bytes, image_of}
use Rattle.image.proofs.RoundTrip.{Fitting, length_image}
use Rattle.plain.specs.Registers as R
use Rattle.plain.specs.Flat.{Flat, flat, room_of}
use Rattle.plain.specs.Check.{check, state_fine}
use Rattle.plain.specs.Calls.{refused_by, wrote}
use Rattle.plain.specs.FlatCalls.{saved_image, save_verdict, after_save, flat_save, saved}
use Rattle.plain.proofs.FlatLaws.{check_right}
use Rattle.std.specs.Prelude.{Ok, Err}
use Rattle.model.specs.declared.numbers.Refusal.{Refusal}
use Rattle.model.specs.declared.numbers.Refusal.TheVariants as Refused
use Rattle.model.specs.Numbers.{number_of}
use Rattle.machine.specs.declared.Registers.{Registers}
use Rattle.machine.specs.State.{registers_of, state}
use Rattle.loads.specs.Answers.{saveGives}

module _ (r : R.Registers) (contents bodies stack cache output : List ℕ) where
  abbrev s : Flat
  s = flat r contents bodies stack cache

  pub save_short : length output < image_bytes r.n r.b → saved (refused_by 3) output ≡ flat_save s output
  unfolding flat_save save_verdict
  save_short h = sym (ap (λ (x : Bool). after_save s output (unless (buffers_fine (room_of s) r.n r.b && x) 3 then unless (state_fine s) 11)) (lt-leb (image_bytes r.n r.b) (length output) h)
      ∙ ap (λ (x : Bool). after_save s output (unless x 3 then unless (state_fine s) 11)) (and_no (buffers_fine (room_of s) r.n r.b)))
    where
      and_no : (b : Bool) → (b && false) ≡ false
      and_no true = refl
      and_no false = refl

  module _ (long : image_bytes r.n r.b ≤ length output) where
    -- with an output that is long enough, save's verdict is check's
    same : save_verdict s output ≡ check s
    unfolding save_verdict check
    same = ap (λ (x : Bool). unless (buffers_fine (room_of s) r.n r.b && x) 3 then unless (state_fine s) 11) (le-leb (image_bytes r.n r.b) (length output) long)
        ∙ ap (λ (x : Bool). unless x 3 then unless (state_fine s) 11) (and_yes (buffers_fine (room_of s) r.n r.b))
      where
        and_yes : (b : Bool) → (b && true) ≡ b
        and_yes true = refl
        and_yes false = refl

    pub save_refused : (k : ℕ) → refused k ≡ check s → saved (refused_by k) output ≡ flat_save s output
    unfolding flat_save
    save_refused k e = ap (after_save s output) (e ∙ sym same)

    pub save_done : (k : ℕ) (output' : List ℕ) → accepted ≡ check s → k ≡ image_bytes r.n r.b
        → output' ≡ image_of (record { edition = r.edition; n = r.n; b = r.b; receiver = r.start_receiver; selector = r.start_selector })
        (objects_at r.n r.b contents bodies) ++ drop (image_bytes r.n r.b) output
        → saved (wrote k) output' ≡ flat_save s output
    unfolding flat_save saved_image
    save_done k output' e q w =
        let f = check_right s (sym e) in
        let h : Header = record { edition = r.edition; n = r.n; b = r.b; receiver = r.start_receiver; selector = r.start_selector } in
        let fit : Fitting h (objects_at r.n r.b contents bodies) = record {
          objects = refl;
          words = refl;
          contents = length-take-le (entry_words * r.n)
              contents f.contents;
          bodies = length-take-le r.b bodies f.bodies;
        } in
        ap₂ (λ (x : ℕ) (l : List ℕ). saved (wrote x) l) q (w ∙ ap (λ (x : ℕ). image_of h (objects_at r.n r.b contents bodies) ++ drop x output)
        (sym (length_image h (objects_at r.n r.b contents bodies) fit)))
        ∙ ap (after_save s output) (e ∙ sym same)

    -- what writing asks
    pub save_room : accepted ≡ check s → (entry_words * r.n ≤ length contents) × (r.b ≤ length bodies)
    save_room e = let f = check_right s (sym e) in (f.contents, f.bodies)

-- as the code answers
module _ (r : Registers) (contents bodies stack cache output : List ℕ) where
  module _ (long : image_bytes r.n r.b ≤ length output) where
    pub saves_not : (k : Refusal) → refused (number_of k) ≡ check (state r contents bodies stack cache) → saveGives (Err k) output ≡ flat_save (state r contents bodies stack cache) output
    unfolding saveGives
    saves_not k q = save_refused (registers_of r) contents bodies stack cache output long (number_of k) q

    module _ (yes : accepted ≡ check (state r contents bodies stack cache)) where
      pub saves_room : (entry_words * r.n ≤ length contents) × (r.b ≤ length bodies)
      saves_room = save_room (registers_of r) contents bodies stack cache output long yes

      pub saves : (k : ℕ) (output' : List ℕ) → k ≡ image_bytes r.n r.b
          → output' ≡ image_of (record { edition = r.edition; n = r.n; b = r.b; receiver = r.receiver; selector = r.selector })
          (objects_at r.n r.b contents bodies) ++ drop (image_bytes r.n r.b) output
          → saveGives (Ok k) output' ≡ flat_save (state r contents bodies stack cache) output
      unfolding saveGives
      saves k output' p w = save_done (registers_of r) contents bodies stack cache output long k output' yes p w

  pub saves_short : length output < image_bytes r.n r.b → saveGives (Err Refused.Buffers) output ≡ flat_save (state r contents bodies stack cache) output
  unfolding saveGives
  saves_short h = save_short (registers_of r) contents bodies stack cache output h

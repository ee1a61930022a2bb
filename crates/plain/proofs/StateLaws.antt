-- What check says of a plain state, as a statement, both ways.
use Prim.Native.Nat.{ℕ, zero, suc, ◌*◌, ◌≤◌}
use mathlib.Core.Path.{◌≡◌, refl, sym, ap, ◌∙◌, subst}
use mathlib.Core.Bool.{Bool, true, ◌&&◌, ◌||◌, not}
use mathlib.Core.List.{List, [], ◌∷◌}
use native.Mathlib.Omega.{arith}
use borrow.Author.Tests.{eq-eqb, ne_eqb}
use lib.Dec.{T, leb, eqb, leb→le, le→leb, eqb→eq}
use lib.ListN.{length}
use Rattle.bytecode.specs.Test.{when◌then◌else◌, all_of}
use Rattle.bytecode.proofs.Choice.{if_yes, if_no}
use Rattle.bytecode.proofs.TestLaws.{and_left, and_right, and_both, rule, rules, true→T}
use Rattle.model.specs.Limits.{is_edition, entry_words}
use Rattle.model.specs.Word.{is_valid}
use Rattle.model.specs.Objects.{Objects}
use Rattle.model.specs.Rules.{sizes_fine, rule8}
use Rattle.model.specs.Image.{Room}
use Rattle.model.proofs.Facts.{Right}
use Rattle.plain.specs.Registers.{idle, finished, last_phase, has_frames}
use Rattle.plain.specs.State.{Frame, Plain, objects}
use Rattle.plain.specs.Check.{image_rules, frames_fine, is_empty, plain_rules, plain_fine}
use Rattle.plain.proofs.FrameLaws.{FramesRight, frames_right, right_frames}
use Rattle.plain.proofs.Preserve.{Shape, runs, ends}

-- The frames, phase and value of a state: running or finished, or idle, or halted
pub data Stands (stack : ℕ) (s : Plain) : Type 0 where
  goes : Shape stack s → Stands stack s
  rests : s.registers.phase ≡ idle → s.registers.value ≡ 0 → s.registers.top ≡ 0 → s.frames ≡ [] → Stands stack s
  waits : 3 ≤ s.registers.phase → s.registers.phase ≤ last_phase → s.registers.value ≡ 0 → FramesRight s.registers.edition (objects s) stack true s.registers.top s.frames
      → Stands stack s

-- A right state whose objects fit the buffers
pub record PlainRight (room : Room) (s : Plain) : Type 0 where
  pub image : Right s.registers.edition (objects s)
  pub contents : entry_words * s.registers.n ≤ room.contents
  pub bodies : s.registers.b ≤ room.bodies
  pub starts : T (rule8 (objects s) s.registers.start_receiver s.registers.start_selector [])
  pub stands : Stands room.stack s

is_empty_lem : (fs : List Frame) → T (is_empty fs) → fs ≡ []
is_empty_lem [] t = refl
is_empty_lem (f ∷ fs) t = absurd t

empty_is : (fs : List Frame) → fs ≡ [] → T (is_empty fs)
empty_is fs e = subst (λ (x : List Frame). T (is_empty x)) (sym e) tt

eq→eqb : (a b : ℕ) → a ≡ b → T (eqb a b)
eq→eqb a b e = true→T (eq-eqb a b e)

-- the image part
pub image_right : (e : ℕ) (o : Objects) (receiver selector : ℕ) → length o.contents ≡ entry_words * o.n → length o.bodies ≡ o.b
    → T (all_of (image_rules e o receiver selector)) → Right e o × T (rule8 o receiver selector [])
unfolding image_rules
image_right e o receiver selector c b t =
    let r = rule (image_rules e o receiver selector) t in (
      record {
        edition = and_left (is_edition e) (sizes_fine e o.n o.b) (r 0);
        contents = c;
        bodies = b;
        sizes = and_right (is_edition e) (sizes_fine e o.n o.b)
            (r 0);
        rule_4 = r 1;
        rule_5 = r 2;
        rule_14 = r 3;
        rule_6 = r 4;
        rule_7 = r 5;
      },
      r 6,
    )

pub right_image : (e : ℕ) (o : Objects) (receiver selector : ℕ) → Right e o → T (rule8 o receiver selector []) → T (all_of (image_rules e o receiver selector))
unfolding image_rules
right_image e o receiver selector r s =
    rules (image_rules e o receiver selector) (and_both (is_edition e) (sizes_fine e o.n o.b) r.edition r.sizes, (r.rule_4, (r.rule_5, (r.rule_14, (r.rule_6, (r.rule_7, (s, tt)))))))

module _ (stack : ℕ) (s : Plain) where
  abbrev phase : ℕ
  phase = s.registers.phase

  abbrev valueFine : ℕ → Bool
  valueFine p = when eqb p finished then is_valid s.registers.n s.registers.value else eqb s.registers.value 0

  abbrev framesFineAt : ℕ → Bool
  framesFineAt p =
      when has_frames p then frames_fine s.registers.edition (objects s) stack true s.registers.top s.frames else eqb s.registers.top 0 && is_empty s.frames

  none_of : T (eqb s.registers.top 0 && is_empty s.frames) → (s.registers.top ≡ 0) × (s.frames ≡ [])
  none_of t =
      (eqb→eq s.registers.top 0 (and_left (eqb s.registers.top 0) (is_empty s.frames) t), is_empty_lem s.frames (and_right (eqb s.registers.top 0) (is_empty s.frames) t))

  of_none : s.registers.top ≡ 0 → s.frames ≡ [] → T (eqb s.registers.top 0 && is_empty s.frames)
  of_none a b = and_both (eqb s.registers.top 0) (is_empty s.frames) (eq→eqb s.registers.top 0 a) (empty_is s.frames b)

  -- by the phase
  stands_by : (p : ℕ) → phase ≡ p → T (leb p last_phase) → T (valueFine p) → T (framesFineAt p) → Stands stack s
  unfolding when◌then◌else◌
  stands_by zero e a v f = rests e (eqb→eq s.registers.value 0 v) (none_of f).0 (none_of f).1
  stands_by (suc zero) e a v f = goes (runs e (eqb→eq s.registers.value 0 v) (frames_right s.registers.edition (objects s) stack true s.registers.top s.frames f))
  stands_by (suc (suc zero)) e a v f = goes (ends e v (none_of f).0 (none_of f).1)
  stands_by (suc (suc (suc zero))) e a v f = waits (omega arith) (omega arith) (eqb→eq s.registers.value 0 v)
      (frames_right s.registers.edition (objects s) stack true s.registers.top s.frames f)
  stands_by (suc (suc (suc (suc zero)))) e a v f = waits (omega arith) (omega arith) (eqb→eq s.registers.value 0 v)
      (frames_right s.registers.edition (objects s) stack true s.registers.top s.frames f)
  stands_by (suc (suc (suc (suc (suc zero))))) e a v f = waits (omega arith) (omega arith) (eqb→eq s.registers.value 0 v)
      (frames_right s.registers.edition (objects s) stack true s.registers.top s.frames f)
  stands_by (suc (suc (suc (suc (suc (suc p)))))) e a v f = absurd (let h = leb→le (suc (suc (suc (suc (suc (suc p)))))) last_phase a in omega arith)

  record Fine (p : ℕ) : Type 0 where
    most : T (leb p last_phase)
    value : T (valueFine p)
    frames : T (framesFineAt p)

  fine_by : (p : ℕ) → phase ≡ p → Stands stack s → Fine p
  unfolding when◌then◌else◌
  fine_by zero e (goes (runs a v f)) = absurd (omega arith)
  fine_by zero e (goes (ends a v t f)) = absurd (omega arith)
  fine_by zero e (rests a v t f) = record { most = tt; value = eq→eqb s.registers.value 0 v; frames = of_none t f }
  fine_by zero e (waits a b v f) = absurd (omega arith)
  fine_by (suc zero) e (goes (runs a v f)) =
      record { most = tt; value = eq→eqb s.registers.value 0 v; frames = right_frames s.registers.edition (objects s) stack true s.registers.top s.frames f }
  fine_by (suc zero) e (goes (ends a v t f)) = absurd (omega arith)
  fine_by (suc zero) e (rests a v t f) = absurd (omega arith)
  fine_by (suc zero) e (waits a b v f) = absurd (omega arith)
  fine_by (suc (suc zero)) e (goes (runs a v f)) = absurd (omega arith)
  fine_by (suc (suc zero)) e (goes (ends a v t f)) = record { most = tt; value = v; frames = of_none t f }
  fine_by (suc (suc zero)) e (rests a v t f) = absurd (omega arith)
  fine_by (suc (suc zero)) e (waits a b v f) = absurd (omega arith)
  fine_by (suc (suc (suc p))) e (goes (runs a v f)) = absurd (omega arith)
  fine_by (suc (suc (suc p))) e (goes (ends a v t f)) = absurd (omega arith)
  fine_by (suc (suc (suc p))) e (rests a v t f) = absurd (omega arith)
  fine_by (suc (suc (suc p))) e (waits a b v f) =
      record {
        most = le→leb (suc (suc (suc p))) last_phase (omega arith);
        value = not_two (eq→eqb s.registers.value 0 v);
        frames = framed p
            (right_frames s.registers.edition (objects s) stack true s.registers.top s.frames f);
      }
    where
      not_two : T (eqb s.registers.value 0) → T (valueFine (suc (suc (suc p))))
      not_two t = subst T (sym (if_no (is_valid s.registers.n s.registers.value) (eqb s.registers.value 0) (ne_eqb (suc (suc (suc p))) 2 (λ q. omega arith)))) t

      framed : (p : ℕ) → T (frames_fine s.registers.edition (objects s) stack true s.registers.top s.frames) → T (framesFineAt (suc (suc (suc p))))
      framed p t = subst T (sym (if_yes (frames_fine s.registers.edition (objects s) stack true s.registers.top s.frames) (eqb s.registers.top 0 && is_empty s.frames) (live p))) t
        where
          live : (p : ℕ) → has_frames (suc (suc (suc p))) ≡ true
          live p = ap (λ (x : Bool). not (x || eqb (suc (suc (suc p))) finished)) (ne_eqb (suc (suc (suc p))) idle (λ q. omega arith)) ∙ ap not (ne_eqb (suc (suc (suc p))) finished (λ q. omega arith))

  pub plain_stands : T (plain_fine stack s) → Stands stack s
  unfolding plain_fine plain_rules
  plain_stands t =
      let r = rule (plain_rules stack s) t in
      stands_by phase refl (r 1) (r 2) (r 3)

  pub plain_image : T (plain_fine stack s) → T (all_of (image_rules s.registers.edition (objects s) s.registers.start_receiver s.registers.start_selector))
  unfolding plain_fine plain_rules
  plain_image t = rule (plain_rules stack s) t 0

  pub stands_plain : T (all_of (image_rules s.registers.edition (objects s) s.registers.start_receiver s.registers.start_selector)) → Stands stack s → T (plain_fine stack s)
  unfolding plain_fine plain_rules
  stands_plain i x =
      let f = fine_by phase refl x in
      rules (plain_rules stack s) (i, (f.most, (f.value, (f.frames, tt))))

-- What each bytecode is to the run loop.
use Prim.Native.Nat.{ℕ, suc, ◌+◌, ◌-◌, ◌≤◌, ◌<◌}
use mathlib.Core.Path.{◌≡◌, refl, sym, ap, ap₂, ◌∙◌, subst}
use mathlib.Core.Bool.{Bool, true, false, ◌||◌}
use mathlib.Core.Logic.{◌⊎◌, inl, inr}
use mathlib.Core.List.{List, Memᴰ}
use mathlib.Core.Option.{Option, some}
use native.Mathlib.Omega.{arith}
use borrow.Author.Tests.{eq-eqb, ne_eqb}
use lib.Dec.{T, leb, eqb, leb→le}
use lib.ListN.{get_or, set}
use Rattle.bytecode.specs.Test.{when◌then◌else◌}
use Rattle.bytecode.specs.Constant.{true_word, false_word}
use Rattle.bytecode.specs.Effect.{need, leaves, usable, successors}
use Rattle.bytecode.specs.declared.Place.{Place}
use Rattle.bytecode.specs.declared.Instruction.{Instruction}
use Rattle.bytecode.specs.declared.Instruction.TheVariants.{Push, PushSelf, PushConstant, ReturnSelf, ReturnConstant, ReturnTop, Pop, Duplicate, Jump, JumpOn, Unused}
use Rattle.bytecode.proofs.Choice.{if_yes, if_no}
use Rattle.model.specs.Word.{boolean_word}
use Rattle.model.specs.Objects.{Objects, objects_at}
use Rattle.model.specs.Depth.{note_at}
use Rattle.model.specs.Rules.{method_table}
use Rattle.model.specs.Image.{Room}
use Rattle.plain.specs.Registers.{no_boolean}
use Rattle.plain.specs.State.{Frame, Plain}
use Rattle.plain.specs.Step.{Stepped, leads_to, halts, no_lookup, ◌>>=◌, popped, on_top, pushed, read, returned, jumps, execute}
use Rattle.plain.specs.Flat.{frame_method, frame_receiver, frame_at}
use Rattle.plain.specs.Running.{Moved, running_at, top_frame, rest_frames}
use Rattle.plain.proofs.NowLaws.{Now}
use Rattle.plain.proofs.RunningLaws.{receiver_is, step_is, now_is}
use Rattle.steps.specs.Events.{Here, HereAt, answered, StepIs, step_at}
use Rattle.steps.proofs.HereLaws.{operand_is}
use Rattle.frames.proofs.Standing.{noted_small}
use Rattle.steps.proofs.MoveLaws.{Does, Answers, depth_of, provided_holds, goes_whole, goes_popped, answer_room, pushes}

-- ---- what is noted behind an instruction

module _ {n b top : ℕ} {contents bodies stack : List ℕ} {h : Here} {i : Instruction} (a : HereAt n b top contents bodies stack h i) where
  abbrev o : Objects
  o = objects_at n b contents bodies

  abbrev f : Frame
  f = top_frame n b top contents bodies stack

  abbrev m : ℕ
  m = frame_method stack top

  abbrev now : Now a.at.runs.edition o f h.next i
  now = now_is a.at

  pub noted : (q : ℕ) → Memᴰ q (successors h.next i) → note_at (method_table a.at.runs.edition o m) q ≡ suc (h.depth - need i + leaves i)
  unfolding frame_at
  noted q t = now.goes q t ∙ ap (λ (d : ℕ). suc (d - need i + leaves i)) (depth_of a)

  pub needed : need i ≤ h.depth
  needed = let x = now.needs in let y = depth_of a in omega arith

  -- an instruction that leaves one operand more than it needs
  one_more : Memᴰ h.next (successors h.next i) → leaves i ≡ suc (need i) → note_at (method_table a.at.runs.edition o m) h.next ≡ suc (suc (h.depth - 0))
  one_more t e = noted h.next t ∙ ap suc (let x = needed in omega arith)

  done : (x : Plain → Room → Stepped) → Does a x → (edition receiver selector : ℕ) (room : Room) → step_at room edition receiver selector n b top contents bodies stack ≡ x
      (running_at edition receiver selector n b top contents bodies stack) room
  done x d edition receiver selector room = step_is a.at edition receiver selector room ∙ d edition receiver selector room

abbrev Returns : ℕ → ℕ → ℕ → List ℕ → List ℕ → List ℕ → ℕ → Type 0
Returns n b top contents bodies stack w =
    StepIs n b top contents bodies stack
    (λ room edition receiver selector.
    returned (running_at edition receiver selector n b top contents bodies stack) (top_frame n b top contents bodies stack) (rest_frames n b top contents bodies stack) w)

-- ---- pushes, by the word that is pushed

module _ {n b top : ℕ} {contents bodies stack : List ℕ} {h : Here} where
  pub push_room : {p : Place} → HereAt n b top contents bodies stack h (Push p) → Answers top stack h 0
  unfolding successors need leaves
  push_room a = answer_room a 0 (omega arith) (one_more a (Memᴰ.head refl) refl)

  pub push_says : {p : Place} (a : HereAt n b top contents bodies stack h (Push p)) (w : ℕ) (stack' : List ℕ)
      → read (objects_at n b contents bodies) (top_frame n b top contents bodies stack) p ≡ some w
      → stack' ≡ answered stack top h 0 w → Moved n b top contents bodies stack bodies stack'
  unfolding execute successors need leaves
  push_says a w stack' e q =
      subst (λ (l : List ℕ). Moved n b top contents bodies stack bodies l) (sym q)
      (pushes a w (one_more a (Memᴰ.head refl) refl)
      (λ edition receiver selector room. ap (λ (x : Option ℕ). x >>= λ y. pushed (running_at edition receiver selector n b top contents bodies stack)
      (top_frame n b top contents bodies stack) (rest_frames n b top contents bodies stack) h.next (top_frame n b top contents bodies stack).operands y no_lookup) e))

  pub self_room : HereAt n b top contents bodies stack h PushSelf → Answers top stack h 0
  unfolding successors need leaves
  self_room a = answer_room a 0 (omega arith) (one_more a (Memᴰ.head refl) refl)

  pub self_says : (a : HereAt n b top contents bodies stack h PushSelf) (stack' : List ℕ)
      → stack' ≡ answered stack top h 0 (frame_receiver stack top) → Moved n b top contents bodies stack bodies stack'
  unfolding execute successors need leaves
  self_says a stack' q =
      subst (λ (l : List ℕ). Moved n b top contents bodies stack bodies l) (sym q)
      (pushes a (frame_receiver stack top) (one_more a (Memᴰ.head refl) refl)
      (λ edition receiver selector room. ap (λ (x : ℕ). pushed (running_at edition receiver selector n b top contents bodies stack) (top_frame n b top contents bodies stack)
      (rest_frames n b top contents bodies stack) h.next (top_frame n b top contents bodies stack).operands x no_lookup) (receiver_is a.at.runs)))

  pub constant_room : {w : ℕ} → HereAt n b top contents bodies stack h (PushConstant w) → Answers top stack h 0
  unfolding successors need leaves
  constant_room a = answer_room a 0 (omega arith) (one_more a (Memᴰ.head refl) refl)

  pub constant_says : {w : ℕ} (a : HereAt n b top contents bodies stack h (PushConstant w)) (stack' : List ℕ)
      → stack' ≡ answered stack top h 0 w → Moved n b top contents bodies stack bodies stack'
  unfolding execute successors need leaves
  constant_says {w} a stack' q = subst (λ (l : List ℕ). Moved n b top contents bodies stack bodies l) (sym q)
      (pushes a w (one_more a (Memᴰ.head refl) refl) (λ edition receiver selector room. refl))

  pub duplicate_needs : HereAt n b top contents bodies stack h Duplicate → 1 ≤ h.depth
  unfolding need
  duplicate_needs a = needed a

  pub duplicate_room : HereAt n b top contents bodies stack h Duplicate → Answers top stack h 0
  unfolding successors need leaves
  duplicate_room a = answer_room a 0 (omega arith) (one_more a (Memᴰ.head refl) refl)

  pub duplicate_says : (a : HereAt n b top contents bodies stack h Duplicate) (stack' : List ℕ)
      → stack' ≡ answered stack top h 0 (get_or stack (h.operands + (h.depth - 1)) 0) → Moved n b top contents bodies stack bodies stack'
  unfolding execute successors need leaves
  duplicate_says a stack' q =
      subst (λ (l : List ℕ). Moved n b top contents bodies stack bodies l) (sym q)
      (pushes a (get_or stack (h.operands + (h.depth - 1)) 0) (one_more a (Memᴰ.head refl) refl)
      (λ edition receiver selector room. ap (λ (x : Option ℕ). x >>= λ y. pushed (running_at edition receiver selector n b top contents bodies stack)
      (top_frame n b top contents bodies stack) (rest_frames n b top contents bodies stack) h.next (top_frame n b top contents bodies stack).operands y
      no_lookup) (operand_is a 0 (h.operands + (h.depth - 1)) (duplicate_needs a) refl)))

  -- ---- pops and jumps

  pub pop_needs : HereAt n b top contents bodies stack h Pop → 1 ≤ h.depth
  unfolding need
  pop_needs a = needed a

  pub pop_says : (a : HereAt n b top contents bodies stack h Pop) (stack' : List ℕ) → stack' ≡ set (set stack (top + 1) h.next) (top + 2) (h.depth - 1)
      → Moved n b top contents bodies stack bodies stack'
  unfolding execute
  pop_says a stack' q =
      subst (λ (l : List ℕ). Moved n b top contents bodies stack bodies l) (sym q)
      (goes_popped a h.next (λ edition receiver selector room. ap
      (λ (x : Option ℕ). x >>= λ y. leads_to (on_top (running_at edition receiver selector n b top contents bodies stack) (popped (top_frame n b top contents bodies stack)
      h.next 1) (rest_frames n b top contents bodies stack)) no_lookup) (operand_is a 0 (h.operands + (h.depth - 1)) (pop_needs a) refl)))

  jump_test : {ahead back : ℕ} → HereAt n b top contents bodies stack h (Jump ahead back) → T (leb back (h.next + ahead))
  unfolding usable
  jump_test a = (now_is a.at).usable

  pub jump_back : {ahead back : ℕ} → HereAt n b top contents bodies stack h (Jump ahead back) → back ≤ h.next + ahead
  jump_back {ahead} {back} a = leb→le back (h.next + ahead) (jump_test a)

  pub jump_says : {ahead back : ℕ} (a : HereAt n b top contents bodies stack h (Jump ahead back)) (stack' : List ℕ)
      → stack' ≡ set (set stack (top + 1) (h.next + ahead - back)) (top + 2) h.depth → Moved n b top contents bodies stack bodies stack'
  unfolding execute
  jump_says {ahead} {back} a stack' q =
      subst (λ (l : List ℕ). Moved n b top contents bodies stack bodies l) (sym q)
      (goes_whole a (h.next + ahead - back) (λ edition receiver selector room. provided_holds (leb back (h.next + ahead)) _ (jump_test a)))

  module _ {condition : Bool} {ahead : ℕ} (a : HereAt n b top contents bodies stack h (JumpOn condition ahead)) where
    pub on_needs : 1 ≤ h.depth
    unfolding need
    on_needs = needed a

    pub on_small : h.next + ahead < 65536
    unfolding successors need leaves
    on_small = noted_small a.at.runs (h.next + ahead) (h.depth - 1 + 0) (noted a (h.next + ahead) (Memᴰ.tail (Memᴰ.head refl)))

    abbrev tested : ℕ
    tested = get_or stack (h.operands + (h.depth - 1)) 0

    -- what the step does with the boolean
    abbrev chosen : Plain → ℕ → Stepped
    chosen s w =
        when eqb w (boolean_word condition) then leads_to (on_top s (popped (top_frame n b top contents bodies stack) (h.next + ahead) 1) (rest_frames n b top contents bodies stack)) no_lookup else
        when eqb w true_word || eqb w false_word then leads_to (on_top s (popped (top_frame n b top contents bodies stack) h.next 1) (rest_frames n b top contents bodies stack)) no_lookup else
        halts no_boolean

    chooses : Does a (λ s room. chosen s tested)
    unfolding execute jumps
    chooses edition receiver selector room = ap (λ (x : Option ℕ). x >>= chosen (running_at edition receiver selector n b top contents bodies stack))
        (operand_is a 0 (h.operands + (h.depth - 1)) on_needs refl)

    pub on_jumps : (w : ℕ) (stack' : List ℕ) → w ≡ boolean_word condition → tested ≡ w → stack' ≡ set (set stack (top + 1) (h.next + ahead)) (top + 2)
        (h.depth - 1) → Moved n b top contents bodies stack bodies stack'
    on_jumps w stack' e t q =
        subst (λ (l : List ℕ). Moved n b top contents bodies stack bodies l) (sym q)
        (goes_popped a (h.next + ahead) (λ edition receiver selector room. chooses edition receiver selector room ∙ if_yes _ _ (eq-eqb tested (boolean_word condition) (t ∙ e))))

    pub on_stays : (w : ℕ) (stack' : List ℕ) → w ≡ boolean_word condition → (tested ≡ w → ⊥) → (tested ≡ true_word) ⊎ (tested ≡ false_word)
        → stack' ≡ set (set stack (top + 1) h.next) (top + 2) (h.depth - 1) → Moved n b top contents bodies stack bodies stack'
    on_stays w stack' e t u q =
        subst (λ (l : List ℕ). Moved n b top contents bodies stack bodies l) (sym q)
        (goes_popped a h.next (λ edition receiver selector room. chooses edition receiver selector room ∙ if_no _ _ (ne_eqb tested (boolean_word condition) (λ x. t (x ∙ sym e)))
        ∙ if_yes _ _ (either u)))
      where
        either : (tested ≡ true_word) ⊎ (tested ≡ false_word) → (eqb tested true_word || eqb tested false_word) ≡ true
        either (inl x) = ap (λ (y : Bool). y || eqb tested false_word) (eq-eqb tested true_word x)
        either (inr x) = ap (λ (y : Bool). eqb tested true_word || y) (eq-eqb tested false_word x) ∙ or_true (eqb tested true_word)
          where
            or_true : (y : Bool) → (y || true) ≡ true
            or_true true = refl
            or_true false = refl

    pub on_halts : (w : ℕ) → w ≡ boolean_word condition → (tested ≡ w → ⊥) → (tested ≡ true_word → ⊥) → (tested ≡ false_word → ⊥)
        → StepIs n b top contents bodies stack (λ room edition receiver selector. halts no_boolean)
    on_halts w e t u v =
        λ edition receiver selector room. done a (λ s room. chosen s tested) chooses edition receiver selector room
        ∙ if_no _ _ (ne_eqb tested (boolean_word condition) (λ x. t (x ∙ sym e))) ∙ if_no _ _ (ap₂ ◌||◌ (ne_eqb tested true_word u) (ne_eqb tested false_word v))

  -- ---- returns

  pub self_returns : HereAt n b top contents bodies stack h ReturnSelf → Returns n b top contents bodies stack (frame_receiver stack top)
  unfolding execute
  self_returns a =
      λ edition receiver selector room. step_is a.at edition receiver selector room
      ∙ ap (λ (x : ℕ). returned (running_at edition receiver selector n b top contents bodies stack) (top_frame n b top contents bodies stack)
      (rest_frames n b top contents bodies stack) x) (receiver_is a.at.runs)

  pub constant_returns : {w : ℕ} → HereAt n b top contents bodies stack h (ReturnConstant w) → Returns n b top contents bodies stack w
  unfolding execute
  constant_returns a = λ edition receiver selector room. step_is a.at edition receiver selector room

  pub top_needs : HereAt n b top contents bodies stack h ReturnTop → 1 ≤ h.depth
  unfolding need
  top_needs a = needed a

  pub top_returns : HereAt n b top contents bodies stack h ReturnTop → Returns n b top contents bodies stack (get_or stack (h.operands + (h.depth - 1)) 0)
  unfolding execute
  top_returns a =
      λ edition receiver selector room. step_is a.at edition receiver selector room
      ∙ ap (λ (x : Option ℕ). x >>= λ y. returned (running_at edition receiver selector n b top contents bodies stack) (top_frame n b top contents bodies stack)
      (rest_frames n b top contents bodies stack) y) (operand_is a 0 (h.operands + (h.depth - 1)) (top_needs a) refl)

  pub unused_never : HereAt n b top contents bodies stack h Unused → ⊥
  unfolding usable
  unused_never a = (now_is a.at).usable

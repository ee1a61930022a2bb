-- The cases of a begin.
use Prim.Native.Nat.{ℕ, ◌+◌, ◌-◌, ◌≤◌, ◌<◌}
use mathlib.Core.Path.{◌≡◌, refl, sym, ap, ap₂, ◌∙◌, subst}
use mathlib.Core.Logic.{◌≢◌}
use mathlib.Core.Bool.{Bool, true, false, ◌&&◌}
use mathlib.Core.List.{List, [], ◌∷◌, ◌++◌, append-nil}
use native.Mathlib.Omega.{arith}
use borrow.Author.Tests.{eq-eqb, ne_eqb, le-leb, lt-leb}
use lib.Dec.{T, eqb, leb}
use lib.ListN.{length, get_or, take, replicate}
use lib.Seq.{sets, take_all}
use Rattle.std.proofs.lemmas.Bool.{false≢true}
use Rattle.bytecode.specs.Test.{every}
use Rattle.bytecode.specs.Constant.{nil_word}
use Rattle.bytecode.proofs.Choice.{if_yes, if_no}
use Rattle.bytecode.proofs.TestLaws.{and_left, true→T, T→true}
use Rattle.std.specs.Prelude.{Option, None, Ok, Err}
use Rattle.model.specs.declared.Pointer.{Pointer}
use Rattle.model.specs.Limits.{bytes_kind, class_kind}
use Rattle.model.specs.Word.{is_valid}
use Rattle.model.specs.Objects.{Objects, objects_at, class_of, is_kind, is_nil_or}
use Rattle.model.specs.Method.{home, temporary_count, frame_words, frame_size, argument_count}
use Rattle.model.specs.Lookup.{found, lookup, in_chain}
use Rattle.model.specs.Rules.{rule8}
use Rattle.model.specs.Image.{Room}
use Rattle.model.proofs.SendFacts.{lookup_facts, class_kind_lem}
use Rattle.model.proofs.Facts.{method_facts}
use Rattle.model.proofs.Parts.{or_right}
use Rattle.model.proofs.DepthLaws.{spot_start}
use Rattle.plain.specs.Registers.{running, finished}
use Rattle.plain.specs.State.{Frame, Plain, with_objects, with_frames, new_frame, fits_stack}
use Rattle.plain.specs.Step.{Activation, answered, entered, unfit, entering, activate}
use Rattle.plain.specs.Calls.{begun, declined, begin_activated, begin_found, begin}
use Rattle.plain.specs.FlatCalls.{laid}
use Rattle.plain.proofs.Preserve.{entered_runs}
use Rattle.plain.proofs.FramedLaws.{temporaries_fit}
use Rattle.plain.proofs.RunningLaws.{words_cases}
use Rattle.frames.specs.Words.{new_words}
use Rattle.activation.specs.declared.Activated.{Activated}
use Rattle.model.specs.declared.numbers.Refusal.TheVariants as Refused
use Rattle.begins.specs.Begins.{Starts, state_over, Begins}

-- two tests and no more, then a third
tested : (x y z : Bool) → (x && (y && true)) ≡ true → z ≡ (x && (y && z))
tested true true z e = refl
tested true false z e = absurd (false≢true e)
tested false y z e = absurd (false≢true e)

untested : (x y z : Bool) → (x && (y && true)) ≡ false → false ≡ (x && (y && z))
untested true true z e = absurd (false≢true (sym e))
untested true false z e = refl
untested false y z e = refl

-- rule 8 of arguments, by that of none
pub arguments_left : (o : Objects) (receiver selector : ℕ) (arguments : List ℕ) → rule8 o receiver selector [] ≡ true → every (is_valid o.n) arguments ≡ rule8 o receiver selector arguments
unfolding rule8
arguments_left o receiver selector arguments = tested (is_valid o.n receiver) (is_kind o bytes_kind selector) (every (is_valid o.n) arguments)

pub no_start : (o : Objects) (receiver selector : ℕ) (arguments : List ℕ) → rule8 o receiver selector [] ≡ false → false ≡ rule8 o receiver selector arguments
unfolding rule8
no_start o receiver selector arguments = untested (is_valid o.n receiver) (is_kind o bytes_kind selector) (every (is_valid o.n) arguments)

module _ {e n b : ℕ} {contents bodies stack : List ℕ} {w s : ℕ} {arguments : List ℕ} (starts : Starts e n b contents bodies stack w s arguments)
    (receiver selector phase top value cache : ℕ) (frames : List Frame) (rests : eqb phase running ≡ false) where
  abbrev o : Objects
  o = objects_at n b contents bodies

  abbrev p : Plain
  p = state_over e receiver selector phase top value frames n b contents bodies

  abbrev room : Room
  room = record { contents = length contents; bodies = length bodies; stack = length stack; cache = cache }

  pub begin_8 : rule8 o w s arguments ≡ false → begin room p w s arguments ≡ declined 8
  unfolding begin
  begin_8 e = if_no _ _ rests ∙ if_no _ _ e

  module _ (fine : rule8 o w s arguments ≡ true) where
    begin_found_lem : (x : Option Pointer) → lookup o s (class_of o w) ≡ x → begin room p w s arguments ≡ begin_found room p w arguments x
    unfolding begin
    begin_found_lem x q = if_no _ _ rests ∙ if_yes _ _ fine ∙ ap (begin_found room p w arguments) q

    pub begin_9 : lookup o s (class_of o w) ≡ None → begin room p w s arguments ≡ declined 9
    begin_9 q = begin_found_lem None q

    module _ (m : ℕ) (q : lookup o s (class_of o w) ≡ found m) where
      pub begin_10 : argument_count o m ≢ length arguments → begin room p w s arguments ≡ declined 10
      begin_10 d = begin_found_lem (found m) q ∙ if_no _ _ (ne_eqb (argument_count o m) (length arguments) d)

      module _ (c : argument_count o m ≡ length arguments) where
        begin_activated_lem : (x : Activation) → activate e room o m w arguments ≡ x → begin room p w s arguments ≡ begin_activated room p m w arguments x
        begin_activated_lem x a = begin_found_lem (found m) q ∙ if_yes _ _ (eq-eqb (argument_count o m) (length arguments) c) ∙ ap (begin_activated room p m w arguments) a

        pub begin_answers : (v : ℕ) (o' : Objects) → activate e room o m w arguments ≡ answered v o' → begin room p w s arguments ≡ begun (with_frames (with_objects p o') [] finished 0 v)
        begin_answers v o' a = begin_activated_lem (answered v o') a

        pub begin_unfit : activate e room o m w arguments ≡ unfit → begin room p w s arguments ≡ declined 9
        begin_unfit a = begin_activated_lem unfit a

        -- a method that is found from the receiver's class can run on it
        enters : activate e room o m w arguments ≡ entering o m w → activate e room o m w arguments ≡ entered
        unfolding entering
        enters a = a ∙ if_yes _ _ (T→true (in_chain o (home o m) (class_of o w)) (lookup_facts starts.right s (class_of o w) m q).homes)

        pub begin_13 : activate e room o m w arguments ≡ entering o m w → length stack < 6 + frame_words o m → begin room p w s arguments ≡ declined 13
        unfolding fits_stack
        begin_13 a h = begin_activated_lem entered (enters a) ∙ if_no _ _ (ap (λ (x : Bool). x && leb (0 + frame_size o m) 65536) (lt-leb (0 + frame_size o m) (length stack) (omega arith)))

        -- the frame has room for the temporaries
        pub frame_room : activate e room o m w arguments ≡ entering o m w → temporary_count o m ≤ frame_words o m
        frame_room a =
            let k = lookup_facts starts.right s (class_of o w) m q in
            temporaries_fit e o m (spot_start e o m ((method_facts starts.right m k.method).sound (entered_runs e room o m w arguments (enters a))))

        pub begin_enters : activate e room o m w arguments ≡ entering o m w → 6 + frame_words o m ≤ length stack → frame_words o m ≤ 32
            → begin room p w s arguments ≡ begun (with_frames p (new_frame o 0 m w arguments ∷ []) running 0 0)
        unfolding fits_stack
        begin_enters a h l =
            begin_activated_lem entered (enters a) ∙ if_yes _ _ (ap₂ ◌&&◌ (le-leb (0 + frame_size o m) (length stack) (omega arith)) (le-leb (0 + frame_size o m) 65536 (omega arith)))

-- The words of the first frame are those that are laid.
pub first_laid : (o : Objects) (stack : List ℕ) (m w : ℕ) (arguments : List ℕ) → sets stack 0 (new_words 0 m w (temporary_count o m) arguments) ≡ laid stack 0 (new_frame o 0 m w arguments ∷ [])
unfolding laid new_frame
first_laid o stack m w arguments = ap (λ (l : List ℕ). sets stack 0 (0 ∷ 0 ∷ 0 ∷ m ∷ 0 ∷ w ∷ l)) (sym (append-nil (arguments ++ replicate (temporary_count o m - length arguments) nil_word)))

-- A method that was found and takes as many arguments
pub record Found10 (e n b : ℕ) (contents bodies stack : List ℕ) (w s : ℕ) (arguments : List ℕ) (m : ℕ) : Type 0 where
  pub starts : Starts e n b contents bodies stack w s arguments
  pub words : rule8 (objects_at n b contents bodies) w s arguments ≡ true
  pub finds : lookup (objects_at n b contents bodies) s (class_of (objects_at n b contents bodies) w) ≡ found m
  pub count : argument_count (objects_at n b contents bodies) m ≡ length arguments

module _ {e n b : ℕ} {contents bodies stack : List ℕ} {w s : ℕ} {arguments : List ℕ} {m : ℕ} (f : Found10 e n b contents bodies stack w s arguments m) (x y : ℕ) (contents' bodies' : List ℕ) (r : Activated)
    (a : Rattle.activation.specs.Activating.Activates e n b contents bodies m w x y contents' bodies' r) (ex : x ≡ get_or arguments 0 0) (ey : y ≡ get_or arguments 1 0) where
  abbrev roomOver : ℕ → Room
  roomOver cache = record { contents = length contents; bodies = length bodies; stack = length stack; cache = cache }

  abbrev oₐ : Objects
  oₐ = objects_at n b contents bodies

  activated : (cache : ℕ) (r' : Activated) → r ≡ r' → Rattle.activation.specs.Activating.ActivatedIs (activate e (roomOver cache) oₐ m w arguments)
      (entering oₐ m w) contents bodies contents' bodies' r'
  activated cache r' h =
      subst (Rattle.activation.specs.Activating.ActivatedIs (activate e (roomOver cache) oₐ m w arguments) (entering oₐ m w) contents bodies contents' bodies') h
      (a arguments ex ey (roomOver cache) refl refl)

  pub begun_answer : (v n' b' : ℕ) → r ≡ Rattle.activation.specs.declared.Activated.TheVariants.Answer v n' b' → Begins e n b contents bodies stack w s
      arguments contents' bodies' stack (Ok (Rattle.begins.specs.declared.Beginning.TheVariants.Answered v n' b'))
  begun_answer v n' b' h receiver selector phase top value cache frames rests =
      let z = activated cache (Rattle.activation.specs.declared.Activated.TheVariants.Answer v n' b') h in
      record {
        after = z.after;
        leads = begin_answers f.starts receiver selector phase top value cache frames rests
            f.words m f.finds f.count v z.after z.answer;
        count = z.count;
        size = z.size;
        entries = z.entries;
        words = z.words;
        frames = refl;
      }

  pub begun_unfit : r ≡ Rattle.activation.specs.declared.Activated.TheVariants.Unfit → Begins e n b contents bodies stack w s arguments contents' bodies' stack
      (Err Refused.NoMethod)
  begun_unfit h receiver selector phase top value cache frames rests =
      let z = activated cache Rattle.activation.specs.declared.Activated.TheVariants.Unfit h in
      record {
        leads = begin_unfit f.starts receiver selector phase top value cache frames rests f.words m
            f.finds f.count z.leads;
        entries = z.entries;
        words = z.words;
        frames = refl;
      }

  pub begun_full : r ≡ Rattle.activation.specs.declared.Activated.TheVariants.Frame → length stack < 6 + frame_words oₐ m → Begins e n b contents bodies stack w
      s arguments contents' bodies' stack (Err Refused.StackRoom)
  begun_full g h receiver selector phase top value cache frames rests =
      let z = activated cache Rattle.activation.specs.declared.Activated.TheVariants.Frame g in
      record {
        leads = begin_13 f.starts receiver selector phase top value cache frames rests f.words m f.finds
            f.count z.leads h;
        entries = z.entries;
        words = z.words;
        frames = refl;
      }

  -- the frame has room for its temporaries, and these for the arguments
  pub begun_room : r ≡ Rattle.activation.specs.declared.Activated.TheVariants.Frame → (temporary_count oₐ m ≤ frame_words oₐ m) × (length arguments ≤ temporary_count oₐ m)
  begun_room g =
      let z = activated 0 Rattle.activation.specs.declared.Activated.TheVariants.Frame g in
      let k = (method_facts f.starts.right m (lookup_facts f.starts.right s (class_of oₐ w) m f.finds).method).arguments in
      let c = f.count in
      (frame_room f.starts 0 0 0 0 0 0 [] refl f.words m f.finds f.count z.leads, omega arith)

  pub begun_enters : r ≡ Rattle.activation.specs.declared.Activated.TheVariants.Frame → 6 + frame_words oₐ m ≤ length stack → (stack' : List ℕ)
      → stack' ≡ sets stack 0 (new_words 0 m w (temporary_count oₐ m) arguments)
      → Begins e n b contents bodies stack w s arguments contents' bodies' stack' (Ok Rattle.begins.specs.declared.Beginning.TheVariants.Entered)
  begun_enters g h stack' l receiver selector phase top value cache frames rests =
      let z = activated cache Rattle.activation.specs.declared.Activated.TheVariants.Frame g in
      record {
        first = new_frame oₐ 0 m w arguments;
        leads = begin_enters f.starts receiver selector phase top value
            cache frames rests f.words m f.finds f.count z.leads h (words_cases oₐ m).1;
        entries = z.entries;
        words = z.words;
        frames = l
            ∙ first_laid oₐ stack m w arguments;
      }

-- Refusals before a method is found
module _ {e n b : ℕ} {contents bodies stack : List ℕ} {w s : ℕ} {arguments : List ℕ} (starts : Starts e n b contents bodies stack w s arguments) where
  pub refused_8 : rule8 (objects_at n b contents bodies) w s arguments ≡ false → Begins e n b contents bodies stack w s arguments contents bodies stack
      (Err Refused.Start)
  refused_8 h receiver selector phase top value cache frames rests =
      record { leads = begin_8 starts receiver selector phase top value cache frames rests h; entries = refl; words = refl; frames = refl }

  pub refused_9 : rule8 (objects_at n b contents bodies) w s arguments ≡ true → lookup (objects_at n b contents bodies) s (class_of (objects_at n b contents bodies) w) ≡ None
      → Begins e n b contents bodies stack w s arguments contents bodies stack (Err Refused.NoMethod)
  refused_9 h q receiver selector phase top value cache frames rests =
      record { leads = begin_9 starts receiver selector phase top value cache frames rests h q; entries = refl; words = refl; frames = refl }

  pub refused_10 : rule8 (objects_at n b contents bodies) w s arguments ≡ true → (m : ℕ) → lookup (objects_at n b contents bodies) s (class_of (objects_at n b contents bodies) w) ≡ found m
      → argument_count (objects_at n b contents bodies) m ≢ length arguments → Begins e n b contents bodies stack w s arguments contents bodies stack
      (Err Refused.ArgumentCount)
  refused_10 h m q d receiver selector phase top value cache frames rests =
      record { leads = begin_10 starts receiver selector phase top value cache frames rests h m q d; entries = refl; words = refl; frames = refl }

  -- a valid receiver's class is one
  pub receiver_valid : rule8 (objects_at n b contents bodies) w s arguments ≡ true → T (is_valid n w)
  unfolding rule8
  receiver_valid h = and_left (is_valid n w) (is_kind (objects_at n b contents bodies) bytes_kind s && every (is_valid n) arguments) (true→T h)

  pub class_starts : rule8 (objects_at n b contents bodies) w s arguments ≡ true → (c : ℕ) → c ≡ class_of (objects_at n b contents bodies) w → T (is_nil_or (objects_at n b contents bodies) class_kind c)
  class_starts h c q = or_right (eqb c nil_word) (is_kind (objects_at n b contents bodies) class_kind c)
      (subst (λ (k : ℕ). T (is_kind (objects_at n b contents bodies) class_kind k)) (sym q) (class_kind_lem starts.right w (receiver_valid h)))

-- The words of the first frame, as they are written
pub first_words : (stack : List ℕ) (m w t t' k : ℕ) (arguments : List ℕ) → t ≡ t' → k ≡ length arguments → sets stack 0 (new_words 0 m w t (take k arguments)) ≡
    sets stack 0 (new_words 0 m w t' arguments)
first_words stack m w t t' k arguments e q = ap₂ (λ (x : ℕ) (l : List ℕ). sets stack 0 (new_words 0 m w x l)) e (take_all k arguments (omega arith))

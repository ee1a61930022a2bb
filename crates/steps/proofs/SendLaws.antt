-- Sends: the class where the search starts, and the step that the send is.
use Prim.Native.Nat.{ℕ, suc, ◌+◌, ◌-◌, ◌≤◌, ◌<◌}
use mathlib.Core.Path.{◌≡◌, refl, sym, ap, ◌∙◌, subst}
use mathlib.Core.Bool.{true, ◌&&◌}
use mathlib.Core.Logic.{◌⊎◌, inl, inr}
use mathlib.Core.List.Memᴰ
use mathlib.Core.List.{List}
use mathlib.Core.Option.{Option, some}
use native.Mathlib.Omega.{arith}
use borrow.Author.Tests.{eqb-true}
use lib.Dec.{T, ltb, eqb, ltb→lt, eqb→eq}
use lib.ListN.{get_or, drop}
use Rattle.bytecode.specs.Constant.{nil_word}
use Rattle.bytecode.specs.Effect.{need, leaves, successors}
use Rattle.bytecode.specs.declared.Instruction.{Instruction}
use Rattle.bytecode.specs.declared.Instruction.TheVariants.{Send, SuperSend}
use Rattle.bytecode.proofs.TestLaws.{and_left, and_right, or_cases}
use Rattle.model.specs.Limits.{bytes_kind, class_kind}
use Rattle.model.specs.Word.{is_valid}
use Rattle.model.specs.Objects.{Objects, objects_at, is_kind, is_nil_or, class_of, superclass_word}
use Rattle.model.specs.Method.{home, literal_count, literal}
use Rattle.model.specs.Depth.{note_at}
use Rattle.model.specs.Lookup.{found, lookup, in_chain}
use Rattle.model.specs.Rules.{allowed, send_fine, takes_count, method_table}
use Rattle.model.specs.Image.{Room}
use Rattle.model.proofs.Facts.{Valid, odd, names, valid_cases, least, class_facts, method_facts}
use Rattle.model.proofs.SendFacts.{lookup_facts, class_kind_lem, selector_takes, selector_valid}
use Rattle.plain.specs.State.{Frame}
use Rattle.plain.specs.Step.{◌>>=◌, operand, popped, sends, after_lookup, execute}
use Rattle.plain.specs.Flat.{frame_depth, frame_method, frame_receiver, operands_start, frame_at}
use Rattle.plain.specs.Running.{Sending, send_step, sent_receiver, running_at, top_frame, rest_frames}
use Rattle.plain.proofs.RunningLaws.{top_right, is_method, method_is, step_is, now_is}
use Rattle.objects.specs.Lent.{Holds}
use Rattle.model.proofs.Parts.{or_right}
use Rattle.model.proofs.LookupLaws.{chain_joined}
use Rattle.steps.specs.Events.{Here, HereAt, SendsAt, StepIs, step_at}
use Rattle.steps.proofs.HereLaws.{operand_is, operand_valid}
use Rattle.steps.proofs.PlaceLaws.{literal_at}
use Rattle.steps.proofs.SayLaws.{noted, needed}

-- ---- classes and selectors

selector_named : (o : Objects) (s count : ℕ) → 1 ≤ o.n → T (send_fine o s count) → 1 ≤ s
selector_named o s count l t = go (valid_cases o.n s (selector_valid o s count l t))
  where
    go : Valid o.n s → 1 ≤ s
    go (odd x) = omega arith
    go (names x y z) = omega arith

-- ---- the send of a running frame

module _ {n b top : ℕ} {contents bodies stack : List ℕ} {h : Here} {i : Instruction} (a : HereAt n b top contents bodies stack h i) where
  abbrev o : Objects
  o = objects_at n b contents bodies

  abbrev f : Frame
  f = top_frame n b top contents bodies stack

  abbrev rest : List Frame
  rest = rest_frames n b top contents bodies stack

  abbrev m : ℕ
  m = frame_method stack top

  abbrev own : ℕ → ℕ
  own count = sent_receiver n b top contents bodies stack count

  pub place_of : (count at : ℕ) → suc count ≤ frame_depth stack top → at ≡ h.operands + (h.depth - 1 - count) → get_or stack at 0 ≡ own count
  place_of count at l e = ap (λ (x : ℕ). get_or stack x 0) (let x = a.is_operands in let y = a.is_depth in omega arith)

  receiver_valid : (count : ℕ) → suc count ≤ frame_depth stack top → T (is_valid n (own count))
  receiver_valid count l =
      operand_valid a count (operands_start o m top + (frame_depth stack top - suc count)) (let y = a.is_depth in omega arith) (let x = a.is_operands in let y = a.is_depth in omega arith)

  receiver_found : (count : ℕ) → suc count ≤ frame_depth stack top → operand f count ≡ some (own count)
  receiver_found count l =
      operand_is a count (operands_start o m top + (frame_depth stack top - suc count)) (let y = a.is_depth in omega arith) (let x = a.is_operands in let y = a.is_depth in omega arith)

  becomes_send : (from : ℕ → ℕ) (s count class : ℕ) → suc count ≤ frame_depth stack top → class ≡ from (own count)
      → ((edition receiver selector : ℕ) (room : Room) → step_at room edition receiver selector n b top contents bodies stack ≡ sends room
      (running_at edition receiver selector n b top contents bodies stack) f rest h.next from s count)
      → StepIs n b top contents bodies stack (λ room edition receiver selector. send_step room edition receiver selector n b top contents bodies stack s count class h.next)
  unfolding sends
  becomes_send from s count class l c e =
      λ edition receiver selector room. e edition receiver selector room
      ∙ ap (λ (x : Option ℕ). x >>= λ w. after_lookup room (running_at edition receiver selector n b top contents bodies stack) (popped f h.next (suc count))
      rest s (from w) w (drop (f.depth - count) f.operands) (lookup o s (from w))) (receiver_found count l)
      ∙ ap (λ (x : ℕ). after_lookup room (running_at edition receiver selector n b top contents bodies stack) (popped f h.next (suc count)) rest s x (own count)
      (drop (f.depth - count) f.operands) (lookup o s x)) (sym c)

-- The receiver's class
module _ {n b top : ℕ} {contents bodies stack : List ℕ} {h : Here} {s count : ℕ} (z : SendsAt n b top contents bodies stack h s count) where
  pub sent_depth : suc count ≤ h.depth
  sent_depth = let x = z.needs in let y = z.here.is_depth in omega arith

  pub sent_valid : (at : ℕ) → at ≡ h.operands + (h.depth - 1 - count) → T (is_valid n (get_or stack at 0))
  sent_valid at e = operand_valid z.here count at sent_depth (omega arith)

  pub sent_says : (at class : ℕ) → at ≡ h.operands + (h.depth - 1 - count) → class ≡ class_of (objects_at n b contents bodies) (get_or stack at 0)
      → Sending n b top contents bodies stack s count class h.next true
      × StepIs n b top contents bodies stack (λ room edition receiver selector. send_step room edition receiver selector n b top contents bodies stack s count class h.next)
  sent_says at class e c =
      let r = z.here.at.runs.right in
      let v = receiver_valid z.here count z.needs in
      let k = class_kind_lem r (own z.here count) v in (
        record {
          runs = z.here.at.runs;
          needs = z.needs;
          noted = z.noted;
          named = selector_named (objects_at n b contents bodies) s count (let l = least r in omega arith) z.fine;
          valid = selector_valid (objects_at n b contents bodies) s count (let l = least r in omega arith) z.fine;
          starts = or_right (eqb class nil_word) (is_kind (objects_at n b contents bodies) class_kind class)
              (subst (λ (x : ℕ). T (is_kind (objects_at n b contents bodies) class_kind x)) (sym same) k);
          takes = selector_takes (objects_at n b contents bodies) s count
              z.fine;
          homes = λ t u m q. subst (λ (x : ℕ). T (in_chain (objects_at n b contents bodies) (home (objects_at n b contents bodies) m) x)) same
              (lookup_facts r u class m q).homes;
        },
        becomes_send z.here (class_of (objects_at n b contents bodies)) s count class z.needs same z.steps,
      )
    where
      same : class ≡ class_of (objects_at n b contents bodies) (own z.here count)
      same = c ∙ ap (class_of (objects_at n b contents bodies)) (place_of z.here count at z.needs e)

-- ---- literals

module _ {n b top : ℕ} {contents bodies stack : List ℕ} {h : Here} {l k : ℕ} (a : HereAt n b top contents bodies stack h (Send l k)) where
  send_allowed : T (ltb l (literal_count (objects_at n b contents bodies) (frame_method stack top)) && send_fine (objects_at n b contents bodies)
      (literal (objects_at n b contents bodies) (frame_method stack top) l) k)
  unfolding allowed frame_at
  send_allowed = (now_is a.at).allowed

  pub send_below : l < literal_count (objects_at n b contents bodies) (frame_method stack top)
  send_below = ltb→lt l (literal_count (objects_at n b contents bodies) (frame_method stack top)) (and_left (ltb l (literal_count (objects_at n b contents bodies) (frame_method stack top))) _ send_allowed)

  send_needs : suc k ≤ h.depth
  unfolding need
  send_needs = let x = needed a in omega arith

  send_noted : note_at (method_table a.at.runs.edition (objects_at n b contents bodies) (frame_method stack top)) h.next ≡ suc (h.depth - (1 + k) + 1)
  unfolding successors need leaves
  send_noted = noted a h.next (Memᴰ.head refl)

  pub send_sends : (s : ℕ) → s ≡ literal (objects_at n b contents bodies) h.method l → SendsAt n b top contents bodies stack h s k
  unfolding execute
  send_sends s e =
      record {
        instruction = Send l k;
        here = a;
        needs = let x = send_needs in let y = a.is_depth in omega arith;
        noted = send_noted ∙ ap suc (let y = a.is_depth in omega arith);
        fine = subst (λ (x : ℕ). T (send_fine (objects_at n b contents bodies) x k))
            (sym (e ∙ ap (λ (x : ℕ). literal (objects_at n b contents bodies) x l) a.is_method))
            (and_right (ltb l (literal_count (objects_at n b contents bodies) (frame_method stack top))) _ send_allowed);
        steps = λ edition receiver selector room. step_is a.at edition receiver selector room
            ∙ ap (λ (x : Option ℕ). x >>= λ w. sends room (running_at edition receiver selector n b top contents bodies stack) (top_frame n b top contents bodies stack)
            (rest_frames n b top contents bodies stack) h.next (class_of (objects_at n b contents bodies)) w k)
            (literal_at a.at.runs l s h.method a.is_method send_below e);
      }

-- ---- above the home

module _ {n b top : ℕ} {contents bodies stack : List ℕ} {h : Here} {l k : ℕ} (a : HereAt n b top contents bodies stack h (SuperSend l k)) where
  super_allowed : T (ltb l (literal_count (objects_at n b contents bodies) (frame_method stack top)) && send_fine (objects_at n b contents bodies)
      (literal (objects_at n b contents bodies) (frame_method stack top) l) k)
  unfolding allowed frame_at
  super_allowed = (now_is a.at).allowed

  pub super_below : l < literal_count (objects_at n b contents bodies) h.method
  super_below = subst (λ (x : ℕ). l < literal_count (objects_at n b contents bodies) x) (sym a.is_method)
      (ltb→lt l (literal_count (objects_at n b contents bodies) (frame_method stack top))
      (and_left (ltb l (literal_count (objects_at n b contents bodies) (frame_method stack top))) _ super_allowed))

  pub super_needs : suc k ≤ h.depth
  unfolding need
  super_needs = let x = needed a in omega arith

  super_noted : note_at (method_table a.at.runs.edition (objects_at n b contents bodies) (frame_method stack top)) h.next ≡ suc (h.depth - (1 + k) + 1)
  unfolding successors need leaves
  super_noted = noted a h.next (Memᴰ.head refl)

  super_depth : suc k ≤ frame_depth stack top
  super_depth = let x = super_needs in let y = a.is_depth in omega arith

  home_class : T (is_kind (objects_at n b contents bodies) class_kind (home (objects_at n b contents bodies) (frame_method stack top)))
  home_class = (method_facts a.at.runs.right (frame_method stack top) (is_method a.at.runs)).homes

  pub holds_home : (c : ℕ) → c ≡ home (objects_at n b contents bodies) h.method → Holds class_kind n b contents bodies c
  holds_home c e =
      record {
        right = (a.at.runs.edition, a.at.runs.right);
        kinds = subst (λ (x : ℕ). T (is_kind (objects_at n b contents bodies) class_kind x))
            (sym (e ∙ ap (home (objects_at n b contents bodies)) a.is_method)) home_class;
      }

  -- the home of what is found is in the chain of the frame's own receiver
  own_chain : (s class m : ℕ) → class ≡ superclass_word (objects_at n b contents bodies) (home (objects_at n b contents bodies) (frame_method stack top))
      → lookup (objects_at n b contents bodies) s class ≡ found m
      → T (in_chain (objects_at n b contents bodies) (home (objects_at n b contents bodies) m) (class_of (objects_at n b contents bodies) (frame_receiver stack top)))
  unfolding frame_at
  own_chain s class m c q =
      let r = a.at.runs.right in
      let t = top_right a.at.runs in
      chain_joined r (home (objects_at n b contents bodies) m) (home (objects_at n b contents bodies) (frame_method stack top)) (class_of (objects_at n b contents bodies) (frame_receiver stack top))
      (subst (λ (x : ℕ). T (in_chain (objects_at n b contents bodies) (home (objects_at n b contents bodies) m) x)) c (lookup_facts r s class m q).homes) t.chain

  pub super_says : (at s c class : ℕ) → at ≡ h.operands + (h.depth - 1 - k) → s ≡ literal (objects_at n b contents bodies) h.method l
      → c ≡ home (objects_at n b contents bodies) h.method → class ≡ superclass_word (objects_at n b contents bodies) c
      → Sending n b top contents bodies stack s k class h.next (eqb (get_or stack at 0) (frame_receiver stack top))
      × StepIs n b top contents bodies stack (λ room edition receiver selector. send_step room edition receiver selector n b top contents bodies stack s k class h.next)
  unfolding execute
  super_says at s c class e p q d = (
    record {
      runs = a.at.runs;
      needs = super_depth;
      noted = super_noted ∙ ap suc (let y = a.is_depth in omega arith);
      named = selector_named (objects_at n b contents bodies) s k (let l = least a.at.runs.right in omega arith) fine;
      valid = selector_valid (objects_at n b contents bodies) s k (let l = least a.at.runs.right in omega arith) fine;
      starts = subst (λ (x : ℕ). T (is_nil_or (objects_at n b contents bodies) class_kind x)) (sym same)
          (class_facts a.at.runs.right (home (objects_at n b contents bodies) (frame_method stack top)) home_class).superclass;
      takes = selector_takes
          (objects_at n b contents bodies) s k fine;
      homes = λ t i m u. subst
          (λ (x : ℕ). T (in_chain (objects_at n b contents bodies) (home (objects_at n b contents bodies) m) (class_of (objects_at n b contents bodies) x)))
          (sym (eqb-true (get_or stack at 0) (frame_receiver stack top) t) ∙ place_of a k at super_depth e) (own_chain i class m same u);
    },
    becomes_send a (λ x. superclass_word (objects_at n b contents bodies)
        (home (objects_at n b contents bodies) (top_frame n b top contents bodies stack).method)) s k class super_depth
        (same ∙ ap (λ (x : ℕ). superclass_word (objects_at n b contents bodies) (home (objects_at n b contents bodies) x)) (sym (method_is a.at.runs)))
        (λ edition receiver selector room. step_is a.at edition receiver selector room
        ∙ ap (λ (x : Option ℕ). x >>= λ w. sends room (running_at edition receiver selector n b top contents bodies stack) (top_frame n b top contents bodies stack)
        (rest_frames n b top contents bodies stack) h.next (λ x. superclass_word (objects_at n b contents bodies)
        (home (objects_at n b contents bodies) (top_frame n b top contents bodies stack).method)) w k)
        (literal_at a.at.runs l s h.method a.is_method (subst (λ (x : ℕ). l < literal_count (objects_at n b contents bodies) x) a.is_method super_below) p)),
  )
    where
      same : class ≡ superclass_word (objects_at n b contents bodies) (home (objects_at n b contents bodies) (frame_method stack top))
      same = d ∙ ap (superclass_word (objects_at n b contents bodies)) (q ∙ ap (home (objects_at n b contents bodies)) a.is_method)

      fine : T (send_fine (objects_at n b contents bodies) s k)
      fine = subst (λ (x : ℕ). T (send_fine (objects_at n b contents bodies) x k))
          (sym (p ∙ ap (λ (x : ℕ). literal (objects_at n b contents bodies) x l) a.is_method))
          (and_right (ltb l (literal_count (objects_at n b contents bodies) (frame_method stack top))) _ super_allowed)

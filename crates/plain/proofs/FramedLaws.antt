-- A send that is about to be made: its receiver, its arguments and its method; what it leads to, and the words of the stack that it writes.
use Prim.Native.Nat.{ℕ, zero, suc, ◌+◌, ◌*◌, ◌-◌, ◌≤◌, ◌<◌}
use mathlib.Core.Path.{◌≡◌, refl, sym, ap, ap₂, ◌∙◌, subst}
use mathlib.Core.Bool.{Bool, true, false}
use mathlib.Core.List.{List, [], ◌∷◌, ◌++◌, append-nil}
use native.Mathlib.Omega.{arith}
use lib.Dec.{T, ltb→lt}
use lib.ListN.{length, get_or, take, drop, set, replicate, length-drop}
use lib.Seq.{sets, ext_get_or, get_or-take, get_or-drop, length-take-le}
use Rattle.bytecode.specs.Test.{every}
use Rattle.bytecode.specs.Constant.{nil_word}
use Rattle.bytecode.proofs.Choice.{if_yes, if_no}
use Rattle.bytecode.proofs.TestLaws.{T→true, and_left, and_right, rule}
use Rattle.std.specs.Prelude.{None}
use Rattle.model.specs.Limits.{entry_words, method_kind}
use Rattle.model.specs.Word.{is_valid}
use Rattle.model.specs.Objects.{Objects, objects_at, is_kind, part}
use Rattle.model.specs.Method.{temporary_count, frame_words, frame_size, argument_count, code_words, code_size}
use Rattle.model.specs.Depth.{note_at, rulesAt}
use Rattle.model.specs.Lookup.{found, lookup, dictionaries_read}
use Rattle.model.specs.Rules.{method_table, allowed}
use Rattle.model.specs.Image.{Room}
use Rattle.model.proofs.Facts.{method_facts}
use Rattle.model.proofs.DepthLaws.{spot, spot_start}
use Rattle.model.proofs.SendFacts.{FoundFacts, lookup_facts}
use Rattle.model.proofs.Lent.{contents_room, bodies_room, front_same}
use Rattle.plain.specs.Registers.{running, no_stack_room}
use Rattle.plain.specs.State.{Frame, Plain, with_objects, with_frames, moved_to, new_frame, fits_stack}
use Rattle.plain.specs.Step.{looked, looked_up, Stepped, leads_to, halts, provided, without, has_word_of, on_top, pushed, answered, entered, unfit, activate, framed, changed, activated, after_lookup, popped}
use Rattle.plain.specs.Flat.{frame_depth, frame_method, operands_start, frame_at}
use Rattle.plain.specs.FlatCalls.{at_front, laid}
use Rattle.plain.specs.Cache.{filled}
use Rattle.plain.specs.Running.{running_with, running_at, top_frame, rest_frames, Made, Sending, sent_receiver, sent_arguments, send_step, failed_step}
use Rattle.plain.proofs.StepLaws.{Valid, has_word, without_length}
use Rattle.plain.proofs.Preserve.{entered_runs}
use Rattle.plain.proofs.RunningLaws.{stood, all_right, top_right, top_bounds}
use Rattle.plain.proofs.WriteLaws.{operand_here, moved_writes, pushed_writes}

-- The words of a new frame
abbrev pub new_image : ℕ → ℕ → ℕ → ℕ → List ℕ → List ℕ
new_image sender method receiver temporaries arguments =
    sender ∷ 0 ∷ 0 ∷ method ∷ 0 ∷ receiver ∷ (arguments ++ replicate (temporaries - length arguments) nil_word)

-- A word of a list of valid words
valid_at : (n : ℕ) (ws : List ℕ) (i : ℕ) → Valid n ws → i < length ws → T (is_valid n (get_or ws i 0))
valid_at n [] i v h = absurd (omega arith)
valid_at n (w ∷ ws) zero v h = and_left (is_valid n w) (every (is_valid n) ws) v
valid_at n (w ∷ ws) (suc i) v h = valid_at n ws i (and_right (is_valid n w) (every (is_valid n) ws) v) (omega arith)

-- The last words of a part are a part.
part_end : (l : List ℕ) (from d k : ℕ) → k ≤ d → from + d ≤ length l → part l (from + (d - k)) k ≡ drop (d - k) (part l from d)
part_end l from d k h g =
    ext_get_or 0 (part l (from + (d - k)) k) (drop (d - k) (part l from d)) (left_length ∙ sym right_length)
    (λ i s. get_or-take k (drop (from + (d - k)) l) i 0 (omega (arith, left_length)) ∙ get_or-drop (from + (d - k)) l i 0
    ∙ sym (get_or-drop (d - k) (part l from d) i 0 ∙ get_or-take d (drop from l) (d - k + i) 0 (omega (arith, left_length)) ∙ get_or-drop from l (d - k + i) 0
    ∙ ap (λ (x : ℕ). get_or l x 0) (sums from (d - k) i)))
  where
    sums : (a b c : ℕ) → a + (b + c) ≡ a + b + c
    sums a b c = omega arith

    left_length : length (part l (from + (d - k)) k) ≡ k
    left_length = length-take-le k (drop (from + (d - k)) l) (let q = length-drop (from + (d - k)) l in omega arith)

    right_length : length (drop (d - k) (part l from d)) ≡ k
    right_length =
        let q = length-drop from l in
        let p = length-take-le d (drop from l) (omega arith) in
        let s = length-drop (d - k) (part l from d) in
        omega arith

-- The first frame of a method whose code runs has room for its temporaries.
pub temporaries_fit : (e : ℕ) (o : Objects) (m : ℕ) → note_at (method_table e o m) 0 ≡ 1 → temporary_count o m ≤ frame_words o m
unfolding rulesAt
temporaries_fit e o m n =
    let k = rule (rulesAt (code_words o m) (code_size o m) (temporary_count o m) (frame_words o m) (allowed e o m) 0 0) (spot e o m 0 0 n).kept 3 in
    let h = lib.Dec.leb→le (temporary_count o m + 0) (frame_words o m) k in
    omega arith

module _ {n b top : ℕ} {contents bodies stack : List ℕ} {selector count class position : ℕ} {sure : Bool} (s : Sending n b top contents bodies stack selector count class position sure) where
  abbrev o : Objects
  o = objects_at n b contents bodies

  abbrev f : Frame
  f = top_frame n b top contents bodies stack

  abbrev rest : List Frame
  rest = rest_frames n b top contents bodies stack

  abbrev given : List ℕ
  given = sent_arguments n b top contents bodies stack count

  abbrev receiver : ℕ
  receiver = sent_receiver n b top contents bodies stack count

  abbrev depth : ℕ
  depth = frame_depth stack top

  -- ---- the receiver and the arguments

  pub receiver_valid : T (is_valid n receiver)
  unfolding frame_at
  receiver_valid =
      let r = top_right s.runs in
      let h = s.needs in
      let l = r.depth in
      subst (λ (w : ℕ). T (is_valid n w))
      (sym (operand_here o stack top f true refl r (depth - suc count) (omega arith)) ∙ ap (λ (x : ℕ). get_or stack x 0) (sums top (temporary_count o (frame_method stack top)) (depth - suc count)))
      (valid_at n f.operands (depth - suc count) r.valid_operands (omega arith))
    where
      sums : (a b c : ℕ) → a + (6 + (b + c)) ≡ a + 6 + b + c
      sums a b c = omega arith

  pub arguments_here : part stack (operands_start o (frame_method stack top) top + (depth - suc count) + 1) count ≡ given
  unfolding frame_at
  arguments_here =
      let h = s.needs in
      let t = top_bounds s.runs in
      let i = t.inside in
      let w = t.holds in
      ap (λ (x : ℕ). part stack x count) (behind (operands_start o (frame_method stack top) top))
      ∙ part_end stack (operands_start o (frame_method stack top) top) depth count (omega arith) (omega arith)
    where
      behind : (x : ℕ) → x + (depth - suc count) + 1 ≡ x + (depth - count)
      behind x = let h = s.needs in omega arith

  -- ---- the method that was found

  module _ (m : ℕ) (e : lookup o selector class ≡ found m) where
    facts : FoundFacts o selector class m
    facts = lookup_facts s.runs.right selector class m e

    pub found_method : T (is_kind o method_kind m)
    found_method = facts.method

    pub found_count : argument_count o m ≡ count
    found_count = facts.counts count s.takes

    pub found_arguments : count ≤ temporary_count o m
    found_arguments = let a = (method_facts s.runs.right m facts.method).arguments in let c = found_count in omega arith

    -- a frame of it has room for its temporaries
    pub found_fits : (edition : ℕ) (room : Room) → activate edition room o m receiver given ≡ entered → temporary_count o m ≤ frame_words o m
    found_fits edition room a =
        temporaries_fit s.runs.edition o m (spot_start s.runs.edition o m
        ((method_facts s.runs.right m facts.method).sound (entered_runs edition room o m receiver given a)))

  -- ---- the words that are written

  pub own_contents : contents ≡ at_front (take (entry_words * n) contents) contents
  own_contents = sym (front_same (entry_words * n) contents (contents_room n b contents bodies s.runs.right))

  pub own_bodies : bodies ≡ at_front (take b bodies) bodies
  own_bodies = sym (front_same b bodies (bodies_room n b contents bodies s.runs.right))

  -- the frame has a word for the answer
  pub word_left : T (has_word_of o (popped f position (suc count)) (length (without f (suc count))))
  unfolding frame_at
  word_left =
      let l = without_length o f (top_right s.runs) (suc count) s.needs in
      has_word s.runs.edition o (frame_method stack top) position (length (without f (suc count))) (s.noted ∙ ap (λ (k : ℕ). suc (suc k)) (sym l))

  pub answer_written : (w : ℕ)
      → set (set (set stack (operands_start o (frame_method stack top) top + (depth - suc count)) w) (top + 1) position) (top + 2) (depth - suc count + 1)
      ≡ laid stack top (moved_to f position (take (f.depth - suc count) f.operands ++ (w ∷ [])) ∷ rest)
  unfolding frame_at
  answer_written w =
      let h = ltb→lt (temporary_count o (frame_method stack top) + (depth - suc count)) (frame_words o (frame_method stack top))
      (has_word s.runs.edition o (frame_method stack top) position (depth - suc count) s.noted) in
      ap₂ (λ (i k : ℕ). set (set (set stack i w) (top + 1) position) (top + 2) k) (sums top (temporary_count o (frame_method stack top)) (depth - suc count)) (one (depth - suc count))
      ∙ sym (pushed_writes s.runs.edition o stack top (suc top) f rest (all_right s.runs) (stood s.runs) position (depth - suc count) w (omega arith) h)
    where
      sums : (a b c : ℕ) → a + 6 + b + c ≡ a + (6 + (b + c))
      sums a b c = omega arith

      one : (a : ℕ) → a + 1 ≡ suc a
      one a = omega arith

  -- a frame in objects o₁
  pub frame_written : (o₁ : Objects) (m base : ℕ) (arguments : List ℕ)
      → sets (set (set stack (top + 1) position) (top + 2) (depth - suc count)) base (new_image top m receiver (temporary_count o₁ m) arguments)
      ≡ laid stack base (new_frame o₁ top m receiver arguments ∷ popped f position (suc count) ∷ rest)
  unfolding frame_at laid new_frame
  frame_written o₁ m base arguments =
      ap₂ (λ (l ws : List ℕ). sets l base (top ∷ 0 ∷ 0 ∷ m ∷ 0 ∷ receiver ∷ ws))
      (sym (moved_writes s.runs.edition o stack top (suc top) f rest (all_right s.runs) (stood s.runs) position (depth - suc count) (omega arith)))
      (sym (append-nil (arguments ++ replicate (temporary_count o₁ m - length arguments) nil_word)))

  -- ---- the step

  module _ (room : Room) (edition receiver₀ selector₀ : ℕ) where
    abbrev p : Plain
    p = running_at edition receiver₀ selector₀ n b top contents bodies stack

    abbrev x : Stepped
    x = send_step room edition receiver₀ selector₀ n b top contents bodies stack selector count class position

    abbrev otherwise : Stepped
    otherwise = failed_step room edition receiver₀ selector₀ n b top contents bodies stack selector count class position

    pub send_none : lookup o selector class ≡ None → x ≡ otherwise
    send_none e = ap (after_lookup room p (popped f position (suc count)) rest selector class receiver given) e

    module _ (m : ℕ) (e : lookup o selector class ≡ found m) where
      send_found : x ≡ activated room p (popped f position (suc count)) rest m receiver given (looked_up o selector class m) otherwise (activate edition room o m receiver given)
      send_found = ap (after_lookup room p (popped f position (suc count)) rest selector class receiver given) e

      pub send_unfit : activate edition room o m receiver given ≡ unfit → x ≡ otherwise
      send_unfit a = send_found ∙ ap (activated room p (popped f position (suc count)) rest m receiver given (looked_up o selector class m) otherwise) a

      -- an answer
      abbrev answeredTop : ℕ → Frame
      answeredTop w = moved_to f position (take (f.depth - suc count) f.operands ++ (w ∷ []))

      send_answered : (w : ℕ) (o' : Objects) → activate edition room o m receiver given ≡ answered w o'
          → x ≡ leads_to (with_objects (on_top p (answeredTop w) rest) o') (looked_up o selector class m)
      unfolding pushed frame_at
      send_answered w o' a =
          send_found ∙ ap (activated room p (popped f position (suc count)) rest m receiver given (looked_up o selector class m) otherwise) a
          ∙ ap (λ (t : Bool). changed o' (provided t (leads_to (on_top p (answeredTop w) rest) (looked_up o selector class m))))
          (T→true (has_word_of o (popped f position (suc count)) (length (without f (suc count)))) word_left)

      -- a frame that does not fit
      send_entered : activate edition room o m receiver given ≡ entered → x ≡ framed room p (popped f position (suc count)) rest m receiver given (looked_up o selector class m)
      send_entered a = send_found ∙ ap (activated room p (popped f position (suc count)) rest m receiver given (looked_up o selector class m) otherwise) a

      pub send_full : activate edition room o m receiver given ≡ entered → fits_stack room.stack (top + frame_size o (frame_method stack top)) (frame_size o m) ≡ false → x ≡ halts no_stack_room
      unfolding framed frame_at
      send_full a q = send_entered a ∙ if_no _ _ q

      -- one that fits
      abbrev enteredState : ℕ → Plain
      enteredState base = with_frames p (new_frame o top m receiver given ∷ popped f position (suc count) ∷ rest) running base 0

      send_framed : (base : ℕ) → base ≡ top + frame_size o (frame_method stack top) → activate edition room o m receiver given ≡ entered
          → fits_stack room.stack (top + frame_size o (frame_method stack top)) (frame_size o m) ≡ true
          → x ≡ leads_to (enteredState base) (looked_up o selector class m)
      unfolding framed frame_at
      send_framed base g a q = send_entered a ∙ if_yes _ _ q ∙ ap (λ (k : ℕ). leads_to (enteredState k) (looked_up o selector class m)) (sym g)

      -- ---- the buffers after it

      module _ {d : ℕ} (read : d ≡ dictionaries_read o selector class) where
        number : (s : Plain) → leads_to s (looked_up o selector class m) ≡ leads_to s (looked selector class m d)
        number s = ap (λ (k : ℕ). leads_to s (looked selector class m k)) (sym read)

        pub answered_made : (cache : List ℕ) (w n' b' : ℕ) (o' : Objects) (contents' bodies' stack' cache' : List ℕ) → activate edition room o m receiver given ≡ answered w o' → o'.n ≡ n'
            → o'.b ≡ b'
            → contents' ≡ at_front o'.contents contents → bodies' ≡ at_front o'.bodies bodies
            → stack' ≡ set (set (set stack (operands_start o (frame_method stack top) top + (depth - suc count)) w) (top + 1) position) (top + 2) (depth - suc count + 1)
            → cache' ≡ filled cache (looked selector class m d)
            → Made x d (running_with edition receiver₀ selector₀ n' b' top) contents bodies stack cache contents' bodies' stack' cache'
        answered_made cache w n' b' o' contents' bodies' stack' cache' a en eb ec ed es ek =
            record {
              state = with_objects (on_top p (answeredTop w) rest) o';
              lookup = looked selector class m d;
              steps = send_answered w o' a ∙ number (with_objects (on_top p (answeredTop w) rest) o');
              reads = refl;
              registers = λ i.
                  running_with edition receiver₀ selector₀ (en i) (eb i) top;
              entries = ec;
              words = ed;
              frames = es ∙ answer_written w;
              cached = ek;
            }

        pub entered_made : (cache : List ℕ) (base : ℕ) (contents' bodies' stack' cache' : List ℕ) → base ≡ top + frame_size o (frame_method stack top)
            → activate edition room o m receiver given ≡ entered
            → fits_stack room.stack (top + frame_size o (frame_method stack top)) (frame_size o m) ≡ true → contents' ≡ contents → bodies' ≡ bodies
            → stack' ≡ sets (set (set stack (top + 1) position) (top + 2) (depth - suc count)) base (new_image top m receiver (temporary_count o m) given)
            → cache' ≡ filled cache (looked selector class m d)
            → Made x d (running_with edition receiver₀ selector₀ n b base) contents bodies stack cache contents' bodies' stack' cache'
        entered_made cache base contents' bodies' stack' cache' g a q ec ed es ek =
            record {
              state = enteredState base;
              lookup = looked selector class m d;
              steps = send_framed base g a q ∙ number (enteredState base);
              reads = refl;
              registers = refl;
              entries = ec
                  ∙ own_contents;
              words = ed ∙ own_bodies;
              frames = es ∙ frame_written o m base given;
              cached = ek;
            }

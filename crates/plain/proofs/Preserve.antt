-- One bytecode from a right state: a step exists, and leads to a right state or halts for a listed cause.
use Prim.Native.Nat.{ℕ, zero, suc, ◌+◌, ◌-◌, ◌≤◌, ◌<◌}
use mathlib.Core.Path.{◌≡◌, refl, sym, ap, ◌∙◌, subst}
use mathlib.Core.Bool.{Bool, true, false, ◌&&◌, ◌||◌}
use mathlib.Core.List.{List, [], ◌∷◌, ◌++◌, Memᴰ}
use mathlib.Core.Option.{Option, none, some}
use native.Mathlib.Omega.{arith}
use borrow.Author.Tests.{ltb-true, eqb-true}
use lib.Dec.{T, leb, ltb, eqb, ltb→lt, lt→ltb}
use lib.ListN.{length, get_elem?, drop, set, replicate, length-append, length-replicate}
use Rattle.bytecode.specs.Test.{when◌then◌else◌, every}
use Rattle.bytecode.specs.Constant.{nil_word}
use Rattle.bytecode.specs.Effect.{special_count, need, leaves, usable, successors}
use Rattle.bytecode.specs.declared.Place.{Place}
use Rattle.bytecode.specs.declared.Place.TheVariants.{Field, Temporary, Literal, LiteralVariable}
use Rattle.bytecode.specs.declared.Instruction.{Instruction}
use Rattle.bytecode.specs.declared.Instruction.TheVariants.{Push, Store, PopStore, PushSelf, PushConstant, ReturnSelf, ReturnConstant, ReturnTop, Pop, Duplicate, Jump, JumpOn, Send, SuperSend, SpecialSend, Unused}
use Rattle.bytecode.proofs.Choice.{if_yes, if_lt, if_cases}
use Rattle.bytecode.proofs.TestLaws.{true→T, T→true, and_left, and_right, and_both}
use Rattle.std.specs.Prelude.{Some, None}
use Rattle.model.specs.declared.Pointer.{Pointer}
use Rattle.model.specs.Limits.{has_messages, fields_kind, method_kind, receiver_flag, field_flag, primitive_flag}
use Rattle.model.specs.Word.{is_pointer, is_valid, object_number, boolean_word, failure_selector}
use Rattle.model.specs.Objects.{Objects, class_of, is_kind, size, body_word, field_count}
use Rattle.model.specs.Method.{home, flag, temporary_count, frame_words, frame_size, literal_count, literal, argument_count, primitive_number, runs_code}
use Rattle.model.specs.Depth.{note_at, is_some}
use Rattle.model.specs.Lookup.{found, lookup, dictionaries_read, in_chain}
use Rattle.model.specs.Rules.{method_table, allowed, place_fine, variable_fine, is_writable, send_fine, takes_count, special_selector, is_same, is_class}
use Rattle.model.specs.Image.{Room}
use Rattle.model.specs.Arithmetic.{arithmetic}
use Rattle.model.specs.Primitive.{Outcome, answers, fails, primitive, store_word, message_made, message_word, has_message_room}
use Rattle.model.proofs.Facts.{valid_more}
use Rattle.model.proofs.SendFacts.{selector_takes, selector_valid}
use Rattle.model.proofs.DepthLaws.{spot_start}
use Rattle.plain.specs.Registers.{running, finished, not_understood}
use Rattle.plain.specs.RunLoop.{first_end, top_end}
use Rattle.plain.specs.State.{Frame, Plain, objects, with_objects, moved_to, with_temporaries, new_frame, fits_stack}
use Rattle.plain.specs.Step.{Looked, no_lookup, looked, looked_up, Stepped, leads_to, halts, missing, ◌>>=◌, provided, operand, without, field_of, literal_of, on_top, has_word_of, pushed, read, stored_field, stored, returned, Activation, answered, entered, unfit, entering, field_answered, primitive_answered, activate, framed, changed, activated, resent, failed, after_lookup, popped, sends, above_home, tried_primitive, or_sends, arithmetic_sends, special_sends, jumps, execute}
use Rattle.plain.proofs.FrameLaws.{FrameRight, Fits, fits, FramesRight, note_is, within}
use Rattle.plain.proofs.NowLaws.{Now}
use Rattle.plain.proofs.StepLaws.{Valid, valid_append, valid_one, valid_replicate, Finds, element, moved_right, stored_temporary_lem, has_word, new_top, operand_finds, without_length, without_valid, arguments_length, arguments_valid}

-- What a step needs of the objects, and of `After`, the relation to the objects after it. The model's laws give it (proofs/World.antt).
pub record World (After : Objects → Objects → Type 0) (e : ℕ) (room : Room) (o : Objects) : Type 0 where
  pub least : 3 ≤ o.n
  pub self : After o o
  pub keeps : (o' : Objects) → After o o' → (b : Bool) (f : Frame) → FrameRight e o b f → FrameRight e o' b f
  pub tables : (o' : Objects) → After o o' → (m : ℕ) → T (is_kind o method_kind m) → method_table e o' m ≡ method_table e o m
  pub sizes : (o' : Objects) → After o o' → (m : ℕ) → T (is_kind o method_kind m) → frame_size o' m ≡ frame_size o m
  pub grows : (o' : Objects) → After o o' → (w : ℕ) → T (is_valid o.n w) → T (is_valid o'.n w)
  pub field_valid : (w i : ℕ) → T (is_kind o fields_kind w && ltb i (size o (object_number w))) → T (is_valid o.n (body_word o (object_number w) i))
  pub literal_valid : (m i : ℕ) → T (is_kind o method_kind m) → i < literal_count o m → T (is_valid o.n (literal o m i))
  pub class_valid : (w : ℕ) → T (is_valid o.n w) → T (is_valid o.n (class_of o w))
  pub fields : (w h i : ℕ) → T (is_valid o.n w) → T (in_chain o h (class_of o w)) → i < field_count o h → T (is_kind o fields_kind w && ltb i (size o (object_number w)))
  pub lookup_method : (s c m : ℕ) → lookup o s c ≡ found m → T (is_kind o method_kind m)
  pub lookup_count : (s c m count : ℕ) → lookup o s c ≡ found m → T (takes_count o s count) → argument_count o m ≡ count
  pub arguments : (m : ℕ) → T (is_kind o method_kind m) → argument_count o m ≤ temporary_count o m
  pub runs : (m : ℕ) → T (is_kind o method_kind m) → T (runs_code o m) → T (is_some (method_table e o m))
  pub computes : (k a b w : ℕ) → arithmetic k a b ≡ Some w → T (is_valid o.n w)
  pub stores : (w i v : ℕ) → T (is_kind o fields_kind w && ltb i (size o (object_number w))) → T (is_valid o.n v) → After o (store_word o (object_number w) i v)
  pub trans : (o' o'' : Objects) → After o o' → After o' o'' → After o o''
  pub lookups : (o' : Objects) → After o o' → (s c : ℕ) → lookup o' s c ≡ lookup o s c
  pub failure_count : T (has_messages e) → T (takes_count o failure_selector 1)
  pub messages : T (has_messages e) → (selector : ℕ) (arguments : List ℕ) → T (is_valid o.n selector) → Valid o.n arguments → T (has_message_room room o (length arguments))
      → After o (message_made o selector arguments) × T (is_valid (message_made o selector arguments).n (message_word o))
  pub performs : (k count w : ℕ) (arguments : List ℕ) (v : ℕ) (o' : Objects) → T (is_valid o.n w) → Valid o.n arguments → count ≡ length arguments
      → primitive e room o k count w arguments ≡ answers v o' → After o o' × T (is_valid o'.n v)

-- the flag of a method that is neither 5 nor 6 runs code
runs_code_lem : (o : Objects) (m : ℕ) → (flag o m ≡ receiver_flag → ⊥) → (flag o m ≡ field_flag → ⊥) → T (runs_code o m)
runs_code_lem o m a b = by_flag (flag o m) (omega arith) a b
  where
    by_flag : (k : ℕ) → k < 8 → (k ≡ receiver_flag → ⊥) → (k ≡ field_flag → ⊥) → T (leb k 4 || eqb k 7)
    by_flag zero l p q = tt
    by_flag (suc zero) l p q = tt
    by_flag (suc (suc zero)) l p q = tt
    by_flag (suc (suc (suc zero))) l p q = tt
    by_flag (suc (suc (suc (suc zero)))) l p q = tt
    by_flag (suc (suc (suc (suc (suc zero))))) l p q = absurd (p refl)
    by_flag (suc (suc (suc (suc (suc (suc zero)))))) l p q = absurd (q refl)
    by_flag (suc (suc (suc (suc (suc (suc (suc zero))))))) l p q = tt
    by_flag (suc (suc (suc (suc (suc (suc (suc (suc k)))))))) l p q = absurd (omega arith)

-- a method that is entered runs code
pub entered_runs : (e : ℕ) (room : Room) (o : Objects) (m receiver : ℕ) (arguments : List ℕ) → activate e room o m receiver arguments ≡ entered → T (runs_code o m)
unfolding activate
entered_runs e room o m receiver arguments =
    if_cases Runs (eqb (flag o m) receiver_flag) _ _ (λ h q. absurd (subst Entered (sym q) tt))
    (λ n5. if_cases Runs (eqb (flag o m) field_flag) _ _ (λ h q. absurd (by_field (field_of o receiver (temporary_count o m)) q))
    (λ n6 q. runs_code_lem o m (borrow.Author.Tests.eqb-false (flag o m) receiver_flag n5) (borrow.Author.Tests.eqb-false (flag o m) field_flag n6)))
  where
    Runs : Activation → Type 0
    Runs x = x ≡ entered → T (runs_code o m)

    Entered : Activation → Type 0
    Entered (answered w o') = ⊥
    Entered entered = Unit {0}
    Entered unfit = ⊥

    by_field : (x : Option ℕ) → field_answered o x ≡ entered → ⊥
    by_field (some w) q = subst Entered (sym q) tt
    by_field none q = subst Entered (sym q) tt

pub small_valid : (n w : ℕ) → 3 ≤ n → T (is_valid 3 w) → T (is_valid n w)
small_valid n w h t = valid_more 3 n w h t

nil_valid : T (is_valid 3 nil_word)
unfolding is_valid is_pointer
nil_valid = tt

boolean_small : (b : Bool) → T (is_valid 3 (boolean_word b))
unfolding is_valid is_pointer
boolean_small true = tt
boolean_small false = tt

-- argument counts of special sends: one for arithmetic and ==, none for class
special_one : (k : ℕ) → k < 16 → special_count k ≡ 1
unfolding special_count
special_one k h = if_lt k 16 1 _ h

special_same : special_count 22 ≡ 1
unfolding special_count when◌then◌else◌
special_same = refl

special_class : special_count 23 ≡ 0
unfolding special_count when◌then◌else◌
special_class = refl

-- ---- activation
module _ (After : Objects → Objects → Type 0) (room : Room) (edition : ℕ) (o : Objects) (world : World After edition room o) where
  -- what activation gives: an answer with the objects after it, or a method whose frame can be made
  abbrev pub Activates : ℕ → ℕ → Activation → Type 0
  Activates m receiver (answered w o') = After o o' × T (is_valid o'.n w)
  Activates m receiver entered = T (runs_code o m) × T (in_chain o (home o m) (class_of o receiver))
  Activates m receiver unfit = Unit {0}

  enters : (m receiver : ℕ) → T (runs_code o m) → Activates m receiver (entering o m receiver)
  unfolding entering
  enters m receiver t = if_cases (Activates m receiver) (in_chain o (home o m) (class_of o receiver)) entered unfit (λ e. (t, true→T e)) (λ e. tt)

  -- a field that was found is valid
  field_valid_lem : (v i w : ℕ) → field_of o v i ≡ some w → T (is_valid o.n w)
  unfolding field_of when◌then◌else◌
  field_valid_lem v i w e = by_test (is_kind o fields_kind v && ltb i (size o (object_number v))) refl e
    where
      by_test : (b : Bool) → (is_kind o fields_kind v && ltb i (size o (object_number v))) ≡ b → (when b then some (body_word o (object_number v) i) else none) ≡ some w → T (is_valid o.n w)
      by_test true q h =
          subst (λ (k : ℕ). T (is_valid o.n k)) (mathlib.Core.Option.some-injective (body_word o (object_number v) i) w h) (world.field_valid v i (true→T q))
      by_test false q h = absurd (mathlib.Core.Option.none-ne-some w h)

  field_answers : (m receiver : ℕ) (x : Option ℕ) → field_of o receiver (temporary_count o m) ≡ x → Activates m receiver (field_answered o x)
  field_answers m receiver none e = tt
  field_answers m receiver (some w) e = (world.self, field_valid_lem receiver (temporary_count o m) w e)

  primitive_answers : (m receiver : ℕ) (arguments : List ℕ) → T (is_valid o.n receiver) → Valid o.n arguments → argument_count o m ≡ length arguments → T (runs_code o m)
      → (x : Outcome) → primitive edition room o (primitive_number o m) (argument_count o m) receiver arguments ≡ x → Activates m receiver (primitive_answered o m receiver x)
  primitive_answers m receiver arguments v va c t (answers w o') e = world.performs (primitive_number o m) (argument_count o m) receiver arguments w o' v va c e
  primitive_answers m receiver arguments v va c t fails e = enters m receiver t

  pub activates : (m receiver : ℕ) (arguments : List ℕ) → T (is_valid o.n receiver) → Valid o.n arguments → argument_count o m ≡ length arguments
      → Activates m receiver (activate edition room o m receiver arguments)
  unfolding activate
  activates m receiver arguments v va c =
      if_cases (Activates m receiver) (eqb (flag o m) receiver_flag) _ _ (λ e. (world.self, v))
      (λ n5. if_cases (Activates m receiver) (eqb (flag o m) field_flag) _ _ (λ e. field_answers m receiver (field_of o receiver (temporary_count o m)) refl)
      (λ n6.
      let code = runs_code_lem o m (borrow.Author.Tests.eqb-false (flag o m) receiver_flag n5) (borrow.Author.Tests.eqb-false (flag o m) field_flag n6) in
      if_cases (Activates m receiver) (eqb (flag o m) primitive_flag) _ _
      (λ e. primitive_answers m receiver arguments v va c code (primitive edition room o (primitive_number o m) (argument_count o m) receiver arguments) refl)
      (λ e. enters m receiver code)))

  -- the frame of a method that was found
  pub new_right : (m receiver : ℕ) (arguments : List ℕ) → T (is_kind o method_kind m) → T (is_valid o.n receiver) → Valid o.n arguments → argument_count o m ≡ length arguments
      → T (runs_code o m) → T (in_chain o (home o m) (class_of o receiver)) → (sender : ℕ) → FrameRight edition o true (new_frame o sender m receiver arguments)
  unfolding new_frame
  new_right m receiver arguments k v va c t h sender =
      record {
        is_method = k;
        unmarked = refl;
        receiver = v;
        chain = h;
        note = spot_start edition o m (world.runs m k t) ∙ sym (note_is true _);
        temporaries = temps;
        depth = refl;
        valid_temporaries = valid_append o.n arguments (replicate (temporary_count o m - length arguments) nil_word) va
            (valid_replicate o.n (temporary_count o m - length arguments) nil_word (small_valid o.n nil_word world.least nil_valid));
        valid_operands = tt;
      }
    where
      temps : length (arguments ++ replicate (temporary_count o m - length arguments) nil_word) ≡ temporary_count o m
      temps =
          length-append arguments (replicate (temporary_count o m - length arguments) nil_word)
          ∙ ap (λ (x : ℕ). length arguments + x) (length-replicate (temporary_count o m - length arguments) nil_word)
          ∙ (let x = world.arguments m k in omega arith)

-- a lookup that was made and found
abbrev pub LookedRight : Objects → Looked → Type 0
LookedRight o no_lookup = Unit {0}
LookedRight o (looked s c m k) = (lookup o s c ≡ found m) × (k ≡ dictionaries_read o s c)

-- the shape of a state in phase 1 or 2
pub data Shape (stack : ℕ) (s : Plain) : Type 0 where
  runs : s.registers.phase ≡ running → s.registers.value ≡ 0 → FramesRight s.registers.edition (objects s) stack true s.registers.top s.frames → Shape stack s
  ends : s.registers.phase ≡ finished → T (is_valid s.registers.n s.registers.value) → s.registers.top ≡ 0 → s.frames ≡ [] → Shape stack s

module _ (After : Objects → Objects → Type 0) (room : Room) (s : Plain) where
  -- what a step keeps
  pub record Kept (s' : Plain) : Type 0 where
    pub after : After (objects s) (objects s')
    pub receiver : s'.registers.start_receiver ≡ s.registers.start_receiver
    pub selector : s'.registers.start_selector ≡ s.registers.start_selector
    pub edition : s'.registers.edition ≡ s.registers.edition
    pub shape : Shape room.stack s'
    pub level : s'.registers.phase ≡ running → s'.registers.top ≡ s.registers.top → top_end s' ≡ top_end s

  abbrev pub Goes : Stepped → Type 0
  Goes (leads_to s' l) = Kept s' × LookedRight (objects s) l
  Goes (halts c) = Unit {0}
  Goes missing = ⊥

  abbrev o : Objects
  o = objects s

  abbrev edition : ℕ
  edition = s.registers.edition

  goes_found : {A : Type 0} (r : Option A) (k : A → Stepped) (a : A) → r ≡ some a → Goes (k a) → Goes (r >>= k)
  goes_found r k a e g = subst (λ x. Goes (x >>= k)) (sym e) g

  goes_provided : (b : Bool) (x : Stepped) → T b → Goes x → Goes (provided b x)
  goes_provided true x t g = g
  goes_provided false x t g = absurd t

  module _ (world : World After edition room o) (next : (o' : Objects) → After o o' → World After edition room o') (f : Frame) (rest : List Frame) (r : FrameRight edition o true f)
      (fr : FramesRight edition o room.stack true s.registers.top (f ∷ rest)) (frames-are : s.frames ≡ f ∷ rest) where
    -- the end of the top frame
    own_end : top_end s ≡ s.registers.top + frame_size o f.method
    unfolding top_end
    own_end = ap (first_end o s.registers.top) frames-are

    -- ---- the objects change, the frames stay
    frames_keep : (o' : Objects) → After o o' → (b : Bool) (base : ℕ) (fs : List Frame) → FramesRight edition o room.stack b base fs → FramesRight edition o' room.stack b base fs
    frames_keep o' a b base [] t = t
    frames_keep o' a b base (g ∷ []) t =
        (world.keeps o' a b g t.0, subst (Fits room.stack base) (sym (world.sizes o' a g.method t.0.is_method)) t.1, t.2, t.3)
    frames_keep o' a b base (g ∷ h ∷ gs) t =
        let u : FrameRight edition o false h = head_right h gs t.3 in (
          world.keeps o' a b g t.0,
          subst (Fits room.stack base) (sym (world.sizes o' a g.method t.0.is_method)) t.1,
          t.2
              ∙ ap (λ (k : ℕ). g.sender + k) (sym (world.sizes o' a h.method u.is_method)),
          frames_keep o' a false g.sender (h ∷ gs) t.3,
        )
      where
        head_right : (h : Frame) (gs : List Frame) → FramesRight edition o room.stack false g.sender (h ∷ gs) → FrameRight edition o false h
        head_right h [] x = x.0
        head_right h (k ∷ gs) x = x.0

    -- a state that runs on with another top frame, of the same method and sender
    run_on : (f' : Frame) → f'.sender ≡ f.sender → f'.method ≡ f.method → FrameRight edition o true f' → (l : Looked) → LookedRight o l → Goes (leads_to (on_top s f' rest) l)
    run_on f' a b r' l q = (
      record {
        after = world.self;
        receiver = refl;
        selector = refl;
        edition = refl;
        shape = runs refl refl (new_top o room.stack true true s.registers.top f f'
            rest a b r' fr);
        level = λ x y. unfold top_end in (ap (λ (m : ℕ). s.registers.top + frame_size o m) b ∙ sym own_end);
      },
      q,
    )

    -- the same with other objects
    run_on_with : (o' : Objects) → After o o' → (f' : Frame) → f'.sender ≡ f.sender → f'.method ≡ f.method → FrameRight edition o' true f' → (l : Looked) → LookedRight o l
        → Goes (leads_to (with_objects (on_top s f' rest) o') l)
    run_on_with o' x f' a b r' l q = (
      record {
        after = x;
        receiver = refl;
        selector = refl;
        edition = refl;
        shape = runs refl refl (new_top o' room.stack true true s.registers.top f f' rest a b r'
            (frames_keep o' x true s.registers.top (f ∷ rest) fr));
        level = λ y z. unfold top_end in (ap (λ (m : ℕ). s.registers.top + frame_size o' m) b
            ∙ ap (λ (k : ℕ). s.registers.top + k) (world.sizes o' x f.method r.is_method) ∙ sym own_end);
      },
      q,
    )

    -- a push on a frame of the same method and sender, which is right on top or below it
    length_more : (ops : List ℕ) (w : ℕ) → length (ops ++ (w ∷ [])) ≡ suc (length ops)
    length_more ops w = length-append ops (w ∷ []) ∙ omega arith

    pushed_right : (was : Bool) (f' : Frame) → FrameRight edition o was f' → (o' : Objects) → After o o' → (q : ℕ) (ops : List ℕ) (w : ℕ)
        → note_at (method_table edition o f'.method) q ≡ suc (suc (length ops)) → Valid o.n ops → T (is_valid o'.n w) → FrameRight edition o' true (moved_to f' q (ops ++ (w ∷ [])))
    pushed_right was f' r' o' x q ops w e v u =
        moved_right o' was true f' (world.keeps o' x was f' r') q (ops ++ (w ∷ []))
        (ap (λ t. note_at t q) (world.tables o' x f'.method r'.is_method) ∙ e ∙ ap suc (sym (length_more ops w)))
        (valid_append o'.n ops (w ∷ []) (grown ops v) (valid_one o'.n w u))
      where
        grown : (ws : List ℕ) → Valid o.n ws → Valid o'.n ws
        grown [] t = tt
        grown (y ∷ ws) t =
            and_both (is_valid o'.n y) (every (is_valid o'.n) ws) (world.grows o' x y (and_left (is_valid o.n y) (every (is_valid o.n) ws) t))
            (grown ws (and_right (is_valid o.n y) (every (is_valid o.n) ws) t))

    pushes : (was : Bool) (f' : Frame) → f'.sender ≡ f.sender → f'.method ≡ f.method → FrameRight edition o was f' → (q : ℕ) (ops : List ℕ) (w : ℕ)
        → note_at (method_table edition o f'.method) q ≡ suc (suc (length ops)) → Valid o.n ops → T (is_valid o.n w) → (l : Looked) → LookedRight o l → Goes (pushed s f' rest q ops w l)
    unfolding pushed
    pushes was f' a b r' q ops w e v u l k =
        goes_provided (has_word_of o f' (length ops)) (leads_to (on_top s (moved_to f' q (ops ++ (w ∷ []))) rest) l) (has_word edition o f'.method q (length ops) e)
        (run_on (moved_to f' q (ops ++ (w ∷ []))) a b (pushed_right was f' r' o world.self q ops w e v u) l k)

    -- a push in objects o₁, after which there are others
    pushes_changed : (was : Bool) (f' : Frame) → f'.sender ≡ f.sender → f'.method ≡ f.method → FrameRight edition o was f' → (o₁ o' : Objects) → After o o₁ → After o o'
        → (q : ℕ) (ops : List ℕ) (w : ℕ) → note_at (method_table edition o f'.method) q ≡ suc (suc (length ops)) → Valid o.n ops → T (is_valid o'.n w) → (l : Looked) → LookedRight o l
        → Goes (changed o' (pushed (with_objects s o₁) f' rest q ops w l))
    unfolding pushed
    pushes_changed was f' a b r' o₁ o' x₁ x q ops w e v u l k =
        go (has_word_of o₁ f' (length ops))
        (has_word edition o₁ f'.method q (length ops) (ap (λ t. note_at t q) (world.tables o₁ x₁ f'.method r'.is_method) ∙ e))
      where
        go : (t : Bool) → T t → Goes (changed o' (provided t (leads_to (on_top (with_objects s o₁) (moved_to f' q (ops ++ (w ∷ []))) rest) l)))
        go true y = run_on_with o' x (moved_to f' q (ops ++ (w ∷ []))) a b (pushed_right was f' r' o' x q ops w e v u) l k
        go false y = absurd y

    -- ---- places
    if_some : (n : ℕ) (b : Bool) (w : ℕ) → T b → T (is_valid n w) → Finds n (when b then some w else none)
    unfolding when◌then◌else◌
    if_some n true w t v = (w, refl, v)
    if_some n false w t v = absurd t

    field_finds : (w i : ℕ) → T (is_kind o fields_kind w && ltb i (size o (object_number w))) → Finds o.n (field_of o w i)
    unfolding field_of
    field_finds w i t = if_some o.n (is_kind o fields_kind w && ltb i (size o (object_number w))) (body_word o (object_number w) i) t (world.field_valid w i t)

    literal_finds : (i : ℕ) → T (ltb i (literal_count o f.method)) → Finds o.n (literal_of o f.method i)
    unfolding literal_of
    literal_finds i t =
        if_some o.n (ltb i (literal_count o f.method)) (literal o f.method i) t (world.literal_valid f.method i r.is_method (ltb→lt i (literal_count o f.method) t))

    own_field : (i : ℕ) → T (ltb i (field_count o (home o f.method))) → T (is_kind o fields_kind f.receiver && ltb i (size o (object_number f.receiver)))
    own_field i t = world.fields f.receiver (home o f.method) i r.receiver r.chain (ltb→lt i (field_count o (home o f.method)) t)

    variable_field : (w : ℕ) → T (variable_fine o w) → T (is_kind o fields_kind w && ltb 1 (size o (object_number w)))
    unfolding variable_fine
    variable_field w t = t

    literal_is : (i v : ℕ) → literal_of o f.method i ≡ some v → T (ltb i (literal_count o f.method)) → v ≡ literal o f.method i
    unfolding literal_of
    literal_is i v e t =
        mathlib.Core.Option.some-injective v (literal o f.method i)
        (sym e ∙ if_yes (some (literal o f.method i)) none (T→true (ltb i (literal_count o f.method)) t))

    place_finds : (p : Place) → T (place_fine o f.method p) → Finds o.n (read o f p)
    unfolding place_fine read
    place_finds (Field i) t = field_finds f.receiver i (own_field i t)
    place_finds (Temporary i) t = element o.n i f.temporaries (subst (λ (k : ℕ). i < k) (sym r.temporaries) (ltb→lt i (temporary_count o f.method) t)) r.valid_temporaries
    place_finds (Literal i) t = literal_finds i t
    place_finds (LiteralVariable i) t =
        let a = ltb i (literal_count o f.method) in
        let b = variable_fine o (literal o f.method i) in
        let x = literal_finds i (and_left a b t) in
        let y = field_finds x.0 1 (variable_field x.0 (subst (λ (k : ℕ). T (variable_fine o k)) (sym (literal_is i x.0 x.1 (and_left a b t))) (and_right a b t))) in
        (y.0, ap (λ (z : Option ℕ). elim z as (λ _. Option ℕ) [ none ↦ none | some w ↦ field_of o w 1 ]) x.1 ∙ y.1, y.2)

    -- a store by a frame f' of the same method and sender
    module _ (f' : Frame) (a : f'.sender ≡ f.sender) (b : f'.method ≡ f.method) (r' : FrameRight edition o true f') where
      field_stores : (v i w : ℕ) → T (is_kind o fields_kind v && ltb i (size o (object_number v))) → T (is_valid o.n w) → Goes (stored_field s f' rest v i w)
      unfolding stored_field
      field_stores v i w t u =
          let x = field_finds v i t in
          let y = world.stores v i w t u in
          goes_found (field_of o v i) (λ old. leads_to (with_objects (on_top s f' rest) (store_word o (object_number v) i w)) no_lookup) x.0 x.1
          (run_on_with (store_word o (object_number v) i w) y f' a b (world.keeps (store_word o (object_number v) i w) y true f' r') no_lookup tt)

    stores_place : (q : ℕ) (ops : List ℕ) → FrameRight edition o true (moved_to f q ops) → (p : Place) (w : ℕ) → T (is_writable p && place_fine o f.method p) → T (is_valid o.n w)
        → Goes (stored s (moved_to f q ops) rest p w)
    unfolding stored place_fine
    stores_place q ops r' (Field i) w t u = field_stores (moved_to f q ops) refl refl r' f.receiver i w (own_field i t) u
    stores_place q ops r' (Temporary i) w t u =
        let x = element o.n i f.temporaries (subst (λ (k : ℕ). i < k) (sym r.temporaries) (ltb→lt i (temporary_count o f.method) t)) r.valid_temporaries in
        goes_found (get_elem? f.temporaries i) (λ old. leads_to (on_top s (with_temporaries (moved_to f q ops) (set f.temporaries i w)) rest) no_lookup) x.0 x.1
        (run_on (with_temporaries (moved_to f q ops) (set f.temporaries i w)) refl refl (stored_temporary_lem o (moved_to f q ops) r' i w u) no_lookup tt)
    stores_place q ops r' (Literal i) w t u = absurd t
    stores_place q ops r' (LiteralVariable i) w t u =
        let c = ltb i (literal_count o f.method) in
        let d = variable_fine o (literal o f.method i) in
        let x = literal_finds i (and_left c d t) in
        goes_found (literal_of o f.method i) (λ v. stored_field s (moved_to f q ops) rest v 1 w) x.0 x.1
        (field_stores (moved_to f q ops) refl refl r' x.0 1 w
        (variable_field x.0 (subst (λ (k : ℕ). T (variable_fine o k)) (sym (literal_is i x.0 x.1 (and_left c d t))) (and_right c d t))) u)

    -- ---- returns
    returns : (w : ℕ) → T (is_valid o.n w) → (gs : List Frame) → gs ≡ rest → Goes (returned s f gs w)
    unfolding returned
    returns w v [] e = (record { after = world.self; receiver = refl; selector = refl; edition = refl; shape = ends refl v refl refl; level = λ x y. absurd (omega arith) }, tt)
    returns w v (g ∷ gs) e =
        goes_provided (has_word_of o g g.depth) _ (lt→ltb (temporary_count o g.method + g.depth) (frame_words o g.method) (let h = within o false g rg in omega arith)) (
          record {
            after = world.self;
            receiver = refl;
            selector = refl;
            edition = refl;
            shape = runs refl refl (new_top o room.stack false true f.sender g g' gs refl
                refl rg' below);
            level = λ x y. absurd (let z = parts.2 in omega arith);
          },
          tt,
        )
      where
        parts : FrameRight edition o true f × Fits room.stack s.registers.top (frame_size o f.method)
            × (s.registers.top ≡ f.sender + frame_size o g.method) × FramesRight edition o room.stack false f.sender (g ∷ gs)
        parts = subst (λ (x : List Frame). FramesRight edition o room.stack true s.registers.top (f ∷ x)) (sym e) fr

        below : FramesRight edition o room.stack false f.sender (g ∷ gs)
        below = parts.3

        head_right : (hs : List Frame) → FramesRight edition o room.stack false f.sender (g ∷ hs) → FrameRight edition o false g
        head_right [] x = x.0
        head_right (k ∷ hs) x = x.0

        rg : FrameRight edition o false g
        rg = head_right gs below

        g' : Frame
        g' = moved_to g g.position (g.operands ++ (w ∷ []))

        rg' : FrameRight edition o true g'
        rg' =
            moved_right o false true g rg g.position (g.operands ++ (w ∷ []))
            (rg.note ∙ note_is false g ∙ ap (λ (k : ℕ). suc (suc k)) (sym rg.depth) ∙ ap suc (sym (length_more g.operands w)))
            (valid_append o.n g.operands (w ∷ []) rg.valid_operands (valid_one o.n w v))

    -- ---- sends
    -- a send by the frame f', which is f at its next position without receiver and arguments
    module _ (q n : ℕ) (needs : suc n ≤ f.depth) (noted : note_at (method_table edition o f.method) q ≡ suc (f.depth - suc n + 1)) where
      abbrev f' : Frame
      f' = popped f q (suc n)

      noted' : note_at (method_table edition o f.method) q ≡ suc (suc (length (without f (suc n))))
      noted' = noted ∙ ap suc (let l = without_length o f r (suc n) needs in omega arith)

      right' : FrameRight edition o false f'
      right' = moved_right o true false f r q (without f (suc n)) noted' (without_valid o f r (suc n))

      abbrev arguments' : List ℕ
      arguments' = drop (f.depth - n) f.operands

      -- a frame in objects o₁, which are those of the state or have the message
      framed_goes : (o₁ : Objects) → After o o₁ → (m receiver : ℕ) (arguments : List ℕ) → FrameRight edition o₁ true (new_frame o₁ s.registers.top m receiver arguments)
          → (l : Looked) → LookedRight o l → Goes (framed room (with_objects s o₁) f' rest m receiver arguments l)
      unfolding framed new_frame
      framed_goes o₁ x m receiver arguments rn l k =
          if_cases Goes (fits_stack room.stack (s.registers.top + frame_size o₁ f.method) (frame_size o₁ m)) _ _
          (λ e. (
            record {
              after = x;
              receiver = refl;
              selector = refl;
              edition = refl;
              shape = runs refl refl (
                rn,
                fits room.stack (s.registers.top + frame_size o₁ f.method) (frame_size o₁ m) (true→T e),
                refl,
                new_top o₁ room.stack true false
                    s.registers.top f f' rest refl refl (world.keeps o₁ x false f' right') (frames_keep o₁ x true s.registers.top (f ∷ rest) fr),
              );
              level = λ y z. absurd (omega arith);
            },
            k,
          ))
          (λ e. tt)

      activated_goes : (o₁ : Objects) (a₁ : After o o₁) (m receiver : ℕ) (arguments : List ℕ) (l : Looked) → LookedRight o l → T (is_kind o₁ method_kind m)
          → argument_count o₁ m ≡ length arguments → T (is_valid o₁.n receiver) → Valid o₁.n arguments → (otherwise : Stepped) → Goes otherwise
          → (x : Activation) → Activates After room edition o₁ (next o₁ a₁) m receiver x → Goes (activated room (with_objects s o₁) f' rest m receiver arguments l otherwise x)
      activated_goes o₁ a₁ m receiver arguments l e k c v va otherwise g (answered w o') a =
          pushes_changed false f' refl refl right' o₁ o' a₁ (world.trans o₁ o' a₁ a.0) q (without f (suc n)) w noted' (without_valid o f r (suc n)) a.1 l e
      activated_goes o₁ a₁ m receiver arguments l e k c v va otherwise g entered a =
          framed_goes o₁ a₁ m receiver arguments (new_right After room edition o₁ (next o₁ a₁) m receiver arguments k v va c a.0 a.1 s.registers.top) l e
      activated_goes o₁ a₁ m receiver arguments l e k c v va otherwise g unfit a = g

      -- a send that failed: its message
      resent_goes : (selector class receiver : ℕ) → T (has_messages edition) → T (is_valid o.n selector) → T (is_valid o.n receiver)
          → (x : Rattle.std.specs.declared.option.Option.Option Pointer) → lookup o failure_selector class ≡ x → Goes (resent room s f' rest selector class receiver arguments' x)
      resent_goes selector class receiver t vs v None e = tt
      resent_goes selector class receiver t vs v (Some m) e =
          if_cases Goes (has_message_room room o (length arguments')) _ _
          (λ h.
          let made = world.messages t selector arguments' vs (arguments_valid o f r n) (true→T h) in
          let o₁ = message_made o selector arguments' in
          let w₁ = next o₁ made.0 in
          let e₁ : lookup o₁ failure_selector class ≡ found m.0 = world.lookups o₁ made.0 failure_selector class ∙ e in
          let c : argument_count o₁ m.0 ≡ 1 = w₁.lookup_count failure_selector class m.0 1 e₁ (w₁.failure_count t) in
          let v₁ = world.grows o₁ made.0 receiver v in
          let va = valid_one o₁.n (message_word o) made.1 in
          activated_goes o₁ made.0 m.0 receiver (message_word o ∷ []) (looked_up o failure_selector class m.0) (e, refl) (w₁.lookup_method failure_selector class m.0 e₁) c v₁ va
          (halts not_understood) tt (activate edition room o₁ m.0 receiver (message_word o ∷ [])) (activates After room edition o₁ w₁ m.0 receiver (message_word o ∷ []) v₁ va c))
          (λ h. tt)

      failed_goes : (selector class receiver : ℕ) → T (is_valid o.n selector) → T (is_valid o.n receiver) → Goes (failed room s f' rest selector class receiver arguments')
      unfolding failed
      failed_goes selector class receiver vs v =
          if_cases Goes (has_messages edition) _ _ (λ h. resent_goes selector class receiver (true→T h) vs v (lookup o failure_selector class) refl) (λ h. tt)

      found_goes : (selector class receiver : ℕ) → T (takes_count o selector n) → T (is_valid o.n selector) → T (is_valid o.n receiver) → (x : Rattle.std.specs.declared.option.Option.Option Pointer) → lookup o selector class ≡ x
          → Goes (after_lookup room s f' rest selector class receiver arguments' x)
      found_goes selector class receiver t vs v None e = failed_goes selector class receiver vs v
      found_goes selector class receiver t vs v (Some m) e =
          let c : argument_count o m.0 ≡ length arguments' = world.lookup_count selector class m.0 n e t ∙ sym (arguments_length o f r n (omega arith)) in
          activated_goes o world.self m.0 receiver arguments' (looked_up o selector class m.0) (e, refl) (world.lookup_method selector class m.0 e) c v (arguments_valid o f r n)
          (failed room s f' rest selector class receiver arguments') (failed_goes selector class receiver vs v)
          (activate edition room o m.0 receiver arguments') (activates After room edition o (next o world.self) m.0 receiver arguments' v (arguments_valid o f r n) c)

      send_goes : (from : ℕ → ℕ) (selector : ℕ) → T (send_fine o selector n) → Goes (sends room s f rest q from selector n)
      unfolding sends
      send_goes from selector t =
          let x = operand_finds o f r n (omega arith) in
          goes_found (operand f n) _ x.0 x.1
          (found_goes selector (from x.0) x.0 (selector_takes o selector n t) (selector_valid o selector n (let l = world.least in omega arith) t) x.2 (lookup o selector (from x.0)) refl)

    -- the answer of a special send that looks nothing up, over the k uppermost operands
    answer_goes : (q k w : ℕ) → k ≤ f.depth → note_at (method_table edition o f.method) q ≡ suc (f.depth - k + 1) → T (is_valid o.n w) → Goes (pushed s f rest q (without f k) w no_lookup)
    answer_goes q k w h e v =
        pushes true f refl refl r q (without f k) w (e ∙ ap suc (let l = without_length o f r k h in omega arith)) (without_valid o f r k) v no_lookup tt

    arithmetic_goes : (q k : ℕ) → 2 ≤ f.depth → note_at (method_table edition o f.method) q ≡ suc (f.depth - 2 + 1) → T (send_fine o (special_selector o k) 1)
        → Goes (arithmetic_sends room s f rest q k)
    unfolding arithmetic_sends
    arithmetic_goes q k h e t =
        let a = operand_finds o f r 1 (omega arith) in
        let b = operand_finds o f r 0 (omega arith) in
        goes_found (operand f 1) _ a.0 a.1 (goes_found (operand f 0) _ b.0 b.1 (by_answer a.0 b.0 (arithmetic (tried_primitive k) a.0 b.0) refl))
      where
        by_answer : (a b : ℕ) (x : Rattle.std.specs.declared.option.Option.Option ℕ) → arithmetic (tried_primitive k) a b ≡ x
            → Goes (or_sends x (λ w. pushed s f rest q (without f 2) w no_lookup) (sends room s f rest q (class_of o) (special_selector o k) 1))
        by_answer a b (Some w) p = answer_goes q 2 w h e (world.computes (tried_primitive k) a b w p)
        by_answer a b None p = send_goes q 1 h e (class_of o) (special_selector o k) t

    boolean_valid : (b : Bool) → T (is_valid o.n (boolean_word b))
    boolean_valid b = small_valid o.n (boolean_word b) world.least (boolean_small b)

    -- ---- jumps, pops
    -- the frame moved on without the k uppermost operands
    moves : (q k : ℕ) → k ≤ f.depth → note_at (method_table edition o f.method) q ≡ suc (f.depth - k) → Goes (leads_to (on_top s (popped f q k) rest) no_lookup)
    moves q k h e =
        run_on (popped f q k) refl refl
        (moved_right o true true f r q (without f k) (e ∙ ap suc (sym (without_length o f r k h))) (without_valid o f r k)) no_lookup tt

    jump_goes : (q ahead : ℕ) (condition : Bool) → 1 ≤ f.depth → note_at (method_table edition o f.method) q ≡ suc (f.depth - 1)
        → note_at (method_table edition o f.method) (q + ahead) ≡ suc (f.depth - 1) → Goes (jumps s f rest q condition ahead)
    unfolding jumps
    jump_goes q ahead condition h a b =
        let x = operand_finds o f r 0 h in
        goes_found (operand f 0) _ x.0 x.1
        (if_cases Goes (eqb x.0 (boolean_word condition)) _ _ (λ e. moves (q + ahead) 1 h b)
        (λ e. if_cases Goes (eqb x.0 Rattle.bytecode.specs.Constant.true_word || eqb x.0 Rattle.bytecode.specs.Constant.false_word) _ _ (λ y. moves q 1 h a) (λ y. tt)))

    -- the frame moved on with all its operands
    stays : (q : ℕ) → note_at (method_table edition o f.method) q ≡ suc f.depth → FrameRight edition o true (moved_to f q f.operands)
    stays q e = moved_right o true true f r q f.operands (e ∙ ap suc (sym r.depth)) r.valid_operands

    special_goes : (q k : ℕ) → suc (special_count k) ≤ f.depth → note_at (method_table edition o f.method) q ≡ suc (f.depth - suc (special_count k) + 1)
        → T (is_same k || (is_class k || send_fine o (special_selector o k) (special_count k))) → Goes (special_sends room s f rest q k)
    unfolding special_sends
    special_goes q k h e t =
        if_cases Goes (ltb k 16) _ _
        (λ a. let c = special_one k (ltb-true k 16 a) in
        arithmetic_goes q k (omega arith) (e ∙ ap (λ (j : ℕ). suc (f.depth - suc j + 1)) c)
        (subst (λ (j : ℕ). T (send_fine o (special_selector o k) j)) c (sends_rule k (ltb-true k 16 a) t)))
        (λ a. if_cases Goes (is_same k) _ _
        (λ b. let c = same_count k (eqb-true k 22 b) in
        let x = operand_finds o f r 1 (omega arith) in
        let y = operand_finds o f r 0 (omega arith) in
        goes_found (operand f 1) _ x.0 x.1 (goes_found (operand f 0) _ y.0 y.1
        (answer_goes q 2 (boolean_word (eqb x.0 y.0)) (omega arith) (e ∙ ap (λ (j : ℕ). suc (f.depth - suc j + 1)) c) (boolean_valid (eqb x.0 y.0)))))
        (λ b. if_cases Goes (is_class k) _ _
        (λ d. let c = class_count k (eqb-true k 23 d) in
        let x = operand_finds o f r 0 (omega arith) in
        goes_found (operand f 0) _ x.0 x.1
        (answer_goes q 1 (class_of o x.0) (omega arith) (e ∙ ap (λ (j : ℕ). suc (f.depth - suc j + 1)) c) (world.class_valid x.0 x.2)))
        (λ d. send_goes q (special_count k) h e (class_of o) (special_selector o k)
        (neither (is_same k) (is_class k) (send_fine o (special_selector o k) (special_count k)) b d t))))
      where
        same_count : (k : ℕ) → k ≡ 22 → special_count k ≡ 1
        same_count k p = ap special_count p ∙ special_same

        class_count : (k : ℕ) → k ≡ 23 → special_count k ≡ 0
        class_count k p = ap special_count p ∙ special_class

        neither : (a b c : Bool) → a ≡ false → b ≡ false → T (a || (b || c)) → T c
        neither true b c p q u = absurd (subst T p tt)
        neither false true c p q u = absurd (subst T q tt)
        neither false false c p q u = u

        sends_rule : (k : ℕ) → k < 16 → T (is_same k || (is_class k || send_fine o (special_selector o k) (special_count k))) → T (send_fine o (special_selector o k) (special_count k))
        sends_rule k l u =
            neither (is_same k) (is_class k) (send_fine o (special_selector o k) (special_count k))
            (borrow.Author.Tests.ne_eqb k 22 (λ p. omega arith)) (borrow.Author.Tests.ne_eqb k 23 (λ p. omega arith)) u

    pushed_note : (q : ℕ) → note_at (method_table edition o f.method) q ≡ suc (f.depth - 0 + 1) → note_at (method_table edition o f.method) q ≡ suc (suc (length f.operands))
    pushed_note q e = e ∙ ap suc (let l = r.depth in omega arith)

    sent_note : (q n : ℕ) → note_at (method_table edition o f.method) q ≡ suc (f.depth - (1 + n) + 1) → note_at (method_table edition o f.method) q ≡ suc (f.depth - suc n + 1)
    sent_note q n e = e ∙ ap suc (omega arith)

    -- ---- every instruction
    pub executes : (q : ℕ) (i : Instruction) → Now edition o f q i → Goes (execute room s f rest q i)
    unfolding execute need leaves successors allowed usable
    executes q (Push p) now =
        let x = place_finds p now.allowed in
        goes_found (read o f p) _ x.0 x.1
        (pushes true f refl refl r q f.operands x.0 (pushed_note q (now.goes q (Memᴰ.head refl))) r.valid_operands x.2 no_lookup tt)
    executes q (Store p) now =
        let x = operand_finds o f r 0 now.needs in
        goes_found (operand f 0) _ x.0 x.1
        (stores_place q f.operands (stays q (now.goes q (Memᴰ.head refl) ∙ ap suc (let h = now.needs in omega arith))) p x.0 now.allowed x.2)
    executes q (PopStore p) now =
        let x = operand_finds o f r 0 now.needs in
        goes_found (operand f 0) _ x.0 x.1
        (stores_place q (without f 1)
        (moved_right o true true f r q (without f 1) (now.goes q (Memᴰ.head refl) ∙ ap suc (let l = without_length o f r 1 now.needs in omega arith)) (without_valid o f r 1))
        p x.0 now.allowed x.2)
    executes q PushSelf now =
        pushes true f refl refl r q f.operands f.receiver (pushed_note q (now.goes q (Memᴰ.head refl))) r.valid_operands r.receiver no_lookup tt
    executes q (PushConstant w) now =
        pushes true f refl refl r q f.operands w (pushed_note q (now.goes q (Memᴰ.head refl))) r.valid_operands (small_valid o.n w world.least now.constant) no_lookup tt
    executes q ReturnSelf now = returns f.receiver r.receiver rest refl
    executes q (ReturnConstant w) now = returns w (small_valid o.n w world.least now.constant) rest refl
    executes q ReturnTop now =
        let x = operand_finds o f r 0 now.needs in
        goes_found (operand f 0) _ x.0 x.1 (returns x.0 x.2 rest refl)
    executes q Pop now =
        let x = operand_finds o f r 0 now.needs in
        goes_found (operand f 0) _ x.0 x.1 (moves q 1 now.needs (now.goes q (Memᴰ.head refl) ∙ ap suc (omega arith)))
    executes q Duplicate now =
        let x = operand_finds o f r 0 now.needs in
        goes_found (operand f 0) _ x.0 x.1
        (pushes true f refl refl r q f.operands x.0 (now.goes q (Memᴰ.head refl) ∙ ap suc (let h = now.needs in let l = r.depth in omega arith)) r.valid_operands x.2 no_lookup tt)
    executes q (Jump ahead back) now =
        goes_provided (leb back (q + ahead)) _ now.usable
        (run_on (moved_to f (q + ahead - back) f.operands) refl refl
        (stays (q + ahead - back) (now.goes (q + ahead - back)
        (subst (Memᴰ (q + ahead - back)) (sym (if_yes ((q + ahead - back) ∷ []) [] (T→true (leb back (q + ahead)) now.usable))) (Memᴰ.head refl))
        ∙ ap suc (omega arith))) no_lookup tt)
    executes q (JumpOn condition ahead) now =
        jump_goes q ahead condition now.needs (now.goes q (Memᴰ.head refl) ∙ ap suc (omega arith)) (now.goes (q + ahead) (Memᴰ.tail (Memᴰ.head refl)) ∙ ap suc (omega arith))
    executes q (Send l n) now =
        let a = ltb l (literal_count o f.method) in
        let b = send_fine o (literal o f.method l) n in
        let x = literal_finds l (and_left a b now.allowed) in
        goes_found (literal_of o f.method l) _ x.0 x.1
        (send_goes q n (let h = now.needs in omega arith) (sent_note q n (now.goes q (Memᴰ.head refl))) (class_of o) x.0
        (subst (λ (k : ℕ). T (send_fine o k n)) (sym (literal_is l x.0 x.1 (and_left a b now.allowed))) (and_right a b now.allowed)))
    executes q (SuperSend l n) now =
        let a = ltb l (literal_count o f.method) in
        let b = send_fine o (literal o f.method l) n in
        let x = literal_finds l (and_left a b now.allowed) in
        goes_found (literal_of o f.method l) _ x.0 x.1
        (send_goes q n (let h = now.needs in omega arith) (sent_note q n (now.goes q (Memᴰ.head refl))) (above_home s f) x.0
        (subst (λ (k : ℕ). T (send_fine o k n)) (sym (literal_is l x.0 x.1 (and_left a b now.allowed))) (and_right a b now.allowed)))
    executes q (SpecialSend k) now =
        special_goes q k (let h = now.needs in omega arith) (now.goes q (Memᴰ.head refl) ∙ ap suc (omega arith)) now.allowed
    executes q Unused now = absurd now.usable

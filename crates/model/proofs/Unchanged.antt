-- Lookups, class chains, argument counts and depth tables are the same in objects that extend others.
use Prim.Native.Nat.{ℕ, zero, suc, ◌+◌, ◌-◌, ◌/◌, ◌%◌, ◌≤◌, ◌<◌}
use mathlib.Core.Path.{◌≡◌, refl, sym, ap, ap₂, ◌∙◌, subst, fun_ext}
use mathlib.Core.Bool.{Bool, true, false, ◌&&◌, ◌||◌, not}
use mathlib.Core.List.{List, []}
use native.Mathlib.Omega.{arith}
use borrow.Author.Tests.{ltb-true}
use lib.Dec.{T, leb, ltb, eqb, ltb→lt, eqb→eq}
use Rattle.bytecode.specs.Test.{when◌then◌else◌, below, implies}
use Rattle.bytecode.specs.Constant.{nil_word}
use Rattle.bytecode.specs.Code.{next_at, decode_at, instruction_of, place_of, short_of, constant_of, extended_of, jump_of, send_of, byte_at, bytes_after}
use Rattle.bytecode.specs.Table.{place_index}
use Rattle.bytecode.specs.Effect.{need, usable, special_count}
use Rattle.bytecode.specs.declared.Place.{Place}
use Rattle.bytecode.specs.declared.Place.TheVariants.{Field, Temporary, Literal, LiteralVariable}
use Rattle.bytecode.specs.declared.Instruction.{Instruction}
use Rattle.bytecode.specs.declared.Instruction.TheVariants.{Push, Store, PopStore, PushSelf, PushConstant, ReturnSelf, ReturnConstant, ReturnTop, Pop, Duplicate, Jump, JumpOn, Send, SuperSend, SpecialSend, Unused}
use Rattle.bytecode.proofs.Choice.{if_cases, if_either}
use Rattle.bytecode.proofs.TestLaws.{true→T, and_left, and_right, and_both}
use Rattle.std.specs.Prelude.{Option, Some, None}
use Rattle.model.specs.declared.Pointer.{Pointer}
use Rattle.model.specs.Limits.{fields_kind, bytes_kind, class_kind, list_kind, method_kind, longest_chain, selectors_object, special_selectors}
use Rattle.model.specs.Word.{is_valid, pointer}
use Rattle.model.specs.Objects.{Objects, kind, size, is_kind, superclass_word, dictionary_word, pair_count, pair_selector, pair_method}
use Rattle.model.specs.Method.{literal, temporary_count, literal_count, code_words, code_size, frame_words, argument_count}
use Rattle.model.specs.Lookup.{found, find_from, find_in, lookup_within, lookup, dictionaries_within, dictionaries_read, in_chain_within, in_chain, ends_within}
use Rattle.model.specs.Depth.{walk_from, successorsAt, depthAfterAt, rulesAt, fineAt, depthTable}
use Rattle.model.specs.Rules.{takes_count, send_fine, variable_fine, place_fine, is_writable, special_selector, is_same, is_class, allowed, method_table, rule8}
use Rattle.model.proofs.ChainLaws.{named, class_hit, class_miss, no_class, read_hit, read_miss, read_none, chain_class, chain_none, ends_class, ends_none}
use Rattle.model.proofs.Parts.{below_same, up_to_same, implying}
use Rattle.model.proofs.Facts.{Right, naming, named_pointer, least, known_facts, inside_selectors, special_valid, class_facts, pair_facts, method_facts}
use Rattle.model.proofs.Extends.{Extends, valid_grows, kind_kept, kind_same, kind_valid, superclass_same, dictionary_same, pair_count_same, pair_selector_same, pair_method_same, home_fields_same, temporaries_same, literal_count_same, literal_same, frame_same, code_size_same, code_same, arguments_same}

-- a test behind another is asked only where that one holds
pub and_same : (a a' b b' : Bool) → a' ≡ a → (T a → b' ≡ b) → (a' && b') ≡ (a && b)
and_same true a' b b' p q = ap₂ ◌&&◌ p (q tt)
and_same false a' b b' p q = ap (λ (z : Bool). z && b') p

pub implies_same : (a a' b b' : Bool) → a' ≡ a → (T a → b' ≡ b) → implies a' b' ≡ implies a b
implies_same true a' b b' p q = ap₂ implies p (q tt)
implies_same false a' b b' p q = ap (λ (z : Bool). implies z b') p

-- How a search in a dictionary turns
module _ (o : Objects) where
  pub find_hit : (d s i left : ℕ) → eqb (pair_selector o d i) s ≡ true → find_from o d s i (suc left) ≡ found (pair_method o d i)
  unfolding find_from
  find_hit d s i left e = rw (e, find_from)

  pub find_miss : (d s i left : ℕ) → eqb (pair_selector o d i) s ≡ false → find_from o d s i (suc left) ≡ find_from o d s (suc i) left
  unfolding find_from
  find_miss d s i left e = rw (e, find_from)

module _ {e : ℕ} {o o' : Objects} (x : Extends o o') (r : Right e o) where
  -- lookups
  find_from_same : (d s i left : ℕ) → T (is_kind o list_kind d) → i + left ≤ pair_count o d → find_from o' d s i left ≡ find_from o d s i left
  unfolding find_from
  find_from_same d s i zero t h = refl
  find_from_same d s i (suc left) t h = go (eqb (pair_selector o d i) s) refl (find_from_same d s (suc i) left t (omega arith))
    where
      same : eqb (pair_selector o' d i) s ≡ eqb (pair_selector o d i) s
      same = ap (λ (w : ℕ). eqb w s) (pair_selector_same x r d i t (omega arith))

      go : (b : Bool) → eqb (pair_selector o d i) s ≡ b → find_from o' d s (suc i) left ≡ find_from o d s (suc i) left → find_from o' d s i (suc left) ≡ find_from o d s i (suc left)
      go true p ih = find_hit o' d s i left (same ∙ p) ∙ ap found (pair_method_same x r d i t (omega arith)) ∙ sym (find_hit o d s i left p)
      go false p ih = find_miss o' d s i left (same ∙ p) ∙ ih ∙ sym (find_miss o d s i left p)

  find_same : (c s : ℕ) → T (is_kind o class_kind c) → find_in o' (dictionary_word o' c) s ≡ find_in o (dictionary_word o c) s
  unfolding find_in
  find_same c s t =
      let l = (class_facts r c t).dictionary in
      let d : ℕ = dictionary_word o c in
      ap (λ (w : ℕ). find_from o' w s 0 (pair_count o' w)) (dictionary_same x r c t)
      ∙ ap (find_from o' d s 0) (pair_count_same x r d l)
      ∙ find_from_same d s 0 (pair_count o d) l (omega arith)

  -- turn by turn
  lookup_turns : (left s c : ℕ) → (lookup_within left o' s c ≡ lookup_within left o s c) × (dictionaries_within left o' s c ≡ dictionaries_within left o s c)
  unfolding lookup_within dictionaries_within
  lookup_turns zero s c = (refl, refl)
  lookup_turns (suc left) s c = go (is_kind o class_kind c) (find_in o (dictionary_word o c) s) refl refl (lookup_turns left s)
    where
      same : is_kind o' class_kind c ≡ is_kind o class_kind c
      same = kind_same x class_kind c (omega arith) (omega arith)

      go : (b : Bool) (f : Option Pointer) → is_kind o class_kind c ≡ b → find_in o (dictionary_word o c) s ≡ f
          → ((a : ℕ) → (lookup_within left o' s a ≡ lookup_within left o s a) × (dictionaries_within left o' s a ≡ dictionaries_within left o s a))
          → (lookup_within (suc left) o' s c ≡ lookup_within (suc left) o s c) × (dictionaries_within (suc left) o' s c ≡ dictionaries_within (suc left) o s c)
      go true (Some w) p q ih =
          let f' = find_same c s (true→T p) ∙ q in
          (class_hit o' left s c w.0 (same ∙ p) f' ∙ sym (class_hit o left s c w.0 p q), read_hit o' left s c w.0 (same ∙ p) f' ∙ sym (read_hit o left s c w.0 p q))
      go true None p q ih =
          let f' = find_same c s (true→T p) ∙ q in
          let up = superclass_same x r c (true→T p) in (
            class_miss o' left s c (same ∙ p) f' ∙ ap (lookup_within left o' s) up ∙ (ih (superclass_word o c)).0 ∙ sym (class_miss o left s c p q),
            read_miss o' left s c (same ∙ p) f' ∙ ap (λ (a : ℕ). suc (dictionaries_within left o' s a)) up ∙ ap suc (ih (superclass_word o c)).1 ∙ sym (read_miss o left s c p q),
          )
      go false f p q ih =
          (no_class o' (suc left) s c (same ∙ p) ∙ sym (no_class o (suc left) s c p), read_none o' (suc left) s c (same ∙ p) ∙ sym (read_none o (suc left) s c p))

  -- what is found, and how many dictionaries are read
  pub walk_same : (s c : ℕ) → (lookup o' s c ≡ lookup o s c) × (dictionaries_read o' s c ≡ dictionaries_read o s c)
  unfolding lookup dictionaries_read
  walk_same s c = lookup_turns longest_chain s c

  pub lookup_same : (s c : ℕ) → lookup o' s c ≡ lookup o s c
  lookup_same s c = (walk_same s c).0

  -- chains
  chain_turns : (left a c : ℕ) → in_chain_within left o' a c ≡ in_chain_within left o a c
  unfolding in_chain_within
  chain_turns zero a c = refl
  chain_turns (suc left) a c = go (is_kind o class_kind c) refl (chain_turns left a)
    where
      same : is_kind o' class_kind c ≡ is_kind o class_kind c
      same = kind_same x class_kind c (omega arith) (omega arith)

      go : (b : Bool) → is_kind o class_kind c ≡ b → ((w : ℕ) → in_chain_within left o' a w ≡ in_chain_within left o a w) → in_chain_within (suc left) o' a c ≡ in_chain_within (suc left) o a c
      go true p ih =
          chain_class o' left a c (same ∙ p) ∙ ap (λ (w : ℕ). eqb a c || in_chain_within left o' a w) (superclass_same x r c (true→T p))
          ∙ ap (λ (z : Bool). eqb a c || z) (ih (superclass_word o c)) ∙ sym (chain_class o left a c p)
      go false p ih = chain_none o' (suc left) a c (same ∙ p) ∙ sym (chain_none o (suc left) a c p)

  pub chain_same : (a c : ℕ) → in_chain o' a c ≡ in_chain o a c
  unfolding in_chain
  chain_same a c = chain_turns longest_chain a c

  pub ends_same : (left c : ℕ) → ends_within left o' c ≡ ends_within left o c
  unfolding ends_within
  ends_same zero c = ap not (kind_same x class_kind c (omega arith) (omega arith))
  ends_same (suc left) c = go (is_kind o class_kind c) refl (ends_same left)
    where
      same : is_kind o' class_kind c ≡ is_kind o class_kind c
      same = kind_same x class_kind c (omega arith) (omega arith)

      go : (b : Bool) → is_kind o class_kind c ≡ b → ((w : ℕ) → ends_within left o' w ≡ ends_within left o w) → ends_within (suc left) o' c ≡ ends_within (suc left) o c
      go true p ih =
          ends_class o' left c (same ∙ p) ∙ ap (ends_within left o') (superclass_same x r c (true→T p)) ∙ ih (superclass_word o c) ∙ sym (ends_class o left c p)
      go false p ih = ends_none o' (suc left) c (same ∙ p) ∙ sym (ends_none o (suc left) c p)

  -- argument counts
  abbrev counts : Objects → ℕ → ℕ → ℕ → Bool
  counts y s n d = below (pair_count y d) (λ i. implies (eqb (pair_selector y d i) s) (eqb (argument_count y (pair_method y d i)) n))

  counts_same : (s n c : ℕ) → T (is_kind o class_kind c) → counts o' s n (dictionary_word o' c) ≡ counts o s n (dictionary_word o c)
  counts_same s n c t =
      let l = (class_facts r c t).dictionary in
      let d : ℕ = dictionary_word o c in
      ap (counts o' s n) (dictionary_same x r c t)
      ∙ ap (λ (k : ℕ). below k (λ i. implies (eqb (pair_selector o' d i) s) (eqb (argument_count o' (pair_method o' d i)) n))) (pair_count_same x r d l)
      ∙ below_same (pair_count o d) (λ i. implies (eqb (pair_selector o d i) s) (eqb (argument_count o (pair_method o d i)) n))
      (λ i. implies (eqb (pair_selector o' d i) s) (eqb (argument_count o' (pair_method o' d i)) n))
      (λ i h. ap₂ (λ (a b : ℕ). implies (eqb a s) (eqb b n)) (pair_selector_same x r d i l h)
      (ap (argument_count o') (pair_method_same x r d i l h) ∙ arguments_same x r (pair_method o d i) (pair_facts r c i t h).method))

  pub count_same : (s n : ℕ) → takes_count o' s n ≡ takes_count o s n
  unfolding takes_count
  count_same s n =
      up_to_same o.n o'.n (λ k. implies (eqb (kind o k) class_kind) (counts o s n (dictionary_word o (pointer k))))
      (λ k. implies (eqb (kind o' k) class_kind) (counts o' s n (dictionary_word o' (pointer k)))) x.grows
      (λ k h g. implies_same (eqb (kind o k) class_kind) (eqb (kind o' k) class_kind) (counts o s n (dictionary_word o (pointer k))) (counts o' s n (dictionary_word o' (pointer k)))
      (ap (λ (z : ℕ). eqb z class_kind) (x.entries k 1 h g (omega arith)))
      (λ t. counts_same s n (pointer k) (subst (λ (z : ℕ). T (is_kind o z (pointer k))) (eqb→eq (kind o k) class_kind t) (naming o (kind o k) (pointer k) (named_pointer o k h g)))))
      (λ k h g. implying (eqb (kind o' k) class_kind) (counts o' s n (dictionary_word o' (pointer k)))
      (λ t. let b = eqb→eq (kind o' k) class_kind t in let a = x.new k h g (omega arith) in absurd (omega arith)))

  pub send_same : (s n : ℕ) → T (is_valid o.n s) → send_fine o' s n ≡ send_fine o s n
  unfolding send_fine
  send_same s n v = ap₂ (λ (a b : Bool). (eqb s nil_word || a) && b) (kind_valid x bytes_kind s v) (count_same s n)

  variable_same : (w : ℕ) → T (is_valid o.n w) → variable_fine o' w ≡ variable_fine o w
  unfolding variable_fine
  variable_same w v =
      and_same (is_kind o fields_kind w) (is_kind o' fields_kind w) (leb 2 (size o (w / 2))) (leb 2 (size o' (w / 2))) (kind_valid x fields_kind w v)
      (λ t. let h = named o fields_kind w t in ap (leb 2) (x.entries (w / 2) 3 h.least h.most (omega arith)))

-- Special sends of code are 32, and places have 6 bits: no instruction of another number is decoded.
abbrev pub Small : Instruction → Type 0
Small (Push p) = place_index p < 64
Small (Store p) = place_index p < 64
Small (PopStore p) = place_index p < 64
Small PushSelf = Unit {0}
Small (PushConstant w) = Unit {0}
Small ReturnSelf = Unit {0}
Small (ReturnConstant w) = Unit {0}
Small ReturnTop = Unit {0}
Small Pop = Unit {0}
Small Duplicate = Unit {0}
Small (Jump a b) = Unit {0}
Small (JumpOn y a) = Unit {0}
Small (Send l n) = Unit {0}
Small (SuperSend l n) = Unit {0}
Small (SpecialSend k) = k < special_selectors
Small Unused = Unit {0}

small_if : (b : Bool) (i j : Instruction) → Small i → Small j → Small (when b then i else j)
small_if b i j s t = if_cases Small b i j (λ p. s) (λ p. t)

small_place : (x : ℕ) → place_index (place_of x) < 64
unfolding place_of place_index
small_place x =
    if_either (λ (p : Place). place_index p < 64) (ltb x 64) _ _ (omega arith)
    (if_either (λ (p : Place). place_index p < 64) (ltb x 128) _ _ (omega arith)
    (if_either (λ (p : Place). place_index p < 64) (ltb x 192) _ _ (omega arith) (omega arith)))

small_short : (b : ℕ) → Small (short_of b)
unfolding short_of place_index
small_short b =
    small_if _ _ _ (omega arith) (small_if _ _ _ (omega arith) (small_if _ _ _ (omega arith) (small_if _ _ _ (omega arith) (small_if _ _ _ (omega arith) (omega arith)))))

small_constant : (b : ℕ) → Small (constant_of b)
unfolding constant_of
small_constant b = small_if _ _ _ tt (small_if _ _ _ tt (small_if _ _ _ tt (small_if _ _ _ tt (small_if _ _ _ tt tt))))

small_extended : (b : ℕ) (f : ℕ → ℕ) → Small (extended_of b f)
unfolding extended_of
small_extended b f =
    let place = small_place (f 1) in
    small_if _ _ _ place (small_if _ _ _ place (small_if _ _ _ place
    (small_if _ _ _ tt (small_if _ _ _ tt (small_if _ _ _ tt (small_if _ _ _ tt (small_if _ _ _ tt (small_if _ _ _ tt tt))))))))

small_jump : (b y : ℕ) → Small (jump_of b y)
unfolding jump_of
small_jump b y = small_if _ _ _ tt (small_if _ _ _ tt (small_if _ _ _ tt (small_if _ _ _ tt tt)))

small_send : (b : ℕ) → Small (send_of b)
unfolding send_of
small_send b = if_cases Small (ltb b 208) (SpecialSend (b - 176)) (Send (b % 16) ((b - 208) / 16)) (λ p. let h = ltb-true b 208 p in omega arith) (λ p. tt)

pub small_instruction : (b : ℕ) (f : ℕ → ℕ) → Small (instruction_of b f)
unfolding instruction_of
small_instruction b f = small_if _ _ _ (small_short b) (small_if _ _ _ (small_constant b) (small_if _ _ _ (small_extended b f) (small_if _ _ _ (small_jump b (f 1)) (small_send b))))

pub small_at : (words : List ℕ) (size p : ℕ) → Small (decode_at words size p)
unfolding decode_at
small_at words size p = small_if _ _ _ (small_if _ _ _ (small_instruction (byte_at words p) (bytes_after words p)) tt) tt

module _ {e : ℕ} {o o' : Objects} (x : Extends o o') (r : Right e o) where
  pub special_same : (k : ℕ) → k < special_selectors → special_selector o' k ≡ special_selector o k
  special_same k h = let l = least r in let a = (known_facts r).selectors in x.bodies selectors_object k (omega arith) (omega arith) (omega arith) (inside_selectors r k h)

  module _ (m : ℕ) (t : T (is_kind o method_kind m)) where
    inside_literals : (i : ℕ) → T (ltb i (literal_count o m)) → i < literal_count o m
    inside_literals i q = ltb→lt i (literal_count o m) q

    at_literal : (i : ℕ) (f f' : ℕ → Bool) → ((w : ℕ) → T (is_valid o.n w) → f' w ≡ f w)
        → (ltb i (literal_count o' m) && f' (literal o' m i)) ≡ (ltb i (literal_count o m) && f (literal o m i))
    at_literal i f f' h =
        and_same (ltb i (literal_count o m)) (ltb i (literal_count o' m)) (f (literal o m i)) (f' (literal o' m i)) (ap (ltb i) (literal_count_same x r m t))
        (λ q. ap f' (literal_same x r m t i (inside_literals i q)) ∙ h (literal o m i) ((method_facts r m t).literals i (inside_literals i q)))

    place_same : (p : Place) → place_fine o' m p ≡ place_fine o m p
    unfolding place_fine
    place_same (Field i) = ap (ltb i) (home_fields_same x r m t)
    place_same (Temporary i) = ap (ltb i) (temporaries_same x r m t)
    place_same (Literal i) = ap (ltb i) (literal_count_same x r m t)
    place_same (LiteralVariable i) = at_literal i (variable_fine o) (variable_fine o') (variable_same x r)

    -- the rules of an instruction
    pub allowed_same : (i : Instruction) → Small i → allowed e o' m i ≡ allowed e o m i
    unfolding allowed
    allowed_same (Push p) s = place_same p
    allowed_same (Store p) s = ap (λ (b : Bool). is_writable p && b) (place_same p)
    allowed_same (PopStore p) s = ap (λ (b : Bool). is_writable p && b) (place_same p)
    allowed_same PushSelf s = refl
    allowed_same (PushConstant w) s = refl
    allowed_same ReturnSelf s = refl
    allowed_same (ReturnConstant w) s = refl
    allowed_same ReturnTop s = refl
    allowed_same Pop s = refl
    allowed_same Duplicate s = refl
    allowed_same (Jump a b) s = refl
    allowed_same (JumpOn y a) s = refl
    allowed_same (Send l n) s = at_literal l (λ w. send_fine o w n) (λ w. send_fine o' w n) (λ w v. send_same x r w n v)
    allowed_same (SuperSend l n) s = at_literal l (λ w. send_fine o w n) (λ w. send_fine o' w n) (λ w v. send_same x r w n v)
    allowed_same (SpecialSend k) s =
        ap (λ (b : Bool). is_same k || (is_class k || b))
        (ap (λ (w : ℕ). send_fine o' w (special_count k)) (special_same k s) ∙ send_same x r (special_selector o k) (special_count k) (special_valid r k s))
    allowed_same Unused s = refl

    fine_same : (ws : List ℕ) (sz tc fw p d : ℕ) → fineAt ws sz tc fw (allowed e o' m) p d ≡ fineAt ws sz tc fw (allowed e o m) p d
    unfolding fineAt rulesAt
    fine_same ws sz tc fw p d =
        ap (λ (b : Bool). usable (next_at ws p) (decode_at ws sz p) && (b && (leb (need (decode_at ws sz p)) d && (leb (tc + d) fw && true)))) (allowed_same (decode_at ws sz p) (small_at ws sz p))

    rules_same : (ws : List ℕ) (sz tc fw : ℕ) → depthTable ws sz tc fw (allowed e o' m) ≡ depthTable ws sz tc fw (allowed e o m)
    unfolding depthTable
    rules_same ws sz tc fw = ap (λ (f : ℕ → ℕ → Bool). walk_from f (successorsAt ws sz) (depthAfterAt ws sz) sz) (fun_ext (λ p. fun_ext (λ d. fine_same ws sz tc fw p d)))

    pub table_same : method_table e o' m ≡ method_table e o m
    unfolding method_table
    table_same =
        ap₂ (λ (ws : List ℕ) (sz : ℕ). depthTable ws sz (temporary_count o' m) (frame_words o' m) (allowed e o' m)) (code_same x r m t) (code_size_same x r m t)
        ∙ ap₂ (λ (a b : ℕ). depthTable (code_words o m) (code_size o m) a b (allowed e o' m)) (temporaries_same x r m t) (frame_same x r m t)
        ∙ rules_same (code_words o m) (code_size o m) (temporary_count o m) (frame_words o m)

-- start words stay right
pub start_same : {o o' : Objects} → Extends o o' → (w s : ℕ) → T (rule8 o w s []) → T (rule8 o' w s [])
unfolding rule8
start_same {o} {o'} x w s t =
    and_both (is_valid o'.n w) (is_kind o' bytes_kind s && true) (valid_grows x w (and_left (is_valid o.n w) (is_kind o bytes_kind s && true) t))
    (and_both (is_kind o' bytes_kind s) true (kind_kept x bytes_kind s (and_left (is_kind o bytes_kind s) true (and_right (is_valid o.n w) (is_kind o bytes_kind s && true) t))) tt)

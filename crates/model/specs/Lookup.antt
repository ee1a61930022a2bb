-- Lookup and the class chain (01, "Plain machine": lookup; 02, M-101, M-102, M-105). Classes are given by their words. A chain has at most 24 classes,
-- so lookups and tests of a chain need no more turns.
use Rattle.std.specs.Prelude.{ℕ, zero, suc, ◌+◌, ◌≤◌, ◌<◌, ◌≡◌, Bool, true, false, ◌||◌, not, eqb, ltb, Option, Some, None}
use Rattle.model.specs.declared.Pointer.{Pointer}
use Rattle.model.specs.Limits.{class_kind, longest_chain}
use Rattle.model.specs.Objects.{Objects, is_kind, superclass_word, dictionary_word, pair_count, pair_selector, pair_method}

abbrev pub found : ℕ → Option Pointer
found m = Some (record { 0 = m })

-- The method under a selector in a dictionary, sought in the pairs i, i + 1, .., `left` of them
unfoldable pub find_from : Objects → ℕ → ℕ → ℕ → ℕ → Option Pointer
find_from o d s i zero = None
find_from o d s i (suc left) =
    elim (eqb (pair_selector o d i) s) [ true ↦ found (pair_method o d i) | false ↦ find_from o d s (suc i) left ]

unfoldable pub find_in : Objects → ℕ → ℕ → Option Pointer
find_in o d s = find_from o d s 0 (pair_count o d)

-- Dictionaries along a chain, at most `left` of them
unfoldable pub lookup_within : ℕ → Objects → ℕ → ℕ → Option Pointer
lookup_within zero o s c = None
lookup_within (suc left) o s c =
    elim (is_kind o class_kind c) [
      | true ↦ elim (find_in o (dictionary_word o c) s) [ Some m ↦ Some m | None ↦ lookup_within left o s (superclass_word o c) ]
      | false ↦ None
    ]

unfoldable pub lookup : Objects → ℕ → ℕ → Option Pointer
lookup o s c = lookup_within longest_chain o s c

-- How many dictionaries a lookup reads (02, M-105): those from the class where it starts to the one that has the method, both counted, a shared one each time. 02
-- asks for the number of a lookup that finds; of one that fails it is all of the chain.
unfoldable pub dictionaries_within : ℕ → Objects → ℕ → ℕ → ℕ
dictionaries_within zero o s c = 0
dictionaries_within (suc left) o s c =
    elim (is_kind o class_kind c) [
      | true ↦ suc (elim (find_in o (dictionary_word o c) s) [ Some m ↦ 0 | None ↦ dictionaries_within left o s (superclass_word o c) ])
      | false ↦ 0
    ]

unfoldable pub dictionaries_read : Objects → ℕ → ℕ → ℕ
dictionaries_read o s c = dictionaries_within longest_chain o s c

-- How many pairs a lookup reads that leaves each dictionary at the first selector not below the one sought (02, M-102). Where selectors rise it
-- finds what `lookup` finds: none behind that one is the one sought. 02 asks for the number where the selector has kind 1; it is defined for
-- every word. In a dictionary, of the pairs i, i + 1, .., `left` of them:
unfoldable pub pairs_from : Objects → ℕ → ℕ → ℕ → ℕ → ℕ
pairs_from o d s i zero = 0
pairs_from o d s i (suc left) = elim (ltb (pair_selector o d i) s) [ true ↦ suc (pairs_from o d s (suc i) left) | false ↦ 1 ]

unfoldable pub pairs_in : Objects → ℕ → ℕ → ℕ
pairs_in o d s = pairs_from o d s 0 (pair_count o d)

-- along a chain, up to the dictionary that has the selector
unfoldable pub pairs_within : ℕ → Objects → ℕ → ℕ → ℕ
pairs_within zero o s c = 0
pairs_within (suc left) o s c =
    elim (is_kind o class_kind c) [
      | true ↦ pairs_in o (dictionary_word o c) s + elim (find_in o (dictionary_word o c) s) [ Some m ↦ 0 | None ↦ pairs_within left o s (superclass_word o c) ]
      | false ↦ 0
    ]

unfoldable pub pairs_read : Objects → ℕ → ℕ → ℕ
pairs_read o s c = pairs_within longest_chain o s c

-- Class a is c or above it.
unfoldable pub in_chain_within : ℕ → Objects → ℕ → ℕ → Bool
in_chain_within zero o a c = false
in_chain_within (suc left) o a c =
    elim (is_kind o class_kind c) [ true ↦ eqb a c || in_chain_within left o a (superclass_word o c) | false ↦ false ]

unfoldable pub in_chain : Objects → ℕ → ℕ → Bool
in_chain o a c = in_chain_within longest_chain o a c

-- Whether a chain has at most `left` classes
unfoldable pub ends_within : ℕ → Objects → ℕ → Bool
ends_within zero o c = not (is_kind o class_kind c)
ends_within (suc left) o c = elim (is_kind o class_kind c) [ true ↦ ends_within left o (superclass_word o c) | false ↦ true ]

-- The same without a bound, as statements. The tests decide them: proofs/ChainLaws.antt and, for right objects, proofs/LookupLaws.antt.
-- The chain of c has k classes: c, then the class that its superclass word names, and so on, up to the first word that names no class
-- (02, M-101). One that goes round has no such k.
pub data Chain (o : Objects) : ℕ → ℕ → Type 0 where
  none : {c : ℕ} → is_kind o class_kind c ≡ false → Chain o c 0
  more : {c k : ℕ} → is_kind o class_kind c ≡ true → Chain o (superclass_word o c) k → Chain o c (suc k)

-- k pairs of a dictionary are those up to and with the first selector not below s; all, where each is below.
pub data PairsUpTo (o : Objects) (d s : ℕ) : ℕ → Type 0 where
  first : {i : ℕ} → i < pair_count o d → ((j : ℕ) → j < i → pair_selector o d j < s) → s ≤ pair_selector o d i → PairsUpTo o d s (suc i)
  all : ((j : ℕ) → j < pair_count o d → pair_selector o d j < s) → PairsUpTo o d s (pair_count o d)

-- A lookup from c comes to f, and reads k dictionaries and p of their pairs.
pub data Looks (o : Objects) (s : ℕ) : ℕ → Option Pointer → ℕ → ℕ → Type 0 where
  ended : {c : ℕ} → is_kind o class_kind c ≡ false → Looks o s c None 0 0
  here : {c m p : ℕ} → is_kind o class_kind c ≡ true → find_in o (dictionary_word o c) s ≡ found m → PairsUpTo o (dictionary_word o c) s p → Looks o s c (found m) 1 p
  above : {c k p q : ℕ} {f : Option Pointer} → is_kind o class_kind c ≡ true → find_in o (dictionary_word o c) s ≡ None → PairsUpTo o (dictionary_word o c) s p
      → Looks o s (superclass_word o c) f k q → Looks o s c f (suc k) (p + q)

-- Class a is c or above it.
pub data InChain (o : Objects) (a : ℕ) : ℕ → Type 0 where
  same : {c : ℕ} → is_kind o class_kind c ≡ true → a ≡ c → InChain o a c
  higher : {c : ℕ} → is_kind o class_kind c ≡ true → InChain o a (superclass_word o c) → InChain o a c

-- For whoever budgets a lookup: it ends, comes to what `lookup` says, and reads as many dictionaries as `dictionaries_read` says, at most 24, and as many of
-- their pairs as `pairs_read` says, whether it finds or fails.
pub record ReadsFew (o : Objects) (s c : ℕ) : Type 0 where
  pub ends : Looks o s c (lookup o s c) (dictionaries_read o s c) (pairs_read o s c)
  pub few : (f : Option Pointer) (k p : ℕ) → Looks o s c f k p → (f ≡ lookup o s c) × (k ≡ dictionaries_read o s c) × (k ≤ longest_chain) × (p ≡ pairs_read o s c)

-- Chains and lookups in right objects: rule 14 is the statement about chains, and 24 turns are all that a walk needs (02, M-101).
use Prim.Native.Nat.{ℕ, ◌≤◌}
use mathlib.Core.Path.{◌≡◌, refl, subst}
use mathlib.Core.Logic.{◌↔◌}
use mathlib.Core.Bool.{Bool, true, false}
use lib.Dec.{T}
use Rattle.bytecode.proofs.TestLaws.{true→T}
use Rattle.std.specs.Prelude.{None}
use Rattle.model.specs.Limits.{class_kind, longest_chain}
use Rattle.model.specs.Objects.{Objects, is_kind, superclass_word}
use Rattle.model.specs.Lookup.{lookup, dictionaries_read, pairs_read, in_chain, ends_within, Chain, InChain, same, higher, ReadsFew}
use Rattle.model.specs.Rules.{rule14}
use Rattle.model.proofs.ChainLaws.{no_class, read_within, ends_none, decides_chain, looks, looks_few, test→in, in→test}
use Rattle.model.proofs.Facts.{Right, short_chain, chains_rule, chain_ends}

pub decides_chains : (o : Objects) → T (rule14 o) ↔ ((c : ℕ) → T (is_kind o class_kind c) → (k : ℕ) × (Chain o c k × (k ≤ longest_chain)))
decides_chains o =
    (λ t c q. (decides_chain o longest_chain c).0 (short_chain o t c q), λ f. chains_rule o (λ c q. (decides_chain o longest_chain c).1 (f c q)))

-- from a word that names no class
pub lookup_none : (o : Objects) (s c : ℕ) → is_kind o class_kind c ≡ false → lookup o s c ≡ None
unfolding lookup
lookup_none o s c p = no_class o longest_chain s c p

-- a lookup reads at most 24 dictionaries, in any objects
pub read_few : (o : Objects) (s c : ℕ) → dictionaries_read o s c ≤ longest_chain
unfolding dictionaries_read
read_few o s c = read_within o longest_chain s c

in_joined : {o : Objects} {a h c : ℕ} → InChain o a (superclass_word o h) → InChain o h c → InChain o a c
in_joined {o = o} {a = a} i (same {c = c} p e) = higher p (subst (λ (w : ℕ). InChain o a (superclass_word o w)) e i)
in_joined i (higher p j) = higher p (in_joined i j)

module _ {e : ℕ} {o : Objects} (r : Right e o) where
  -- a word that names no class has a chain of none
  ends : (c : ℕ) → T (ends_within longest_chain o c)
  ends c = go (is_kind o class_kind c) refl
    where
      go : (b : Bool) → is_kind o class_kind c ≡ b → T (ends_within longest_chain o c)
      go true p = chain_ends r c (true→T p)
      go false p = true→T (ends_none o longest_chain c p)

  pub reads_few : (s c : ℕ) → ReadsFew o s c
  unfolding lookup dictionaries_read pairs_read
  reads_few s c = record { ends = looks o longest_chain s c (ends c); few = λ f k p l. looks_few o longest_chain s c k f (ends c) l }

  pub decides_in : (a c : ℕ) → T (in_chain o a c) ↔ InChain o a c
  unfolding in_chain
  decides_in a c = (test→in o longest_chain a c, in→test o longest_chain a c (ends c))

  -- what is above a class that is above another is above that one
  pub chain_joined : (a h c : ℕ) → T (in_chain o a (superclass_word o h)) → T (in_chain o h c) → T (in_chain o a c)
  chain_joined a h c s t = (decides_in a c).1 (in_joined ((decides_in a (superclass_word o h)).0 s) ((decides_in h c).0 t))

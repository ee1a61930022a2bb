-- A word stored into fields, or a byte into bytes, leaves right objects right and extends them.
use Prim.Native.Nat.{ℕ, ◌+◌, ◌-◌, ◌*◌, ◌/◌, ◌%◌, ◌≤◌, ◌<◌}
use mathlib.Core.Path.{◌≡◌, refl, sym, ap, ◌∙◌, subst}
use mathlib.Core.Logic.{◌≢◌, ◌⊎◌, inl, inr}
use native.Mathlib.Omega.{arith}
use native.Mathlib.Decide.{ℕ_discrete, dec_lt}
use borrow.Author.Tests.{eq-eqb}
use lib.Dec.{T}
use lib.ListN.{length-set}
use lib.Seq.{get_or-set_same, get_or-set_other}
use Rattle.bytecode.proofs.Choice.{if_yes}
use Rattle.model.specs.Limits.{fields_kind, bytes_kind, method_kind}
use Rattle.model.specs.Word.{is_valid}
use Rattle.model.specs.Objects.{Objects, kind, start, size, sized_in_bytes, body_words, body_word}
use Rattle.model.specs.Primitive.{store_word, store_byte}
use Rattle.model.proofs.Facts.{Right, Padded, in_words, in_bytes, bytes_cases, sized_at, layout, last_end, apart, inside, word_valid}
use Rattle.model.proofs.Extends.{Extends}
use Rattle.model.proofs.RightLaws.{Renewed, right_kept}

byte_kind : (k : ℕ) → k ≤ 1 → T (sized_in_bytes k) → k ≡ bytes_kind
byte_kind k h t = go (bytes_cases k t)
  where
    go : (k ≡ bytes_kind) ⊎ (k ≡ method_kind) → k ≡ bytes_kind
    go (inl p) = p
    go (inr p) = absurd (omega arith)

-- A word of a body of fields or bytes
module _ {e : ℕ} {o : Objects} (r : Right e o) (k j w : ℕ) (h : 1 ≤ k) (g : k ≤ o.n) (a : kind o k ≤ 1) (l : j < body_words o k) where
  pub put_words : (i : ℕ) → body_words (store_word o k j w) i ≡ body_words o i
  unfolding store_word body_words
  put_words i = refl

  pub put_here : body_word (store_word o k j w) k j ≡ w
  unfolding store_word
  put_here =
      let q = inside r k h g in
      let s = r.bodies in
      get_or-set_same o.bodies (start o k + j) w 0 (omega arith)

  pub put_there : (i : ℕ) → i ≢ j → body_word (store_word o k j w) k i ≡ body_word o k i
  unfolding store_word
  put_there i d = get_or-set_other o.bodies (start o k + j) (start o k + i) w 0 (omega arith)

  pub put_elsewhere : (m i : ℕ) → 1 ≤ m → m ≤ o.n → m ≢ k → i < body_words o m → body_word (store_word o k j w) m i ≡ body_word o m i
  unfolding store_word
  put_elsewhere m i b c d f = get_or-set_other o.bodies (start o k + j) (start o m + i) w 0 (other (dec_lt k m))
    where
      other : Dec (k < m) → start o m + i ≢ start o k + j
      other (yes q) = let s = apart r k m h q c in omega arith
      other (no q) = let s = apart r m k b (omega arith) g in omega arith

  pub put_extends : Extends o (store_word o k j w)
  unfolding store_word
  put_extends =
      record {
        grows = omega arith;
        longer = let s = length-set o.bodies (start o k + j) w in omega arith;
        entries = λ m i b c d. refl;
        bodies = λ m i b c d f. put_elsewhere m i b c (λ p. let q : kind o m ≡ kind o k = ap (kind o) p in omega arith) f;
        new = λ m b c. absurd (omega arith);
      }

  -- it is valid in fields, and leaves the padding of bytes
  module _ (valid : kind o k ≡ fields_kind → T (is_valid o.n w))
      (padding : kind o k ≡ bytes_kind → size o k % 2 ≡ 1 → j ≡ body_words o k - 1 → w % 256 ≡ 0) where
    put_padded : (m : ℕ) → 1 ≤ m → m ≤ o.n → Padded (store_word o k j w) m
    unfolding store_word
    put_padded m b c t s =
        let n = put_words m in
        let old : body_word o m (body_words o m - 1) % 256 ≡ 0 = (layout r m b c).padded t s in
        let z = in_bytes o m t in
        ap (λ (i : ℕ). body_word (store_word o k j w) m i % 256) (ap (λ (i : ℕ). i - 1) n) ∙ go old (omega arith) (ℕ_discrete m k) (ℕ_discrete (body_words o m - 1) j)
      where
        go : body_word o m (body_words o m - 1) % 256 ≡ 0 → body_words o m - 1 < body_words o m → Dec (m ≡ k) → Dec (body_words o m - 1 ≡ j) → body_word (store_word o k j w) m (body_words o m - 1) % 256 ≡ 0
        go old lt (no p) q = ap (λ (x : ℕ). x % 256) (put_elsewhere m (body_words o m - 1) b c p lt) ∙ old
        go old lt (yes p) (no q) =
            ap (λ (x : ℕ). body_word (store_word o k j w) x (body_words o m - 1) % 256) p ∙ ap (λ (x : ℕ). x % 256) (put_there (body_words o m - 1) q)
            ∙ ap (λ (x : ℕ). body_word o x (body_words o m - 1) % 256) (sym p) ∙ old
        go old lt (yes p) (yes q) =
            ap (λ (x : ℕ). body_word (store_word o k j w) x (body_words o m - 1) % 256) p ∙ ap (λ (x : ℕ). body_word (store_word o k j w) k x % 256) q ∙ ap (λ (x : ℕ). x % 256) put_here
            ∙ padding (byte_kind (kind o k) a (subst (λ (x : ℕ). T (sized_in_bytes (kind o x))) p t)) (ap (λ (x : ℕ). size o x % 2) (sym p) ∙ s) (sym q ∙ ap (λ (x : ℕ). body_words o x - 1) p)

    put_fields : (m i : ℕ) → 1 ≤ m → m ≤ o.n → kind o m ≡ fields_kind → i < body_words o m → T (is_valid o.n (body_word (store_word o k j w) m i))
    put_fields m i b c d f = go (ℕ_discrete m k) (ℕ_discrete i j)
      where
        old : T (is_valid o.n (body_word o m i))
        old = word_valid r m i b c (omega arith) (omega arith) f

        go : Dec (m ≡ k) → Dec (i ≡ j) → T (is_valid o.n (body_word (store_word o k j w) m i))
        go (no p) q = subst (λ (x : ℕ). T (is_valid o.n x)) (sym (put_elsewhere m i b c p f)) old
        go (yes p) (no q) =
            subst (λ (x : ℕ). T (is_valid o.n x)) (sym (ap (λ (x : ℕ). body_word (store_word o k j w) x i) p ∙ put_there i q ∙ ap (λ (x : ℕ). body_word o x i) (sym p))) old
        go (yes p) (yes q) =
            subst (λ (x : ℕ). T (is_valid o.n x)) (sym (ap (λ (x : ℕ). body_word (store_word o k j w) x i) p ∙ ap (λ (x : ℕ). body_word (store_word o k j w) k x)
            q ∙ put_here)) (valid (ap (kind o) (sym p) ∙ d))

    put_renewed : Renewed e o (store_word o k j w)
    unfolding store_word body_words
    put_renewed =
        record {
          contents = r.contents;
          bodies = length-set o.bodies (start o k + j) w ∙ r.bodies;
          sizes = r.sizes;
          last = last_end r;
          padded = put_padded;
          fields = put_fields;
          laid = λ m b c. absurd (omega arith);
          room = λ m b c. absurd (omega arith);
          classes = λ m b c. absurd (omega arith);
          fitting = λ m b c. absurd (omega arith);
        }

    pub put_right : Right e (store_word o k j w)
    put_right = right_kept put_extends r put_renewed

pub stored_extends : {e : ℕ} {o : Objects} → Right e o → (k i w : ℕ) → 1 ≤ k → k ≤ o.n → kind o k ≡ fields_kind → i < size o k → Extends o (store_word o k i w)
stored_extends {o = o} r k i w h g a l = let q = in_words o k (omega arith) (omega arith) in put_extends r k i w h g (omega arith) (omega arith)

pub stored_right : {e : ℕ} {o : Objects} → Right e o → (k i w : ℕ) → 1 ≤ k → k ≤ o.n → kind o k ≡ fields_kind → i < size o k → T (is_valid o.n w) → Right e (store_word o k i w)
stored_right {o = o} r k i w h g a l v = let q = in_words o k (omega arith) (omega arith) in put_right r k i w h g (omega arith) (omega arith) (λ p. v) (λ p. absurd (omega arith))

-- half of a word: no bound on the byte is asked
pub byte_extends : {e : ℕ} {o : Objects} → Right e o → (k i v : ℕ) → 1 ≤ k → k ≤ o.n → kind o k ≡ bytes_kind → i < size o k → Extends o (store_byte o k i v)
unfolding store_byte
byte_extends {o = o} r k i v h g a l = let q = in_bytes o k (sized_at (kind o k) bytes_kind a tt) in put_extends r k (i / 2) _ h g (omega arith) (omega arith)

pub byte_right : {e : ℕ} {o : Objects} → Right e o → (k i v : ℕ) → 1 ≤ k → k ≤ o.n → kind o k ≡ bytes_kind → i < size o k → Right e (store_byte o k i v)
unfolding store_byte
byte_right {o = o} r k i v h g a l =
    let q = in_bytes o k (sized_at (kind o k) bytes_kind a tt) in
    put_right r k (i / 2) _ h g (omega arith) (omega arith) (λ p. absurd (omega arith))
    (λ p s t. ap (λ (x : ℕ). x % 256) (if_yes _ _ (eq-eqb (i % 2) 0 (omega arith))) ∙ low v (body_word o k (i / 2)) (ap (λ (x : ℕ). body_word o k x % 256) t
    ∙ (layout r k h g).padded (sized_at (kind o k) bytes_kind a tt) s))
  where
    low : (v x : ℕ) → x % 256 ≡ 0 → (v * 256 + x % 256) % 256 ≡ 0
    low v x p = omega arith

-- The calls that check first and then do little.
use Prim.Native.Nat.{ℕ, ◌*◌}
use mathlib.Core.Path.{◌≡◌, sym, ap, ap₂, ◌∙◌}
use mathlib.Core.Bool.{Bool, true, false}
use mathlib.Core.List.{List}
use lib.ListN.{length, replicate}
use Rattle.model.specs.Limits.{entry_words, cache_words}
use Rattle.model.specs.Image.{Verdict, accepted, refused, unless, ◌then◌, buffers_fine}
use Rattle.plain.specs.Registers.{Registers, with_phase}
use Rattle.plain.specs.Flat.{Flat, flat, room_of, plain_of}
use Rattle.plain.specs.Cache.{empty_cache}
use Rattle.plain.specs.Check.{check, state_fine}
use Rattle.plain.specs.Calls.{dropped, done, refused_by}
use Rattle.plain.specs.FlatCalls.{Given, gives, checked, flat_drop, flat_forget}
use Rattle.plain.proofs.FlatLaws.{check_right}
use Rattle.model.proofs.Lent.{front_same}

-- A cache of its length, cleared
pub emptied : (cache : List ℕ) → length cache ≡ cache_words → replicate (length cache) 0 ≡ empty_cache
emptied cache y = ap (λ (k : ℕ). replicate {A = ℕ} k 0) y

-- ---- check: 3, then 11
pub check_3 : (s : Flat) → buffers_fine (room_of s) s.registers.n s.registers.b ≡ false → refused 3 ≡ check s
unfolding check
check_3 s e = sym (ap (λ (x : Bool). unless x 3 then unless (state_fine s) 11) e)

pub check_11 : (s : Flat) → buffers_fine (room_of s) s.registers.n s.registers.b ≡ true → state_fine s ≡ false → refused 11 ≡ check s
unfolding check
check_11 s e f = sym (ap₂ (λ (x y : Bool). unless x 3 then unless y 11) e f)

pub check_yes : (s : Flat) → buffers_fine (room_of s) s.registers.n s.registers.b ≡ true → state_fine s ≡ true → accepted ≡ check s
unfolding check
check_yes s e f = sym (ap₂ (λ (x y : Bool). unless x 3 then unless y 11) e f)

-- ---- what follows a check
refuses : (s : Flat) (k : ℕ) (g : Given) → refused k ≡ check s → gives (refused_by k) s ≡ checked s (check s) g
refuses s k g e = ap (λ (v : Verdict). checked s v g) e

passes : (s : Flat) (g : Given) → accepted ≡ check s → g ≡ checked s (check s) g
passes s g e = ap (λ (v : Verdict). checked s v g) e

pub drop_refused : (s : Flat) (k : ℕ) → refused k ≡ check s → gives (refused_by k) s ≡ flat_drop s
unfolding flat_drop
drop_refused s k e = refuses s k _ e

pub drop_done : (r : Registers) (contents bodies stack cache : List ℕ) → accepted ≡ check (flat r contents bodies stack cache)
    → gives done (flat (with_phase r 0 0 0) contents bodies stack cache) ≡ flat_drop (flat r contents bodies stack cache)
unfolding flat_drop dropped plain_of
drop_done r contents bodies stack cache e =
    let f = check_right (flat r contents bodies stack cache) (sym e) in
    (λ i. gives done (flat (with_phase r 0 0 0) (sym (front_same (entry_words * r.n) contents f.contents) i) (sym (front_same r.b bodies f.bodies) i) stack cache))
    ∙ passes (flat r contents bodies stack cache) _ e

pub forget_refused : (s : Flat) (k : ℕ) → refused k ≡ check s → gives (refused_by k) s ≡ flat_forget s
unfolding flat_forget
forget_refused s k e = refuses s k _ e

pub forget_done : (r : Registers) (contents bodies stack cache cache' : List ℕ) → accepted ≡ check (flat r contents bodies stack cache) → cache' ≡ replicate (length cache) 0
    → gives done (flat r contents bodies stack cache') ≡ flat_forget (flat r contents bodies stack cache)
unfolding flat_forget
forget_done r contents bodies stack cache cache' e c =
    let f = check_right (flat r contents bodies stack cache) (sym e) in
    (λ i. gives done (flat r contents bodies stack ((c ∙ emptied cache f.cache_length) i))) ∙ passes (flat r contents bodies stack cache) _ e

-- A call of a list, from a checked state, and the whole list.
use Prim.Native.Nat.{ℕ, ◌-◌, ◌≤◌}
use mathlib.Core.Path.{◌≡◌, sym, ap, ◌∙◌, subst}
use mathlib.Core.List.{List, [], ◌∷◌}
use lib.ListN.{length, replicate}
use lib.Seq.{sets}
use Rattle.model.specs.Objects.{part}
use Rattle.model.specs.Image.{accepted, refused}
use Rattle.plain.specs.Registers.{with_phase}
use Rattle.plain.specs.Calls.{Call, done}
use Rattle.plain.specs.Flat.{Flat, flat}
use Rattle.plain.specs.Check.{check}
use Rattle.plain.specs.FlatCalls.{Given, gives, flat_begin, flat_run, flat_drop, flat_forget, flat_call}
use Rattle.calls.specs.Encoding.{high_word, low_word, answer_words}
use Rattle.calls.specs.Listing.{listed, Inside}
use Rattle.calls.specs.Plays.{Plays}
use Rattle.calls.specs.declared.Listed.{Listed}
use Rattle.calls.proofs.Playing.{plays_alike, play_refused, play_made}
use Rattle.std.specs.Prelude.{Result, Ok, Err}
use Rattle.model.specs.declared.numbers.Refusal.{Refusal}
use Rattle.model.specs.Numbers.{number_of}
use Rattle.machine.specs.declared.Registers.{Registers}
use Rattle.machine.specs.declared.Ran.{Ran}
use Rattle.machine.specs.declared.Reply.{Reply}
use Rattle.machine.specs.declared.Made.{Made}
use Rattle.machine.specs.State.{registers_of, state}
use Rattle.machine.specs.Lists.{registers_in, answer_in, reply_gives, PromisedPlay}
use Rattle.machine.proofs.Calling.{drop_done, forget_done}
use Rattle.calls.specs.declared.Listed.TheVariants as L
use Rattle.machine.specs.declared.Reply.TheVariants as P

-- the arguments of a begin that was read stand in the list
pub begin_inside : (y : Listed) (words receiver selector from end : ℕ) → Inside y words → y ≡ L.Begin receiver selector from end → (from ≤ end) × (end ≤ words)
begin_inside y words receiver selector from end i q = subst (λ (z : Listed). Inside z words) q i

-- the call that was read
module _ (s : Flat) (words : List ℕ) (c : Call) (y : Listed) (m : listed y words ≡ c) where
  called : (z : Listed) → y ≡ z → listed z words ≡ c
  called z q = ap (λ (x : Listed). listed x words) (sym q) ∙ m

  pub begin_called : (receiver selector from end : ℕ) → y ≡ L.Begin receiver selector from end → flat_begin s receiver selector (part words from (end - from)) ≡ flat_call s c
  unfolding flat_call listed
  begin_called receiver selector from end q = ap (flat_call s) (called (L.Begin receiver selector from end) q)

  pub run_called : (n : ℕ) → y ≡ L.Run n → flat_run s n ≡ flat_call s c
  unfolding flat_call listed
  run_called n q = ap (flat_call s) (called (L.Run n) q)

  drop_called : y ≡ L.Drop → flat_drop s ≡ flat_call s c
  unfolding flat_call listed
  drop_called q = ap (flat_call s) (called L.Drop q)

  forget_called : y ≡ L.Forget → flat_forget s ≡ flat_call s c
  unfolding flat_call listed
  forget_called q = ap (flat_call s) (called L.Forget q)

-- drop and forget
module _ (r : Registers) (contents bodies stack cache words : List ℕ) (c : Call) (y : Listed) (m : listed y words ≡ c)
    (yes : check (state r contents bodies stack cache) ≡ accepted) where
  pub drops_checked : (r' : Registers) → registers_of r' ≡ with_phase (registers_of r) 0 0 0 → y ≡ L.Drop
      → reply_gives r (Ok (P.Done r')) contents bodies stack cache ≡ flat_call (state r contents bodies stack cache) c
  drops_checked r' z q =
      (λ i. gives done (flat (z i) contents bodies stack cache)) ∙ drop_done (registers_of r) contents bodies stack cache (sym yes)
      ∙ drop_called (state r contents bodies stack cache) words c y m q

  pub forgets_checked : (cache' : List ℕ) → cache' ≡ replicate (length cache) 0 → y ≡ L.Forget
      → reply_gives r (Ok (P.Done r)) contents bodies stack cache' ≡ flat_call (state r contents bodies stack cache) c
  forgets_checked cache' z q =
      forget_done (registers_of r) contents bodies stack cache cache' (sym yes) z ∙ forget_called (state r contents bodies stack cache) words c y m q

-- the answer written down
module _ (before : Registers) (x : Result Reply Refusal) (answers answers' : List ℕ) (at : ℕ) where
  abbrev Noted : Registers → Type 0
  Noted r = (r ≡ registers_in before x) × (answers' ≡ sets answers at (answer_words (answer_in x)))

  noted : (y : Result Reply Refusal) → x ≡ y → answers' ≡ sets answers at (answer_words (answer_in y)) → Noted (registers_in before y)
  noted y q e = (ap (registers_in before) (sym q), e ∙ ap (λ (z : Result Reply Refusal). sets answers at (answer_words (answer_in z))) (sym q))

  pub noted_done : (r : Registers) → x ≡ Ok (P.Done r) → answers' ≡ sets answers at (0 ∷ 0 ∷ 0 ∷ 0 ∷ 0 ∷ 0 ∷ 0 ∷ []) → Noted r
  noted_done r q e = unfold answer_words in noted (Ok (P.Done r)) q e

  pub noted_refused : (k : Refusal) (n : ℕ) → n ≡ number_of k → x ≡ Err k → answers' ≡ sets answers at (n ∷ 0 ∷ 0 ∷ 0 ∷ 0 ∷ 0 ∷ 0 ∷ []) → Noted before
  noted_refused k n z q e =
      unfold answer_words in noted (Err k) q (e ∙ ap (λ (m : ℕ). sets answers at (m ∷ 0 ∷ 0 ∷ 0 ∷ 0 ∷ 0 ∷ 0 ∷ [])) z)

  pub noted_ran : (r : Ran) → x ≡ Ok (P.Ran r)
      → answers' ≡ sets answers at (0 ∷ r.registers.phase ∷ r.count ∷ r.registers.value ∷ r.reach ∷ high_word r.dictionaries ∷ low_word r.dictionaries ∷ []) → Noted r.registers
  noted_ran r q e = unfold answer_words in noted (Ok (P.Ran r)) q e

-- the registers that were given back are those of the call
pub noted_gives : (before : Registers) (x : Result Reply Refusal) (contents bodies stack cache : List ℕ) (g : Given) → reply_gives before x contents bodies stack cache ≡ g
    → (r : Registers) → r ≡ registers_in before x → gives (answer_in x) (state r contents bodies stack cache) ≡ g
noted_gives before x contents bodies stack cache g e r q = (λ i. gives (answer_in x) (state (q i) contents bodies stack cache)) ∙ e

-- ---- play
module _ (r : Registers) (contents bodies stack cache calls answers : List ℕ) where
  abbrev s : Flat
  s = state r contents bodies stack cache

  pub plays_not : (k : Refusal) → refused (number_of k) ≡ check s → PromisedPlay r contents bodies stack cache calls answers (Err k) contents bodies stack cache answers
  plays_not k e = (play_refused s calls answers (number_of k) e, plays_alike s calls answers)

  pub plays_all : (m : Made) (contents' bodies' stack' cache' answers' : List ℕ) → accepted ≡ check s
      → Plays calls answers s m.calls (state m.registers contents' bodies' stack' cache') answers'
      → PromisedPlay r contents bodies stack cache calls answers (Ok m) contents' bodies' stack' cache' answers'
  plays_all m contents' bodies' stack' cache' answers' e p =
      (play_made s calls answers m.calls (state m.registers contents' bodies' stack' cache') answers' e p, plays_alike s calls answers)

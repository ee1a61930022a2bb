-- No call is refused by 0.
use Prim.Native.Nat.{ℕ, ◌≤◌}
use mathlib.Core.Path.{◌≡◌, sym, subst}
use mathlib.Core.Bool.{Bool, true, false, ◌&&◌}
use mathlib.Core.List.{List}
use native.Mathlib.Omega.{arith}
use lib.Dec.{eqb, leb}
use lib.ListN.{length}
use Rattle.bytecode.proofs.Choice.{if_cases}
use Rattle.std.specs.Prelude.{Option, Some, None}
use Rattle.model.specs.declared.Pointer.{Pointer}
use Rattle.model.specs.Objects.{class_of}
use Rattle.model.specs.Method.{argument_count, frame_size}
use Rattle.model.specs.Lookup.{lookup}
use Rattle.model.specs.Rules.{rule8}
use Rattle.model.specs.Image.{Room, Verdict, accepted, refused, unless, buffers_fine, image_bytes, load_verdict}
use Rattle.model.proofs.OrderLaws.{Positive, next_number, last_number, load_positive}
use Rattle.plain.specs.Registers.{running}
use Rattle.plain.specs.State.{Plain, objects, fits_stack}
use Rattle.plain.specs.Step.{Activation, answered, entered, unfit, activate}
use Rattle.plain.specs.Calls.{Begun, begun, declined, begin_activated, begin_found, begin, Ran, ran, stuck, steps, Answer, done, refused_by, result, wrote}
use Rattle.plain.specs.Flat.{Flat, room_of, plain_of}
use Rattle.plain.specs.Check.{state_fine, check}
use Rattle.plain.specs.FlatCalls.{Given, gives, no_answer, checked, flat_after_begin, flat_begin, flat_after_run, flat_run_if, flat_run, flat_drop, flat_forget, after_load, flat_load, Saved, saved, after_save, save_verdict, flat_save}
use Rattle.calls.specs.Plays.{Played, played, unplayed, play_if, flat_play}

abbrev pub Numbered : Answer → Type 0
Numbered done = Unit {0}
Numbered (refused_by k) = 1 ≤ k
Numbered (result p k v h d) = Unit {0}
Numbered (wrote k) = Unit {0}

abbrev pub NumberedIn : Given → Type 0
NumberedIn (gives a s) = Numbered a
NumberedIn no_answer = Unit {0}

-- ---- verdicts
check_numbered : (s : Flat) → Positive (check s)
unfolding check
check_numbered s =
    next_number (λ k. 1 ≤ k) (buffers_fine (room_of s) s.registers.n s.registers.b) 3 (unless (state_fine s) 11) (omega arith) (last_number (λ k. 1 ≤ k) (state_fine s) 11 (omega arith))

save_numbered : (s : Flat) (output : List ℕ) → Positive (save_verdict s output)
unfolding save_verdict
save_numbered s output =
    next_number (λ k. 1 ≤ k) (buffers_fine (room_of s) s.registers.n s.registers.b && leb (image_bytes s.registers.n s.registers.b) (length output)) 3
    (unless (state_fine s) 11) (omega arith) (last_number (λ k. 1 ≤ k) (state_fine s) 11 (omega arith))

-- ---- calls
after_check : (s : Flat) (v : Verdict) (g : Given) → Positive v → NumberedIn g → NumberedIn (checked s v g)
after_check s accepted g n t = t
after_check s (refused k) g n t = n

abbrev NumberedBegun : Begun → Type 0
NumberedBegun (begun p) = Unit {0}
NumberedBegun (declined k) = 1 ≤ k

begin_numbered : (room : Room) (p : Plain) (w s : ℕ) (arguments : List ℕ) → NumberedBegun (begin room p w s arguments)
unfolding begin
begin_numbered room p w s arguments =
    if_cases NumberedBegun (eqb p.registers.phase running) _ _ (λ e. omega arith)
    (λ e. if_cases NumberedBegun (rule8 (objects p) w s arguments) _ _ (λ q. by_found (lookup (objects p) s (class_of (objects p) w))) (λ q. omega arith))
  where
    by_activation : (m : ℕ) (x : Activation) → NumberedBegun (begin_activated room p m w arguments x)
    by_activation m (answered v o) = tt
    by_activation m entered = if_cases NumberedBegun (fits_stack room.stack 0 (frame_size (objects p) m)) _ _ (λ e. tt) (λ e. omega arith)
    by_activation m unfit = omega arith

    by_found : (x : Option Pointer) → NumberedBegun (begin_found room p w arguments x)
    by_found None = omega arith
    by_found (Some m) =
        if_cases NumberedBegun (eqb (argument_count (objects p) m.0) (length arguments)) _ _ (λ e. by_activation m.0 (activate p.registers.edition room (objects p) m.0 w arguments))
        (λ e. omega arith)

pub load_number : (s : Flat) (bytes : List ℕ) → NumberedIn (flat_load s bytes)
unfolding flat_load
load_number s bytes = go (load_verdict (room_of s) bytes) (load_positive (room_of s) bytes)
  where
    go : (v : Verdict) → Positive v → NumberedIn (after_load s bytes v)
    go accepted t = tt
    go (refused k) t = t

pub begin_number : (s : Flat) (w selector : ℕ) (arguments : List ℕ) → NumberedIn (flat_begin s w selector arguments)
unfolding flat_begin
begin_number s w selector arguments = after_check s (check s) _ (check_numbered s) (go (begin (room_of s) (plain_of s) w selector arguments) (begin_numbered (room_of s) (plain_of s) w selector arguments))
  where
    go : (x : Begun) → NumberedBegun x → NumberedIn (flat_after_begin s x)
    go (begun p) t = tt
    go (declined k) t = t

pub run_number : (s : Flat) (n : ℕ) → NumberedIn (flat_run s n)
unfolding flat_run
run_number s n = after_check s (check s) _ (check_numbered s) (go (eqb s.registers.phase running))
  where
    after : (x : Ran) → NumberedIn (flat_after_run s x)
    after (ran k p ts) = tt
    after stuck = tt

    go : (b : Bool) → NumberedIn (flat_run_if s n b)
    go true = after (steps (room_of s) n (plain_of s))
    go false = omega arith

pub drop_number : (s : Flat) → NumberedIn (flat_drop s)
unfolding flat_drop
drop_number s = after_check s (check s) _ (check_numbered s) tt

pub forget_number : (s : Flat) → NumberedIn (flat_forget s)
unfolding flat_forget
forget_number s = after_check s (check s) _ (check_numbered s) tt

pub check_number : (s : Flat) (k : ℕ) → refused k ≡ check s → 1 ≤ k
check_number s k e = subst Positive (sym e) (check_numbered s)

abbrev pub NumberedSaved : Saved → Type 0
NumberedSaved (saved a output) = Numbered a

pub save_number : (s : Flat) (output : List ℕ) → NumberedSaved (flat_save s output)
unfolding flat_save
save_number s output = go (save_verdict s output) (save_numbered s output)
  where
    go : (v : Verdict) → Positive v → NumberedSaved (after_save s output v)
    go accepted t = tt
    go (refused k) t = t

abbrev pub NumberedPlayed : Played → Type 0
NumberedPlayed (played k s answers) = Unit {0}
NumberedPlayed (unplayed k s answers) = 1 ≤ k

pub play_number : (s : Flat) (calls answers : List ℕ) → NumberedPlayed (flat_play s calls answers)
unfolding flat_play
play_number s calls answers = go (check s) (check_numbered s)
  where
    go : (v : Verdict) → Positive v → NumberedPlayed (play_if v s calls answers)
    go accepted t = tt
    go (refused k) t = t

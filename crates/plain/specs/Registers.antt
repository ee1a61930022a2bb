-- The registers and the phases (01, "Plain machine" and "Calls").
use Rattle.std.specs.Prelude.{ℕ, Bool, ◌||◌, not, eqb}

pub record Registers : Type 0 where
  pub n : ℕ
  pub b : ℕ
  pub start_receiver : ℕ
  pub start_selector : ℕ
  pub phase : ℕ
  pub top : ℕ
  pub value : ℕ
  pub edition : ℕ

-- what a refused load returns
abbrev pub no_registers : Registers
no_registers = record { n = 0; b = 0; start_receiver = 0; start_selector = 0; phase = 0; top = 0; value = 0; edition = 0 }

abbrev pub idle : ℕ
idle = 0

abbrev pub running : ℕ
running = 1

abbrev pub finished : ℕ
finished = 2

-- Why a run halts before a bytecode, and the phase that says so. `not_understood` is a send that fails: no method is found, or by a super send one which cannot run
-- on its receiver (docs/DECISIONS.md, "Super sends to another receiver"), and its message is not sent. What each asks of the state is in specs/Causes.antt.
pub data Cause : Type 0 where
  not_understood : Cause
  no_boolean : Cause
  no_stack_room : Cause

abbrev pub phase_of : Cause → ℕ
phase_of not_understood = 3
phase_of no_boolean = 4
phase_of no_stack_room = 5

abbrev pub last_phase : ℕ
last_phase = 5

-- A state in phase 0 or 2 has no frames.
abbrev pub has_frames : ℕ → Bool
has_frames p = not (eqb p idle || eqb p finished)

-- The same registers but for phase, top and value, or for N and B
abbrev pub with_phase : Registers → ℕ → ℕ → ℕ → Registers
with_phase r p t v =
    record { n = r.n; b = r.b; start_receiver = r.start_receiver; start_selector = r.start_selector; phase = p; top = t; value = v; edition = r.edition }

abbrev pub with_sizes : Registers → ℕ → ℕ → Registers
with_sizes r n b =
    record { n = n; b = b; start_receiver = r.start_receiver; start_selector = r.start_selector; phase = r.phase; top = r.top; value = r.value; edition = r.edition }

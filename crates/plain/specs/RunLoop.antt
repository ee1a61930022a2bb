-- The loop of a run: what is left of it at each turn.
use Rattle.std.specs.Prelude.{ℕ, ◌+◌, ◌-◌, ◌*◌, ◌≤◌, max, ◌≡◌, List, [], ◌∷◌}
use Rattle.model.specs.Limits.{longest_chain}
use Rattle.model.specs.Objects.{Objects}
use Rattle.model.specs.Method.{frame_size}
use Rattle.model.specs.Image.{accepted}
use Rattle.plain.specs.Registers.{running}
use Rattle.plain.specs.State.{Frame, Plain, objects}
use Rattle.plain.specs.Calls.{Ran, ran, stuck, steps, result, reach_of, dictionaries_of}
use Rattle.plain.specs.Flat.{Flat, room_of, plain_of}
use Rattle.plain.specs.Check.{check}
use Rattle.plain.specs.FlatCalls.{Given, gives, no_answer, with_plain, stack_after, cache_after}

-- The end of the first of these frames, which is at `base`
abbrev pub first_end : Objects → ℕ → List Frame → ℕ
first_end o base [] = 0
first_end o base (f ∷ rest) = base + frame_size o f.method

-- The end of the top frame: where the frames stand one on another, no other ends higher.
unfoldable pub top_end : Plain → ℕ
top_end s = first_end (objects s) s.registers.top s.frames

-- What is left of a run from a state on, k bytecodes having been made, h being the reach so far and d the dictionaries
abbrev pub flat_after_run_from : ℕ → ℕ → ℕ → Flat → Ran → Given
flat_after_run_from k h d s (ran j p ts) =
    gives (result p.registers.phase (k + j) p.registers.value (max h (reach_of (plain_of s) ts)) (d + dictionaries_of ts))
    (with_plain s p (stack_after s.stack ts) (cache_after s.cache ts))
flat_after_run_from k h d s stuck = no_answer

unfoldable pub runs_from : ℕ → ℕ → ℕ → ℕ → Flat → Given
runs_from left k h d s = flat_after_run_from k h d s (steps (room_of s) left (plain_of s))

-- From s₀ a run of `grant` bytecodes has come to s, having made `count`; `reach` and `dictionaries` are those of the run so far.
pub record Turn (s₀ : Flat) (grant : ℕ) (s : Flat) (count reach dictionaries : ℕ) : Type 0 where
  pub made : count ≤ grant
  pub checked : check s ≡ accepted
  pub phase : s.registers.phase ≡ running
  pub lengths : room_of s ≡ room_of s₀
  pub high : top_end (plain_of s) ≤ reach
  pub few : dictionaries ≤ longest_chain * count
  pub rest : runs_from grant 0 0 0 s₀ ≡ runs_from (grant - count) count reach dictionaries s

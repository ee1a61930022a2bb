-- What an instruction does to the operands, and where control goes on (01, "Code").
use Rattle.std.specs.Prelude.{ℕ, ◌+◌, ◌-◌, Bool, true, false, List, [], ◌∷◌, get_or, ltb, leb}
use Rattle.bytecode.specs.Test.{when◌then◌else◌}
use Rattle.bytecode.specs.declared.Instruction.{Instruction}
use Rattle.bytecode.specs.declared.Instruction.TheVariants.{Push, Store, PopStore, PushSelf, PushConstant, ReturnSelf, ReturnConstant, ReturnTop, Pop, Duplicate, Jump, JumpOn, Send, SuperSend, SpecialSend, Unused}

-- The argument count of special send k, bytecode 176 + k (01, "Code", last paragraph)
unfoldable pub special_count : ℕ → ℕ
special_count k =
    when ltb k 16 then 1 else
    get_or (1 ∷ 2 ∷ 0 ∷ 0 ∷ 1 ∷ 0 ∷ 1 ∷ 0 ∷ 1 ∷ 0 ∷ 1 ∷ 1 ∷ 0 ∷ 1 ∷ 0 ∷ 0 ∷ []) (k - 16) 0

-- The operands that an instruction needs
unfoldable pub need : Instruction → ℕ
need (Push p) = 0
need (Store p) = 1
need (PopStore p) = 1
need PushSelf = 0
need (PushConstant w) = 0
need ReturnSelf = 0
need (ReturnConstant w) = 0
need ReturnTop = 1
need Pop = 1
need Duplicate = 1
need (Jump a b) = 0
need (JumpOn x a) = 1
need (Send l n) = 1 + n
need (SuperSend l n) = 1 + n
need (SpecialSend k) = 1 + special_count k
need Unused = 0

-- The operands that stand in their place afterwards. The change that 01 speaks of is these less the need.
unfoldable pub leaves : Instruction → ℕ
leaves (Push p) = 1
leaves (Store p) = 1
leaves (PopStore p) = 0
leaves PushSelf = 1
leaves (PushConstant w) = 1
leaves ReturnSelf = 0
leaves (ReturnConstant w) = 0
leaves ReturnTop = 0
leaves Pop = 0
leaves Duplicate = 2
leaves (Jump a b) = 0
leaves (JumpOn x a) = 0
leaves (Send l n) = 1
leaves (SuperSend l n) = 1
leaves (SpecialSend k) = 1
leaves Unused = 0

-- The depth after an instruction that finds its operands at depth d
abbrev pub depth_after : Instruction → ℕ → ℕ
depth_after i d = d - need i + leaves i

-- The instruction is a used one, and no jump before position 0. `next` is the position after it.
unfoldable pub usable : ℕ → Instruction → Bool
usable next (Push p) = true
usable next (Store p) = true
usable next (PopStore p) = true
usable next PushSelf = true
usable next (PushConstant w) = true
usable next ReturnSelf = true
usable next (ReturnConstant w) = true
usable next ReturnTop = true
usable next Pop = true
usable next Duplicate = true
usable next (Jump a b) = leb b (next + a)
usable next (JumpOn x a) = true
usable next (Send l n) = true
usable next (SuperSend l n) = true
usable next (SpecialSend k) = true
usable next Unused = false

-- The positions that may follow: both ways of a jump on a boolean, none after a return or a jump before position 0
unfoldable pub successors : ℕ → Instruction → List ℕ
successors next (Push p) = next ∷ []
successors next (Store p) = next ∷ []
successors next (PopStore p) = next ∷ []
successors next PushSelf = next ∷ []
successors next (PushConstant w) = next ∷ []
successors next ReturnSelf = []
successors next (ReturnConstant w) = []
successors next ReturnTop = []
successors next Pop = next ∷ []
successors next Duplicate = next ∷ []
successors next (Jump a b) = when leb b (next + a) then (next + a - b) ∷ [] else []
successors next (JumpOn x a) = next ∷ (next + a) ∷ []
successors next (Send l n) = next ∷ []
successors next (SuperSend l n) = next ∷ []
successors next (SpecialSend k) = next ∷ []
successors next Unused = []

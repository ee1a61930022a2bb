-- The constant table: one number for each byte, which says what the depth walk asks of the instruction that begins with it.
use Rattle.std.specs.Prelude.{ℕ, ◌/◌, ◌%◌, ◌<◌, ◌≡◌, List, get_or, eqb}
use Rattle.bytecode.specs.Test.{when◌then◌else◌}
use Rattle.bytecode.specs.Code.{instruction_of, length_of}
use Rattle.bytecode.specs.Effect.{need, leaves}
use Rattle.bytecode.specs.declared.Place.{Place}
use Rattle.bytecode.specs.declared.Place.TheVariants.{Field, Temporary, Literal, LiteralVariable}
use Rattle.bytecode.specs.declared.Instruction.{Instruction}
use Rattle.bytecode.specs.declared.Instruction.TheVariants.{Push, Store, PopStore, PushSelf, PushConstant, ReturnSelf, ReturnConstant, ReturnTop, Pop, Duplicate, Jump, JumpOn, Send, SuperSend, SpecialSend, Unused}

-- The count that a place's index has to be below: 1 fields, 2 temporaries, 3 literals
unfoldable pub place_bound : Place → ℕ
place_bound (Field i) = 1
place_bound (Temporary i) = 2
place_bound (Literal i) = 3
place_bound (LiteralVariable i) = 3

unfoldable pub place_index : Place → ℕ
place_index (Field i) = i
place_index (Temporary i) = i
place_index (Literal i) = i
place_index (LiteralVariable i) = i

-- The same of an instruction; 0, with index 0, where it has no index. A special send's number is no index.
unfoldable pub bound : Instruction → ℕ
bound (Push p) = place_bound p
bound (Store p) = place_bound p
bound (PopStore p) = place_bound p
bound PushSelf = 0
bound (PushConstant w) = 0
bound ReturnSelf = 0
bound (ReturnConstant w) = 0
bound ReturnTop = 0
bound Pop = 0
bound Duplicate = 0
bound (Jump a b) = 0
bound (JumpOn x a) = 0
bound (Send l n) = 3
bound (SuperSend l n) = 3
bound (SpecialSend k) = 0
bound Unused = 0

unfoldable pub index : Instruction → ℕ
index (Push p) = place_index p
index (Store p) = place_index p
index (PopStore p) = place_index p
index PushSelf = 0
index (PushConstant w) = 0
index ReturnSelf = 0
index (ReturnConstant w) = 0
index ReturnTop = 0
index Pop = 0
index Duplicate = 0
index (Jump a b) = 0
index (JumpOn x a) = 0
index (Send l n) = l
index (SuperSend l n) = l
index (SpecialSend k) = 0
index Unused = 0

-- 0: goes on to the next instruction. 1: a return. 2: a jump. 3: unused.
unfoldable pub group : Instruction → ℕ
group (Push p) = 0
group (Store p) = 0
group (PopStore p) = 0
group PushSelf = 0
group (PushConstant w) = 0
group ReturnSelf = 1
group (ReturnConstant w) = 1
group ReturnTop = 1
group Pop = 0
group Duplicate = 0
group (Jump a b) = 2
group (JumpOn x a) = 2
group (Send l n) = 0
group (SuperSend l n) = 0
group (SpecialSend k) = 0
group Unused = 3

-- The instruction of a byte, with all further bytes taken as 0
abbrev pub alone : ℕ → Instruction
alone b = instruction_of b (λ k. 0)

-- The group of a byte. 2 has also the instructions with further bytes, since an entry does not say all of them.
unfoldable pub group_of : ℕ → ℕ
group_of b = when eqb (length_of b) 1 then group (alone b) else 2

-- The operands that the sends 131 to 134 need beside those that the entry says: their arguments, which the first further byte says
unfoldable pub extra_of : ℕ → ℕ → ℕ
extra_of b x =
    when eqb b 131 then x / 32 else
    when eqb b 132 then x else
    when eqb b 133 then x / 32 else
    when eqb b 134 then x else
    0

-- The parts of an entry, from the high end: group 2 bits, length 3, need 2, leaves 2, bound 2, index 5
abbrev pub group_part : ℕ → ℕ
group_part e = e / 16384

abbrev pub length_part : ℕ → ℕ
length_part e = e / 2048 % 8

abbrev pub need_part : ℕ → ℕ
need_part e = e / 512 % 4

abbrev pub leaves_part : ℕ → ℕ
leaves_part e = e / 128 % 4

abbrev pub bound_part : ℕ → ℕ
bound_part e = e / 32 % 4

abbrev pub index_part : ℕ → ℕ
index_part e = e % 32

-- e is right for the byte b.
pub record Entry (b e : ℕ) : Type 0 where
  pub group : group_part e ≡ group_of b
  pub length : length_part e ≡ length_of b
  pub needs : need_part e ≡ need (alone b)
  pub leave : leaves_part e ≡ leaves (alone b)
  pub bounds : bound_part e ≡ bound (alone b)
  pub indexes : index_part e ≡ index (alone b)

-- A list that has a right entry at each byte
pub record IsTable (table : List ℕ) : Type 0 where
  pub entry : (b : ℕ) → b < 256 → Entry b (get_or table b 0)

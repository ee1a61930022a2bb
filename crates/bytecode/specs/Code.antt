-- The instruction at a position of the code (01, "Code", first two paragraphs).
use Rattle.std.specs.Prelude.{ℕ, ◌+◌, ◌-◌, ◌*◌, ◌/◌, ◌%◌, true, false, List, get_or, ltb, leb, eqb}
use Rattle.bytecode.specs.Test.{when◌then◌else◌}
use Rattle.bytecode.specs.Constant.{constant_word}
use Rattle.bytecode.specs.declared.Place.{Place}
use Rattle.bytecode.specs.declared.Place.TheVariants.{Field, Temporary, Literal, LiteralVariable}
use Rattle.bytecode.specs.declared.Instruction.{Instruction}
use Rattle.bytecode.specs.declared.Instruction.TheVariants.{Push, Store, PopStore, PushSelf, PushConstant, ReturnSelf, ReturnConstant, ReturnTop, Pop, Duplicate, Jump, JumpOn, Send, SuperSend, SpecialSend, Unused}

-- Byte i of a list of words, high byte first; 0 past the end
unfoldable pub byte_at : List ℕ → ℕ → ℕ
byte_at words i = when eqb (i % 2) 0 then get_or words (i / 2) 0 / 256 else get_or words (i / 2) 0 % 256

-- The byte jjkkkkkk of 128, 129, 130
unfoldable pub place_of : ℕ → Place
place_of x =
    when ltb x 64 then Field (x % 64) else
    when ltb x 128 then Temporary (x % 64) else
    when ltb x 192 then Literal (x % 64) else
    LiteralVariable (x % 64)

-- 0 to 111: pushes, and pops into a field or temporary
unfoldable pub short_of : ℕ → Instruction
short_of b =
    when ltb b 16 then Push (Field (b % 16)) else
    when ltb b 32 then Push (Temporary (b % 16)) else
    when ltb b 64 then Push (Literal (b % 32)) else
    when ltb b 96 then Push (LiteralVariable (b % 32)) else
    when ltb b 104 then PopStore (Field (b % 8)) else
    PopStore (Temporary (b % 8))

-- 112 to 127: self and the constants pushed and returned, and the top returned
unfoldable pub constant_of : ℕ → Instruction
constant_of b =
    when eqb b 112 then PushSelf else
    when ltb b 120 then PushConstant (constant_word (b % 8)) else
    when eqb b 120 then ReturnSelf else
    when ltb b 124 then ReturnConstant (constant_word (b % 4)) else
    when eqb b 124 then ReturnTop else
    Unused

-- The bytes behind position p, counted from 1
abbrev pub bytes_after : List ℕ → ℕ → ℕ → ℕ
bytes_after words p = λ k. byte_at words (p + k)

-- 128 to 143: those with further bytes, pop and duplicate. 132 and 134 have the arguments in the first byte, the literal in the second.
unfoldable pub extended_of : ℕ → (ℕ → ℕ) → Instruction
extended_of b following =
    when eqb b 128 then Push (place_of (following 1)) else
    when eqb b 129 then Store (place_of (following 1)) else
    when eqb b 130 then PopStore (place_of (following 1)) else
    when eqb b 131 then Send (following 1 % 32) (following 1 / 32) else
    when eqb b 132 then Send (following 2) (following 1) else
    when eqb b 133 then SuperSend (following 1 % 32) (following 1 / 32) else
    when eqb b 134 then SuperSend (following 2) (following 1) else
    when eqb b 135 then Pop else
    when eqb b 136 then Duplicate else
    Unused

-- 144 to 175: jumps
unfoldable pub jump_of : ℕ → ℕ → Instruction
jump_of b x =
    when ltb b 152 then Jump (b % 8 + 1) 0 else
    when ltb b 160 then JumpOn false (b % 8 + 1) else
    when ltb b 168 then Jump (b % 8 * 256 + x) 1024 else
    when ltb b 172 then JumpOn true (b % 4 * 256 + x) else
    JumpOn false (b % 4 * 256 + x)

-- 176 to 255: special sends, and sends of a literal with 0, 1 or 2 arguments
unfoldable pub send_of : ℕ → Instruction
send_of b = when ltb b 208 then SpecialSend (b - 176) else Send (b % 16) ((b - 208) / 16)

-- The instruction of a byte b; `following k` is the k-th byte behind it
unfoldable pub instruction_of : ℕ → (ℕ → ℕ) → Instruction
instruction_of b following =
    when ltb b 112 then short_of b else
    when ltb b 128 then constant_of b else
    when ltb b 144 then extended_of b following else
    when ltb b 176 then jump_of b (following 1) else
    send_of b

-- How many bytes the instruction has that begins with b
unfoldable pub length_of : ℕ → ℕ
length_of b =
    when ltb b 128 then 1 else
    when ltb b 132 then 2 else
    when eqb b 132 then 3 else
    when eqb b 133 then 2 else
    when eqb b 134 then 3 else
    when ltb b 160 then 1 else
    when ltb b 176 then 2 else
    1

-- The position after the instruction at p
unfoldable pub next_at : List ℕ → ℕ → ℕ
next_at words p = p + length_of (byte_at words p)

-- The instruction at p in code of `size` bytes: `Unused` also where p is outside or the instruction is not whole
unfoldable pub decode_at : List ℕ → ℕ → ℕ → Instruction
decode_at words size p =
    when ltb p size
    then (when leb (next_at words p) size then instruction_of (byte_at words p) (bytes_after words p) else Unused)
    else Unused

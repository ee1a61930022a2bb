-- The rules of a single instruction that need no objects, only how many fields, temporaries and literals there are: a part of `allowed` in
-- model's specs/Rules.antt. The other part is specs/Linked.antt.
use Rattle.std.specs.Prelude.{ℕ, Bool, true, false, ◌&&◌, List, ltb, get_or}
use Rattle.bytecode.specs.declared.Place.{Place}
use Rattle.bytecode.specs.declared.Place.TheVariants.{Field, Temporary, Literal, LiteralVariable}
use Rattle.bytecode.specs.declared.Instruction.{Instruction}
use Rattle.bytecode.specs.declared.Instruction.TheVariants.{Push, Store, PopStore, PushSelf, PushConstant, ReturnSelf, ReturnConstant, ReturnTop, Pop, Duplicate, Jump, JumpOn, Send, SuperSend, SpecialSend, Unused}
use Rattle.model.specs.Rules.{is_writable}

module _ (fields temporaries literals : ℕ) where
  unfoldable pub placeIndexed : Place → Bool
  placeIndexed (Field i) = ltb i fields
  placeIndexed (Temporary i) = ltb i temporaries
  placeIndexed (Literal i) = ltb i literals
  placeIndexed (LiteralVariable i) = ltb i literals

  unfoldable pub indexed : Instruction → Bool
  indexed (Push p) = placeIndexed p
  indexed (Store p) = is_writable p && placeIndexed p
  indexed (PopStore p) = is_writable p && placeIndexed p
  indexed PushSelf = true
  indexed (PushConstant w) = true
  indexed ReturnSelf = true
  indexed (ReturnConstant w) = true
  indexed ReturnTop = true
  indexed Pop = true
  indexed Duplicate = true
  indexed (Jump a b) = true
  indexed (JumpOn x a) = true
  indexed (Send l n) = ltb l literals
  indexed (SuperSend l n) = ltb l literals
  indexed (SpecialSend k) = true
  indexed Unused = false

-- The same by a list of counts, as bytecode's specs/Table.antt has it: 1, fields, temporaries, literals
abbrev pub place_indexed_by : List ℕ → Place → Bool
place_indexed_by counts = placeIndexed (get_or counts 1 0) (get_or counts 2 0) (get_or counts 3 0)

abbrev pub indexed_by : List ℕ → Instruction → Bool
indexed_by counts = indexed (get_or counts 1 0) (get_or counts 2 0) (get_or counts 3 0)

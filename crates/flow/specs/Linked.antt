-- The rules of a single instruction that need the objects: literal variables have their form, and methods under a send's selector take its
-- count. With specs/Index.antt they are all of `allowed` (proofs/RuleLaws.antt, `split`).
use Rattle.std.specs.Prelude.{ℕ, Bool, true, ◌||◌}
use Rattle.bytecode.specs.Effect.{special_count}
use Rattle.bytecode.specs.declared.Place.{Place}
use Rattle.bytecode.specs.declared.Place.TheVariants.{Field, Temporary, Literal, LiteralVariable}
use Rattle.bytecode.specs.declared.Instruction.{Instruction}
use Rattle.bytecode.specs.declared.Instruction.TheVariants.{Push, Store, PopStore, PushSelf, PushConstant, ReturnSelf, ReturnConstant, ReturnTop, Pop, Duplicate, Jump, JumpOn, Send, SuperSend, SpecialSend, Unused}
use Rattle.model.specs.Objects.{Objects}
use Rattle.model.specs.Method.{literal}
use Rattle.model.specs.Rules.{variable_fine, send_fine, is_same, is_class, special_selector}

unfoldable pub place_linked : Objects → ℕ → Place → Bool
place_linked o m (Field i) = true
place_linked o m (Temporary i) = true
place_linked o m (Literal i) = true
place_linked o m (LiteralVariable i) = variable_fine o (literal o m i)

unfoldable pub linked : Objects → ℕ → Instruction → Bool
linked o m (Push p) = place_linked o m p
linked o m (Store p) = place_linked o m p
linked o m (PopStore p) = place_linked o m p
linked o m PushSelf = true
linked o m (PushConstant w) = true
linked o m ReturnSelf = true
linked o m (ReturnConstant w) = true
linked o m ReturnTop = true
linked o m Pop = true
linked o m Duplicate = true
linked o m (Jump a b) = true
linked o m (JumpOn x a) = true
linked o m (Send l n) = send_fine o (literal o m l) n
linked o m (SuperSend l n) = send_fine o (literal o m l) n
linked o m (SpecialSend k) = is_same k || (is_class k || send_fine o (special_selector o k) (special_count k))
linked o m Unused = true

-- The table is right: a test at each of its 256 entries, which antt computes.
use Rattle.bytecode.specs.Test.{when◌then◌else◌}
use Rattle.bytecode.specs.Code.{place_of, short_of, constant_of, extended_of, jump_of, send_of, instruction_of, length_of}
use Rattle.bytecode.specs.Effect.{special_count, need, leaves}
use Rattle.bytecode.specs.Table.{place_bound, place_index, bound, index, group, group_of}
use Rattle.bytecode.proofs.TableLaws.{table_right}
use Rattle.bytecode.proofs.table.Goals as goal

pub returns : goal.returns
unfolding when◌then◌else◌ place_of short_of constant_of extended_of jump_of send_of instruction_of length_of special_count need leaves place_bound place_index bound index group group_of
returns c = table_right _ tt

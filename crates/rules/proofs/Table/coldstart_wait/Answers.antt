use Rattle.std.proofs.Common.{arith}
use Rattle.rules.proofs.Waits.{round_le, offset_le}
use Rattle.rules.specs.State.{coldstart_wait}
use Rattle.rules.proofs.Table.coldstart_wait.Goals as goal

pub overflow_add-result : goal.overflow_add-result
overflow_add-result c = let a = c.args in omega (arith, c.round.ensures, c.offset.ensures, round_le a.self (omega arith) (omega arith), offset_le a.self a.i (omega arith) (omega arith))

pub returns : goal.returns
unfolding coldstart_wait
returns c = omega (arith, c.round.ensures, c.offset.ensures)

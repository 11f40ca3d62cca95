use Rattle.std.proofs.Common.{arith}
use Rattle.rules.proofs.Waits.{listen_le, coldstart_le}
use Rattle.steps.proofs.movers.Mover.timer_head.Goals as goal

pub overflow_add-result : goal.overflow_add-result
overflow_add-result c = let a = c.args.self.now in let k = a.ready in omega (arith, listen_le a.table.now a.head (omega arith) (omega arith) (omega arith), c.listen_wait.ensures)

pub overflow_add-result-in-Listen : goal.overflow_add-result-in-Listen
overflow_add-result-in-Listen c = let a = c.args.self.now in let k = a.ready in omega (arith, coldstart_le a.table.now a.head (omega arith) (omega arith) (omega arith), c.coldstart_wait.ensures)

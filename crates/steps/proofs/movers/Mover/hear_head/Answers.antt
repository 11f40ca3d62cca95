use Rattle.std.proofs.Common.{arith}
use Rattle.rules.specs.Step.{listener_wait}
use Rattle.rules.proofs.Waits.{coldstart_le}
use Rattle.steps.proofs.movers.Mover.hear_head.Goals as goal

pub overflow_add-result : goal.overflow_add-result
unfolding listener_wait
overflow_add-result c = let a = c.args.self.now in let k = a.ready in omega (arith, coldstart_le a.table.now a.head (omega arith) (omega arith) (omega arith), c.listener_wait.ensures)

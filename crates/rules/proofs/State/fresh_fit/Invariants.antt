use Rattle.rules.specs.declared.Phase.TheVariants.{Init}
use Rattle.rules.specs.Limits.{max_heads}
use Rattle.rules.specs.State.{head_in}
use Rattle.rules.proofs.Filled.{Filled}
use Rattle.rules.proofs.State.fresh_fit.Given as goal

abbrev pub invariant-loop-k : goal.invariant-loop-k
invariant-loop-k l = Filled (head_in Init) 0 l.fn.t.wakes max_heads l.k l.heads

use Rattle.rules.specs.Limits.{max_heads}
use Rattle.rules.specs.State.{no_head}
use Rattle.rules.proofs.Filled.{Filled}
use Rattle.steps.proofs.Parts.{timeout_in}
use Rattle.steps.proofs.places.timeouts.Given as goal

abbrev pub invariant-loop-k : goal.invariant-loop-k
invariant-loop-k l = Filled timeout_in no_head l.fn.s.heads max_heads l.k l.all

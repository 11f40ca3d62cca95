use Rattle.runs.specs.Open.{open_to}
use Rattle.runs.specs.Gathered.{Holds}
use Rattle.runs.proofs.listing.due_pairs.Given as goal

abbrev pub invariant-loop-k : goal.invariant-loop-k
invariant-loop-k l = Holds l.found (open_to l.s l.k)

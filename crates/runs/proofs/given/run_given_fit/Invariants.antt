use Rattle.std.proofs.Common.{◌≡◌, ◌+◌, ◌≤◌, length, Fits, w64}
use Rattle.runs.specs.Run.{run_from}
use Rattle.runs.proofs.given.run_given_fit.Given as goal

abbrev pub invariant-loop-left : goal.invariant-loop-left
invariant-loop-left l = Fits w64 (length l.pairs) × (l.accepted + length l.left ≤ length l.pairs) × (run_from l.run.table l.run.state l.accepted l.left ≡ run_from l.fn.fit.table l.fn.fit.state 0 l.pairs)

abbrev pub decreases-loop-left : goal.decreases-loop-left
decreases-loop-left l = length l.left

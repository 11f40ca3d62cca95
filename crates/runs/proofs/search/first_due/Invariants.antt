use Rattle.std.proofs.Common.{[], ◌≡◌, ◌-◌, ◌≤◌}
use Rattle.runs.specs.Search.{due_to}
use Rattle.runs.proofs.search.first_due.Given as goal

abbrev pub invariant-loop-i : goal.invariant-loop-i
invariant-loop-i l = (l.i ≤ l.n) × (l.n ≤ 64) × (due_to l.timeouts l.clock l.c l.i ≡ [])

abbrev pub decreases-loop-i : goal.decreases-loop-i
decreases-loop-i l = l.n - l.i

use Rattle.std.proofs.Common.{◌≡◌, ◌-◌, ◌≤◌, []}
use Rattle.runs.specs.Open.{open_to}
use Rattle.runs.specs.Chosen.{policy_from}
use Rattle.runs.proofs.policy.policy_from.Given as goal

abbrev pub invariant-loop-taken : goal.invariant-loop-taken
invariant-loop-taken l = (l.taken ≤ l.fn.count) × (l.from ≤ l.run.table.n) × (open_to l.run.state l.from ≡ []) × (policy_from l.run.table l.run.state l.taken (l.fn.count - l.taken) ≡ policy_from l.fn.fit.table l.fn.fit.state 0 l.fn.count)

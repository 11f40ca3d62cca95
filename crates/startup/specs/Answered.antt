-- Demand 3 of what the library's run functions answer from power-up: `run` and `policy` are what their contracts cite (crate runs).
use Rattle.std.specs.Prelude.{◌≡◌, true, List, ℕ}
use Rattle.rules.specs.declared.Table.{Table}
use Rattle.rules.specs.Table.{table_fits}
use Rattle.rules.specs.State.{fresh}
use Rattle.runs.specs.Run.{run}
use Rattle.runs.specs.Chosen.{policy}
use Rattle.startup.specs.Demand.{InStep}

-- whatever bytes are given as steps, the state that the run answers is in step
abbrev pub Demand3Run : Type 0
Demand3Run = (t : Table) → table_fits t ≡ true → (pairs : List ℕ) → InStep t (run t (fresh t) pairs).state

-- however many steps the policy is given
abbrev pub Demand3Policy : Type 0
Demand3Policy = (t : Table) → table_fits t ≡ true → (count : ℕ) → InStep t (policy t (fresh t) count).state

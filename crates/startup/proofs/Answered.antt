-- A run of given steps comes to the state of a run of accepted steps, so demand 3 holds of it; and a policy run is such a run.
use Rattle.std.proofs.Common.{◌≡◌, sym, subst, true, List, [], ◌∷◌, ◌++◌, ℕ, min}
use Rattle.words.specs.declared.Step.{Step}
use Rattle.words.specs.Pair.{step_of}
use Rattle.rules.specs.declared.State.{State}
use Rattle.rules.specs.declared.Table.{Table}
use Rattle.rules.specs.Table.{table_fits}
use Rattle.rules.specs.State.{state_fits, fresh}
use Rattle.rules.proofs.Meaning.{table_meets, meets_state}
use Rattle.exact.proofs.Keeps.{fresh_meets}
use Rattle.runs.specs.Open.{step_bytes}
use Rattle.runs.specs.Run.{Outcome, run}
use Rattle.runs.specs.Chosen.{longest_run, chosen}
use Rattle.runs.specs.Claims.{Plays, plays_none, plays_lone, plays_refused, plays_accepted}
use Rattle.runs.proofs.Plays.{run_plays}
use Rattle.runs.proofs.Chooses.{policy_runs}
use Rattle.startup.specs.Demand.{Run, power_up, then, InStep}
use Rattle.startup.specs.Answered.{Demand3Run, Demand3Policy}
use Rattle.startup.proofs.InStep.{in_step}

-- some run of accepted steps comes to s
abbrev Comes : Table → State → Type 0
Comes t s = (xs : List Step) × Run t xs s

played_on : (t : Table) {s u : State} {pairs : List ℕ} {k number : ℕ} → Comes t s → Plays t s pairs k u number → Comes t u
played_on t r plays_none = r
played_on t r plays_lone = r
played_on t r (plays_refused e n) = r
played_on t r (plays_accepted {kind = kind} {i = i} e p) = played_on t (r.0 ++ (step_of kind i ∷ []), then r.1 (step_of kind i) e) p

fresh_fits : (t : Table) → table_fits t ≡ true → state_fits t (fresh t) ≡ true
fresh_fits t f = meets_state t (fresh t) (fresh_meets t (table_meets t f))

pub run_in_step : Demand3Run
run_in_step t f pairs = let r = played_on t ([], power_up) (run_plays t (fresh t) pairs f (fresh_fits t f)) in in_step t f r.0 (run t (fresh t) pairs).state r.1

pub policy_in_step : Demand3Policy
policy_in_step t f count =
    subst (λ (o : Outcome). InStep t o.state) (sym (policy_runs t (fresh t) count)) (run_in_step t f (step_bytes (chosen t (fresh t) (min count longest_run))))

-- No run is stuck: some step is accepted, unless the one to come is an advance past the ceiling.
use Rattle.std.proofs.Common.{◌≡◌, true, false, List, ◌⊎◌, inl, inr, ◌<◌}
use borrow.Author.Tests.{lt-leb}
use Rattle.words.specs.declared.Step.{Step}
use Rattle.words.specs.declared.Step.TheVariants.{Advance, Timer, Hear}
use Rattle.words.specs.declared.Refusal.TheVariants.{PastCeiling}
use Rattle.words.specs.Refusal.{number_of, unless, first_refusal}
use Rattle.rules.specs.declared.State.{State}
use Rattle.rules.specs.declared.Table.{Table}
use Rattle.rules.specs.Limits.{ceiling}
use Rattle.rules.specs.Table.{table_fits, table_refusal}
use Rattle.rules.specs.State.{state_refusal}
use Rattle.rules.specs.Step.{due, next_instant}
use Rattle.rules.specs.Judge.{name_refusal, due_refusal, last_refusal, step_refusal, refusal}
use Rattle.rules.specs.Conditions.{TableMeets, StateMeets, Due, a_timer, a_delivery, Enabled}
use Rattle.rules.proofs.Each.{less_or_not, either_or_not, not_both}
use Rattle.rules.proofs.Meaning.{table_meets, meets_table, state_meets, meets_state}
use Rattle.rules.proofs.Moves.{next_least, due_is, is_due}
use Rattle.exact.proofs.Enabled.{accepted_exactly}
use Rattle.exact.proofs.Keeps.{keeps_judged, fresh_meets}
use Rattle.startup.specs.Demand.{Run, power_up, then}

-- there is a step to take, or the clock has come to the end of its range
abbrev pub GoesOn : Table → State → Type 0
GoesOn t s = ((x : Step) × (refusal t s x ≡ 0)) ⊎ (refusal t s Advance ≡ number_of PastCeiling)

module _ (t : Table) (F : TableMeets t) where
  -- every state of a run meets the rules
  run_meets : {xs : List Step} {s : State} → Run t xs s → StateMeets t s
  run_meets power_up = fresh_meets t F
  run_meets (then {s = s} r x e) = state_meets t _ F.heads (keeps_judged t s x e)

  module _ (s : State) (M : StateMeets t s) where
    -- an enabled step is accepted
    take : (x : Step) → Enabled t s x → GoesOn t s
    take x e = inl (x, (accepted_exactly t s x).1 F M e)

    -- what is due can be taken
    due_goes : Due t s → GoesOn t s
    unfolding Enabled
    due_goes (a_timer i h e) = take (Timer i) (h, e)
    due_goes (a_delivery i h e) = take (Hear i) (h, e)

    -- and where nothing is due, the clock goes on, if it may
    past : due t s ≡ false → ceiling < next_instant t s → refusal t s Advance ≡ number_of PastCeiling
    unfolding refusal table_refusal state_refusal step_refusal name_refusal due_refusal last_refusal unless first_refusal
    past e l = rw (meets_table t F, meets_state t s M, e, lt-leb _ _ l)

    idle_goes : due t s ≡ false → GoesOn t s
    unfolding Enabled
    idle_goes e = elim (less_or_not ceiling (next_instant t s)) [
      | inl l ↦ inr (past e l)
      | inr l ↦ take Advance (λ d. not_both (due t s) (is_due t s d) e, (next_instant t s, (next_least t s F.some_head, l)))
    ]

    meets_goes : GoesOn t s
    meets_goes = elim (either_or_not (due t s)) [ inl e ↦ due_goes (due_is t s e) | inr e ↦ idle_goes e ]

pub goes_on : (t : Table) → table_fits t ≡ true → {xs : List Step} {s : State} → Run t xs s → GoesOn t s
goes_on t f {s = s} r = let F = table_meets t f in meets_goes t F s (run_meets t F r)

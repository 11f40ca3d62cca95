-- A step is accepted just when it is enabled, on a table and a state that fit.
use Rattle.std.proofs.Common.{◌≡◌, refl, ap, false, not, inl, inr, ℕ, ◌≤◌, arith, eqb-true, leb-true, eq-eqb, ne_eqb, le-leb}
use borrow.Author.Tests.{not-true}
use Rattle.words.specs.declared.Step.{Step}
use Rattle.words.specs.declared.Step.TheVariants.{Advance, Timer, Hear}
use Rattle.words.specs.declared.Refusal.TheVariants.{TableRange, StateRule, NoSuchStep, SomethingDue, TimerNotDue, NotHearing, PastCeiling, OwnFrame}
use Rattle.words.proofs.Order.{unless_is, is_unless, row_is, is_row, by_first, by_second, by_third, row_gives, unless_gives}
use Rattle.rules.specs.declared.State.{State}
use Rattle.rules.specs.declared.Table.{Table}
use Rattle.rules.specs.Limits.{ceiling}
use Rattle.rules.specs.Table.{table_refusal}
use Rattle.rules.specs.State.{state_refusal}
use Rattle.rules.specs.Step.{due, timer_due, next_instant, advance, moved}
use Rattle.rules.specs.Judge.{name_refusal, due_refusal, last_refusal, step_refusal, refusal}
use Rattle.rules.specs.Conditions.{TableMeets, Hears, StateMeets, Least, Enabled}
use Rattle.rules.proofs.Each.{either_or_not, not_both}
use Rattle.rules.proofs.Meaning.{head_is, is_head_lem, hear_due_is, is_hear_due, table_meets, meets_table, state_meets, meets_state, hearer_waits}
use Rattle.rules.proofs.Moves.{next_first, next_least, due_is, is_due}
use Rattle.exact.specs.Claims.{AcceptedExactly, NeverOwnFrame, AdvanceLeast}

-- where a least instant is at most the ceiling, so is the next one
pub next_low : (t : Table) (s : State) → (c : ℕ) × (Least t s c × (c ≤ ceiling)) → next_instant t s ≤ ceiling
next_low t s r = let l = next_first t s r.0 r.1.0.instant in let h = r.1.1 in omega arith

-- an origin is no hearer, so the last test (13) never refuses a hearing
pub hearer_not_origin : (t : Table) (s : State) → StateMeets t s → (i : ℕ) → Hears s.calendar i → i ≡ s.calendar.origin → ⊥
hearer_not_origin t s m i h e = (m.frame (hearer_waits s.calendar i h)).deaf (rw e at h)

module _ (t : Table) (s : State) (f : TableMeets t) (m : StateMeets t s) where
  -- a step that no number refuses is enabled
  pub enabled_is : (x : Step) → step_refusal t s x ≡ 0 → Enabled t s x
  unfolding step_refusal name_refusal due_refusal last_refusal timer_due Enabled
  enabled_is Advance e = let r = row_is _ _ _ e in (
    λ d. not_both (due t s) (is_due t s d) (not-true (due t s) (unless_is _ SomethingDue r.1)),
    (next_instant t s, (next_least t s f.some_head, leb-true _ _ (unless_is _ PastCeiling r.2))),
  )
  enabled_is (Timer i) e = let r = row_is _ _ _ e in (head_is t i (unless_is _ NoSuchStep r.0), eqb-true _ _ (unless_is _ TimerNotDue r.1))
  enabled_is (Hear i) e = let r = row_is _ _ _ e in hear_due_is s.clock s.calendar i (unless_is _ NotHearing r.1)

  -- an enabled step is refused by no number
  pub is_enabled : (x : Step) → Enabled t s x → step_refusal t s x ≡ 0
  unfolding step_refusal name_refusal due_refusal last_refusal timer_due Enabled
  is_enabled Advance e = is_row refl (is_unless _ SomethingDue (ap not calm)) (is_unless _ PastCeiling (le-leb _ _ (next_low t s e.1)))
    where
      calm : due t s ≡ false
      calm = elim (either_or_not (due t s)) [ inl d ↦ absurd (e.0 (due_is t s d)) | inr d ↦ d ]
  is_enabled (Timer i) e = is_row (is_unless _ NoSuchStep (is_head_lem t i e.0)) (is_unless _ TimerNotDue (eq-eqb _ _ e.1)) refl
  is_enabled (Hear i) e = is_row
      (is_unless _ NoSuchStep (is_head_lem t i (m.few i e.0)))
      (is_unless _ NotHearing (is_hear_due s.clock s.calendar i e.0 e.1))
      (is_unless _ OwnFrame (ap not (ne_eqb _ _ (hearer_not_origin t s m i e.0))))

-- so a step is accepted just when it is enabled
pub accepted_exactly : AcceptedExactly
unfolding refusal table_refusal state_refusal
accepted_exactly t s x = (only, λ f m e. is_row (is_unless _ TableRange (meets_table t f)) (is_unless _ StateRule (meets_state t s m)) (is_enabled t s f m x e))
  where
    only : refusal t s x ≡ 0 → TableMeets t × StateMeets t s × Enabled t s x
    only e =
        let r = row_is _ _ _ e in
        let f = table_meets t (unless_is _ TableRange r.0) in
        let m = state_meets t s f.heads (unless_is _ StateRule r.1) in
        (f, m, enabled_is t s f m x r.2)

-- each test gives its own number; that of 13 is reached only by a hearer, and an origin is none
pub never_own_frame : NeverOwnFrame
unfolding refusal table_refusal state_refusal step_refusal name_refusal due_refusal last_refusal
never_own_frame t s x e = elim (row_gives _ _ _ 12 e) [
  | by_first p ↦ omega (arith, unless_gives _ TableRange 12 p)
  | by_second a p ↦ omega (arith, unless_gives _ StateRule 12 p)
  | by_third a b p ↦ step x (state_meets t s (table_meets t (unless_is _ TableRange a)).heads (unless_is _ StateRule b)) p
]
  where
    step : (x : Step) → StateMeets t s → step_refusal t s x ≡ 13 → ⊥
    step Advance m e = elim (row_gives _ _ _ 12 e) [
      | by_first p ↦ omega arith
      | by_second a p ↦ omega (arith, unless_gives _ SomethingDue 12 p)
      | by_third a b p ↦ omega (arith, unless_gives _ PastCeiling 12 p)
    ]
    step (Timer i) m e = elim (row_gives _ _ _ 12 e) [
      | by_first p ↦ omega (arith, unless_gives _ NoSuchStep 12 p)
      | by_second a p ↦ omega (arith, unless_gives _ TimerNotDue 12 p)
      | by_third a b p ↦ omega arith
    ]
    step (Hear i) m e = elim (row_gives _ _ _ 12 e) [
      | by_first p ↦ omega (arith, unless_gives _ NoSuchStep 12 p)
      | by_second a p ↦ omega (arith, unless_gives _ NotHearing 12 p)
      | by_third a b p ↦ let h = (hear_due_is s.clock s.calendar i (unless_is _ NotHearing b)).0 in
          let z = is_unless _ OwnFrame (ap not (ne_eqb _ _ (hearer_not_origin t s m i h))) in omega arith
    ]

-- an advance comes to the least instant
pub advance_least : AdvanceLeast
unfolding moved advance
advance_least t s f = next_least t s f.some_head

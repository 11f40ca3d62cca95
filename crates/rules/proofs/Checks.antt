-- The record checks and the fresh state, case by case and in the code's own terms: each return of a function cites one law.
use Rattle.std.proofs.Common.{◌≡◌, sym, ◌∙◌, true, false, inl, inr, List, [], map, ℕ, zero, suc, ◌+◌, ◌-◌, ◌≤◌, add-one, arith, get_or}
use Rattle.words.specs.declared.Step.{Step}
use Rattle.words.specs.declared.Refusal.TheVariants.{TableRange, StateRule}
use Rattle.words.specs.Refusal.{number_of, unless}
use Rattle.words.proofs.Order.{unless_is, is_unless, unless_not, first_is, first_some, first_none, first_last}
use Rattle.rules.specs.declared.Phase.TheVariants.{Init}
use Rattle.rules.specs.declared.Head.{Head}
use Rattle.rules.specs.declared.State.{State}
use Rattle.rules.specs.declared.Table.{Table}
use Rattle.rules.specs.declared.Calendar.{Calendar}
use Rattle.rules.specs.Judge.{step_refusal, record_refusal, refusal}
use Rattle.rules.specs.Table.{wake_of, wake_fits, table_fits, table_refusal}
use Rattle.rules.specs.Calendar.{empty_calendar}
use Rattle.rules.specs.State.{head_in, no_head, head_of, place_fits, state_fits, state_refusal, fresh, fresh_or_blank}
use Rattle.rules.proofs.Each.{same_or_not, either_or_not}

-- ---- places, by the index that the code has

pub wake_at : (t : Table) (i : ℕ) → 1 ≤ i → wake_of t i ≡ get_or t.wakes (i - 1) 0
unfolding wake_of
wake_at t zero l = absurd (omega arith)
wake_at t (suc k) l = let e : suc k - 1 ≡ k = omega arith in rw e

pub head_at : (hs : List Head) (i : ℕ) → 1 ≤ i → head_of hs i ≡ get_or hs (i - 1) no_head
unfolding head_of
head_at hs zero l = absurd (omega arith)
head_at hs (suc k) l = let e : suc k - 1 ≡ k = omega arith in rw e

pub wake_place : (t : Table) (k : ℕ) → wake_fits t.n (k + 1) (get_or t.wakes k 0) ≡ wake_fits t.n (suc k) (wake_of t (suc k))
unfolding wake_of
wake_place t k = rw add-one

pub head_place : (t : Table) (clock : ℕ) (hs : List Head) (k : ℕ) → place_fits t clock (k + 1) (get_or hs k no_head) ≡ place_fits t clock (suc k) (head_of hs (suc k))
unfolding head_of
head_place t clock hs k = rw add-one

-- ---- the verdict on a table

module _ (t : Table) where
  pub table_accepted : table_fits t ≡ true → 0 ≡ table_refusal t
  unfolding table_refusal
  table_accepted e = sym (is_unless (table_fits t) TableRange e)

  pub accepted_table : table_refusal t ≡ 0 → table_fits t ≡ true
  unfolding table_refusal
  accepted_table e = unless_is (table_fits t) TableRange e

  pub refused_table : (table_refusal t ≡ 0 → ⊥) → table_fits t ≡ false
  refused_table n = elim (either_or_not (table_fits t)) [ inl e ↦ absurd (n (sym (table_accepted e))) | inr e ↦ e ]

-- ---- the verdict on a state

module _ (t : Table) (s : State) where
  -- the clock of a state whose front fits

  pub record_table : (table_refusal t ≡ 0 → ⊥) → table_refusal t ≡ record_refusal t s
  unfolding record_refusal
  record_table n = sym (first_some (table_refusal t) _ n)

  pub record_state : table_fits t ≡ true → state_fits t s ≡ false → number_of StateRule ≡ record_refusal t s
  unfolding record_refusal state_refusal
  record_state a b = sym (first_none (table_refusal t) _ (sym (table_accepted t a)) ∙ first_last (unless (state_fits t s) StateRule) ∙ unless_not (state_fits t s) StateRule b)

  pub record_accepted : table_fits t ≡ true → state_fits t s ≡ true → 0 ≡ record_refusal t s
  unfolding record_refusal state_refusal
  record_accepted a b = sym (first_none (table_refusal t) _ (sym (table_accepted t a)) ∙ first_last (unless (state_fits t s) StateRule) ∙ is_unless (state_fits t s) StateRule b)

  pub accepted_record : record_refusal t s ≡ 0 → (table_fits t ≡ true) × (state_fits t s ≡ true)
  unfolding record_refusal state_refusal
  accepted_record e = let r = first_is (table_refusal t) _ e in (accepted_table t r.0, unless_is (state_fits t s) StateRule (first_is (unless (state_fits t s) StateRule) [] r.1).0)

-- ---- a judged step: the refusal of its records, or its own where there is none

module _ (t : Table) (s : State) (x : Step) where
  pub refusal_record : (record_refusal t s ≡ 0 → ⊥) → refusal t s x ≡ record_refusal t s
  unfolding refusal record_refusal
  refusal_record n = elim (same_or_not (table_refusal t) 0) [
    | inl e ↦ first_none (table_refusal t) _ e ∙ first_some (state_refusal t s) _ (λ z. n (first_none (table_refusal t) _ e ∙ first_last (state_refusal t s) ∙ z)) ∙ sym (first_none (table_refusal t) _ e ∙ first_last (state_refusal t s))
    | inr e ↦ first_some (table_refusal t) _ e ∙ sym (first_some (table_refusal t) _ e)
  ]

  pub refusal_step : record_refusal t s ≡ 0 → refusal t s x ≡ step_refusal t s x
  unfolding refusal record_refusal
  refusal_step e =
      let a = first_is (table_refusal t) _ e in
      let b = first_is (state_refusal t s) _ a.1 in
      first_none (table_refusal t) _ a.0 ∙ first_none (state_refusal t s) _ b.0 ∙ first_last (step_refusal t s x)

-- ---- the fresh state of a table

pub fresh_made : (t : Table) (c : Calendar) (hs : List Head) → c ≡ empty_calendar → hs ≡ map (head_in Init) t.wakes → record { clock = 0; n = t.n; calendar = c; heads = hs } ≡ fresh t
unfolding fresh
fresh_made t c hs e h = rw (e, h)

pub fresh_fits : (t : Table) → table_fits t ≡ true → fresh t ≡ fresh_or_blank t
unfolding fresh_or_blank
fresh_fits t f = rw f

-- The search and the runs, case by case and in the code's own terms: each return of a function cites one law.
use Rattle.std.proofs.Common.{◌≡◌, refl, sym, ap, ◌∙◌, true, false, List, [], ◌∷◌, ◌++◌, inl, inr, ℕ, zero, suc, ◌+◌, ◌-◌, ◌≤◌, ◌<◌, add-one, arith, eqb, get_or, eq-eqb, ne_eqb}
use Rattle.words.specs.declared.Step.{Step}
use Rattle.words.specs.declared.Step.TheVariants.{Advance, Timer, Hear}
use Rattle.rules.specs.declared.Calendar.{Calendar}
use Rattle.rules.specs.declared.State.{State}
use Rattle.rules.specs.declared.Table.{Table}
use Rattle.rules.specs.Table.{table_fits}
use Rattle.rules.specs.Limits.{max_heads}
use Rattle.rules.specs.State.{head_of, state_fits}
use Rattle.rules.specs.Step.{timer_due, moved}
use Rattle.rules.specs.Judge.{step_refusal, record_refusal}
use Rattle.rules.proofs.Meaning.{table_meets, state_meets, meets_state}
use Rattle.exact.proofs.Keeps.{keeps}
use Rattle.rules.specs.Calendar.{hear_due}
use Rattle.runs.specs.Open.{only_if, open_at, open_to, open_steps, first_or, first_due}
use Rattle.runs.specs.Run.{Outcome, stopped, onward, checked}
use Rattle.runs.specs.Chosen.{on_first, policy_from}
use Rattle.steps.specs.Parts.{place, timeouts}
use Rattle.steps.proofs.Parts.{place_low, place_in, timeout_at}
use Rattle.rules.proofs.Each.{same_or_not}
use Rattle.runs.specs.Search.{due_to}
use Rattle.runs.proofs.Opens.{first_open, first_refused}

-- ---- the search, by the timeouts alone

pub due_to_lem : (s : State) (k : ℕ) → due_to (timeouts s.heads) s.clock s.calendar k ≡ open_to s k
unfolding due_to open_to open_at timer_due head_of
due_to_lem s zero = refl
due_to_lem s (suc k) = rw (due_to_lem s k, timeout_at s.heads k)

-- the same of a search among the timeouts es beside a state
module _ (s : State) (es : List ℕ) (r : es ≡ timeouts s.heads) (k : ℕ) where
  beside : due_to es s.clock s.calendar k ≡ open_to s k
  beside = rw r (due_to_lem s k)

  pub quiet_beside : open_to s k ≡ [] → due_to es s.clock s.calendar k ≡ []
  quiet_beside e = beside ∙ e

  pub quiet_of : due_to es s.clock s.calendar k ≡ [] → open_to s k ≡ []
  quiet_of e = sym beside ∙ e

  pub first_found : (x : Step) → x ≡ first_or Advance (due_to es s.clock s.calendar k) → x ≡ first_due s k
  unfolding first_due
  first_found x e = e ∙ ap (first_or Advance) beside

module _ (es : List ℕ) (clock : ℕ) (c : Calendar) where
  -- what is first at heads 1 to k is first at heads 1 to n
  starts : (n k : ℕ) → k ≤ n → (x : Step) (r : List Step) → due_to es clock c k ≡ x ∷ r → (q : List Step) × (due_to es clock c n ≡ x ∷ q)
  unfolding due_to
  starts zero k l x r e = (r, let z : k ≡ 0 = omega arith in rw z at e)
  starts (suc n) k l x r e = elim (same_or_not k (suc n)) [
    | inl z ↦ (r, rw z at e)
    | inr z ↦ let q = starts n k (omega arith) x r e in
        (q.0 ++ (only_if (eqb (get_or es n 0) clock) (Timer (suc n)) ++ only_if (hear_due clock c (suc n)) (Hear (suc n))), rw q.1)
  ]

  -- nothing is due at the first k heads
  module _ (n k : ℕ) (before : due_to es clock c k ≡ []) where
    pub found_none : k ≡ n → Advance ≡ first_or Advance (due_to es clock c n)
    unfolding first_or
    found_none e = rw (← e, before)

    -- what is due at the next head is the first that is due
    found_at : k < n → (x : Step) (r : List Step) → due_to es clock c (suc k) ≡ x ∷ r → x ≡ first_or Advance (due_to es clock c n)
    unfolding first_or
    found_at l x r e = let q = starts n (suc k) (omega arith) x r e in rw q.1

    pub found_timer : k < n → get_or es k 0 ≡ clock → Timer (k + 1) ≡ first_or Advance (due_to es clock c n)
    unfolding due_to only_if
    found_timer l e = rw add-one (found_at l (Timer (suc k)) (only_if (hear_due clock c (suc k)) (Hear (suc k))) (rw (before, eq-eqb _ _ e)))

    pub found_hear : k < n → (get_or es k 0 ≡ clock → ⊥) → hear_due clock c (k + 1) ≡ true → Hear (k + 1) ≡ first_or Advance (due_to es clock c n)
    unfolding due_to only_if
    found_hear l e h = rw add-one (found_at l (Hear (suc k)) [] (rw (before, ne_eqb _ _ e, rw add-one at h)))

  pub found_later : (k : ℕ) → due_to es clock c k ≡ [] → (get_or es k 0 ≡ clock → ⊥) → hear_due clock c (k + 1) ≡ false → due_to es clock c (k + 1) ≡ []
  unfolding due_to only_if
  found_later k before e h = rw add-one (rw (before, ne_eqb _ _ e, rw add-one at h))

  -- and so below the step that is found at place k
  pub quiet_at : (k : ℕ) → k < max_heads → due_to es clock c k ≡ [] → due_to es clock c (place (k + 1)) ≡ []
  quiet_at k l e = let q : k + 1 - 1 ≡ k = omega arith in rw (place_in (k + 1) (omega arith) (omega arith), q) e

  pub quiet_first : due_to es clock c (place 0) ≡ []
  unfolding due_to
  quiet_first = rw (← place_low 0 (omega arith))

-- ---- runs: stopped, or on

pub on_stops : (s : State) (k n : ℕ) (o : Outcome) → (n ≡ 0 → ⊥) → onward s k n o ≡ stopped s k n
unfolding onward
on_stops s k n o z = rw (ne_eqb n 0 z)

pub on_goes : (s : State) (k n : ℕ) (o : Outcome) → n ≡ 0 → onward s k n o ≡ o
unfolding onward
on_goes s k n o e = rw e

module _ (t : Table) (s : State) (o : Outcome) where
  pub unfit : (n : ℕ) → n ≡ record_refusal t s → (record_refusal t s ≡ 0 → ⊥) → stopped s 0 n ≡ checked t s o
  unfolding checked
  unfit n e z = ap (stopped s 0) e ∙ sym (on_stops s 0 (record_refusal t s) o z)

  pub fit : record_refusal t s ≡ 0 → o ≡ checked t s o
  unfolding checked
  fit e = sym (on_goes s 0 (record_refusal t s) o e)

-- an accepted step keeps the state rules
pub moved_fits : (t : Table) (s : State) (x : Step) → table_fits t ≡ true → state_fits t s ≡ true → step_refusal t s x ≡ 0 → state_fits t (moved t s x) ≡ true
moved_fits t s x f g e = let m = table_meets t f in meets_state t (moved t s x) (keeps t s x m (state_meets t s m.heads g) e)

pub still_fits : (t : Table) (s u : State) (x : Step) → table_fits t ≡ true → state_fits t s ≡ true → step_refusal t s x ≡ 0 → u ≡ moved t s x → state_fits t u ≡ true
still_fits t s u x f g e a = rw a (moved_fits t s x f g e)

-- ---- a run by the policy: what is left of it after k of n steps

module _ (t : Table) (s : State) (f : table_fits t ≡ true) (g : state_fits t s ≡ true) (k n : ℕ) {o : Outcome} (before : policy_from t s k (n - k) ≡ o) where
  policy_turn : k < n → on_first (open_steps t s) (λ x. policy_from t (moved t s x) (k + 1) (n - (k + 1))) (stopped s k 0) ≡ o
  unfolding policy_from
  policy_turn l = let e : n - k ≡ suc (n - (k + 1)) = omega arith in rw (add-one k) (rw (e, add-one k) at before)

  pub policy_on : k < n → (x : Step) → x ≡ first_due s t.n → (u : State) → u ≡ moved t s x → step_refusal t s x ≡ 0 → policy_from t u (k + 1) (n - (k + 1)) ≡ o
  unfolding on_first
  policy_on l x e u a z =
      let m = table_meets t f in
      let r = first_open t s m (state_meets t s m.heads g) (rw e at z) in
      rw (a, e) (rw r.1 at (policy_turn l))

  pub policy_stuck : k < n → (x : Step) → x ≡ first_due s t.n → (step_refusal t s x ≡ 0 → ⊥) → stopped s k 0 ≡ o
  unfolding on_first
  policy_stuck l x e z =
      let m = table_meets t f in
      rw (first_refused t s m (state_meets t s m.heads g) (rw e at z)) at (policy_turn l)

  pub policy_done : n ≤ k → stopped s k 0 ≡ o
  unfolding policy_from
  policy_done l = let e : n - k ≡ 0 = omega arith in rw e at before

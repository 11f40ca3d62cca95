-- Runs by the policy: they are the runs of the steps that it chose.
use Rattle.std.proofs.Common.{◌≡◌, refl, sym, ap, subst, ◌∙◌, true, List, [], ◌∷◌, inl, inr, ℕ, zero, suc, ◌+◌, ◌≤◌, ◌<◌, min, arith}
use mathlib.Core.List.{Memᴰ}
use Rattle.words.specs.declared.Step.{Step}
use Rattle.words.specs.declared.Step.TheVariants.{Advance, Timer, Hear}
use Rattle.words.specs.Pair.{kind_of, head_number, step_of}
use Rattle.rules.specs.declared.State.{State}
use Rattle.rules.specs.declared.Table.{Table}
use Rattle.rules.specs.Table.{table_fits}
use Rattle.rules.specs.State.{state_fits}
use Rattle.rules.specs.Step.{moved}
use Rattle.rules.specs.Judge.{step_refusal, record_refusal}
use Rattle.rules.proofs.Each.{same_or_not}
use Rattle.rules.proofs.Meaning.{table_meets, state_meets}
use Rattle.rules.proofs.Checks.{record_accepted, accepted_record}
use Rattle.runs.specs.Open.{open_steps, step_bytes}
use Rattle.runs.specs.Run.{Outcome, stopped, run_from, checked, run}
use Rattle.runs.specs.Chosen.{longest_run, on_first, policy_from, policy, chosen}
use Rattle.runs.specs.Claims.{UnfitRefused, PolicyRuns, PolicyRefused, PolicyStops}
use Rattle.runs.proofs.Opens.{open_accepted}
use Rattle.runs.proofs.Laws.{unfit, fit, moved_fits}
use Rattle.runs.proofs.Plays.{run_goes, run_unfit}

-- a step is read back from its pair
read_back : (x : Step) → step_of (kind_of x) (head_number x) ≡ x
unfolding step_of
read_back Advance = refl
read_back (Timer i) = refl
read_back (Hear i) = refl

-- the first step of the list is accepted
first_accepted : (t : Table) (s : State) → table_fits t ≡ true → state_fits t s ≡ true → (x : Step) (rest : List Step) → open_steps t s ≡ x ∷ rest → step_refusal t s x ≡ 0
first_accepted t s f g x rest e = let m = table_meets t f in open_accepted t s m (state_meets t s m.heads g) x (subst (Memᴰ x) (sym e) (Memᴰ.head refl))

-- a turn of the policy, by the list; k steps were taken before, n are left after it
module _ (t : Table) (s : State) (k n : ℕ) where
  turn_none : open_steps t s ≡ [] → policy_from t s k (suc n) ≡ stopped s k 0
  unfolding policy_from on_first
  turn_none e = rw e

  turn_first : (x : Step) (rest : List Step) → open_steps t s ≡ x ∷ rest → policy_from t s k (suc n) ≡ policy_from t (moved t s x) (suc k) n
  unfolding policy_from on_first
  turn_first x rest e = rw e

chosen_first : (t : Table) (s : State) (n : ℕ) (x : Step) (rest : List Step) → open_steps t s ≡ x ∷ rest → chosen t s (suc n) ≡ x ∷ chosen t (moved t s x) n
unfolding chosen on_first
chosen_first t s n x rest e = rw e

policy_from_runs : (t : Table) (s : State) (k n : ℕ) → table_fits t ≡ true → state_fits t s ≡ true → policy_from t s k n ≡ run_from t s k (step_bytes (chosen t s n))
unfolding policy_from run_from chosen step_bytes on_first
policy_from_runs t s k zero f g = refl
policy_from_runs t s k (suc n) f g = go (open_steps t s) refl (λ u w. policy_from_runs t u (suc k) n f w)
  where
    go : (l : List Step) → open_steps t s ≡ l → ((u : State) → state_fits t u ≡ true → policy_from t u (suc k) n ≡ run_from t u (suc k) (step_bytes (chosen t u n)))
        → policy_from t s k (suc n) ≡ run_from t s k (step_bytes (chosen t s (suc n)))
    go [] e rest = rw e
    go (x ∷ l) e rest =
        let z = first_accepted t s f g x l e in
        let r = read_back x in
        turn_first t s k n x l e ∙ rest (moved t s x) (moved_fits t s x f g z)
        ∙ sym (ap (λ (y : List Step). run_from t s k (step_bytes y)) (chosen_first t s n x l e) ∙ run_goes t s k (kind_of x) (head_number x) (step_bytes (chosen t (moved t s x) n)) (rw r z) ∙ ap (λ (y : Step). run_from t (moved t s y) (suc k) (step_bytes (chosen t (moved t s x) n))) r)

policy_unfit : (t : Table) (s : State) → (record_refusal t s ≡ 0 → ⊥) → (count : ℕ) → policy t s count ≡ stopped s 0 (record_refusal t s)
unfolding policy
policy_unfit t s n count = sym (unfit t s (policy_from t s 0 (min count longest_run)) (record_refusal t s) refl n)

pub unfit_refused : UnfitRefused
unfit_refused t s pairs count n = (run_unfit t s n pairs, policy_unfit t s n count)

pub policy_runs : PolicyRuns
unfolding policy run
policy_runs t s count = elim (same_or_not (record_refusal t s) 0) [
  | inl e ↦ fits (accepted_record t s e)
  | inr n ↦ policy_unfit t s n count ∙ sym (run_unfit t s n (step_bytes (chosen t s (min count longest_run))))
]
  where
    fits : (table_fits t ≡ true) × (state_fits t s ≡ true) → policy t s count ≡ run t s (step_bytes (chosen t s (min count longest_run)))
    fits w = ap (checked t s) (policy_from_runs t s 0 (min count longest_run) w.0 w.1)

-- nothing is refused on the way
policy_from_calm : (t : Table) (s : State) (k n : ℕ) → (policy_from t s k n).refusal ≡ 0
unfolding policy_from
policy_from_calm t s k zero = refl
policy_from_calm t s k (suc n) = go (open_steps t s) refl (λ u. policy_from_calm t u (suc k) n)
  where
    go : (l : List Step) → open_steps t s ≡ l → ((u : State) → (policy_from t u (suc k) n).refusal ≡ 0) → (policy_from t s k (suc n)).refusal ≡ 0
    go [] e rest = ap (λ (o : Outcome). o.refusal) (turn_none t s k n e)
    go (x ∷ l) e rest = ap (λ (o : Outcome). o.refusal) (turn_first t s k n x l e) ∙ rest (moved t s x)

pub policy_refused : PolicyRefused
unfolding policy
policy_refused t s count = elim (same_or_not (record_refusal t s) 0) [
  | inl e ↦ ap (λ (o : Outcome). o.refusal) (sym (fit t s (policy_from t s 0 (min count longest_run)) e)) ∙ policy_from_calm t s 0 (min count longest_run) ∙ sym e
  | inr n ↦ ap (λ (o : Outcome). o.refusal) (policy_unfit t s n count)
]

-- of n steps after k, all are taken, or the list is empty
Stops : Table → ℕ → Outcome → Type 0
Stops t n o = (o.accepted ≤ n) × (o.accepted < n → open_steps t o.state ≡ [])

policy_from_stops : (t : Table) (s : State) (k n : ℕ) → Stops t (k + n) (policy_from t s k n)
unfolding policy_from Stops
policy_from_stops t s k zero = (omega arith, λ l. absurd (omega arith))
policy_from_stops t s k (suc n) = go (open_steps t s) refl (λ u. policy_from_stops t u (suc k) n)
  where
    go : (l : List Step) → open_steps t s ≡ l → ((u : State) → Stops t (suc k + n) (policy_from t u (suc k) n)) → Stops t (k + suc n) (policy_from t s k (suc n))
    go [] e rest = subst (Stops t (k + suc n)) (sym (turn_none t s k n e)) (omega arith, λ l. e)
    go (x ∷ l) e rest = subst (Stops t (k + suc n)) (sym (turn_first t s k n x l e)) (let q : suc k + n ≡ k + suc n = omega arith in rw q at (rest (moved t s x)))

pub policy_stops : PolicyStops
unfolding policy Stops
policy_stops t s count f g =
    let n = min count longest_run in
    subst (Stops t n) (fit t s (policy_from t s 0 n) (sym (record_accepted t s f g))) (let q : 0 + n ≡ n = omega arith in rw q at (policy_from_stops t s 0 n))

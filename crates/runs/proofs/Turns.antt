-- A turn of each loop: what a step makes of a run, and what is left of the run after it.
use Rattle.std.proofs.Common.{◌≡◌, refl, sym, ap, ◌∙◌, ℕ, ◌+◌, ◌-◌, ◌≤◌, ◌<◌, List, [], ◌∷◌, length, get_or, take, drop, take_all, Result, Ok, Err, add-one, arith}
use Rattle.std.proofs.Common.{ne_eqb}
use Rattle.words.specs.declared.Step.{Step}
use Rattle.words.specs.declared.Refusal.{Refusal}
use Rattle.words.specs.declared.Refusal.TheVariants.{NoSuchStep}
use Rattle.words.specs.Refusal.{number_of, verdict_number}
use Rattle.words.specs.Pair.{step_of, head_number}
use Rattle.words.proofs.Order.{refused_some}
use Rattle.rules.specs.declared.State.{State}
use Rattle.rules.specs.declared.Table.{Table}
use Rattle.rules.specs.Step.{moved}
use Rattle.rules.specs.Judge.{step_refusal, state_after}
use Rattle.rules.proofs.Meaning.{table_meets}
use Rattle.steps.specs.Parts.{place}
use Rattle.steps.proofs.Parts.{ready, place_within}
use Rattle.runs.specs.declared.run.Run.{Run}
use Rattle.runs.specs.Stepped.{Stepped}
use Rattle.runs.specs.Open.{open_to, first_due}
use Rattle.runs.specs.Run.{Outcome, stopped, run_from}
use Rattle.runs.specs.Chosen.{policy_from}
use Rattle.runs.proofs.Below.{nothing_below}
use Rattle.runs.proofs.Laws.{on_stops, on_goes, policy_on, policy_stuck}

-- ---- what a step made of a run

module _ (r u : Run) (x : Step) (v : Result (Unit {0}) Refusal) (s : Stepped x r u v) where
  module _ (a : Unit {0}) (e : v ≡ Ok a) where
    pub accepted : step_refusal r.table r.state x ≡ 0
    accepted = sym s.number ∙ ap verdict_number e

    pub next : u.state ≡ moved r.table r.state x
    unfolding state_after
    next = s.state ∙ rw accepted refl

  module _ (y : Refusal) (e : v ≡ Err y) where
    pub refused : step_refusal r.table r.state x ≡ 0 → ⊥
    refused z = refused_some v _ y s.number e z

    pub unchanged : u.state ≡ r.state
    unfolding state_after
    unchanged = s.state ∙ rw (ne_eqb (step_refusal r.table r.state x) 0 refused) refl

-- ---- a run of given steps, k of them accepted, with the bytes l left

two : (l : List ℕ) → 2 ≤ length l → l ≡ get_or l 0 0 ∷ get_or l 1 0 ∷ take (length l - 2) (drop 2 l)
two [] h = absurd (omega arith)
two (a ∷ []) h = absurd (omega arith)
two (a ∷ b ∷ l) h = let q : length (a ∷ b ∷ l) - 2 ≡ length l = omega arith in rw q (ap (λ (y : List ℕ). a ∷ b ∷ y) (sym (take_all _ l (omega arith))))

pub left_short : (l : List ℕ) → 2 ≤ length l → length l ≡ length (take (length l - 2) (drop 2 l)) + 2
left_short l h = let e = ap length (two l h) in omega arith

module _ (r u : Run) (k : ℕ) (l : List ℕ) {o : Outcome} (before : run_from r.table r.state k l ≡ o) (h : 2 ≤ length l)
    (x : Step) (q : x ≡ step_of (get_or l 0 0) (get_or l 1 0)) (v : Result (Unit {0}) Refusal) (s : Stepped x r u v) where
  pub given_on : (a : Unit {0}) → v ≡ Ok a → run_from u.table u.state (k + 1) (take (length l - 2) (drop 2 l)) ≡ o
  unfolding run_from
  given_on a e =
      let turn = sym (ap (run_from r.table r.state k) (two l h)) ∙ before in
      rw (s.table, next r u x v s a e, q, add-one k) (sym (on_goes r.state k _ _ (rw q at (accepted r u x v s a e))) ∙ turn)

  pub given_stops : (y : Refusal) → v ≡ Err y → stopped u.state k (verdict_number v) ≡ o
  unfolding run_from
  given_stops y e =
      let turn = sym (ap (run_from r.table r.state k) (two l h)) ∙ before in
      rw (unchanged r u x v s y e, s.number, q) (sym (on_stops r.state k _ _ (rw q at (refused r u x v s y e))) ∙ turn)

pub given_lone : (t : Table) (s : State) (k : ℕ) (l : List ℕ) {o : Outcome} → run_from t s k l ≡ o → 1 ≤ length l → length l < 2 → stopped s k (number_of NoSuchStep) ≡ o
unfolding run_from
given_lone t s k [] before h m = absurd (omega arith)
given_lone t s k (a ∷ []) before h m = before
given_lone t s k (a ∷ b ∷ l) before h m = absurd (omega arith)

pub given_done : (t : Table) (s : State) (k : ℕ) (l : List ℕ) {o : Outcome} → run_from t s k l ≡ o → length l ≡ 0 → stopped s k 0 ≡ o
unfolding run_from
given_done t s k [] before h = before
given_done t s k (a ∷ l) before h = absurd (omega arith)

-- ---- a run by the policy, k of n steps taken; the next search begins at the place of the step that was found

module _ (r u : Run) (k n : ℕ) {o : Outcome} (before : policy_from r.table r.state k (n - k) ≡ o) (m : k < n)
    (x : Step) (q : x ≡ first_due r.state r.table.n) (v : Result (Unit {0}) Refusal) (s : Stepped x r u v) where
  module _ (a : Unit {0}) (e : v ≡ Ok a) where
    pub policy_goes : policy_from u.table u.state (k + 1) (n - (k + 1)) ≡ o
    policy_goes = rw s.table (policy_on r.table r.state r.table_fits r.state_fits k n before m x q u.state (next r u x v s a e) (accepted r u x v s a e))

    pub found_within : place (head_number x) ≤ u.table.n
    found_within = rw s.table (place_within r.table r.state.clock x (ready r.table r.state r.table_fits r.state_fits x (accepted r u x v s a e)))

    pub quiet_below : open_to r.state (place (head_number x)) ≡ [] → open_to u.state (place (head_number x)) ≡ []
    quiet_below w = rw (next r u x v s a e) (nothing_below r.table r.state x (table_meets r.table r.table_fits).propagation w)

  pub policy_stops : (y : Refusal) → v ≡ Err y → stopped u.state k 0 ≡ o
  policy_stops y e = rw (unchanged r u x v s y e) (policy_stuck r.table r.state r.table_fits r.state_fits k n before m x q (refused r u x v s y e))

-- The door's answers, case by case and in the code's own terms.
use Rattle.std.proofs.Common.{◌≡◌, sym, ap, ap₂, ◌∙◌, ℕ, ◌≤◌, min, List, ◌∷◌, true, Result, Ok, Err, IsErrAnd, arith}
use Rattle.words.specs.declared.Refusal.{Refusal}
use Rattle.words.specs.declared.Step.{Step}
use Rattle.words.specs.Refusal.{number_of, first_refusal}
use Rattle.words.specs.Pair.{step_of}
use Rattle.words.proofs.Order.{number_some, first_some, first_none, first_last}
use Rattle.rules.specs.declared.State.{State}
use Rattle.rules.specs.declared.Table.{Table}
use Rattle.rules.specs.declared.fit.Fit.{Fit}
use Rattle.rules.specs.Limits.{max_heads}
use Rattle.rules.specs.Room.{Wrote}
use Rattle.rules.specs.Table.{table_fits}
use Rattle.rules.specs.State.{fresh, state_fits}
use Rattle.rules.specs.Judge.{record_refusal, step_refusal, state_after, refusal, judged}
use Rattle.rules.proofs.Meaning.{table_meets}
use Rattle.rules.proofs.Checks.{record_accepted, refusal_step}
use Rattle.rules.proofs.Rooms.{wrote_unfit}
use Rattle.table_images.specs.TableImage.{read_table_refusal, read_table}
use Rattle.table_images.proofs.TableRound.{read_table_fits}
use Rattle.state_images.specs.StateImage.{read_state_refusal, state_image}
use Rattle.state_images.proofs.Cases.{written_heads}
use Rattle.runs.specs.Run.{Outcome, onward, run, run_from}
use Rattle.runs.specs.Chosen.{longest_run, policy, policy_from}
use Rattle.runs.proofs.Laws.{on_stops, on_goes, fit, still_fits}
use Rattle.runs.proofs.Plays.{run_fit, run_keeps}
use Rattle.runs.proofs.Chooses.{policy_runs}
use Rattle.door.specs.Answers.{answer, state_of, open_refusal, judge_refusal, judged_state, given_outcome, policy_outcome, Played}

-- a refusal that is handed on: no byte is written
pub refused : (w : Result ℕ Refusal) (why : Refusal) (unfit : ℕ) (image room : List ℕ) → IsErrAnd w (λ y. y ≡ why) → number_of why ≡ unfit → Wrote w unfit image room room
refused (Ok bytes) why unfit image room f e = absurd f
refused (Err y) why unfit image room f e = rw f (wrote_unfit why unfit image room e)

-- the first number of a row is a refusal's
first_why : (why : Refusal) (x : ℕ) (rest : List ℕ) → number_of why ≡ x → number_of why ≡ first_refusal (x ∷ rest)
first_why why x rest e = e ∙ sym (first_some x rest (λ z. omega (arith, number_some why)))

-- a state that fits has no more heads than there are places
pub few_heads : (t : Table) (s : State) → table_fits t ≡ true → state_fits t s ≡ true → s.n ≤ max_heads
few_heads t s f g = written_heads t s (sym (record_accepted t s f g))

pub fresh_few : (tb : List ℕ) → 0 ≡ read_table_refusal tb → (fresh (read_table tb)).n ≤ max_heads
unfolding fresh
fresh_few tb z = (table_meets (read_table tb) (read_table_fits tb (sym z))).heads

-- ---- the two images

module _ (tb sb : List ℕ) where
  pub no_table : (why : Refusal) → number_of why ≡ read_table_refusal tb → number_of why ≡ open_refusal tb sb
  unfolding open_refusal
  no_table why e = first_why why _ _ e

  pub with_table : (n : ℕ) → 0 ≡ read_table_refusal tb → n ≡ read_state_refusal (read_table tb) sb → n ≡ open_refusal tb sb
  unfolding open_refusal
  with_table n z e = e ∙ sym (first_none _ _ (sym z) ∙ first_last _)

  pub unread : (kind i : ℕ) (why : Refusal) → number_of why ≡ open_refusal tb sb → number_of why ≡ judge_refusal tb sb kind i
  unfolding judge_refusal
  unread kind i why e = first_why why _ _ e

  -- a run that never began
  pub never_ran : (why : Refusal) (r : ℕ) (o : Outcome) (room : List ℕ) → number_of why ≡ open_refusal tb sb → r ≡ answer (number_of why) 0 → Played r (onward (state_of tb sb) 0 (open_refusal tb sb) o) room room
  never_ran why r o room e a =
      let w = wrote_unfit why (open_refusal tb sb) (state_image (state_of tb sb)) room e in
      rw (on_stops (state_of tb sb) 0 (open_refusal tb sb) o (λ (y : open_refusal tb sb ≡ 0). let k : number_of why ≡ 0 = e ∙ y in omega (arith, number_some why))) (a ∙ ap (λ x. answer x 0) w.0, w.2)

-- ---- a table and a state that were read

module _ (pair : Fit) where
  checked : record_refusal pair.table pair.state ≡ 0
  checked = sym (record_accepted pair.table pair.state pair.table_fits pair.state_fits)

  given_fits : (pairs : List ℕ) → run pair.table pair.state pairs ≡ run_from pair.table pair.state 0 pairs
  given_fits pairs = run_fit pair.table pair.state pair.table_fits pair.state_fits pairs

  policy_fits : (count : ℕ) → policy pair.table pair.state count ≡ policy_from pair.table pair.state 0 (min count longest_run)
  unfolding policy
  policy_fits count = sym (fit pair.table pair.state _ checked)

  -- what is played from them has no more heads than there are places
  pub judge_few : (x : Step) (next : State) → 0 ≡ step_refusal pair.table pair.state x → next ≡ state_after pair.table pair.state x (step_refusal pair.table pair.state x) → next.n ≤ max_heads
  unfolding state_after
  judge_few x next q a = few_heads pair.table next pair.table_fits (still_fits pair.table pair.state next x pair.table_fits pair.state_fits (sym q) (rw (← q) at a))

  pub given_few : (pairs : List ℕ) (o : Outcome) → o ≡ run_from pair.table pair.state 0 pairs → o.state.n ≤ max_heads
  given_few pairs o q = few_heads pair.table o.state pair.table_fits (rw (q ∙ sym (given_fits pairs)) (run_keeps pair.table pair.state pairs pair.table_fits pair.state_fits))

  pub policy_few : (count : ℕ) (o : Outcome) → o ≡ policy_from pair.table pair.state 0 (min count longest_run) → o.state.n ≤ max_heads
  policy_few count o q = few_heads pair.table o.state pair.table_fits (rw (q ∙ sym (policy_fits count) ∙ policy_runs pair.table pair.state count) (run_keeps pair.table pair.state _ pair.table_fits pair.state_fits))

  -- and is what is played from the two images
  module _ (tb sb : List ℕ) (z : 0 ≡ open_refusal tb sb) (e : (pair.table ≡ read_table tb) × (pair.state ≡ state_of tb sb)) where
    module _ (kind i : ℕ) (x : Step) (p : x ≡ step_of kind i) where
      by_step : refusal (read_table tb) (state_of tb sb) (step_of kind i) ≡ step_refusal pair.table pair.state x
      by_step = (λ j. refusal (sym e.0 j) (sym e.1 j) (sym p j)) ∙ refusal_step pair.table pair.state x checked

      pub judge_number : (n : ℕ) → n ≡ step_refusal pair.table pair.state x → n ≡ judge_refusal tb sb kind i
      unfolding judge_refusal
      judge_number n q = q ∙ sym (first_none _ _ (sym z) ∙ first_last _ ∙ by_step)

      pub judge_state : (next : State) → next ≡ state_after pair.table pair.state x (step_refusal pair.table pair.state x) → judged_state tb sb kind i ≡ next
      unfolding judged
      judge_state next q = (λ j. state_after (sym e.0 j) (sym e.1 j) (sym p j) (by_step j)) ∙ sym q

    pub given_ran : (pairs : List ℕ) → given_outcome tb sb pairs ≡ run_from pair.table pair.state 0 pairs
    unfolding given_outcome
    given_ran pairs = on_goes _ 0 _ _ (sym z) ∙ ap₂ (λ t s. run t s pairs) (sym e.0) (sym e.1) ∙ given_fits pairs

    pub policy_ran : (count : ℕ) → policy_outcome tb sb count ≡ policy_from pair.table pair.state 0 (min count longest_run)
    unfolding policy_outcome
    policy_ran count = on_goes _ 0 _ _ (sym z) ∙ ap₂ (λ t s. policy t s count) (sym e.0) (sym e.1) ∙ policy_fits count

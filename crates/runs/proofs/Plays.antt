-- Runs of given steps: what their answer tells, and a run of a list in two parts.
use Rattle.std.proofs.Common.{◌≡◌, refl, sym, ap, subst, ◌∙◌, true, List, [], ◌∷◌, ◌++◌, inl, inr, ℕ, suc, ◌+◌, ◌-◌, ◌*◌, one-add, arith, length, ne_eqb}
use Rattle.words.specs.declared.Step.{Step}
use Rattle.words.specs.declared.Refusal.TheVariants.{NoSuchStep}
use Rattle.words.specs.Refusal.{number_of}
use Rattle.words.specs.Pair.{step_of}
use Rattle.rules.specs.declared.State.{State}
use Rattle.rules.specs.declared.Table.{Table}
use Rattle.rules.specs.Table.{table_fits}
use Rattle.rules.specs.State.{state_fits}
use Rattle.rules.specs.Step.{moved}
use Rattle.rules.specs.Judge.{step_refusal, record_refusal, refusal, judged}
use Rattle.rules.proofs.Each.{same_or_not}
use Rattle.rules.proofs.Checks.{record_accepted, accepted_record, refusal_step}
use Rattle.exact.proofs.Keeps.{accepted_moves}
use Rattle.runs.specs.Run.{Outcome, stopped, run_from, run}
use Rattle.runs.specs.Claims.{Plays, plays_none, plays_lone, plays_refused, plays_accepted, RunPlays, RunKeeps, later, followed, RunInParts}
use Rattle.runs.proofs.Laws.{on_stops, on_goes, unfit, fit, moved_fits}

-- ---- a table and a state that fit

module _ (t : Table) (s : State) (f : table_fits t ≡ true) (g : state_fits t s ≡ true) where
  -- a step is refused by its own number
  step_alone : (x : Step) → refusal t s x ≡ step_refusal t s x
  step_alone x = refusal_step t s x (sym (record_accepted t s f g))

  -- and a run is what it is without the record checks
  pub run_fit : (l : List ℕ) → run t s l ≡ run_from t s 0 l
  unfolding run
  run_fit l = sym (fit t s (run_from t s 0 l) (sym (record_accepted t s f g)))

-- on others nothing is played
pub run_unfit : (t : Table) (s : State) → (record_refusal t s ≡ 0 → ⊥) → (l : List ℕ) → run t s l ≡ stopped s 0 (record_refusal t s)
unfolding run
run_unfit t s n l = sym (unfit t s (run_from t s 0 l) (record_refusal t s) refl n)

-- ---- what is left of a run, after some steps

later_none : (o : Outcome) → later 0 o ≡ o
unfolding later
later_none o = ap (λ (n : ℕ). stopped o.state n o.refusal) (omega arith)

later_later : (j k : ℕ) (o : Outcome) → later j (later k o) ≡ later (j + k) o
unfolding later
later_later j k o = ap (λ (n : ℕ). stopped o.state n o.refusal) (omega arith)

later_stopped : (s : State) (k n : ℕ) → stopped s k n ≡ later k (stopped s 0 n)
unfolding later
later_stopped s k n = ap (λ (m : ℕ). stopped s m n) (omega arith)

-- a pair that is refused, and one that is accepted
run_stops : (t : Table) (s : State) (k kind i : ℕ) (l : List ℕ) → (step_refusal t s (step_of kind i) ≡ 0 → ⊥) → run_from t s k (kind ∷ i ∷ l) ≡ stopped s k (step_refusal t s (step_of kind i))
unfolding run_from
run_stops t s k kind i l n = on_stops s k _ _ n

pub run_goes : (t : Table) (s : State) (k kind i : ℕ) (l : List ℕ) → step_refusal t s (step_of kind i) ≡ 0 → run_from t s k (kind ∷ i ∷ l) ≡ run_from t (moved t s (step_of kind i)) (suc k) l
unfolding run_from
run_goes t s k kind i l e = on_goes s k _ _ e

-- the count goes on from what was accepted before
counts : (t : Table) (s : State) (k : ℕ) (l : List ℕ) → run_from t s k l ≡ later k (run_from t s 0 l)
unfolding run_from
counts t s k [] = later_stopped s k 0
counts t s k (kind ∷ []) = later_stopped s k (number_of NoSuchStep)
counts t s k (kind ∷ i ∷ l) = elim (same_or_not (step_refusal t s (step_of kind i)) 0) [
  | inl e ↦
      let u = moved t s (step_of kind i) in
      let q : suc k ≡ k + 1 = omega arith in
      run_goes t s k kind i l e ∙ counts t u (suc k) l ∙ ap (λ (n : ℕ). later n (run_from t u 0 l)) q ∙ sym (later_later k 1 (run_from t u 0 l)) ∙ ap (later k) (sym (run_goes t s 0 kind i l e ∙ counts t u 1 l))
  | inr n ↦ run_stops t s k kind i l n ∙ later_stopped s k _ ∙ ap (later k) (sym (run_stops t s 0 kind i l n))
]

run_next : (t : Table) (s : State) (kind i : ℕ) (l : List ℕ) → step_refusal t s (step_of kind i) ≡ 0 → run_from t s 0 (kind ∷ i ∷ l) ≡ later 1 (run_from t (moved t s (step_of kind i)) 0 l)
run_next t s kind i l e = run_goes t s 0 kind i l e ∙ counts t (moved t s (step_of kind i)) 1 l

-- ---- what the answer tells

-- an outcome tells of a run of pairs from s what happens along it
abbrev Tells : Table → State → List ℕ → Outcome → Type 0
Tells t s l o = Plays t s l o.accepted o.state o.refusal

plays_from : (t : Table) (s : State) (l : List ℕ) → table_fits t ≡ true → state_fits t s ≡ true → Tells t s l (run_from t s 0 l)
unfolding run_from later
plays_from t s [] f g = plays_none
plays_from t s (kind ∷ []) f g = plays_lone
plays_from t s (kind ∷ i ∷ l) f g = elim (same_or_not (step_refusal t s (step_of kind i)) 0) [
  | inl e ↦
      let x = step_of kind i in
      let a : refusal t s x ≡ 0 = step_alone t s f g x ∙ e in
      let rest : Tells t (judged t s x) l (run_from t (moved t s x) 0 l) = rw (accepted_moves t s x a) (plays_from t (moved t s x) l f (moved_fits t s x f g e)) in
      subst (Tells t s (kind ∷ i ∷ l)) (sym (run_next t s kind i l e)) (rw one-add (plays_accepted a rest))
  | inr n ↦ subst (Tells t s (kind ∷ i ∷ l)) (sym (run_stops t s 0 kind i l n)) (plays_refused (step_alone t s f g (step_of kind i)) n)
]

pub run_plays : RunPlays
run_plays t s l f g = subst (Tells t s l) (sym (run_fit t s f g l)) (plays_from t s l f g)

keeps_from : (t : Table) (s : State) (l : List ℕ) → table_fits t ≡ true → state_fits t s ≡ true → state_fits t (run_from t s 0 l).state ≡ true
unfolding run_from later
keeps_from t s [] f g = g
keeps_from t s (kind ∷ []) f g = g
keeps_from t s (kind ∷ i ∷ l) f g = elim (same_or_not (step_refusal t s (step_of kind i)) 0) [
  | inl e ↦ rw (run_next t s kind i l e) (keeps_from t (moved t s (step_of kind i)) l f (moved_fits t s (step_of kind i) f g e))
  | inr n ↦ rw (run_stops t s 0 kind i l n) g
]

pub run_keeps : RunKeeps
run_keeps t s l f g = rw (run_fit t s f g l) (keeps_from t s l f g)

-- ---- a run in two parts

followed_goes : (x y : Outcome) → x.refusal ≡ 0 → followed x y ≡ later x.accepted y
unfolding followed
followed_goes x y e = rw e

followed_stops : (x y : Outcome) → (x.refusal ≡ 0 → ⊥) → followed x y ≡ x
unfolding followed
followed_stops x y n = rw (ne_eqb x.refusal 0 n)

later_followed : (k : ℕ) (x y : Outcome) → later k (followed x y) ≡ followed (later k x) y
unfolding later
later_followed k x y = elim (same_or_not x.refusal 0) [
  | inl e ↦ ap (later k) (followed_goes x y e) ∙ later_later k x.accepted y ∙ sym (followed_goes (later k x) y e)
  | inr n ↦ ap (later k) (followed_stops x y n) ∙ sym (followed_stops (later k x) y n)
]

parts_from : (t : Table) (s : State) (a b : List ℕ) (m : ℕ) → length a ≡ 2 * m → run_from t s 0 (a ++ b) ≡ followed (run_from t s 0 a) (run_from t (run_from t s 0 a).state 0 b)
unfolding run_from later
parts_from t s [] b m h = sym (followed_goes (stopped s 0 0) (run_from t s 0 b) refl ∙ later_none (run_from t s 0 b))
parts_from t s (kind ∷ []) b m h = absurd (omega arith)
parts_from t s (kind ∷ i ∷ a) b m h = elim (same_or_not (step_refusal t s (step_of kind i)) 0) [
  | inl e ↦
      let u = moved t s (step_of kind i) in
      let o = run_from t u 0 a in
      run_next t s kind i (a ++ b) e ∙ ap (later 1) (parts_from t u a b (m - 1) (omega arith)) ∙ later_followed 1 o (run_from t o.state 0 b)
      ∙ sym (ap (λ (x : Outcome). followed x (run_from t x.state 0 b)) (run_next t s kind i a e))
  | inr n ↦
      run_stops t s 0 kind i (a ++ b) n ∙ sym (followed_stops (stopped s 0 (step_refusal t s (step_of kind i))) (run_from t s 0 b) n)
      ∙ sym (ap (λ (x : Outcome). followed x (run_from t x.state 0 b)) (run_stops t s 0 kind i a n))
]

pub run_in_parts : RunInParts
run_in_parts t s a b m h = elim (same_or_not (record_refusal t s) 0) [
  | inl e ↦
      let w = accepted_record t s e in
      let p = run_fit t s w.0 w.1 in
      p (a ++ b) ∙ parts_from t s a b m h
      ∙ ap (λ (x : Outcome). followed (run_from t s 0 a) x) (sym (run_fit t (run_from t s 0 a).state w.0 (keeps_from t s a w.0 w.1) b))
      ∙ ap (λ (x : Outcome). followed x (run t x.state b)) (sym (p a))
  | inr n ↦
      let p = run_unfit t s n in
      p (a ++ b) ∙ sym (followed_stops (stopped s 0 (record_refusal t s)) (run t s b) n) ∙ ap (λ (x : Outcome). followed x (run t x.state b)) (sym (p a))
]

-- A judged step is the record checks' refusal, or the attempt's answer where there is none.
use Rattle.std.proofs.Common.{◌≡◌, sym, ap, ◌∙◌, ℕ, ne_eqb}
use Rattle.words.specs.declared.Step.{Step}
use Rattle.rules.specs.declared.State.{State}
use Rattle.rules.specs.declared.Table.{Table}
use Rattle.rules.specs.Judge.{step_refusal, state_after, record_refusal, refusal, judged}
use Rattle.rules.proofs.Checks.{refusal_record, refusal_step}

module _ (t : Table) (s : State) (x : Step) where
  pub unfit : (v : ℕ) → v ≡ record_refusal t s → (record_refusal t s ≡ 0 → ⊥) → (v ≡ refusal t s x) × (s ≡ judged t s x)
  unfolding judged state_after
  unfit v e n = let q = refusal_record t s x n in (e ∙ sym q, rw (q, ne_eqb (record_refusal t s) 0 n))

  pub fit : (v : ℕ) (u : State) → record_refusal t s ≡ 0 → (v ≡ step_refusal t s x) × (u ≡ state_after t s x (step_refusal t s x)) → (v ≡ refusal t s x) × (u ≡ judged t s x)
  unfolding judged
  fit v u e r = let q = refusal_step t s x e in (r.0 ∙ sym q, r.1 ∙ ap (state_after t s x) (sym q))

pub of_pair : (t : Table) (s : State) (x y : Step) (v : ℕ) (u : State) → x ≡ y → (v ≡ refusal t s x) × (u ≡ judged t s x) → (v ≡ refusal t s y) × (u ≡ judged t s y)
of_pair t s x y v u e r = (r.0 ∙ ap (refusal t s) e, r.1 ∙ ap (judged t s) e)

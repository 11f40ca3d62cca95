-- A morning's state is the one that its steps alone lead to, so demands 2 and 3 stand; its book is the one that its calls alone lead to.
use Rattle.std.proofs.Common.{◌≡◌, refl, true, List, [], ◌∷◌, inl, inr}
use Rattle.words.specs.declared.Step.{Step}
use Rattle.rules.specs.declared.State.{State}
use Rattle.rules.specs.declared.Table.{Table}
use Rattle.rules.specs.State.{state_fits, fresh}
use Rattle.rules.specs.Judge.{refusal, judged}
use Rattle.rules.proofs.Each.{same_or_not}
use Rattle.exact.proofs.Keeps.{keeps_judged, refused_stays}
use Rattle.startup.specs.Demand.{played_from}
use Rattle.startup.proofs.InStep.{judged_in_step}
use Rattle.kept.specs.Post.{after_calls}
use Rattle.mornings.specs.Morning.{answer, steps, breaks, releases, act, morning, steps_of, calls_of}
use Rattle.mornings.specs.Claims.{StateOnlyRead, BookByCalls, MorningFits, MorningInStep}

pub state_only_read : StateOnlyRead
unfolding act morning steps_of played_from
state_only_read t m [] = refl
state_only_read t m (steps x ∷ rest) = state_only_read t (act t m (steps x)) rest
state_only_read t m (breaks i ∷ rest) = state_only_read t (act t m (breaks i)) rest
state_only_read t m (releases number ∷ rest) = state_only_read t (act t m (releases number)) rest

pub book_by_calls : BookByCalls
unfolding act morning calls_of answer after_calls
book_by_calls t m [] = refl
book_by_calls t m (steps x ∷ rest) = book_by_calls t (act t m (steps x)) rest
book_by_calls t m (breaks i ∷ rest) = book_by_calls t (act t m (breaks i)) rest
book_by_calls t m (releases number ∷ rest) = book_by_calls t (act t m (releases number)) rest

-- ---- the demands

played_fits : (t : Table) (s : State) (xs : List Step) → state_fits t s ≡ true → state_fits t (played_from t s xs) ≡ true
unfolding played_from
played_fits t s [] f = f
played_fits t s (x ∷ xs) f = played_fits t (judged t s x) xs (elim (same_or_not (refusal t s x) 0) [
  | inl e ↦ keeps_judged t s x e
  | inr n ↦ rw (refused_stays t s x n) f
])

pub morning_fits : MorningFits
morning_fits t m xs g = rw (state_only_read t m xs) (played_fits t m.state (steps_of xs) g)

pub morning_in_step : MorningInStep
morning_in_step t b xs f = rw (state_only_read t record { state = fresh t; book = b } xs) (judged_in_step t f (steps_of xs))

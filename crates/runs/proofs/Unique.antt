-- Each contract leaves one answer and one content of the room: any two that it admits are equal. Stated of the contracts as the check reads them, not of a copy.
use Rattle.std.proofs.Common.{◌≡◌, sym, ap, ◌∙◌}
use borrow.Fn.Kinds as K
use contract.Lifetimes.{Lfts}
use Rattle.words.proofs.Order.{verdict_one}
use Rattle.rules.proofs.Unique.{written_one}
use Rattle.runs.specs.declared.Ran.{Ran}
use Rattle.runs.specs.Run.{Outcome, told}
use Rattle.runs.proofs.listing.open_steps.Reads as open-steps
use Rattle.runs.proofs.listing.open_steps.Kinds as open-steps-kinds
use Rattle.runs.proofs.given.run_given.Reads as run-given
use Rattle.runs.proofs.given.run_given.Kinds as run-given-kinds
use Rattle.runs.proofs.policy.run_policy.Reads as run-policy
use Rattle.runs.proofs.policy.run_policy.Kinds as run-policy-kinds

-- an answer is known by what it tells
told_one : (r q : Ran) → told r ≡ told q → r ≡ q
told_one r q e = λ i. record { state = (e i).state; accepted = (e i).accepted; verdict = verdict_one r.verdict q.verdict (ap (λ (o : Outcome). o.refusal) e) i }

pub open_steps_one : (κs : Lfts 1) (a : K.Dens κs open-steps-kinds.ps) (r q : _) (s u : _) → open-steps.Post κs a r s → open-steps.Post κs a q u → (r ≡ q) × (s.1.1.0.now ≡ u.1.1.0.now)
open_steps_one κs a r q s u p e = (written_one r q (p.0 ∙ sym e.0) (p.1 ∙ sym e.1), p.2 ∙ sym e.2)

pub run_given_one : (κs : Lfts 1) (a : K.Dens κs run-given-kinds.ps) (r q : _) (s u : _) → run-given.Post κs a r s → run-given.Post κs a q u → r ≡ q
run_given_one κs a r q s u p e = told_one r q (p ∙ sym e)

pub run_policy_one : (a : K.Dens tt run-policy-kinds.ps) (r q : _) (s u : _) → run-policy.Post tt a r s → run-policy.Post tt a q u → r ≡ q
run_policy_one a r q s u p e = told_one r q (p ∙ sym e)

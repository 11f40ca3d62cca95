use Rattle.std.proofs.Common.{◌≡◌, ◌∙◌, sym, ap}
use Rattle.std.proofs.lemmas.Result.{IfOk-at_ok}
use Rattle.words.proofs.Order.{accepted_zero, refused_some}
use Rattle.words.specs.Refusal.{verdict_number}
use Rattle.runs.specs.Run.{run}
use Rattle.runs.proofs.Laws.{unfit, fit}
use Rattle.runs.proofs.given.run_given.Goals as goal

pub returns-in-Err : goal.returns-in-Err
unfolding run
returns-in-Err c = c.stopped.ensures ∙ unfit _ _ _ _ (sym (ap verdict_number c.in-Err.is) ∙ c.of.ensures.number) (refused_some c.of.result _ _ c.of.ensures.number c.in-Err.is)

pub returns-in-Ok : goal.returns-in-Ok
unfolding run
returns-in-Ok c =
    let t = IfOk-at_ok (λ f. f.table ≡ c.args.t) c.in-Ok.is c.of.ensures.table in
    let s = IfOk-at_ok (λ f. f.state ≡ c.args.s) c.in-Ok.is c.of.ensures.state in
    (rw (t, s) at c.run_given_fit.ensures) ∙ fit _ _ _ (accepted_zero c.of.result _ _ c.of.ensures.number c.in-Ok.is)

use Rattle.std.proofs.Common.{◌≡◌, sym, ap, ◌∙◌}
use Rattle.std.proofs.lemmas.Result.{IfOk-at_ok}
use Rattle.words.specs.Refusal.{number_of, verdict_number}
use Rattle.words.proofs.Order.{accepted_zero, refused_some}
use Rattle.judge.proofs.Laws.{unfit, fit}
use Rattle.judge.proofs.step.Goals as goal

pub returns-in-Err : goal.returns-in-Err
returns-in-Err c =
    let r = unfit _ _ _ _ c.of.ensures.number (refused_some c.of.result _ _ c.of.ensures.number c.in-Err.is) in
    (ap number_of c.with.ensures.why ∙ (sym (ap verdict_number c.in-Err.is) ∙ r.0), c.with.ensures.back ∙ r.1)

pub returns-in-Ok : goal.returns-in-Ok
returns-in-Ok c =
    let t = IfOk-at_ok (λ f. f.table ≡ c.args.t) c.in-Ok.is c.of.ensures.table in
    let s = IfOk-at_ok (λ f. f.state ≡ c.args.s) c.in-Ok.is c.of.ensures.state in
    fit _ _ _ _ _ (accepted_zero c.of.result _ _ c.of.ensures.number c.in-Ok.is) (rw (t, s) at c.attempt.ensures)

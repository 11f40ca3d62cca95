use Rattle.std.proofs.Common.{ap, ◌∙◌, Err}
use Rattle.std.proofs.lemmas.Result.{err_from_is_err_and}
use Rattle.runs.proofs.Stepping.{head_stays}
use Rattle.runs.proofs.run.Run.step.Goals as goal

pub returns-in_err-moving_verdict : goal.returns-in_err-moving_verdict
returns-in_err-moving_verdict c =
    let w = err_from_is_err_and c.from_residual.result c.from_residual.ensures.1 in
    head_stays c.args.self.now c.args.x c.moving_verdict.result c.from_residual.result _ c.in_err-moving_verdict.was (w.1 ∙ ap Err w.2) c.moving_verdict.ensures

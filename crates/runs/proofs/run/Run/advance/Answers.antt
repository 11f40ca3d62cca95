use Rattle.std.proofs.Common.{refl, ap, ◌∙◌, Err, arith}
use Rattle.std.proofs.lemmas.Result.{err_from_is_err_and}
use Rattle.words.specs.declared.Step.TheVariants.{Advance}
use Rattle.words.proofs.Order.{accepted_zero}
use Rattle.rules.proofs.Meaning.{table_meets}
use Rattle.steps.proofs.Parts.{same_advance}
use Rattle.runs.proofs.Stepping.{stays, goes_on, advanced, keeps_fit}
use Rattle.runs.proofs.run.Run.advance.Goals as goal

pub instant-next-requires : goal.instant-next-requires
instant-next-requires c = let m = table_meets _ c.args.self.now.table_fits in omega arith

pub returns-in_err-verdict : goal.returns-in_err-verdict
returns-in_err-verdict c =
    let r = c.args.self.now in
    let w = err_from_is_err_and c.from_residual.result c.from_residual.ensures.1 in
    stays r Advance c.verdict.result c.from_residual.result _ c.in_err-verdict.was (w.1 ∙ ap Err w.2) (c.verdict.ensures ∙ same_advance r.table r.state r.table_fits r.state_fits Advance refl r.due r.beside _ c.instant-next.ensures)

pub invariant_of-self : goal.invariant_of-self
invariant_of-self c =
    let r = c.args.self.now in
    let y = advanced r _ c.instant-next.ensures (accepted_zero c.verdict.result _ _ c.verdict.ensures c.in_ok-verdict.was) in
    record { table_fits = r.table_fits; state_fits = keeps_fit r _ _ _ y; beside = y.beside }

pub returns : goal.returns
returns c =
    let r = c.args.self.now in
    let y = advanced r _ c.instant-next.ensures (accepted_zero c.verdict.result _ _ c.verdict.ensures c.in_ok-verdict.was) in
    goes_on r _ Advance y.accepted refl y.moves

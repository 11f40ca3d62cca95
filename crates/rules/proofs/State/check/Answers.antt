use Rattle.std.proofs.Common.{sym, ap, ◌∙◌}
use Rattle.std.proofs.lemmas.Result.{err_from_is_err_and}
use Rattle.words.specs.Refusal.{verdict_number}
use Rattle.words.proofs.Order.{accepted_zero, refused_some}
use Rattle.rules.proofs.Checks.{accepted_table, record_table, record_state, record_accepted}
use Rattle.rules.proofs.State.check.Goals as goal

pub returns-in_err-check : goal.returns-in_err-check
returns-in_err-check c =
    let w = err_from_is_err_and c.from_residual.result c.from_residual.ensures.1 in
    rw (w.1, w.2) (sym (ap verdict_number c.in_err-check.was) ∙ c.check.ensures ∙ record_table _ _ (refused_some c.check.result _ _ c.check.ensures c.in_err-check.was))

pub fits-requires : goal.fits-requires
fits-requires c = accepted_table _ (accepted_zero c.check.result _ _ c.check.ensures c.in_ok-check.was)

pub returns-then-fits : goal.returns-then-fits
returns-then-fits c = record_accepted _ _ (accepted_table _ (accepted_zero c.check.result _ _ c.check.ensures c.in_ok-check.was)) (sym c.fits.ensures ∙ c.if-fits.true)

pub returns-else-fits : goal.returns-else-fits
returns-else-fits c = record_state _ _ (accepted_table _ (accepted_zero c.check.result _ _ c.check.ensures c.in_ok-check.was)) (sym c.fits.ensures ∙ c.if-fits.false)

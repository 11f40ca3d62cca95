use Rattle.words.proofs.Order.{accepted_zero}
use Rattle.rules.proofs.Checks.{accepted_record}
use Rattle.rules.proofs.fit.Fit.of.Goals as goal

pub invariant_of-result : goal.invariant_of-result
invariant_of-result c =
    let f = accepted_record _ _ (accepted_zero c.check.result _ _ c.check.ensures c.in_ok-check.was) in
    record { table_fits = f.0; state_fits = f.1 }

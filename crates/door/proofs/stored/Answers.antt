use Rattle.std.proofs.Common.{sym, ap}
use Rattle.words.specs.Refusal.{verdict_number}
use Rattle.door.proofs.Laws.{refused}
use Rattle.door.proofs.stored.Goals as goal

pub returns-in_err-ran : goal.returns-in_err-ran
returns-in_err-ran c = refused c.from_residual.result _ _ _ _ c.from_residual.ensures.1 (sym (ap verdict_number c.in_err-ran.was))

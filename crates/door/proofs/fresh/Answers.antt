use Rattle.door.proofs.Laws.{refused}
use Rattle.door.proofs.fresh.Goals as goal

pub returns-in_err-t : goal.returns-in_err-t
returns-in_err-t c = refused c.from_residual.result _ _ _ _ c.from_residual.ensures.1 c.in_err-t.ensures.0

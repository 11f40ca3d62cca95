use Rattle.door.proofs.Laws.{refused}
use Rattle.door.proofs.list.Goals as goal

pub returns-in_err-read_both : goal.returns-in_err-read_both
returns-in_err-read_both c = refused c.from_residual.result _ _ _ _ c.from_residual.ensures.1 c.in_err-read_both.ensures.number

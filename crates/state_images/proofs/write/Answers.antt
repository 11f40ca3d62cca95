use Rattle.std.proofs.Common.{sym}
use Rattle.std.proofs.lemmas.Result.{err_from_is_err_and}
use Rattle.rules.proofs.Rooms.{wrote_unfit}
use Rattle.state_images.proofs.Cases.{written_heads}
use Rattle.state_images.proofs.write.Goals as goal

pub returns-in_err-check : goal.returns-in_err-check
returns-in_err-check c = let p = err_from_is_err_and c.from_residual.result c.from_residual.ensures.1 in rw (p.1, p.2) (wrote_unfit _ _ _ _ c.in_err-check.ensures)

pub write_fit-requires : goal.write_fit-requires
write_fit-requires c = written_heads c.args.t c.args.s (sym c.in_ok-check.ensures)

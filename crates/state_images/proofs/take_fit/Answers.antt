use Rattle.std.proofs.lemmas.Result.{err_from_is_err_and}
use Rattle.rules.proofs.Meaning.{table_meets}
use Rattle.state_images.proofs.Cases.{read_untaken}
use Rattle.state_images.proofs.take_fit.Goals as goal

pub take-requires : goal.take-requires
take-requires c = (table_meets c.args.t c.requires).heads

pub returns-in_err-s : goal.returns-in_err-s
returns-in_err-s c = let p = err_from_is_err_and c.from_residual.result c.from_residual.ensures.1 in rw (p.1, p.2) (read_untaken c.args.t c.args.image.now c.requires _ c.in_err-s.ensures)

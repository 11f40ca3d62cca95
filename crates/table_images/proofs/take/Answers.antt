use Rattle.std.proofs.Common.{rules}
use Rattle.std.proofs.lemmas.Result.{err_from_is_err_and}
use Rattle.words.specs.Refusal.{unless, first_refusal}
use Rattle.table_images.specs.TableImage.{table_in, read_table_refusal}
use Rattle.table_images.proofs.take.Goals as goal

pub returns-in_err-check : goal.returns-in_err-check
unfolding read_table_refusal table_in first_refusal unless
returns-in_err-check c = let p = err_from_is_err_and c.from_residual.result c.from_residual.ensures.1 in rw (p.1, p.2) (search rules)

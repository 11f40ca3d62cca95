use Rattle.std.proofs.Common.{sym, ◌∙◌}
use Rattle.rules.specs.State.{blank}
use Rattle.rules.proofs.Checks.{accepted_table}
use Rattle.octets.proofs.Cases.{refused}
use Rattle.state_images.proofs.Cases.{read_unfit}
use Rattle.state_images.proofs.read.Goals as goal

pub read_fit-requires : goal.read_fit-requires
read_fit-requires c = accepted_table _ (sym c.in-Ok.ensures)

pub returns-in-Err : goal.returns-in-Err
returns-in-Err c = let w = c.with.ensures in refused c.with.result _ _ _ blank (read_unfit c.args.t c.args.image.now _ c.in-Err.ensures) (w.why, w.back ∙ c.blank.ensures)

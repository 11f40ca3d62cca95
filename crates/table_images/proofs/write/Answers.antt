use Rattle.std.proofs.Common.{sym, arith}
use Rattle.std.proofs.lemmas.Result.{err_from_is_err_and}
use Rattle.rules.proofs.Meaning.{table_meets}
use Rattle.rules.proofs.Checks.{accepted_table}
use Rattle.rules.proofs.Rooms.{wrote_unfit, wrote_short}
use Rattle.octets.proofs.Cases.{wrote_all}
use Rattle.table_images.specs.TableImage.{table_image}
use Rattle.table_images.proofs.Cases.{table_long, table_stored}
use Rattle.table_images.proofs.write.Goals as goal

pub returns-in_err-check : goal.returns-in_err-check
returns-in_err-check c = let p = err_from_is_err_and c.from_residual.result c.from_residual.ensures.1 in rw (p.1, p.2) (wrote_unfit _ _ _ _ c.in_err-check.ensures)

pub returns-then-room-need : goal.returns-then-room-need
returns-then-room-need c = let t = c.args.t in wrote_short _ (table_image t) c.args.room.now (sym c.in_ok-check.ensures) (omega (arith, table_long t))

pub store_wakes-requires : goal.store_wakes-requires
store_wakes-requires c = let m = table_meets c.args.t (accepted_table _ (sym c.in_ok-check.ensures)) in (m.heads, omega arith)

pub returns : goal.returns
returns c =
    let t = c.args.t in
    let room = c.args.room.now in
    wrote_all _ _ (table_image t) room _ (sym c.in_ok-check.ensures) (omega (arith, table_long t)) (sym (table_long t)) (table_stored t room _ _ c.store_front.ensures c.store_wakes.ensures)

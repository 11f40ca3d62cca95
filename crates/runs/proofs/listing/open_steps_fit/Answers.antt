use Rattle.std.proofs.Common.{refl, arith}
use Rattle.runs.proofs.Lists.{list_short, list_done}
use Rattle.runs.proofs.Gathers.{held_long}
use Rattle.runs.proofs.listing.open_steps_fit.Goals as goal

pub returns-then-room-bytes : goal.returns-then-room-bytes
returns-then-room-bytes c =
    let h = c.open_pairs-found.ensures in
    let n = held_long _ _ h in
    list_short _ _ _ _ h (omega (arith, n, c.if-room-bytes.true))

pub returns : goal.returns
returns c =
    let h = c.open_pairs-found.ensures in
    let n = held_long _ _ h in
    rw n (list_done _ _ _ _ h (omega (arith, n, c.if-room-bytes.false)) _ (rw c.copy_from_slice.ensures.after refl))

use Rattle.std.proofs.Common.{refl, sym, arith}
use Rattle.rules.proofs.Rooms.{wrote_short}
use Rattle.octets.proofs.Cases.{wrote_all}
use Rattle.state_images.specs.StateImage.{state_image}
use Rattle.state_images.proofs.Cases.{state_long, state_stored}
use Rattle.state_images.proofs.write_fit.Goals as goal

pub returns-then-room-need : goal.returns-then-room-need
returns-then-room-need c = let s = c.args.s in wrote_short 0 (state_image s) c.args.room.now refl (omega (arith, state_long s))

pub returns : goal.returns
returns c =
    let s = c.args.s in
    let room = c.args.room.now in
    wrote_all 0 _ (state_image s) room _ refl (omega (arith, state_long s)) (sym (state_long s)) (state_stored s room _ _ c.store_front.ensures c.store_heads.ensures)

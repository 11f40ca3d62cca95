use Rattle.std.proofs.Common.{refl, sym, suc, arith}
use Rattle.rules.specs.Each.{every}
use Rattle.rules.specs.State.{no_head}
use Rattle.rules.proofs.Each.{every_more, every_fails, every_done}
use Rattle.octets.proofs.Taken.{taken_none, taken_more, taken_all}
use Rattle.state_images.proofs.take_heads.Goals as goal

pub loop-k-init : goal.loop-k-init
unfolding every
loop-k-init c = (refl, taken_none no_head _ c.args.n c.requires.0)

pub returns-in_err-head : goal.returns-in_err-head
returns-in_err-head c = let long = c.loop-k.invariant.1.long in rw c.from_residual.ensures (every_fails c.args.n _ (suc c.loop-k.k) (omega arith) (omega arith) c.in_err-head.ensures)

pub loop-k-preserved : goal.loop-k-preserved
loop-k-preserved c =
    let w = c.loop-k in
    let long = w.invariant.1.long in
    let h = c.in_ok-head.ensures in
    (every_more w.k _ w.invariant.0 h.0, taken_more no_head _ c.args.n c.requires.0 w.k w.head-items _ (omega arith) w.invariant.1 h.1)

pub returns : goal.returns
returns c =
    let w = c.loop-k in
    let long = w.invariant.1.long in
    (sym (every_done c.args.n w.k _ w.invariant.0 (omega arith) (omega arith)), taken_all no_head _ c.args.n c.requires.0 w.k w.head-items (omega arith) w.invariant.1)

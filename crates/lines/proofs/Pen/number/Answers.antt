use Rattle.std.proofs.Common.{refl, sym, ◌∙◌, arith, length-set}
use Rattle.lines.proofs.Over.{over_before, digit_back, digits_all, digits_none}
use Rattle.lines.proofs.Pen.number.Goals as goal

pub loop-k-init : goal.loop-k-init
loop-k-init c = (omega arith, refl, refl, digits_all _ _ _ _ (omega (arith, c.width.ensures.0)))

pub loop-k-preserved : goal.loop-k-preserved
loop-k-preserved c =
    let w = c.loop-k in
    let g = c.loop-k-test.true in
    let e = simp length-set at w.invariant.2 in
    (omega (arith, g), w.invariant.1, simp length-set e, digit_back _ _ _ _ g (omega (arith, e, w.auto.k)) ∙ w.invariant.3)

pub returns-clause-room : goal.returns-clause-room
returns-clause-room c =
    let w = c.loop-k in
    sym (digits_none _ _ _ _ (omega (arith, c.loop-k-test.false))) ∙ w.invariant.3 ∙ over_before _ _ _ _ _ (omega (arith, c.width.ensures.0)) (omega (arith, c.width.ensures.0))

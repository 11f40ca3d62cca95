use Rattle.door.proofs.Laws.{refused, unread, judge_number}
use Rattle.door.proofs.judge.Goals as goal

pub returns-in_err-fit : goal.returns-in_err-fit
returns-in_err-fit c = refused c.from_residual.result _ _ _ _ c.from_residual.ensures.1 (unread c.args.table.now c.args.state.now c.args.kind c.args.head _ c.in_err-fit.ensures.number)

pub returns-in_err-next : goal.returns-in_err-next
returns-in_err-next c =
    let r = c.from_residual-in_err-next in
    let e = c.in_ok-fit.ensures in
    refused r.result _ _ _ _ r.ensures.1 (judge_number c.in_ok-fit.fit c.args.table.now c.args.state.now e.number e.records _ _ _ c.read.ensures _ c.in_err-next.ensures.0)

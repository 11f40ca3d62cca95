use Rattle.std.proofs.Common.{◌≡◌, ◌∙◌, sym, ap}
use Rattle.std.proofs.lemmas.Result.{IfOk-at_ok, err_from_is_err_and}
use Rattle.words.specs.Refusal.{verdict_number}
use Rattle.words.proofs.Order.{accepted_zero, refused_some}
use Rattle.rules.proofs.Rooms.{write_unfit, wrote_none}
use Rattle.runs.specs.Listing.{list_image}
use Rattle.runs.proofs.listing.open_steps.Goals as goal

pub returns-in_err-of : goal.returns-in_err-of
returns-in_err-of c =
    let w = err_from_is_err_and c.from_residual.result c.from_residual.ensures.1 in
    let i = list_image c.args.t c.args.s in
    let e = refused_some c.of.result _ _ c.of.ensures.number c.in_err-of.was in
    let u = sym (ap verdict_number c.in_err-of.was) ∙ c.of.ensures.number ∙ write_unfit _ i c.args.room.now e in
    let n = wrote_none _ i c.args.room.now (refused_some c.of.result _ _ (c.of.ensures.number ∙ write_unfit _ i c.args.room.now e) c.in_err-of.was) in
    rw (w.1, w.2) (u, n.0, n.1)

pub returns : goal.returns
returns c =
    let t = IfOk-at_ok (λ f. f.table ≡ c.args.t) c.in_ok-of.was c.of.ensures.table in
    let s = IfOk-at_ok (λ f. f.state ≡ c.args.s) c.in_ok-of.was c.of.ensures.state in
    rw (accepted_zero c.of.result _ _ c.of.ensures.number c.in_ok-of.was) (rw (t, s) at c.open_steps_fit.ensures)

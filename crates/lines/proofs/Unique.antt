-- Each contract leaves one answer and one content of the room: any two that it admits are equal. Stated of the contracts as the check reads them, not of a copy.
use Rattle.std.proofs.Common.{◌≡◌, sym, ◌∙◌}
use borrow.Fn.Kinds as K
use contract.Lifetimes.{Lfts}
use Rattle.lines.proofs.put_step.Reads as put_step
use Rattle.lines.proofs.put_step.Kinds as put-step-kinds
use Rattle.lines.proofs.put_end.Reads as put-end
use Rattle.lines.proofs.put_end.Kinds as put-end-kinds

pub put_step_one : (κs : Lfts 1) (a : K.Dens κs put-step-kinds.ps) (r q : _) (s u : _) → put_step.Post κs a r s → put_step.Post κs a q u → (r ≡ q) × (s.0.now ≡ u.0.now)
put_step_one κs a r q s u p e = (p.0 ∙ sym e.0, p.1 ∙ sym e.1)

pub put_end_one : (κs : Lfts 1) (a : K.Dens κs put-end-kinds.ps) (r q : _) (s u : _) → put-end.Post κs a r s → put-end.Post κs a q u → (r ≡ q) × (s.0.now ≡ u.0.now)
put_end_one κs a r q s u p e = (p.0 ∙ sym e.0, p.1 ∙ sym e.1)

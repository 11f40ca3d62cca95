-- One answer: whatever two answers a public function's contract admits for the same arguments are equal, and so is the lent room.
use Rattle.std.proofs.Common.{◌≡◌, sym, ◌∙◌}
use borrow.Fn.Kinds as K
use contract.Lifetimes.{Lfts}
use Rattle.door.proofs.vt_fresh.Reads as fresh
use Rattle.door.proofs.vt_fresh.Kinds as fresh-kinds
use Rattle.door.proofs.vt_judge.Reads as judge
use Rattle.door.proofs.vt_judge.Kinds as judge-kinds
use Rattle.door.proofs.vt_list.Reads as list
use Rattle.door.proofs.vt_list.Kinds as list-kinds
use Rattle.door.proofs.vt_given.Reads as given
use Rattle.door.proofs.vt_given.Kinds as given-kinds
use Rattle.door.proofs.vt_policy.Reads as policy
use Rattle.door.proofs.vt_policy.Kinds as policy-kinds

pub fresh_one : (κs : Lfts 2) (a : K.Dens κs fresh-kinds.ps) (r q : _) (s u : _) → fresh.Post κs a r s → fresh.Post κs a q u → (r ≡ q) × (s.1.0.now ≡ u.1.0.now)
fresh_one κs a r q s u p e = (p.0 ∙ sym e.0, p.1 ∙ sym e.1)

pub judge_one : (κs : Lfts 3) (a : K.Dens κs judge-kinds.ps) (r q : _) (s u : _) → judge.Post κs a r s → judge.Post κs a q u → (r ≡ q) × (s.1.1.1.1.0.now ≡ u.1.1.1.1.0.now)
judge_one κs a r q s u p e = (p.0 ∙ sym e.0, p.1 ∙ sym e.1)

pub list_one : (κs : Lfts 3) (a : K.Dens κs list-kinds.ps) (r q : _) (s u : _) → list.Post κs a r s → list.Post κs a q u → (r ≡ q) × (s.1.1.0.now ≡ u.1.1.0.now)
list_one κs a r q s u p e = (p.0 ∙ sym e.0, p.1 ∙ sym e.1)

pub given_one : (κs : Lfts 4) (a : K.Dens κs given-kinds.ps) (r q : _) (s u : _) → given.Post κs a r s → given.Post κs a q u → (r ≡ q) × (s.1.1.1.0.now ≡ u.1.1.1.0.now)
given_one κs a r q s u p e = (p.0 ∙ sym e.0, p.1 ∙ sym e.1)

pub policy_one : (κs : Lfts 3) (a : K.Dens κs policy-kinds.ps) (r q : _) (s u : _) → policy.Post κs a r s → policy.Post κs a q u → (r ≡ q) × (s.1.1.1.0.now ≡ u.1.1.1.0.now)
policy_one κs a r q s u p e = (p.0 ∙ sym e.0, p.1 ∙ sym e.1)

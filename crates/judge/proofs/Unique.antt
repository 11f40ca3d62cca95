-- Each contract leaves one answer: any two that it admits are equal. Stated of the contracts as the check reads them, not of a copy.
use Rattle.std.proofs.Common.{◌≡◌}
use borrow.Fn.Kinds as K
use Rattle.judge.proofs.step.Reads as step
use Rattle.judge.proofs.step.Kinds as step-kinds
use Rattle.judge.proofs.pair.Reads as pair
use Rattle.judge.proofs.pair.Kinds as pair-kinds
use Rattle.words.proofs.Order.{answers_one}

pub step_one : (a : K.Dens tt step-kinds.ps) (r q : _) (s u : _) → step.Post tt a r s → step.Post tt a q u → r ≡ q
step_one a r q s u p e = answers_one r q _ _ p e

pub pair_one : (a : K.Dens tt pair-kinds.ps) (r q : _) (s u : _) → pair.Post tt a r s → pair.Post tt a q u → r ≡ q
pair_one a r q s u p e = answers_one r q _ _ p e

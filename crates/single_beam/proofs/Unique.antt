-- The contract leaves one answer: any two that it admits are equal. Stated of the contract as the check reads it, not of a copy.
use Rattle.std.proofs.Common.{◌≡◌}
use borrow.Fn.Kinds as K
use Rattle.words.proofs.Order.{answers_one}
use Rattle.single_beam.proofs.break_of.Reads as break-of
use Rattle.single_beam.proofs.break_of.Kinds as break-of-kinds

pub break_of_one : (a : K.Dens tt break-of-kinds.ps) (r q : _) (s u : _) → break-of.Post tt a r s → break-of.Post tt a q u → r ≡ q
break_of_one a r q s u p e = answers_one r q _ _ p e

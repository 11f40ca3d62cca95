-- Each contract leaves one answer: any two that it admits are equal. Stated of the contracts as the check reads them, not of a copy.
use Rattle.std.proofs.Common.{◌≡◌, sym, ◌∙◌}
use borrow.Fn.Kinds as K
use Rattle.words.proofs.Order.{verdict_one, answers_one}
use Rattle.book.proofs.Book.new.Reads as book-new
use Rattle.book.proofs.Book.new.Kinds as book-new-kinds
use Rattle.book.proofs.Book.check.Reads as book-check
use Rattle.book.proofs.Book.check.Kinds as book-check-kinds
use Rattle.book.proofs.Book.release.Reads as book-release
use Rattle.book.proofs.Book.release.Kinds as book-release-kinds

pub book_new_one : (a : K.Dens tt book-new-kinds.ps) (r q : _) (s u : _) → book-new.Post tt a r s → book-new.Post tt a q u → r ≡ q
book_new_one a r q s u p e = answers_one r q _ _ p e

pub book_check_one : (a : K.Dens tt book-check-kinds.ps) (r q : _) (s u : _) → book-check.Post tt a r s → book-check.Post tt a q u → r ≡ q
book_check_one a r q s u p e = verdict_one r q (p ∙ sym e)

pub book_release_one : (a : K.Dens tt book-release-kinds.ps) (r q : _) (s u : _) → book-release.Post tt a r s → book-release.Post tt a q u → r ≡ q
book_release_one a r q s u p e = answers_one r q _ _ p e

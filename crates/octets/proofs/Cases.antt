-- What the readers and the writers of both images have in common, case by case: each return of a function cites one law.
use Rattle.std.proofs.Common.{◌≡◌, sym, ap, ◌∙◌, ℕ, ◌≤◌, List, length, Result, Ok, Err, MatchResult, ne_eqb, arith}
use Rattle.std.proofs.Common.{IsErrAnd}
use Rattle.words.specs.declared.Refusal.{Refusal}
use Rattle.words.specs.declared.answers.Refused.{Refused}
use Rattle.words.specs.Refusal.{number_of}
use Rattle.words.specs.Answer.{Answers}
use Rattle.words.proofs.Order.{number_some}
use Rattle.rules.specs.Room.{write_refusal, Wrote}
use Rattle.rules.proofs.Rooms.{write_fits, wrote_image}
use Rattle.octets.specs.Room.{stored}
use Rattle.octets.specs.Fields.{or_blank, Reads}
use Rattle.octets.proofs.Rows.{stored_front}

-- ---- a reader's two answers

pub or_none : {A : Type 0} (number : ℕ) (x zeros : A) → (number ≡ 0 → ⊥) → zeros ≡ or_blank number x zeros
unfolding or_blank
or_none number x zeros n = rw (ne_eqb _ _ n)

pub or_some : {A : Type 0} (number : ℕ) (x zeros : A) → number ≡ 0 → x ≡ or_blank number x zeros
unfolding or_blank
or_some number x zeros e = rw e

-- a refusal that takes the zeros along
pub refused : {A : Type 0} (e : Refused A) (why : Refusal) (number : ℕ) (x zeros : A) → number_of why ≡ number → (e.why ≡ why) × (e.back ≡ zeros) → Answers (Err e) number (or_blank number x zeros)
refused e why number x zeros q w = (ap number_of w.0 ∙ q, w.1 ∙ or_none number x zeros (λ z. omega (arith, number_some why)))

-- what is read, or its refusal with the zeros
pub answered : {A : Type 0} {Q : Refusal → Refused A → Type 0} (r : Result A Refusal) (a : Result A (Refused A)) (number : ℕ) (x zeros : A)
    → Reads r number x
    → MatchResult r (λ y. a ≡ Ok y) (λ why. IsErrAnd a (Q why))
    → ((why : Refusal) (e : Refused A) → Q why e → (e.why ≡ why) × (e.back ≡ zeros))
    → Answers a number (or_blank number x zeros)
answered (Ok y) a number x zeros q f g = rw f (sym q.0, q.1 ∙ or_some number x zeros q.0)
answered (Err why) (Ok y) number x zeros q f g = absurd f
answered (Err why) (Err e) number x zeros q f g = refused e why number x zeros q (g why e f)

-- ---- a writer

-- a writer that has stored its whole image
pub wrote_all : (unfit bytes : ℕ) (image room after : List ℕ) → unfit ≡ 0 → length image ≤ length room → bytes ≡ length image → after ≡ stored room 0 image → Wrote (Ok bytes) unfit image room after
wrote_all unfit bytes image room after z h b a =
    let e = write_fits unfit image room z h in
    let w = wrote_image (write_refusal unfit image room) bytes image room after e b (a ∙ stored_front room image h) in
    (sym e, w.0, w.1)

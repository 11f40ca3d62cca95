-- What kept proves of rows of changes, said of calls; and a book made by calls is never refused for itself.
use Rattle.std.proofs.Common.{◌≡◌, refl, Bool, List, [], ◌∷◌, inl, inr, ℕ, zero, suc, arith}
use Rattle.words.specs.declared.Refusal.{Refusal}
use Rattle.words.specs.declared.Refusal.TheVariants.{TableRange, StateRule, BeforeLastBreak, NotActive, NoFreePlace, NoSuchEntry, NoNumberLeft}
use Rattle.words.specs.Refusal.{number_of, unless, first_refusal}
use Rattle.words.proofs.Order.{unless_gives}
use Rattle.rules.specs.Table.{table_refusal}
use Rattle.rules.specs.State.{state_refusal}
use Rattle.rules.proofs.Each.{either_or_not}
use Rattle.book.specs.declared.Book.{Book}
use Rattle.book.specs.Book.{empty_book, hold_refusal, rules_refusal}
use Rattle.book.specs.Calls.{is_tail, place_refusal, number_refusal, entry_refusal, held_refusal, release_refusal}
use Rattle.book.specs.Breaks.{clock_refusal, head_refusal}
use Rattle.single_beam.specs.Break.{new_refusal, cross_refusal, break_refusal}
use Rattle.kept.specs.Conditions.{BookMeets}
use Rattle.kept.specs.Post.{after_calls, MadeBook}
use Rattle.kept.proofs.Meaning.{meets_exactly, is_hold, are_rules}
use Rattle.kept.proofs.Keeps.{keeps_change}
use Rattle.kept.proofs.Post.{every_post}
use Rattle.mornings.specs.Morning.{Call, break, release, refusal_of, answer, accepted, single_beam}
use Rattle.mornings.specs.Conditions.{May}
use Rattle.mornings.specs.Claims.{AcceptedFits, CallsKept, ReleasedGone, MadeFits}
use Rattle.mornings.proofs.Calls.{release_is, accepted_exactly, call_changes}

-- ---- what kept says

pub calls_kept : CallsKept
calls_kept = every_post single_beam call_changes

pub released_gone : ReleasedGone
unfolding answer
released_gone b number xs e = calls_kept.freed b (release number) xs number (release_is b number e).rules (accepted e)

-- ---- an accepted call answers a book that fits

accepted_meets : (b : Book) (x : Call) → May b x → BookMeets b
unfolding May
accepted_meets b (break t s i) m = m.rules
accepted_meets b (release number) m = m.rules

pub accepted_fits : AcceptedFits
accepted_fits b x e =
    let m = accepted_meets b x ((accepted_exactly b x).0 e) in
    (meets_exactly (answer b x)).1 (keeps_change m (call_changes b x).change)

-- ---- a book made by calls is never refused with 15 or 25

-- a row gives no number that none of it gives
not_first : (k x : ℕ) (rest : List ℕ) → (x ≡ suc k → ⊥) → (first_refusal rest ≡ suc k → ⊥) → first_refusal (x ∷ rest) ≡ suc k → ⊥
unfolding first_refusal
not_first k zero rest n m = m
not_first k (suc x) rest n m = n

not_last : (k : ℕ) → first_refusal [] ≡ suc k → ⊥
unfolding first_refusal
not_last k e = omega arith

-- a number of none of the other refusals
record Another (n : ℕ) : Type 0 where
  table : number_of TableRange ≡ n → ⊥
  state : number_of StateRule ≡ n → ⊥
  clock : number_of BeforeLastBreak ≡ n → ⊥
  head : number_of NotActive ≡ n → ⊥
  place : number_of NoFreePlace ≡ n → ⊥
  entry : number_of NoSuchEntry ≡ n → ⊥
  number : number_of NoNumberLeft ≡ n → ⊥

module _ (k : ℕ) (a : Another (suc k)) (b : Book) (h : hold_refusal b.hold ≡ 0) (r : rules_refusal b ≡ 0) where
  unless_other : (ok : Bool) (x : Refusal) → (number_of x ≡ suc k → ⊥) → unless ok x ≡ suc k → ⊥
  unless_other ok x n e = n (unless_gives ok x k e)

  entry_other : entry_refusal b ≡ suc k → ⊥
  unfolding entry_refusal place_refusal number_refusal
  entry_other = not_first k _ _ (unless_other _ NoFreePlace a.place) (not_first k _ _ (unless_other _ NoNumberLeft a.number) (not_last k))

  new_other : (i clock : ℕ) → new_refusal b i clock ≡ suc k → ⊥
  unfolding new_refusal
  new_other i clock e = elim (either_or_not (is_tail b i clock)) [ inl y ↦ absurd (omega (arith, rw y at e)) | inr y ↦ entry_other (rw y at e) ]

  call_other : (x : Call) → refusal_of b x ≡ suc k → ⊥
  unfolding refusal_of break_refusal table_refusal state_refusal cross_refusal clock_refusal head_refusal release_refusal held_refusal
  call_other (break t s i) =
      not_first k _ _ (unless_other _ TableRange a.table)
      (not_first k _ _ (unless_other _ StateRule a.state)
      (not_first k _ _ (λ e. omega arith)
      (not_first k _ _ (λ e. omega arith)
      (not_first k _ _ cross (not_last k)))))
    where
      cross : cross_refusal t s b i ≡ suc k → ⊥
      cross =
          not_first k _ _ (unless_other _ BeforeLastBreak a.clock)
          (not_first k _ _ (unless_other _ NotActive a.head) (not_first k _ _ (new_other i s.clock) (not_last k)))
  call_other (release number) =
      not_first k _ _ (λ e. omega arith) (not_first k _ _ (λ e. omega arith) (not_first k _ _ (unless_other _ NoSuchEntry a.entry) (not_last k)))

pub made_fits : MadeFits
made_fits hold xs l h = record {
  fits = (meets_exactly b).1 made.meets;
  hold = call_other 14 (omega arith) b range rules;
  rules = call_other 24 (omega arith) b range rules;
  own = made.own;
}
  where
    b : Book
    b = after_calls single_beam (empty_book hold) xs

    made : MadeBook hold b
    made = calls_kept.made (empty_book hold) xs hold refl

    range : hold_refusal b.hold ≡ 0
    range = let e = made.hold_stays in is_hold b.hold (omega arith) (omega arith)

    rules : rules_refusal b ≡ 0
    rules = are_rules b made.meets

-- A break, case by case: what refuses it whether it is a tail or not comes first; then what it comes to, and a new entry's refusals.
use Rattle.std.proofs.Common.{◌≡◌, refl, true, false, [], ◌∷◌, ℕ, zero, suc, ◌≤◌}
use Rattle.words.specs.Refusal.{first_refusal}
use Rattle.words.proofs.Order.{row_is}
use Rattle.rules.specs.declared.State.{State}
use Rattle.rules.specs.declared.Table.{Table}
use Rattle.rules.specs.Limits.{max_heads}
use Rattle.rules.specs.Judge.{record_refusal}
use Rattle.rules.proofs.Checks.{accepted_record}
use Rattle.rules.proofs.Meaning.{table_meets}
use Rattle.book.specs.declared.Book.{Book}
use Rattle.book.specs.Book.{book_fits, book_refusal}
use Rattle.book.specs.Breaks.{admit_refusal}
use Rattle.book.specs.Calls.{is_tail, tailed, entry_refusal, entered}
use Rattle.book.proofs.Rules.{accepted_book}
use Rattle.book.proofs.Admits.{accepted_break}
use Rattle.single_beam.specs.Break.{new_refusal, cross_refusal, may_break_refusal, break_refusal, crossed}

-- ---- the refusals of a break, in two parts

in_parts :
    (a b c d e f g : ℕ) → first_refusal (a ∷ b ∷ c ∷ d ∷ first_refusal (e ∷ f ∷ g ∷ []) ∷ []) ≡
    first_refusal (first_refusal (first_refusal (a ∷ b ∷ []) ∷ first_refusal (c ∷ d ∷ []) ∷ first_refusal (e ∷ f ∷ []) ∷ []) ∷ g ∷ [])
unfolding first_refusal
in_parts (suc a) b c d e f g = refl
in_parts zero (suc b) c d e f g = refl
in_parts zero zero (suc c) d e f g = refl
in_parts zero zero zero (suc d) e f g = refl
in_parts zero zero zero zero (suc e) f g = refl
in_parts zero zero zero zero zero (suc f) g = refl
in_parts zero zero zero zero zero zero (suc g) = refl
in_parts zero zero zero zero zero zero zero = refl

-- a table that passed the check has no more heads than there are places
pub heads_within : (t : Table) (s : State) → record_refusal t s ≡ 0 → t.n ≤ max_heads
heads_within t s e = (table_meets t (accepted_record t s e).0).heads

module _ (t : Table) (s : State) (b : Book) (i : ℕ) where
  -- what a break is refused for whether it is a tail or not comes first, then what a new entry is refused for
  pub break_row : break_refusal t s b i ≡ first_refusal (may_break_refusal t s b i ∷ new_refusal b i s.clock ∷ [])
  unfolding break_refusal cross_refusal may_break_refusal record_refusal book_refusal admit_refusal
  break_row = in_parts _ _ _ _ _ _ (new_refusal b i s.clock)

  -- what a break that may be made has shown
  pub may_break : may_break_refusal t s b i ≡ 0 → (book_fits b ≡ true) × (b.latest ≤ s.clock) × (1 ≤ i) × (i ≤ max_heads)
  unfolding may_break_refusal
  may_break z =
      let r = row_is (record_refusal t s) (book_refusal b) (admit_refusal t s b i) z in
      let k = accepted_break t s b i (accepted_record t s r.0).0 r.2 in
      ((accepted_book b r.1).1, k.0, k.1, k.2)

-- ---- what a break comes to, and the refusal of a new entry, where it is a tail and where it is not

module _ (b : Book) (i clock : ℕ) where
  pub tail_files : is_tail b i clock ≡ true → crossed b i clock ≡ tailed b i clock
  unfolding crossed
  tail_files e = rw e

  pub new_files : is_tail b i clock ≡ false → crossed b i clock ≡ entered b i clock clock
  unfolding crossed
  new_files e = rw e

  pub tail_passes : is_tail b i clock ≡ true → new_refusal b i clock ≡ 0
  unfolding new_refusal
  tail_passes e = rw e

  pub new_asks : is_tail b i clock ≡ false → new_refusal b i clock ≡ entry_refusal b
  unfolding new_refusal
  new_asks e = rw e

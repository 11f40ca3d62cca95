-- Numbers rise from one call to the next, none is given twice, and none comes back.
use Rattle.std.proofs.Common.{◌≡◌, sym, ap, ◌∙◌, List, inl, inr, ℕ, suc, ◌≤◌, ◌<◌, arith}
use mathlib.Core.List.Memᴰ
use mathlib.Core.List.{Memᴰ}
use Rattle.book.specs.declared.Book.{Book}
use Rattle.book.specs.Book.{no_entry, entry_at, number_in, number_at, last_crossing, place_of}
use Rattle.book.specs.Calls.{new_entry, tailed, entered, released}
use Rattle.book.proofs.Rows.{put_either}
use Rattle.kept.specs.Conditions.{Held, BookMeets}
use Rattle.kept.specs.Change.{Effect, Change, refused, a_tail, an_entry, a_release, Row, no_more, first, given_in}
use Rattle.kept.specs.Claims.{FreedAt, Absent, RisesFrom, rises_none, rises_next, NumbersRise, EachOnce, once_none, once_first}
use Rattle.kept.specs.Claims.{NeverTwice, NeverAgain, ReleasedGone}
use Rattle.kept.proofs.Places.{held_same, counted_same}
use Rattle.kept.proofs.Calls.{frees_one, freed_other}

-- ---- along a row the last given moves only where a number is given, and by one

rises_row : {b c : Book} {xs : List Effect} → Row b xs c → RisesFrom b.given (given_in xs)
unfolding given_in tailed entered released
rises_row no_more = rises_none
rises_row (first refused r) = rises_row r
rises_row (first (a_tail i clock k n l) r) = rises_row r
rises_row (first (an_entry i tick clock k a l e) r) = rises_next (rises_row r)
rises_row (first (a_release number e) r) = rises_row r

pub numbers_rise : NumbersRise
numbers_rise b c xs r = rises_row r

-- ---- so each is above all before it

rises_above : {last : ℕ} {ns : List ℕ} → RisesFrom last ns → (n : ℕ) → Memᴰ n ns → last < n
rises_above rises_none n m = absurd (Memᴰ.not-nil m)
rises_above (rises_next r) n m = elim (Memᴰ.cases_cons m) [ inl e ↦ omega arith | inr u ↦ let l = rises_above r n u in omega arith ]

rises_once : {last : ℕ} {ns : List ℕ} → RisesFrom last ns → EachOnce ns
rises_once rises_none = once_none
rises_once (rises_next {last = last} r) = once_first (λ m. let l = rises_above r (suc last) m in omega arith) (rises_once r)

pub never_twice : NeverTwice
never_twice b c xs r = (rises_once (rises_row r), rises_above (rises_row r))

-- ---- a number that was given and is held nowhere stays away

module _ (n : ℕ) where
  -- a place with the number that it had
  absent_same : {b c : Book} {p : ℕ} → Absent b n → number_at c.places p ≡ number_at b.places p → Held c p → number_at c.places p ≡ n → ⊥
  absent_same {p = p} f s h q = f p (held_same s h) (sym s ∙ q)

  absent_change : {b c : Book} {x : Effect} → n ≤ b.given → Absent b n → Change b x c → (n ≤ c.given) × Absent c n
  unfolding tailed entered released
  absent_change l f refused = (l, f)
  absent_change {b} l f (a_tail i clock k u m) = (l, λ p. absent_same f (counted_same b.places (last_crossing b i).number p).number)
  absent_change {b} l f (an_entry i tick clock k a m e) = (
    omega arith,
    λ p h q. elim (put_either no_entry b.places (place_of b.places 0) p (new_entry b i tick)) [
      | inl s ↦ absent_same f (ap number_in s) h q
      | inr s ↦ omega (arith, ap number_in s.1)
    ],
  )
  absent_change {b} l f (a_release number e) = (
    l,
    λ p h q. elim (put_either no_entry b.places (place_of b.places number) p no_entry) [
      | inl s ↦ absent_same f (ap number_in s) h q
      | inr s ↦ h.number (ap number_in s.1)
    ],
  )

  absent_row : {b c : Book} {xs : List Effect} → n ≤ b.given → Absent b n → Row b xs c → Absent c n
  absent_row l f no_more = f
  absent_row l f (first x r) = let w = absent_change l f x in absent_row w.0 w.1 r

pub never_again : NeverAgain
never_again b c xs n l f r = absent_row n {b = b} (omega arith) f r

-- a release leaves no place with its number, since no other place had it
released_absent : {b c : Book} {number p : ℕ} → BookMeets b → FreedAt b c number p → Absent c number
released_absent {c = c} {p = p} m f q h e =
    let x = freed_other f q h in
    let s = m.once q p (held_same (ap number_in x) h) f.held (sym (ap number_in x) ∙ e ∙ sym f.its_number) in
    let z : entry_at c.places q ≡ no_entry = rw s f.free in
    h.number (ap number_in z)

pub released_gone : ReleasedGone
released_gone b c xs number m e r =
    let f = (frees_one b number e).1 in
    absent_row number (omega (arith, f.its_number, f.given, m.number_high _ f.held)) (released_absent m f) r

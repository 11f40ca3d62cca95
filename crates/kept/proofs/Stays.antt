-- Until its release no call changes an entry's number, head or tick.
use Rattle.std.proofs.Common.{◌≡◌, refl, sym, ap, ◌∙◌, List, ℕ}
use mathlib.Core.List.{Memᴰ}
use Rattle.book.specs.declared.Entry.{Entry}
use Rattle.book.specs.declared.Book.{Book}
use Rattle.book.specs.Book.{no_entry, entry_at, number_in, number_at, last_crossing}
use Rattle.book.specs.Calls.{tailed, entered, released}
use Rattle.book.proofs.Rows.{at_put_other}
use Rattle.kept.specs.Conditions.{Held}
use Rattle.kept.specs.Change.{Effect, frees, Change, refused, a_tail, an_entry, a_release, Row, no_more, first}
use Rattle.kept.specs.Claims.{SameCrossing, EntriesStay}
use Rattle.kept.proofs.Places.{tick_in, head_in, place_number, held_same, counted_same}
use Rattle.kept.proofs.Calls.{entry_place, held_place}

same_entry : {e f : Entry} → f ≡ e → SameCrossing e f
same_entry q = record { number = ap number_in q; head = ap head_in q; tick = ap tick_in q }

-- what place p of b holds has become in c
abbrev Same : Book → Book → ℕ → Type 0
Same b c p = SameCrossing (entry_at b.places p) (entry_at c.places p)

-- under a call that does not free its number
stays_change : {b c : Book} {x : Effect} (p : ℕ) → Held b p → Change b x c → (frees (number_at b.places p) ≡ x → ⊥) → Same b c p
unfolding tailed entered released
stays_change p h refused f = same_entry refl
stays_change {b} p h (a_tail i clock k n l) f = counted_same b.places (last_crossing b i).number p
stays_change {b} p h (an_entry i tick clock k a l e) f =
    let z = place_number b.places 0 (entry_place b e) in
    same_entry (at_put_other no_entry b.places _ p _ (λ q. h.number (rw q z)))
stays_change {b} p h (a_release number e) f =
    let z = place_number b.places number (held_place b number e) in
    same_entry (at_put_other no_entry b.places _ p _ (λ q. f (ap frees (rw q z))))

stays_row : {b c : Book} {xs : List Effect} (p : ℕ) → Held b p → Row b xs c → (Memᴰ (frees (number_at b.places p)) xs → ⊥) → Same b c p
stays_row p h no_more f = same_entry refl
stays_row p h (first x r) f =
    let s = stays_change p h x (λ e. f (Memᴰ.head e)) in
    let t = stays_row p (held_same (sym s.number) h) r (λ u. f (Memᴰ.tail (rw s.number at u))) in
    record { number = t.number ∙ s.number; head = t.head ∙ s.head; tick = t.tick ∙ s.tick }

pub entries_stay : EntriesStay
entries_stay b c xs p h r f = stays_row p h r f

-- An entry whose number a head remembers is that head's, so a tail is filed in its own head's crossing.
use Rattle.std.proofs.Common.{◌≡◌, sym, ap, ◌∙◌, List, ◌⊎◌, inl, inr, ℕ, arith}
use Rattle.rules.proofs.Each.{same_or_not}
use Rattle.book.specs.declared.Book.{Book}
use Rattle.book.specs.Rows.{at}
use Rattle.book.specs.Book.{no_crossing, entry_at, number_in, last_crossing}
use Rattle.book.specs.Calls.{new_crossing, tailed}
use Rattle.kept.specs.Conditions.{AnyHead, BookMeets}
use Rattle.kept.specs.Change.{Effect, Change, refused, a_tail, an_entry, a_release, Row, no_more, first}
use Rattle.kept.specs.Claims.{LastPlace, EnteredAt, FreedAt, Own, EmptyOwn, OwnEntries, OwnTails}
use Rattle.kept.proofs.Places.{tick_in, head_in, last_number_in, last_tick_in, held_same, counted_same}
use Rattle.kept.proofs.Calls.{tail_either, takes_lowest, NewOrOld, new, old, new_or_old, frees_one, freed_other}
use Rattle.kept.proofs.Keeps.{empty_held, keeps_change}

-- the entry of place p is head i's, at the tick that it remembers
abbrev Its : Book → ℕ → ℕ → Type 0
Its b p i = ((entry_at b.places p).head ≡ i) × ((entry_at b.places p).tick ≡ (last_crossing b i).tick)

pub empty_own : EmptyOwn
empty_own hold p i k l = absurd (empty_held hold p l.0)

own_tail : (b : Book) (i clock : ℕ) → Own b → Own (tailed b i clock)
unfolding tailed
own_tail b i clock o p j k l =
    let s = counted_same b.places (last_crossing b i).number p in
    let r = o p j k (held_same s.number l.0, sym s.number ∙ l.1) in
    (s.head ∙ r.0, s.tick ∙ r.1)

-- a place and a head that are as they were
own_old :
    {b c : Book} {p j : ℕ} → Own b → AnyHead j → LastPlace c j p → entry_at c.places p ≡ entry_at b.places p →
    last_crossing c j ≡ last_crossing b j → Its c p j
own_old {p = p} {j = j} o k l x y =
    let r = o p j k (held_same (ap number_in x) l.0, sym (ap number_in x) ∙ l.1 ∙ ap last_number_in y) in
    (ap head_in x ∙ r.0, ap tick_in x ∙ r.1 ∙ sym (ap last_tick_in y))

-- the new number is above all others, so only the new entry's head remembers it
own_entry : {b c : Book} {i tick clock p : ℕ} → BookMeets b → EnteredAt b c i tick clock p → Own b → Own c
own_entry {b} {c} {i} {tick} {p = p} m f o q j k l = go (new_or_old f q l.0) (same_or_not j i)
  where
    last : j ≡ i → last_crossing c j ≡ new_crossing b tick
    last s = rw s f.last

    go : NewOrOld b c i tick p q → (j ≡ i) ⊎ (j ≡ i → ⊥) → Its c q j
    go (new e x) (inl s) = (ap head_in x ∙ sym s, ap tick_in x ∙ sym (ap last_tick_in (last s)))
    go (new e x) (inr n) = absurd (omega (arith, ap number_in x, l.1, ap last_number_in (f.other_heads j n), m.last_number j k))
    go (old g x) (inl s) = absurd (omega (arith, ap number_in x, l.1, ap last_number_in (last s), m.number_high q g))
    go (old g x) (inr n) = own_old o k l x (f.other_heads j n)

own_release : {b c : Book} {number p : ℕ} → FreedAt b c number p → Own b → Own c
own_release f o q j k l = own_old o k l (freed_other f q l.0) (ap (λ row. at no_crossing row j) f.remembered)

own_change : {b c : Book} {x : Effect} → BookMeets b → Own b → Change b x c → Own c
own_change m o refused = o
own_change {b} m o (a_tail i clock k n l) = own_tail b i clock o
own_change {b} m o (an_entry i tick clock k a l e) = own_entry m (takes_lowest b i tick clock m k e).1.1 o
own_change {b} m o (a_release number e) = own_release (frees_one b number e).1 o

own_row : {b c : Book} {xs : List Effect} → BookMeets b → Own b → Row b xs c → Own c
own_row m o no_more = o
own_row m o (first x r) = own_row (keeps_change m x) (own_change m o x) r

pub own_entries : OwnEntries
own_entries b c xs m o r = own_row m o r

pub own_tails : OwnTails
own_tails b i clock p o k n d = elim (tail_either b i n clock p) [ inl l ↦ (o p i k l).0 | inr e ↦ absurd (d e) ]

-- What a tail, a new entry and a release do to a book, place by place, and which of 18, 20 and 19 is given where.
use Rattle.std.proofs.Common.{◌≡◌, refl, sym, ap, ◌∙◌, not, ◌⊎◌, inl, inr, ℕ, ◌-◌, arith, eqb, ltb-true, ne_eqb, le-ltb, lt-ltb}
use Rattle.std.proofs.lemmas.Bool.{eqb-false, not-true}
use Rattle.words.specs.declared.Refusal.TheVariants.{NoSuchEntry, NoNumberLeft}
use Rattle.words.proofs.Order.{unless_is, is_unless, unless_not, unless_gives}
use Rattle.rules.proofs.Each.{same_or_not, less_or_not, and_true, both}
use Rattle.book.specs.declared.Entry.{Entry}
use Rattle.book.specs.declared.Book.{Book}
use Rattle.book.specs.Limits.{last_number}
use Rattle.book.specs.Book.{no_entry, no_crossing, entry_at, number_in, last_crossing, place_of}
use Rattle.book.specs.Calls.{new_entry, is_tail, one_more, more_tails, tailed, number_refusal, entry_refusal, entered, held_refusal, released}
use Rattle.book.proofs.Rows.{at_put_same, at_put_other}
use Rattle.book.proofs.Filing.{no_place, some_place, none_held, not_held, is_held}
use Rattle.kept.specs.Conditions.{Held, BookMeets}
use Rattle.kept.specs.Claims.{TailExactly, OneMore, LastPlace, TailCounted, LowestFree, EnteredAt, TakesLowest}
use Rattle.kept.specs.Claims.{AllHeld, FullExactly, SpentExactly, RoomExactly, FreedAt, FreesOne, AbsentExactly, PresentExactly}
use Rattle.kept.proofs.Places.{place_number, place_place, place_below, place_nowhere, place_somewhere, number_within, held_same}
use Rattle.kept.proofs.Places.{counted_other, counted_nowhere, counted_place}

-- the place of a number other than 0, where there is one, is held
place_held : (b : Book) (number : ℕ) → (number ≡ 0 → ⊥) → (place_of b.places number ≡ 0 → ⊥) → Held b (place_of b.places number)
place_held b number n m = record { place = place_place b.places number m; number = λ z. n (sym (place_number b.places number m) ∙ z) }

-- ---- 18, 20, 19

module _ (b : Book) where
  all_held : place_of b.places 0 ≡ 0 → AllHeld b
  all_held z p k = record { place = k; number = place_nowhere b.places 0 z p k }

  not_all : (place_of b.places 0 ≡ 0 → ⊥) → AllHeld b → ⊥
  not_all n h = (h _ (place_place b.places 0 n)).number (place_number b.places 0 n)

  -- where no number refuses a new entry there is a free place
  pub entry_place : entry_refusal b ≡ 0 → place_of b.places 0 ≡ 0 → ⊥
  entry_place e z = omega (arith, no_place b _ refl z)

pub full_exactly : FullExactly
unfolding number_refusal
full_exactly b = elim (same_or_not (place_of b.places 0) 0) [
  | inl z ↦ (λ e. all_held b z, λ h. sym (no_place b _ refl z))
  | inr n ↦ (λ e. absurd (omega (arith, unless_gives _ NoNumberLeft 17 (sym (some_place b _ refl n) ∙ e))), λ h. absurd (not_all b n h))
]

pub spent_exactly : SpentExactly
unfolding number_refusal
spent_exactly b = elim (same_or_not (place_of b.places 0) 0) [
  | inl z ↦ (λ e. absurd (omega (arith, no_place b _ refl z)), λ h. absurd (h (all_held b z)))
  | inr n ↦ elim (less_or_not b.given last_number) [
    | inl l ↦ (λ e. absurd (omega (arith, some_place b _ refl n, is_unless _ NoNumberLeft (lt-ltb _ _ l))), λ h m. absurd (omega arith))
    | inr l ↦ (λ e. (not_all b n, l), λ h m. some_place b _ refl n ∙ unless_not _ NoNumberLeft (le-ltb _ _ l))
  ]
]

pub room_exactly : RoomExactly
unfolding number_refusal
room_exactly b = (
  λ e. let n = entry_place b e in (not_all b n, ltb-true _ _ (unless_is _ NoNumberLeft (sym (some_place b _ refl n) ∙ e))),
  λ r. some_place b _ refl (λ z. r.0 (all_held b z)) ∙ is_unless _ NoNumberLeft (lt-ltb _ _ r.1),
)

module _ (b : Book) (number : ℕ) where
  pub held_some : held_refusal b number ≡ 0 → number ≡ 0 → ⊥
  unfolding held_refusal
  held_some e = eqb-false _ _ (not-true _ (and_true (not (eqb number 0)) _ (unless_is _ NoSuchEntry e)).0)

  pub held_place : held_refusal b number ≡ 0 → place_of b.places number ≡ 0 → ⊥
  unfolding held_refusal
  held_place e = eqb-false _ _ (not-true _ (and_true (not (eqb number 0)) _ (unless_is _ NoSuchEntry e)).1)

pub absent_exactly : AbsentExactly
absent_exactly b number = elim (same_or_not number 0) [
  | inl z ↦ (λ e p h q. h.number (q ∙ z), λ h. sym (none_held b number z))
  | inr n ↦ elim (same_or_not (place_of b.places number) 0) [
    | inl z ↦ (λ e p h q. place_nowhere b.places number z p h.place q, λ h. sym (not_held b number _ refl n z))
    | inr m ↦ (
      λ e. absurd (omega (arith, is_held b number _ refl n m)),
      λ h. absurd (h _ (place_held b number n m) (place_number b.places number m)),
    )
  ]
]

pub present_exactly : PresentExactly
present_exactly b number = (
  λ e. let m = held_place b number e in (_, (place_held b number (held_some b number e) m, place_number b.places number m)),
  λ w. let n : number ≡ 0 → ⊥ = λ z. w.1.0.number (w.1.1 ∙ z) in
      sym (is_held b number _ refl n (place_somewhere b.places number w.0 w.1.0.place w.1.1)),
)

-- ---- a tail

pub tail_exactly : TailExactly
unfolding is_tail
tail_exactly b i clock m k l = (
  λ e. let r = and_true (not (eqb (last_crossing b i).number 0)) _ e in
      let h = ltb-true age b.hold r.1 in
      (eqb-false _ _ (not-true _ r.0), omega arith),
  λ y. both (ap not (ne_eqb _ 0 y.0)) (lt-ltb age b.hold (omega (arith, y.1, m.last_tick i k y.0))),
)
  where
    age : ℕ
    age = clock - (last_crossing b i).tick

more_tails_lem : (e : Entry) → OneMore e (more_tails e)
unfolding one_more
more_tails_lem e = record { same = record { number = refl; head = refl; tick = refl }; adds = λ l. omega arith; stays = λ q. omega arith }

-- the place of the number that head i remembers
abbrev pub its_place : Book → ℕ → ℕ
its_place b i = place_of b.places (last_crossing b i).number

module _ (b : Book) (i : ℕ) (n : (last_crossing b i).number ≡ 0 → ⊥) where
  -- where there is one, head i's last crossing stands there
  last_place : (its_place b i ≡ 0 → ⊥) → LastPlace b i (its_place b i)
  last_place z = (place_held b (last_crossing b i).number n z, place_number b.places (last_crossing b i).number z)

  last_somewhere : (p : ℕ) → LastPlace b i p → its_place b i ≡ 0 → ⊥
  last_somewhere p l = place_somewhere b.places (last_crossing b i).number p l.0.place l.1

  -- and in a book that meets the rules nowhere else
  last_is : BookMeets b → (p : ℕ) → LastPlace b i p → p ≡ its_place b i
  last_is m p l = let h = last_place (last_somewhere p l) in m.once p _ l.0 h.0 (l.1 ∙ sym h.1)

  -- a tail changes no other place
  pub tail_either : (clock p : ℕ) → LastPlace b i p ⊎ (entry_at (tailed b i clock).places p ≡ entry_at b.places p)
  unfolding tailed
  tail_either clock p = elim (same_or_not (its_place b i) 0) [
    | inl z ↦ inr (ap (λ es. entry_at es p) (counted_nowhere b.places (last_crossing b i).number z))
    | inr z ↦ elim (same_or_not (its_place b i) p) [
      | inl e ↦ inl (rw e at (last_place z))
      | inr e ↦ inr (counted_other b.places (last_crossing b i).number p e)
    ]
  ]

  pub tail_other : (clock p : ℕ) → (LastPlace b i p → ⊥) → entry_at (tailed b i clock).places p ≡ entry_at b.places p
  tail_other clock p f = elim (tail_either clock p) [ inl l ↦ absurd (f l) | inr e ↦ e ]

  tail_nowhere : (clock : ℕ) → ((p : ℕ) → LastPlace b i p → ⊥) → (tailed b i clock).places ≡ b.places
  unfolding tailed
  tail_nowhere clock f = elim (same_or_not (its_place b i) 0) [
    | inl z ↦ counted_nowhere b.places (last_crossing b i).number z
    | inr z ↦ absurd (f _ (last_place z))
  ]

  tail_counts : (clock : ℕ) → BookMeets b → (p : ℕ) → LastPlace b i p → OneMore (entry_at b.places p) (entry_at (tailed b i clock).places p)
  unfolding tailed
  tail_counts clock m p l = rw (last_is m p l, counted_place b.places (last_crossing b i).number n (last_somewhere p l)) (more_tails_lem _)

pub tail_counted : TailCounted
unfolding tailed
tail_counted b i clock m n = record {
  counts = tail_counts b i n clock m;
  others = tail_other b i n clock;
  nowhere = tail_nowhere b i n clock;
  latest = refl;
  hold = refl;
  given = refl;
  remembered = refl;
}

-- ---- a new entry

pub lowest_free : (b : Book) → entry_refusal b ≡ 0 → LowestFree b (place_of b.places 0)
lowest_free b e = record {
  place = place_place b.places 0 (entry_place b e);
  free = place_number b.places 0 (entry_place b e);
  below = λ q a l. record { place = a; number = place_below b.places 0 q a.low l };
}

pub takes_lowest : TakesLowest
unfolding entered
takes_lowest b i tick clock m k e = (
  place_of b.places 0,
  (
    l,
    record {
      entry = at_put_same no_entry b.places _ _ l.place.low (let h = l.place.high in omega (arith, m.places));
      others = λ q n. at_put_other no_entry b.places _ q _ n;
      last = at_put_same no_crossing b.remembered i _ k.low (let h = k.high in omega (arith, m.heads));
      other_heads = λ j n. at_put_other no_crossing b.remembered i j _ n;
      given = refl;
      latest = refl;
      hold = refl;
    },
  ),
)
  where
    l : LowestFree b (place_of b.places 0)
    l = lowest_free b e

-- a place held afterwards has the new entry, or was held before
pub data NewOrOld (b c : Book) (i tick p q : ℕ) : Type 0 where
  new : q ≡ p → entry_at c.places q ≡ new_entry b i tick → NewOrOld b c i tick p q
  old : Held b q → entry_at c.places q ≡ entry_at b.places q → NewOrOld b c i tick p q

pub new_or_old : {b c : Book} {i tick clock p : ℕ} → EnteredAt b c i tick clock p → (q : ℕ) → Held c q → NewOrOld b c i tick p q
new_or_old {p = p} f q h = elim (same_or_not q p) [
  | inl e ↦ new e (rw e f.entry)
  | inr n ↦ old (held_same (ap number_in (f.others q n)) h) (f.others q n)
]

-- ---- a release

pub frees_one : FreesOne
unfolding released
frees_one b number e = (
  place_of b.places number,
  record {
    held = h;
    its_number = place_number b.places number (held_place b number e);
    free = at_put_same no_entry b.places _ no_entry h.place.low (number_within b.places _ h.number);
    others = λ q n. at_put_other no_entry b.places _ q no_entry n;
    hold = refl;
    given = refl;
    latest = refl;
    remembered = refl;
  },
)
  where
    h : Held b (place_of b.places number)
    h = place_held b number (held_some b number e) (held_place b number e)

-- a place held afterwards is another, and as it was
pub freed_other : {b c : Book} {number p : ℕ} → FreedAt b c number p → (q : ℕ) → Held c q → entry_at c.places q ≡ entry_at b.places q
freed_other {c = c} {p = p} f q h = elim (same_or_not q p) [
  | inl s ↦ let z : entry_at c.places q ≡ no_entry = rw s f.free in absurd (h.number (ap number_in z))
  | inr n ↦ f.others q n
]

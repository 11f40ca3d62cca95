-- Laws of rows of places: what is put stands there and nothing else moves; which place is the lowest; a test of each place and of some.
use Rattle.std.proofs.Common.{◌≡◌, refl, sym, ap, ◌∙◌, Bool, true, false, cond, ◌&&◌, ◌||◌, ◌⊎◌, inl, inr, List, [], ◌∷◌, ℕ, zero, suc, ◌-◌, ◌≤◌, ◌<◌, eqb, length, get_or, set, take, replicate, length-set, add-one, arith}
use Rattle.std.specs.List.{fold, list_all, list_any, position, position_or_len}
use Rattle.std.proofs.Math.ListN.{length-replicate, get_or-eq_default}
use Rattle.std.proofs.lemmas.Bool.{eq-eqb, ne_eqb, lt-ltb, le-ltb}
use Rattle.std.proofs.lemmas.List.{take_all, get_or-replicate, get_or-set_same, get_or-set_other}
use Rattle.std.proofs.lemmas.List.Folds.{list_all_more, list_any_more}
use Rattle.std.proofs.lemmas.List.Sums.{fails_before_first, passes_at_first}
use Rattle.rules.specs.Each.{every, some}
use Rattle.rules.proofs.Each.{same_or_not, less_or_not, either_or_not, not_both}
use Rattle.book.specs.Rows.{at, put, lowest}
use Rattle.book.specs.Book.{place_number}

-- ---- places by the index that the code has

module _ {A : Type 0} (none : A) (xs : List A) where
  pub at_before : (p : ℕ) → 1 ≤ p → at none xs p ≡ get_or xs (p - 1) none
  unfolding at
  at_before zero l = absurd (omega arith)
  at_before (suc k) l = let e : suc k - 1 ≡ k = omega arith in rw e

pub put_before : {A : Type 0} (xs : List A) (p : ℕ) (x : A) → 1 ≤ p → put xs p x ≡ set xs (p - 1) x
unfolding put
put_before xs zero x l = absurd (omega arith)
put_before xs (suc k) x l = let e : suc k - 1 ≡ k = omega arith in rw e

pub put_nowhere : {A : Type 0} (xs : List A) (p : ℕ) (x : A) → p ≡ 0 → put xs p x ≡ xs
unfolding put
put_nowhere xs p x e = rw e

-- ---- what is put stands there, and nothing else moves

pub length_put : {A : Type 0} (xs : List A) (p : ℕ) (x : A) → length (put xs p x) ≡ length xs
unfolding put
length_put xs zero x = refl
length_put xs (suc k) x = length-set xs k x

module _ {A : Type 0} (none : A) (xs : List A) where
  pub at_put_same : (p : ℕ) (x : A) → 1 ≤ p → p ≤ length xs → at none (put xs p x) p ≡ x
  unfolding at put
  at_put_same zero x l m = absurd (omega arith)
  at_put_same (suc k) x l m = get_or-set_same xs k x none (omega arith)

  pub at_put_other : (p q : ℕ) (x : A) → (q ≡ p → ⊥) → at none (put xs p x) q ≡ at none xs q
  unfolding at put
  at_put_other zero q x n = refl
  at_put_other (suc k) zero x n = refl
  at_put_other (suc k) (suc j) x n = get_or-set_other xs k j x none (λ e. n (rw e))

-- ---- the lowest place that passes

-- p is the lowest of 1 to n that passes, or 0 where none does
pub record Lowest (n : ℕ) (f : ℕ → Bool) (p : ℕ) : Type 0 where
  pub high : p ≤ n
  pub passes : 1 ≤ p → f p ≡ true
  pub below : (q : ℕ) → 1 ≤ q → q < p → f q ≡ false
  pub nowhere : p ≡ 0 → (q : ℕ) → 1 ≤ q → q ≤ n → f q ≡ false

-- the definition gives the lowest
next_lowest : (n : ℕ) (f : ℕ → Bool) (p : ℕ) → Lowest n f p → Lowest (suc n) f (cond (eqb p 0) (cond (f (suc n)) (suc n) 0) p)
next_lowest n f p l = elim (same_or_not p 0) [
  | inl z ↦ elim (either_or_not (f (suc n))) [
    | inl y ↦ rw (eq-eqb p 0 z, y) record {
      high = omega arith;
      passes = λ m. y;
      below = λ q a b. l.nowhere z q a (omega arith);
      nowhere = λ e. absurd (omega arith);
    }
    | inr y ↦ rw (eq-eqb p 0 z, y) record {
      high = omega arith;
      passes = λ m. absurd (omega arith);
      below = λ q a b. absurd (omega arith);
      nowhere = λ e q a b. elim (same_or_not q (suc n)) [ inl x ↦ rw x y | inr x ↦ l.nowhere z q a (omega arith) ];
    }
  ]
  | inr z ↦ rw (ne_eqb p 0 z) record {
    high = let h = l.high in omega arith;
    passes = l.passes;
    below = l.below;
    nowhere = λ e. absurd (z e);
  }
]

pub lowest_is : (n : ℕ) (f : ℕ → Bool) → Lowest n f (lowest n f)
unfolding lowest
lowest_is zero f = record { high = omega arith; passes = λ m. absurd (omega arith); below = λ q a b. absurd (omega arith); nowhere = λ e q a b. absurd (omega arith) }
lowest_is (suc n) f = next_lowest n f (lowest n f) (lowest_is n f)

-- and there is only one
pub lowest_one : (n : ℕ) (f : ℕ → Bool) (p : ℕ) → 1 ≤ p → p ≤ n → f p ≡ true → ((q : ℕ) → 1 ≤ q → q < p → f q ≡ false) → p ≡ lowest n f
lowest_one n f p a b y l =
    let m = lowest_is n f in
    elim (less_or_not p (lowest n f)) [
      | inl x ↦ not_both (f p) y (m.below p a x)
      | inr x ↦ elim (same_or_not (lowest n f) 0) [
        | inl z ↦ not_both (f p) y (m.nowhere z p a b)
        | inr z ↦ elim (less_or_not (lowest n f) p) [
          | inl w ↦ not_both (f (lowest n f)) (m.passes (omega arith)) (l (lowest n f) (omega arith) w)
          | inr w ↦ omega arith
        ]
      ]
    ]

pub lowest_none : (n : ℕ) (f : ℕ → Bool) → ((q : ℕ) → 1 ≤ q → q ≤ n → f q ≡ false) → 0 ≡ lowest n f
lowest_none n f l = let m = lowest_is n f in elim (same_or_not (lowest n f) 0) [
  | inl z ↦ sym z
  | inr z ↦ not_both (f (lowest n f)) (m.passes (omega arith)) (l (lowest n f) (omega arith) m.high)
]

-- ---- tests of a whole row, and of its first places, as the code makes them

module _ {A : Type 0} (p : A → Bool) (none : A) (xs : List A) where
  fits_row : (k : ℕ) → k ≤ length xs → list_all p (take k xs) ≡ every k (λ i. p (at none xs i))
  unfolding every at
  fits_row zero l = refl
  fits_row (suc k) l = rw add-one at (list_all_more p xs k none (omega arith)) ∙ ap (λ b. b && p (get_or xs k none)) (fits_row k (omega arith))

  pub every_row : (n : ℕ) → length xs ≡ n → list_all p xs ≡ every n (λ i. p (at none xs i))
  every_row n e = ap (list_all p) (sym (take_all n xs (omega arith))) ∙ fits_row n (omega arith)

  pub some_row : (k : ℕ) → k ≤ length xs → list_any p (take k xs) ≡ some k (λ i. p (at none xs i))
  unfolding some at
  some_row zero l = refl
  some_row (suc k) l = rw add-one at (list_any_more p xs k none (omega arith)) ∙ ap (λ b. b || p (get_or xs k none)) (some_row k (omega arith))

-- a fold that keeps what it has seen looks at all of them
pub seen_any : {A : Type 0} (p : A → Bool) (b : Bool) (xs : List A) → fold (λ seen x. seen || p x) b xs ≡ (b || list_any p xs)
seen_any p true [] = refl
seen_any p false [] = refl
seen_any p true (x ∷ xs) = seen_any p true xs
seen_any p false (x ∷ xs) = seen_any p (p x) xs

-- the first place of the row that passes is the lowest
module _ {A : Type 0} (p : A → Bool) (none : A) (xs : List A) where
  fails_below : (q : ℕ) → 1 ≤ q → q ≤ position_or_len p xs → p (at none xs q) ≡ false
  unfolding at
  fails_below zero a b = absurd (omega arith)
  fails_below (suc k) a b = fails_before_first p xs k none (omega arith)

  pub lowest_row : (n : ℕ) → length xs ≡ n → place_number (position p xs) ≡ lowest n (λ i. p (at none xs i))
  unfolding at
  lowest_row n e = elim (less_or_not (position_or_len p xs) (length xs)) [
    | inl l ↦ rw (lt-ltb _ _ l) (lowest_one n _ _ (omega arith) (omega arith) (passes_at_first p xs none l) (λ q a b. fails_below q a (omega arith)))
    | inr l ↦ rw (le-ltb _ _ l) (lowest_none n _ (λ q a b. fails_below q a (omega arith)))
  ]

-- ---- places beyond the row, rows of one thing, and what a put leaves alike

pub at_beyond : {A : Type 0} (none : A) (xs : List A) (p : ℕ) → length xs < p → at none xs p ≡ none
unfolding at
at_beyond none xs zero l = refl
at_beyond none xs (suc k) l = get_or-eq_default xs none (omega arith)

pub at_replicate : {A : Type 0} (n : ℕ) (x : A) (p : ℕ) → at x (replicate n x) p ≡ x
unfolding at
at_replicate n x zero = refl
at_replicate n x (suc k) = elim (less_or_not k n) [
  | inl l ↦ get_or-replicate n k x x l
  | inr l ↦ get_or-eq_default (replicate n x) x (omega (arith, length-replicate n x))
]

-- whether or not there is such a place, a put leaves a place as it was or is what stands there
pub put_either :
    {A : Type 0} (none : A) (xs : List A) (p q : ℕ) (x : A) →
    (at none (put xs p x) q ≡ at none xs q) ⊎ ((q ≡ p) × (at none (put xs p x) q ≡ x))
put_either none xs p q x = elim (same_or_not q p) [
  | inr n ↦ inl (at_put_other none xs p q x n)
  | inl s ↦ elim (same_or_not p 0) [
    | inl z ↦ inl (ap (λ row. at none row q) (put_nowhere xs p x z))
    | inr z ↦ elim (less_or_not (length xs) p) [
      | inl l ↦ inl (at_beyond none (put xs p x) q (omega (arith, length_put xs p x)) ∙ sym (at_beyond none xs q (omega arith)))
      | inr l ↦ inr (s, rw s (at_put_same none xs p x (omega arith) l))
    ]
  ]
]

-- so where f cannot tell what is put from what stood there, it tells no place from what it was
pub put_keeps :
    {A B : Type 0} (f : A → B) (none : A) (xs : List A) (p q : ℕ) (x : A) → f x ≡ f (at none xs p) → f (at none (put xs p x) q) ≡ f (at none xs q)
put_keeps f none xs p q x e = elim (put_either none xs p q x) [
  | inl k ↦ ap f k
  | inr k ↦ ap f k.1 ∙ e ∙ ap (λ r. f (at none xs r)) (sym k.0)
]

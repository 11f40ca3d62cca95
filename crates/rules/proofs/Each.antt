-- Laws of the tests over heads 1 to N, and of tests joined by "and" and "or".
use Rattle.std.proofs.Common.{◌≡◌, refl, sym, ◌∙◌, Bool, true, false, ◌&&◌, ◌||◌, ◌⊎◌, inl, inr, ℕ, zero, suc, ◌+◌, ◌-◌, ◌≤◌, ◌<◌, leb, List, [], ◌∷◌, length, get_or, add-one, arith}
use Rattle.std.specs.List.{list_all, enumerate_from}
use native.Mathlib.Decide.{ℕ_discrete, dec_lt}
use Rattle.std.proofs.Common.{leb-true, le-leb}
use Rattle.rules.specs.Each.{between, every, some}

-- ---- the two cases of a comparison

pub same_or_not : (j i : ℕ) → (j ≡ i) ⊎ (j ≡ i → ⊥)
same_or_not j i = elim (ℕ_discrete j i) [ yes e ↦ inl e | Prim.no n ↦ inr n ]

pub less_or_not : (j i : ℕ) → (j < i) ⊎ (i ≤ j)
less_or_not j i = elim (dec_lt j i) [ yes e ↦ inl e | Prim.no n ↦ inr (omega arith) ]

-- ---- tests joined by "and" and "or"

pub no_both : {A : Type 0} → true ≡ false → A
no_both e = let z : ◌≡◌ {A = ℕ} 0 1 = cc in absurd (omega arith)

pub and_true : (a b : Bool) → (a && b) ≡ true → (a ≡ true) × (b ≡ true)
and_true true b e = (refl, e)
and_true false b e = no_both (sym e)

pub both : {a b : Bool} → a ≡ true → b ≡ true → (a && b) ≡ true
both p q = rw (p, q)

pub either_or_not : (b : Bool) → (b ≡ true) ⊎ (b ≡ false)
either_or_not true = inl refl
either_or_not false = inr refl

pub not_both : (b : Bool) {A : Type 0} → b ≡ true → b ≡ false → A
not_both b p q = no_both (sym p ∙ q)

-- a test that cannot hold is false, and two tests that hold together are equal
pub no : {b : Bool} → (b ≡ true → ⊥) → false ≡ b
no {b} f = elim (either_or_not b) [ inl e ↦ absurd (f e) | inr e ↦ sym e ]

pub same_test : {a b : Bool} → (a ≡ true → b ≡ true) → (b ≡ true → a ≡ true) → a ≡ b
same_test {a} {b} f g = elim (either_or_not a) [ inl e ↦ e ∙ sym (f e) | inr e ↦ e ∙ no (λ q. not_both a (g q) e) ]

pub or_false : (a b : Bool) → (a || b) ≡ false → (a ≡ false) × (b ≡ false)
or_false true b e = no_both e
or_false false b e = (refl, e)

pub between_is : (a b x : ℕ) → between a b x ≡ true → (a ≤ x) × (x ≤ b)
between_is a b x e = let r = and_true (leb a x) (leb x b) e in (leb-true a x r.0, leb-true x b r.1)

pub is_between : (a b x : ℕ) → a ≤ x → x ≤ b → between a b x ≡ true
is_between a b x l m = both (le-leb a x l) (le-leb x b m)

-- ---- every and some, head by head

pub every_at : (n : ℕ) (f : ℕ → Bool) → every n f ≡ true → (i : ℕ) → 1 ≤ i → i ≤ n → f i ≡ true
unfolding every
every_at zero f e i a b = absurd (omega arith)
every_at (suc n) f e i a b = let r = and_true (every n f) (f (suc n)) e in elim (same_or_not i (suc n)) [ inl x ↦ rw x r.1 | inr x ↦ every_at n f r.0 i a (omega arith) ]

pub every_of : (n : ℕ) (f : ℕ → Bool) → ((i : ℕ) → 1 ≤ i → i ≤ n → f i ≡ true) → every n f ≡ true
unfolding every
every_of zero f g = refl
every_of (suc n) f g = both (every_of n f (λ i a b. g i a (omega arith))) (g (suc n) (omega arith) (omega arith))

-- one more place that passes, and a place that fails
pub every_more : (k : ℕ) (f : ℕ → Bool) → every k f ≡ true → f (suc k) ≡ true → every (k + 1) f ≡ true
unfolding every
every_more k f e g = rw (add-one, e, g)

pub every_done : (n k : ℕ) (f : ℕ → Bool) → every k f ≡ true → k ≤ n → n ≤ k → true ≡ every n f
every_done n k f e a b = let q : k ≡ n = omega arith in sym (rw q at e)

pub every_fails : (n : ℕ) (f : ℕ → Bool) (i : ℕ) → 1 ≤ i → i ≤ n → f i ≡ false → every n f ≡ false
every_fails n f i a b e = elim (either_or_not (every n f)) [ inl x ↦ not_both (f i) (every_at n f x i a b) e | inr x ↦ x ]

-- ---- a row of sixty-four places, tested in order, is every place tested by its number

module _ {A : Type 0} (f : ℕ → A → Bool) (z : A) where
  all_at : (m : ℕ) (xs : List A) → list_all (λ p. f p.0 p.1) (enumerate_from m xs) ≡ true → (k : ℕ) → k < length xs → f (m + k) (get_or xs k z) ≡ true
  all_at m [] e k l = absurd (omega arith)
  all_at m (x ∷ xs) e zero l = let q : m + 0 ≡ m = omega arith in rw q (and_true (f m x) _ e).0
  all_at m (x ∷ xs) e (suc k) l = let q : m + suc k ≡ m + 1 + k = omega arith in rw q (all_at (m + 1) xs (and_true (f m x) _ e).1 k (omega arith))

  all_of : (m : ℕ) (xs : List A) → ((k : ℕ) → k < length xs → f (m + k) (get_or xs k z) ≡ true) → list_all (λ p. f p.0 p.1) (enumerate_from m xs) ≡ true
  all_of m [] g = refl
  all_of m (x ∷ xs) g =
      let q : m + 0 ≡ m = omega arith in
      let first : f (m + 0) x ≡ true = g 0 (omega arith) in
      both (rw q at first) (all_of (m + 1) xs (λ k l.
      let r : m + suc k ≡ m + 1 + k = omega arith in
      let next : f (m + suc k) (get_or xs k z) ≡ true = g (suc k) (omega arith) in
      rw r at next))

  pub all_every : (n : ℕ) (xs : List A) (g : ℕ → Bool) → length xs ≡ n → ((k : ℕ) → k < n → f k (get_or xs k z) ≡ g (suc k)) → list_all (λ p. f p.0 p.1) (enumerate_from 0 xs) ≡ every n g
  all_every n xs g l h = same_test
      (λ e. every_of n g (λ i a b.
      let q : suc (i - 1) ≡ i = omega arith in
      let p : 0 + (i - 1) ≡ i - 1 = omega arith in
      let here : f (0 + (i - 1)) (get_or xs (i - 1) z) ≡ true = all_at 0 xs e (i - 1) (omega arith) in
      let r : g (suc (i - 1)) ≡ true = sym (h (i - 1) (omega arith)) ∙ (rw p at here) in
      rw q at r))
      (λ e. all_of 0 xs (λ k b. let p : 0 + k ≡ k = omega arith in rw p (h k (omega arith) ∙ every_at n g e (suc k) (omega arith) (omega arith))))

pub some_at : (n : ℕ) (f : ℕ → Bool) → some n f ≡ false → (i : ℕ) → 1 ≤ i → i ≤ n → f i ≡ false
unfolding some
some_at zero f e i a b = absurd (omega arith)
some_at (suc n) f e i a b = let r = or_false (some n f) (f (suc n)) e in elim (same_or_not i (suc n)) [ inl x ↦ rw x r.1 | inr x ↦ some_at n f r.0 i a (omega arith) ]

pub some_of : (n : ℕ) (f : ℕ → Bool) → ((i : ℕ) → 1 ≤ i → i ≤ n → f i ≡ false) → some n f ≡ false
unfolding some
some_of zero f g = refl
some_of (suc n) f g = rw (some_of n f (λ i a b. g i a (omega arith)), g (suc n) (omega arith) (omega arith))

or_no : (a b : Bool) → b ≡ false → (a || b) ≡ a
or_no true b q = refl
or_no false b q = q

pub some_is : (n : ℕ) (f : ℕ → Bool) → some n f ≡ true → (i : ℕ) × ((1 ≤ i) × (i ≤ n) × (f i ≡ true))
unfolding some
some_is zero f e = no_both (sym e)
some_is (suc n) f e = elim (either_or_not (f (suc n))) [
  | inl x ↦ (suc n, (omega arith, omega arith, x))
  | inr x ↦ let r = some_is n f (sym (or_no (some n f) (f (suc n)) x) ∙ e) in let m = r.1.1 in (r.0, (r.1.0, omega arith, r.1.2))
]

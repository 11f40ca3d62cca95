-- Laws of a number's decimal text.
use Rattle.std.proofs.Common.{◌≡◌, refl, sym, inl, inr, List, [], ◌∷◌, ◌++◌, ℕ, zero, suc, ◌+◌, ◌*◌, ◌/◌, ◌^◌, ◌≤◌, ◌<◌, arith, length, length-append, lt-ltb, le-ltb, Option, None, Some, unwrap_or, IfNone, IfSome}
use Rattle.rules.proofs.Each.{less_or_not}
use Rattle.lines.specs.Decimal.{digit, decimal_in, decimal}

-- turns past the number itself make no difference
turns : (f g n : ℕ) → n < f → n < g → decimal_in f n ≡ decimal_in g n
unfolding decimal_in
turns zero g n a b = absurd (omega arith)
turns (suc f) zero n a b = absurd (omega arith)
turns (suc f) (suc g) n a b = elim (less_or_not n 10) [
  | inl l ↦ rw (lt-ltb n 10 l)
  | inr l ↦ rw (le-ltb n 10 l, turns f g (n / 10) (omega arith) (omega arith))
]

pub decimal_few : (n : ℕ) → n ≤ 9 → decimal n ≡ digit n ∷ []
unfolding decimal decimal_in
decimal_few n h = rw (lt-ltb n 10 (omega arith))

pub decimal_more : (n : ℕ) → 9 < n → decimal n ≡ decimal (n / 10) ++ (digit n ∷ [])
unfolding decimal decimal_in
decimal_more n h = rw (le-ltb n 10 h, turns n (suc (n / 10)) (n / 10) (omega arith) (omega arith))

-- how many digits
pub few_long : (n : ℕ) → n ≤ 9 → length (decimal n) ≡ 1
few_long n h = rw (decimal_few n h)

pub more_long : (n : ℕ) → 9 < n → length (decimal n) ≡ length (decimal (n / 10)) + 1
more_long n h = rw (decimal_more n h) (length-append (decimal (n / 10)) (digit n ∷ []))

-- a number from one power of ten to below the next has one digit more than the power
power_long : (k n : ℕ) → 10 ^ k ≤ n → n < 10 * 10 ^ k → length (decimal n) ≡ k + 1
power_long zero n a b = few_long n (omega arith)
power_long (suc k) n a b = omega (arith, more_long n (omega arith), power_long k (n / 10) (omega arith) (omega arith))

-- and 0, which is from no power on, has one
pub width_is : (n : ℕ) (power : Option ℕ) → IfNone power (n ≡ 0) → IfSome power (λ k. 10 ^ k ≤ n) → IfSome power (λ k. n < 10 * 10 ^ k) → IfSome power (λ k. k < 10)
    → (unwrap_or power 0 + 1 ≡ length (decimal n)) × (unwrap_or power 0 + 1 ≤ 10)
width_is n None z a b c = (omega (arith, few_long n (omega arith)), omega arith)
width_is n (Some k) z a b c = (sym (power_long k n a b), omega arith)

-- so many digits from the end of a number
unfoldable pub last_digits : ℕ → ℕ → List ℕ
last_digits zero n = []
last_digits (suc k) n = last_digits k (n / 10) ++ (digit n ∷ [])

pub last_long : (k n : ℕ) → length (last_digits k n) ≡ k
unfolding last_digits
last_long zero n = refl
last_long (suc k) n = omega (arith, length-append (last_digits k (n / 10)) (digit n ∷ []), last_long k (n / 10))

all_in : (f n : ℕ) → n < f → last_digits (length (decimal n)) n ≡ decimal n
unfolding last_digits
all_in zero n h = absurd (omega arith)
all_in (suc f) n h = elim (less_or_not 9 n) [
  | inl g ↦
      let e : length (decimal n) ≡ suc (length (decimal (n / 10))) = omega (arith, more_long n g) in
      rw (e, all_in f (n / 10) (omega arith)) (sym (decimal_more n g))
  | inr g ↦ rw (few_long n g) (sym (decimal_few n g))
]

-- all of them are the number's text
pub last_all : (n : ℕ) → last_digits (length (decimal n)) n ≡ decimal n
last_all n = all_in (suc n) n (omega arith)

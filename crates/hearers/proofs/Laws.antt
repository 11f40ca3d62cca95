-- What the rules need to know of sets of heads. Everything above this crate cites these laws and never looks at bits.
use Rattle.std.proofs.Common.{◌≡◌, refl, false, eqb, ◌∙◌, ℕ, zero, suc, ◌+◌, ◌-◌, ◌*◌, ◌/◌, ◌%◌, ◌^◌, ◌≤◌, ◌<◌, bit_and, arith, pow-suc}
use Rattle.std.proofs.lemmas.Nat.{one_shl, and_le_l, and_comm, and-not, pow_below}
use Rattle.std.proofs.lemmas.Nat.Bits.{shr_and_one, and_pow, ones_shr, bit_at_lowest, bit_at-suc, bit_at-zero, bit_at_ones, bit_at_above}
use Rattle.std.proofs.Math.Decide.{ℕ_discrete}
use borrow.Author.Tests.{eqb-false}
use Rattle.hearers.specs.Set.{has, alone, without, everyone}

-- ---- the definitions as the code reaches them, by i - 1

pub has_bit : (h i : ℕ) → 1 ≤ i → bit_and (h / 2 ^ (i - 1)) 1 ≡ has h i
unfolding has
has_bit h zero l = absurd (omega arith)
has_bit h (suc k) l = let e : suc k - 1 ≡ k = omega arith in rw e (shr_and_one h k)

pub alone_shifted : (i : ℕ) → 1 ≤ i → i ≤ 64 → (1 * 2 ^ (i - 1)) % 2 ^ 64 ≡ alone i
unfolding alone
alone_shifted zero l m = absurd (omega arith)
alone_shifted (suc k) l m = let e : suc k - 1 ≡ k = omega arith in rw e (one_shl k 64 (omega arith))

pub without_cleared : (h i : ℕ) → 1 ≤ i → i ≤ 64 → h < 2 ^ 64 → bit_and h (2 ^ 64 - 1 - alone i) ≡ without h i
unfolding has alone without
without_cleared h zero l m n = absurd (omega arith)
without_cleared h (suc k) l m n = rw and_comm (omega (arith, and-not 64 (2 ^ k) h (pow_below k 64 (omega arith)) n, and_comm (2 ^ k) h, and_pow h k))

pub everyone_shifted : (n : ℕ) → n ≤ 64 → 18446744073709551615 / 2 ^ (64 - n) ≡ everyone n
everyone_shifted n h = let e : 64 - (64 - n) ≡ n = omega arith in rw e at (ones_shr 64 (64 - n) (omega arith))

-- a head that is not in the set is not taken out
pub without_out : (h i : ℕ) → eqb (has h i) 1 ≡ false → h ≡ without h i
unfolding has without
without_out h zero e = omega arith
without_out h (suc k) e = let z : h / 2 ^ k % 2 ≡ 0 = (let q = eqb-false (h / 2 ^ k % 2) 1 e in omega (arith, q)) in rw z (omega arith)

pub ruleset as_reached = (has_bit, alone_shifted, without_cleared, everyone_shifted, without_out)

-- ---- head by head, through the halves of the number

-- head k + 2 of h is head k + 1 of its half
has_half : (h k : ℕ) → has h (suc (suc k)) ≡ has (h / 2) (suc k)
unfolding has
has_half h k = bit_at-suc h k

has_lowest : (h : ℕ) → has h 1 ≡ h % 2
unfolding has
has_lowest h = bit_at_lowest h

-- what head i stands for is in the number
pub alone_le : (h i : ℕ) → has h i * alone i ≤ h
unfolding has alone
alone_le h zero = omega arith
alone_le h (suc k) = rw (← and_pow h k) (and_le_l h (2 ^ k))

without_lowest : (h : ℕ) → without h 1 ≡ h / 2 * 2
unfolding without has alone
without_lowest h = omega arith

without_half : (h k : ℕ) → without h (suc (suc k)) ≡ without (h / 2) (suc k) * 2 + h % 2
unfolding without alone
without_half h k = grind (arith, has_half h k, pow-suc 2 k, alone_le (h / 2) (suc k))

-- a number whose half is q and whose lowest bit is b
has_over : (q b k : ℕ) → b < 2 → has (q * 2 + b) (suc (suc k)) ≡ has q (suc k)
has_over q b k h = grind (arith, has_half (q * 2 + b) k)

-- ---- the laws

pub has_low : (h i : ℕ) → has h i ≤ 1
unfolding has
has_low h zero = omega arith
has_low h (suc k) = omega arith

-- head 0 is in no set
pub has_head : (h i : ℕ) → has h i ≡ 1 → 1 ≤ i
unfolding has
has_head h zero e = absurd (omega arith)
has_head h (suc k) e = omega arith

pub has_none : (i : ℕ) → has 0 i ≡ 0
unfolding has
has_none zero = refl
has_none (suc k) = bit_at-zero k

-- a set that is not empty has a member
pub has_some : (h : ℕ) → (h ≡ 0 → ⊥) → (i : ℕ) × (has h i ≡ 1)
has_some h n = go h h (omega arith) (omega arith)
  where
    go : (f h : ℕ) → h ≤ f → 1 ≤ h → (i : ℕ) × (has h i ≡ 1)
    go zero h a b = absurd (omega arith)
    go (suc f) h a b = elim (ℕ_discrete (h % 2) 1) [
      | yes e ↦ (1, has_lowest h ∙ e)
      | no e ↦ let r = go f (h / 2) (omega arith) (omega arith) in shifted r.0 r.1
    ]
      where
        shifted : (i : ℕ) → has (h / 2) i ≡ 1 → (j : ℕ) × (has h j ≡ 1)
        shifted zero e = let l = has_head (h / 2) 0 e in absurd (omega arith)
        shifted (suc k) e = (suc (suc k), has_half h k ∙ e)

-- taking head i out leaves the others as they are
pub without_same : (h i : ℕ) → has (without h i) i ≡ 0
unfolding has
without_same h zero = refl
without_same h (suc zero) = grind (arith, has_lowest (without h 1), without_lowest h)
without_same h (suc (suc k)) = grind (arith, without_half h k, has_over (without (h / 2) (suc k)) (h % 2) k, without_same (h / 2) (suc k))

pub without_other : (h i j : ℕ) → (j ≡ i → ⊥) → has (without h i) j ≡ has h j
unfolding has without alone
without_other h i zero n = refl
without_other h zero (suc j) n = let e : h - 0 * 0 ≡ h = omega arith in rw e
without_other h (suc zero) (suc zero) n = absurd (n refl)
without_other h (suc zero) (suc (suc j)) n = grind (arith, without_lowest h, has_half (h / 2 * 2) j, has_half h j)
without_other h (suc (suc k)) (suc zero) n = grind (arith, without_half h k)
without_other h (suc (suc k)) (suc (suc j)) n = grind (arith, without_half h k, has_over (without (h / 2) (suc k)) (h % 2) j, has_half h j, without_other (h / 2) (suc k) (suc j))

-- who is in the set of heads 1 to n
pub everyone_in : (n j : ℕ) → 1 ≤ j → j ≤ n → has (everyone n) j ≡ 1
unfolding has
everyone_in n zero a b = absurd (omega arith)
everyone_in n (suc j) a b = bit_at_ones n j (omega arith)

-- a number below 2 ^ n holds no head above n, and a number that holds none is below 2 ^ n
pub has_above : (h n j : ℕ) → h < 2 ^ n → n < j → has h j ≡ 0
unfolding has
has_above h n zero l m = refl
has_above h n (suc k) l m = bit_at_above h n k l (omega arith)

pub none_above : (n h : ℕ) → ((j : ℕ) → has h j ≡ 1 → j ≤ n) → h < 2 ^ n
none_above zero h f = elim (ℕ_discrete h 0) [
  | yes e ↦ omega arith
  | no e ↦ let r = has_some h e in let l = f r.0 r.1 in let m = has_head h r.0 r.1 in absurd (omega arith)
]
none_above (suc n) h f = omega (arith, pow-suc 2 n, none_above n (h / 2) half)
  where
    half : (j : ℕ) → has (h / 2) j ≡ 1 → j ≤ n
    half zero e = omega arith
    half (suc j) e = let l = f (suc (suc j)) (has_half h j ∙ e) in omega arith

-- a set only gets smaller
pub without_le : (h i : ℕ) → without h i ≤ h
unfolding without
without_le h i = omega arith

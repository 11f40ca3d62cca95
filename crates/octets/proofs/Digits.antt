-- Numbers in bytes, at every width: what one turn of the code's two loops does.
use Rattle.std.proofs.Common.{◌≡◌, refl, List, [], ◌∷◌, ℕ, zero, suc, ◌+◌, ◌-◌, ◌*◌, ◌/◌, ◌%◌, ◌^◌, ◌≤◌, ◌<◌, ◌++◌, length, get_or, take, drop, set, reverse, fold, drop-cons, arith, lt_of_lt_of_le, add-one}
use Rattle.std.proofs.lemmas.List.Edits.{sets-eq}
use Rattle.std.proofs.lemmas.Grind.{common_steps, reverse_onto}
use Rattle.std.proofs.lemmas.List.Sums.{fold-append}
use Rattle.std.proofs.Math.Nat.{pow-le-pow_right}
use Rattle.octets.specs.Bytes.{bytes_of, number_at, Bytes}
use Rattle.octets.specs.Room.{stored}
use Rattle.octets.proofs.Rows.{length_bytes, stored_sets, stored_front}

-- ---- reading, from the last byte to the first

-- a number of some bytes is below the next power
pub number_small : (l : List ℕ) → Bytes l → (k width : ℕ) → number_at l k width < 256 ^ width
unfolding number_at
number_small l bytes k zero = omega arith
number_small l bytes k (suc width) = omega (arith, bytes k, number_small l bytes (suc k) width)

-- a byte put behind the number of those read
abbrev behind : ℕ → ℕ → ℕ
behind x b = (x * 256 % 2 ^ 64 + b) % 2 ^ 64

-- a number of at most seven bytes leaves room for one more
behind_seven : (x b width : ℕ) → width < 8 → x < 256 ^ width → b < 256 → behind x b ≡ b + 256 * x
behind_seven x b width h e f =
    let seven : x < 256 ^ 7 = lt_of_lt_of_le e (pow-le-pow_right {n = 256} (omega arith) {i = width} {j = 7} (omega arith)) in
    let whole : x * 256 % 2 ^ 64 ≡ x * 256 = omega (arith, seven) in
    rw whole (omega (arith, seven, f))

pub number_folded : (l : List ℕ) → Bytes l → (k width : ℕ) → k + width ≤ length l → width ≤ 8 → fold behind 0 (reverse (take width (drop k l))) ≡ number_at l k width
unfolding number_at
number_folded l bytes k zero h m = refl
number_folded l bytes k (suc width) h m =
    let b = get_or l k 0 in
    let rest = take width (drop (suc k) l) in
    rw (drop-cons l k 0 (omega arith), reverse_onto rest b [], fold-append behind 0 (reverse rest) (b ∷ []), number_folded l bytes (suc k) width (omega arith) (omega arith))
    (behind_seven (number_at l (suc k) width) b width (omega arith) (number_small l bytes (suc k) width) (bytes k))

-- ---- writing, from the first byte to the last

pub store_more : (l v : List ℕ) (i width y : ℕ) → i < width → stored l i (bytes_of (width - i) y) ≡ v
    → stored (set l i (y % 256)) (i + 1) (bytes_of (width - (i + 1)) (y / 256)) ≡ v
unfolding stored bytes_of
store_more l v i width y h e =
    let p : width - i ≡ suc (width - suc i) = omega arith in
    rw add-one (rw p at e)

-- a part that has as many places as there are bytes becomes those bytes
pub store_part : (part v : List ℕ) → length part ≡ length v → stored part 0 v ≡ v
store_part part v e = grind (arith, common_steps, stored_front part v)

pub store_none : (part : List ℕ) (width x : ℕ) → length part ≡ width → stored part 0 (bytes_of (width - 0) x) ≡ bytes_of width x
store_none part width x e = let p : width - 0 ≡ width = omega arith in rw p (store_part part (bytes_of width x) (omega (arith, length_bytes width x)))

pub store_all : (part v : List ℕ) (i width y : ℕ) → width ≤ i → stored part i (bytes_of (width - i) y) ≡ v → part ≡ v
unfolding stored bytes_of
store_all part v i width y h e = grind (arith, common_steps)

-- the room, with the part back in its place
pub store_back : (l part v : List ℕ) (at n : ℕ) → at + n ≤ length l → length v ≡ n → part ≡ v → take at l ++ (part ++ drop n (drop at l)) ≡ stored l at v
store_back l part v at n h w e = grind (arith, common_steps, sets-eq v l at, stored_sets l at v)

-- Laws of bytes put over a room.
use Rattle.std.proofs.Common.{◌≡◌, sym, ap, ◌∙◌, List, [], ◌∷◌, ◌++◌, append_assoc, append-nil, ℕ, suc, ◌+◌, ◌-◌, ◌/◌, ◌≤◌, ◌<◌, arith, length, set, take, drop, take-append-drop, length-append, length-set, take_at, drop-drop, length-take-le, drop-set-lt, drop-cons, get_or-set_same}
use Rattle.std.proofs.Math.Seq.{drop-append-add}
use Rattle.std.proofs.lemmas.List.{take-set-le}
use Rattle.lines.specs.Decimal.{digit, decimal}
use Rattle.lines.specs.Room.{over}
use borrow.Rule.Slice.PartMut.{put_mid}
use Rattle.lines.proofs.Numbers.{last_digits, last_long, last_all}

-- no bytes
pub over_none : (l : List ℕ) (k : ℕ) → over l k [] ≡ l
unfolding over
over_none l k = let e : k + 0 ≡ k = omega arith in rw (e, append-nil (take k l)) (take-append-drop k l)

-- a part of the room written as one
pub part_over : (l : List ℕ) (k : ℕ) (v : List ℕ) (n : ℕ) → n ≡ length v → put_mid k n l v ≡ over l k v
unfolding over
part_over l k v n e = rw e (ap (λ (r : List ℕ). take k l ++ (v ++ r)) (drop-drop (length v) k l) ∙ sym (append_assoc (take k l) v (drop (k + length v) l)))

-- bytes, and more bytes right after them
pub over_next : (l : List ℕ) (k : ℕ) (a b : List ℕ) (j : ℕ) → j ≡ k + length a → j + length b ≤ length l → over (over l k a) j b ≡ over l k (a ++ b)
unfolding over
over_next l k a b j e h =
    let p = take k l in
    let d = drop (k + length a) l in
    let t : length p ≡ k = length-take-le k l (omega arith) in
    let n : length (p ++ a) ≡ j = length-append p a ∙ omega arith in
    let x : take j ((p ++ a) ++ d) ≡ p ++ a = take_at (p ++ a) d j n in
    let y : drop (j + length b) ((p ++ a) ++ d) ≡ drop (length b) d = ap (λ (m : ℕ). drop (m + length b) ((p ++ a) ++ d)) (sym n) ∙ drop-append-add (p ++ a) d (length b) in
    let q : k + length a + length b ≡ k + (length a + length b) = omega arith in
    let z : drop (length b) d ≡ drop (k + length (a ++ b)) l = drop-drop (length b) (k + length a) l ∙ ap (λ (m : ℕ). drop m l) (q ∙ ap (λ (m : ℕ). k + m) (sym (length-append a b))) in
    rw (x, y, z) (simp append_assoc)

-- one byte, and then the bytes right before it
pub over_before : (l : List ℕ) (k : ℕ) (a : List ℕ) (d j : ℕ) → j ≡ k + length a → j < length l → over (set l j d) k a ≡ over l k (a ++ (d ∷ []))
unfolding over
over_before l k a d j e h =
    let x : take k (set l j d) ≡ take k l = take-set-le k l j d (omega arith) in
    let g : j < length (set l j d) = rw length-set h in
    let y : drop (k + length a) (set l j d) ≡ d ∷ drop (suc j) l = rw (← e, drop-cons (set l j d) j 0 g, get_or-set_same l j d 0 h, drop-set-lt (suc j) l j d (omega arith)) in
    let q : k + length (a ++ (d ∷ [])) ≡ suc j = ap (λ (m : ℕ). k + m) (length-append a (d ∷ [])) ∙ omega arith in
    rw (x, y, q) (simp append_assoc)

-- ---- a number's digits, put from the last to the first

pub digit_back : (l : List ℕ) (at i n : ℕ) → at < i → i ≤ length l → over (set l (i - 1) (digit n)) at (last_digits (i - 1 - at) (n / 10)) ≡ over l at (last_digits (i - at) n)
unfolding last_digits
digit_back l at i n h b =
    let e : i - at ≡ suc (i - 1 - at) = omega arith in
    rw e (over_before l at (last_digits (i - 1 - at) (n / 10)) (digit n) (i - 1) (omega (arith, last_long (i - 1 - at) (n / 10))) (omega arith))

-- the first of them is the whole number, and after the last none is left
pub digits_all : (l : List ℕ) (at k n : ℕ) → k ≡ at + length (decimal n) → over l at (last_digits (k - at) n) ≡ over l at (decimal n)
digits_all l at k n e = let f : k - at ≡ length (decimal n) = omega arith in rw (f, last_all n)

pub digits_none : (l : List ℕ) (at k n : ℕ) → k ≤ at → over l at (last_digits (k - at) n) ≡ l
unfolding last_digits
digits_none l at k n h = let f : k - at ≡ 0 = omega arith in rw f (over_none l at)

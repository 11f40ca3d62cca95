-- The code's own words for two definitions: the least of the first timeouts as a fold, and the frame that a timer sends as an Option.
use Rattle.std.proofs.Common.{◌≡◌, refl, sym, ℕ, zero, suc, ◌+◌, ◌-◌, ◌≤◌, ◌<◌, min, List, [], ◌∷◌, length, get_or, take, drop, fold, slice_range, arith, length-drop, take-suc}
use Rattle.std.proofs.lemmas.Grind.{get_or_after_one}
use Rattle.std.proofs.lemmas.List.Sums.{fold-append}
use Rattle.rules.specs.declared.Calendar.{Calendar}
use Rattle.rules.specs.declared.Table.{Table}
use Rattle.rules.specs.Step.{sends}
use Rattle.rules.proofs.Moves.{sends_some}
use Rattle.steps.specs.Parts.{least, frame_of, sent}

least_of : (es : List ℕ) (k : ℕ) → k < length es → fold (λ a e. min a e) (get_or es 0 0) (take k (drop 1 es)) ≡ least es (suc k)
unfolding least
least_of es zero l = omega arith
least_of es (suc k) l =
    let q = take-suc (drop 1 es) k 0 (let d = length-drop 1 es in omega arith) in
    rw (q, fold-append (λ a e. min a e) (get_or es 0 0) (take k (drop 1 es)) (get_or (drop 1 es) k 0 ∷ []), least_of es k (omega arith), get_or_after_one es k 0) (let p : 1 + k ≡ suc k = omega arith in rw p refl)

pub least_fold : (es : List ℕ) (n : ℕ) → 1 ≤ n → n ≤ length es → fold (λ a e. min a e) (get_or es 0 0) (slice_range es 1 n) ≡ least es n
least_fold es zero l m = absurd (omega arith)
least_fold es (suc n) l m = let q : suc n - 1 ≡ n = omega arith in rw q (least_of es n (omega arith))

pub sent_frame : (t : Table) (clock kind i : ℕ) (c : Calendar) → sent t clock (frame_of kind) i c ≡ sends t clock kind i c
unfolding sent frame_of sends
sent_frame t clock zero i c = refl
sent_frame t clock (suc kind) i c = sym (sends_some t clock (suc kind) i c (omega arith))

-- The pieces of a listing, in the code's own terms: what the returns and the loop of a function cite.
use Rattle.std.proofs.Common.{◌≡◌, refl, sym, ap, ◌∙◌, true, false, ◌⊎◌, inl, inr, ⊎_elim, List, [], ◌∷◌, ◌++◌, append_assoc, ℕ, suc, ◌+◌, ◌-◌, ◌≤◌, ◌<◌, add-one, arith, length, get_or, take, drop, length-append, length-drop, take_at, length-take-le, ne_eqb, le-leb, Option, None, Some, Result, Ok, Err, is_err}
use Rattle.std.proofs.lemmas.Bool.{lt-leb}
use Rattle.std.proofs.lemmas.Option.{none-some}
use Rattle.words.specs.declared.Step.{Step}
use Rattle.words.specs.declared.Refusal.{Refusal}
use Rattle.words.specs.declared.Refusal.TheVariants.{NoSuchStep}
use Rattle.words.specs.declared.answers.Refused.{Refused}
use Rattle.words.specs.Refusal.{number_of, verdict_number}
use Rattle.words.specs.Answer.{Answers, answer_number, answer_record}
use Rattle.words.specs.Pair.{step_of}
use Rattle.words.proofs.Order.{number_some}
use Rattle.rules.specs.declared.State.{State}
use Rattle.rules.specs.Judge.{refusal, judged}
use Rattle.rules.proofs.Each.{less_or_not, not_both}
use Rattle.lines.specs.Line.{step_line, end_line, longest_line}
use Rattle.lines.specs.Room.{over, written, bytes_put, room_after}
use Rattle.lines.proofs.Written.{Puts}
use Rattle.walk.specs.declared.Place.{Place}
use Rattle.walk.specs.Listing.{unless_refused, lines_from}
use Rattle.walk.specs.Pieces.{Stands, rest}

-- ---- a line put behind what is in the room, or not

module _ (l : List ℕ) (at : ℕ) (v : List ℕ) (m : List ℕ) where
  pub some_put : {r : ℕ} → Puts l at v (Some r) m → (at + r ≤ length l) × (take (at + r) m ≡ take at l ++ v)
  unfolding written room_after over
  some_put {r} w = elim (less_or_not (length l) (at + length v)) [
    | inl h ↦ absurd (none-some r (sym (rw (lt-leb _ _ h) at w.0)))
    | inr h ↦
        let e : r ≡ length v = ap bytes_put (rw (le-leb _ _ h) at w.0) in
        let f : m ≡ over l at v = rw (le-leb _ _ h) at w.1 in
        let k : length (take at l ++ v) ≡ at + r = length-append (take at l) v ∙ omega (arith, length-take-le at l (omega arith)) in
        (omega arith, ap (take (at + r)) f ∙ take_at (take at l ++ v) (drop (at + length v) l) (at + r) k)
  ]

  pub none_put : Puts l at v None m → (m ≡ l) × (length l < at + length v)
  unfolding written room_after
  none_put w = elim (less_or_not (length l) (at + length v)) [
    | inl h ↦ (rw (lt-leb _ _ h) at w.1, h)
    | inr h ↦ absurd (none-some _ (rw (le-leb _ _ h) at w.0))
  ]

-- ---- what is left at a place

module _ (p : Place) where
  pub rest_refused : is_err p.verdict ≡ true → rest p ≡ end_line p.accepted (verdict_number p.verdict)
  unfolding rest unless_refused
  rest_refused e = rw (ne_eqb _ _ (some p.verdict e))
    where
      some : {A : Type 0} (v : Result A Refusal) → is_err v ≡ true → verdict_number v ≡ 0 → ⊥
      some (Ok a) e z = not_both false e refl
      some (Err x) e z = omega (arith, number_some x)

  module _ (ok : verdict_number p.verdict ≡ 0) where
    pub rest_none : length p.pairs.now ≡ 0 → rest p ≡ end_line p.accepted 0
    unfolding rest unless_refused lines_from
    rest_none z = rw (ok, none p.pairs.now z)
      where
        none : (l : List ℕ) → length l ≡ 0 → l ≡ []
        none [] z = refl
        none (a ∷ l) z = absurd (omega arith)

    pub rest_lone : 0 < length p.pairs.now → length p.pairs.now < 2 → rest p ≡ end_line p.accepted (number_of NoSuchStep)
    unfolding rest unless_refused lines_from
    rest_lone g h = rw (ok, one p.pairs.now g h)
      where
        one : (l : List ℕ) → 0 < length l → length l < 2 → l ≡ get_or l 0 0 ∷ []
        one [] g h = absurd (omega arith)
        one (a ∷ []) g h = refl
        one (a ∷ b ∷ l) g h = absurd (omega arith)

    -- a step, and what judging it answers
    module _ (h : 2 ≤ length p.pairs.now) (x : Step) (named : x ≡ step_of (get_or p.pairs.now 0 0) (get_or p.pairs.now 1 0))
        (r : Result State (Refused State)) (answer : Answers r (refusal p.table p.state x) (judged p.table p.state x)) where
      rest_pair : rest p
          ≡ unless_refused p.accepted (answer_number r)
          (step_line (answer_record r) x ++ lines_from p.table (answer_record r) (p.accepted + 1) (drop 2 p.pairs.now))
      unfolding rest unless_refused lines_from
      rest_pair = rw (ok, two p.pairs.now h, answer.0, answer.1, named, add-one p.accepted)
        where
          two : (l : List ℕ) → 2 ≤ length l → l ≡ get_or l 0 0 ∷ get_or l 1 0 ∷ drop 2 l
          two [] h = absurd (omega arith)
          two (a ∷ []) h = absurd (omega arith)
          two (a ∷ b ∷ l) h = refl

      -- where it is refused the listing ends
      pub rest_stops : (why : Refused State) → r ≡ Err why → rest p ≡ end_line p.accepted (number_of why.why)
      unfolding unless_refused
      rest_stops why z =
          let n : number_of why.why ≡ 0 → ⊥ = λ (q : number_of why.why ≡ 0). omega (arith, q, number_some why.why) in
          rest_pair ∙ rw (z, ne_eqb _ _ n)

      -- otherwise its line stands before the rest from the place after it
      rest_goes : (u : State) → r ≡ Ok u → (q : Place) → q.table ≡ p.table → verdict_number q.verdict ≡ 0 → q.state ≡ u → q.accepted ≡ p.accepted + 1 → q.pairs.now ≡ drop 2 p.pairs.now
          → rest p ≡ step_line u x ++ rest q
      unfolding unless_refused rest
      rest_goes u z q t v s k f = rest_pair ∙ rw (z, t, v, s, k, f)

-- ---- a piece

-- the room's first bytes, so many, are the listing from a place on up to another; they are some once a pair is passed, none before
pub record Going (from p : Place) (used : ℕ) (room : List ℕ) : Type 0 where
  pub fits : used ≤ length room
  pub long : longest_line ≤ length room
  pub judged : verdict_number p.verdict ≡ 0
  pub stands : Stands p
  pub so_far : take used room ++ rest p ≡ rest from
  pub passed : (length p.pairs.now < length from.pairs.now) ⊎ ((length p.pairs.now ≡ length from.pairs.now) × (used ≡ 0))

-- a step's line is put, and the place after it comes next
pub goes_on : (from p : Place) (used : ℕ) (room : List ℕ) → Going from p used room → 2 ≤ length p.pairs.now
    → (x : Step) → x ≡ step_of (get_or p.pairs.now 0 0) (get_or p.pairs.now 1 0)
    → (a : Result State (Refused State)) → Answers a (refusal p.table p.state x) (judged p.table p.state x) → (u : State) → a ≡ Ok u
    → (r : ℕ) (m : List ℕ) → Puts room used (step_line u x) (Some r) m → length m ≡ length room
    → (q : Place) → q.table ≡ p.table → q.verdict ≡ p.verdict → q.state ≡ u → q.accepted ≡ p.accepted + 1 → q.pairs.now ≡ drop 2 p.pairs.now
    → Going from q (used + r) m
goes_on from p used room g two x named a answer u z r m w k q t v s n f =
    let b = some_put room used (step_line u x) m w in
    let ok : verdict_number q.verdict ≡ 0 = ap verdict_number v ∙ g.judged in
    let c = rest_goes p g.judged two x named a answer u z q t ok s n f in
    let d : length q.pairs.now ≡ length p.pairs.now - 2 = ap length f ∙ length-drop 2 p.pairs.now in
    record {
      fits = omega (arith, b.0, k);
      long = omega (arith, g.long, k);
      judged = ok;
      stands = omega (arith, g.stands, d, n);
      so_far = rw b.1 (append_assoc (take used room) (step_line u x) (rest q)) ∙ ap (λ (y : List ℕ). take used room ++ y) (sym c) ∙ g.so_far;
      passed = inl (⊎_elim (λ h. omega (arith, h, d)) (λ h. omega (arith, h.0, d)) g.passed);
    }

-- a step's line waits for the next piece, and so is not the first of this one
pub waits : (from p : Place) (used : ℕ) (room : List ℕ) → Going from p used room → (v m : List ℕ) → Puts room used v None m
    → (used ≤ length m) × (take used m ++ rest p ≡ rest from) × (Stands p × (length p.pairs.now < length from.pairs.now))
waits from p used room g v m w =
    let n = none_put room used v m w in
    rw n.0 (g.fits, g.so_far, (g.stands, ⊎_elim (λ h. h) (λ h. absurd (omega (arith, h.1, n.1, w.2, g.long))) g.passed))

-- how many pairs may follow a piece
abbrev pub left_pairs : Option Place → ℕ
left_pairs None = 0
left_pairs (Some p) = suc (length p.pairs.now)

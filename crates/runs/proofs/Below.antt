-- A step leaves nothing due at the heads below the one that moved: the search need not start at head 1 again.
use Rattle.std.proofs.Common.{◌≡◌, refl, sym, ap, ◌∙◌, Bool, true, false, ◌⊎◌, inl, inr, List, [], ◌∷◌, ◌++◌, ℕ, zero, suc, ◌≤◌, ◌<◌, arith, eqb}
use Rattle.words.specs.declared.Step.{Step}
use Rattle.words.specs.declared.Step.TheVariants.{Advance, Timer, Hear}
use Rattle.words.specs.Pair.{head_number}
use Rattle.rules.specs.declared.Calendar.{Calendar}
use Rattle.rules.specs.declared.Head.{Head}
use Rattle.rules.specs.declared.State.{State}
use Rattle.rules.specs.declared.Table.{Table}
use Rattle.rules.specs.Limits.{max_heads}
use Rattle.rules.specs.Calendar.{left, taken, hear_due}
use Rattle.rules.specs.Step.{timer_due, sends, timer, hear, moved}
use Rattle.rules.proofs.Each.{same_or_not, less_or_not, not_both, no}
use Rattle.rules.proofs.Meaning.{hear_due_is, is_hear_due, hearer_waits}
use Rattle.rules.proofs.Moves.{put_other, left_other, left_frame, taken_frame, send_quiet, send_waiting, sends_none, sends_some}
use Rattle.steps.specs.Parts.{place}
use Rattle.steps.proofs.Parts.{place_low, place_in, place_high}
use Rattle.runs.specs.Open.{only_if, open_at, open_to}

-- ---- a head at which nothing is due

if_none : (b : Bool) (x : Step) → only_if b x ≡ [] → b ≡ false
unfolding only_if
if_none true x e = absurd (let z : ◌≡◌ {A = ℕ} 0 1 = cc in omega arith)
if_none false x e = refl

append_none : (a b : List Step) → a ++ b ≡ [] → (a ≡ []) × (b ≡ [])
append_none [] b e = (refl, e)
append_none (x ∷ a) b e = absurd (let z : ◌≡◌ {A = ℕ} 0 1 = cc in omega arith)

at_none : (s : State) (i : ℕ) → open_at s i ≡ [] → (timer_due s i ≡ false) × (hear_due s.clock s.calendar i ≡ false)
unfolding open_at
at_none s i e = let w = append_none _ _ e in (if_none _ _ w.0, if_none _ _ w.1)

none_at : (s : State) (i : ℕ) → timer_due s i ≡ false → hear_due s.clock s.calendar i ≡ false → open_at s i ≡ []
unfolding open_at only_if
none_at s i a b = rw (a, b)

-- ---- nobody else hears sooner for it

left_later : (clock : ℕ) (c : Calendar) (i j : ℕ) → (j ≡ i → ⊥) → hear_due clock c j ≡ false → hear_due clock (left c i) j ≡ false
left_later clock c i j n e = sym (no (λ d.
    let w = hear_due_is clock (left c i) j d in
    let f = left_frame c i (hearer_waits (left c i) j w.0) in
    not_both (hear_due clock c j) (is_hear_due clock c j (sym (left_other c i j n) ∙ w.0) (sym (ap (λ (x : Calendar). x.delivery) f) ∙ w.1)) e))

taken_later : (t : Table) (clock k i j : ℕ) → 1 ≤ t.p → hear_due clock (taken t clock k i) j ≡ false
taken_later t clock k i j p = sym (no (λ d.
    let w = hear_due_is clock (taken t clock k i) j d in
    let f = ap (λ (x : Calendar). x.delivery) (taken_frame t clock k i (hearer_waits (taken t clock k i) j w.0)) in
    omega (arith, w.1)))

sends_later : (t : Table) (clock k i j : ℕ) (c : Calendar) → 1 ≤ t.p → (j ≡ i → ⊥) → hear_due clock c j ≡ false → hear_due clock (sends t clock k i c) j ≡ false
sends_later t clock zero i j c p n e = rw (sends_none t clock i c) e
sends_later t clock (suc k) i j c p n e = elim (same_or_not c.hearers 0) [
  | inl q ↦ rw (sends_some t clock (suc k) i c (omega arith), send_quiet t clock (suc k) i c q) (taken_later t clock (suc k) i j p)
  | inr q ↦ rw (sends_some t clock (suc k) i c (omega arith), send_waiting t clock (suc k) i c q) (left_later clock c i j n e)
]

-- ---- what is not due at another head is not due after the step

module _ (t : Table) (s : State) (i j : ℕ) (p : 1 ≤ t.p) (n : j ≡ i → ⊥) (e : open_at s j ≡ []) where
  timer_other : timer_due (timer t s i) j ≡ timer_due s j
  unfolding timer timer_due
  timer_other = ap (λ (h : Head). eqb h.timeout s.clock) (put_other s.heads i j _ n)

  after_timer : open_at (timer t s i) j ≡ []
  unfolding timer
  after_timer = let w = at_none s j e in none_at (timer t s i) j (timer_other ∙ w.0) (sends_later t s.clock _ i j s.calendar p n w.1)

  hear_other : timer_due (hear t s i) j ≡ timer_due s j
  unfolding hear timer_due
  hear_other = ap (λ (h : Head). eqb h.timeout s.clock) (put_other s.heads i j _ n)

  after_hear : open_at (hear t s i) j ≡ []
  unfolding hear
  after_hear = let w = at_none s j e in none_at (hear t s i) j (hear_other ∙ w.0) (left_later s.clock s.calendar i j n w.1)

module _ (t : Table) (s u : State) (i : ℕ) (each : (j : ℕ) → (j ≡ i → ⊥) → open_at s j ≡ [] → open_at u j ≡ []) where
  below : (k : ℕ) → k < i → open_to s k ≡ [] → open_to u k ≡ []
  unfolding open_to
  below zero l e = refl
  below (suc k) l e = let w = append_none (open_to s k) (open_at s (suc k)) e in rw (below k (omega arith) w.0, each (suc k) (λ z. omega arith) w.1)

  below_place : open_to s (place i) ≡ [] → open_to u (place i) ≡ []
  unfolding open_to
  below_place e = elim (either_place i) [
    | inl z ↦ rw z
    | inr z ↦ below (place i) z e
  ]
    where
      either_place : (i : ℕ) → (place i ≡ 0) ⊎ (place i < i)
      either_place i = elim (less_or_not i 1) [
        | inl l ↦ inl (sym (place_low i l))
        | inr l ↦ elim (less_or_not max_heads i) [
          | inl m ↦ inl (sym (place_high i m))
          | inr m ↦ inr (rw (place_in i l m) (omega arith))
        ]
      ]

pub nothing_below : (t : Table) (s : State) (x : Step) → 1 ≤ t.p → open_to s (place (head_number x)) ≡ [] → open_to (moved t s x) (place (head_number x)) ≡ []
unfolding moved open_to
nothing_below t s Advance p e = rw (← place_low 0 (omega arith))
nothing_below t s (Timer i) p e = below_place t s (timer t s i) i (λ j n q. after_timer t s i j p n q) e
nothing_below t s (Hear i) p e = below_place t s (hear t s i) i (λ j n q. after_hear t s i j p n q) e

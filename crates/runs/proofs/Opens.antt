-- The step list holds the steps that the judged step accepts, and no other; each once, and in its order.
use Rattle.std.proofs.Common.{◌≡◌, refl, sym, ap, subst, ◌∙◌, Bool, true, false, ◌&&◌, List, [], ◌∷◌, ◌++◌, ◌⊎◌, inl, inr, ℕ, zero, suc, ◌≤◌, ◌<◌, arith, eqb, leb, eqb-true, leb-true, eq-eqb, le-leb}
use mathlib.Core.List.Memᴰ
use mathlib.Core.List.{Memᴰ}
use borrow.Author.Tests.{lt-leb}
use Rattle.words.specs.declared.Step.{Step}
use Rattle.words.specs.declared.Step.TheVariants.{Advance, Timer, Hear}
use Rattle.words.specs.Pair.{head_number}
use Rattle.rules.specs.declared.State.{State}
use Rattle.rules.specs.declared.Table.{Table}
use Rattle.rules.specs.Limits.{ceiling}
use Rattle.rules.specs.Calendar.{hears}
use Rattle.rules.specs.Table.{table_fits}
use Rattle.rules.specs.State.{timeout_of, state_fits}
use Rattle.rules.specs.Step.{timer_due, due, next_instant}
use Rattle.rules.specs.Judge.{step_refusal}
use Rattle.rules.specs.Conditions.{TableMeets, Hears, StateMeets, Due, a_timer, a_delivery, Enabled}
use Rattle.rules.proofs.Each.{same_or_not, less_or_not, and_true, both, either_or_not, not_both}
use Rattle.rules.proofs.Meaning.{hears_is, is_hears, table_meets, state_meets}
use Rattle.rules.proofs.Moves.{next_least, due_is, is_due}
use Rattle.exact.proofs.Enabled.{next_low, enabled_is, is_enabled, accepted_exactly}
use Rattle.runs.specs.Claims.{ListedExactly, Before, InOrder, order_none, order_first, ListedInOrder, EachOnce, once_none, once_first, ListedOnce, SearchFirst}
use Rattle.rules.specs.Calendar.{hear_due}
use Rattle.runs.specs.Stepped.{moving_refusal}
use Rattle.runs.specs.Open.{only_if, open_at, open_to, open_steps, first_or, first_due}

-- ---- one head

-- a step is in the list of a test just where it is the step and the test holds
if_is : {x : Step} (b : Bool) (y : Step) → Memᴰ x (only_if b y) → (x ≡ y) × (b ≡ true)
unfolding only_if
if_is true y (Memᴰ.head e) = (e, refl)
if_is true y (Memᴰ.tail m) = absurd (Memᴰ.not-nil m)
if_is false y m = absurd (Memᴰ.not-nil m)

is_if : (b : Bool) (y : Step) → b ≡ true → Memᴰ y (only_if b y)
unfolding only_if
is_if b y e = rw e (Memᴰ.head refl)

module _ (s : State) (i : ℕ) where
  at_is : {x : Step} → Memᴰ x (open_at s i) → ((x ≡ Timer i) × (timeout_of s i ≡ s.clock)) ⊎ ((x ≡ Hear i) × Hears s.calendar i × (s.calendar.delivery ≡ s.clock))
  unfolding open_at timer_due hear_due
  at_is m = elim (Memᴰ.append_cases (only_if (eqb (timeout_of s i) s.clock) (Timer i)) m) [
    | inl a ↦ let r = if_is (eqb (timeout_of s i) s.clock) (Timer i) a in inl (r.0, eqb-true _ _ r.1)
    | inr a ↦ let r = if_is (hears s.calendar i && eqb s.calendar.delivery s.clock) (Hear i) a in
        let w = and_true (hears s.calendar i) _ r.1 in inr (r.0, hears_is s.calendar i w.0, eqb-true _ _ w.1)
  ]

  at_timer : timeout_of s i ≡ s.clock → Memᴰ (Timer i) (open_at s i)
  unfolding open_at timer_due
  at_timer e = Memᴰ.append_left _ (is_if (eqb (timeout_of s i) s.clock) (Timer i) (eq-eqb _ _ e))

  at_hear : Hears s.calendar i → s.calendar.delivery ≡ s.clock → Memᴰ (Hear i) (open_at s i)
  unfolding open_at hear_due
  at_hear h e = Memᴰ.append_right (only_if (timer_due s i) (Timer i)) (is_if (hears s.calendar i && eqb s.calendar.delivery s.clock) (Hear i) (both (is_hears s.calendar i h) (eq-eqb _ _ e)))

-- ---- heads 1 to k

to_is : {x : Step} (s : State) (k : ℕ) → Memᴰ x (open_to s k) → (i : ℕ) × ((1 ≤ i) × (i ≤ k) × Memᴰ x (open_at s i))
unfolding open_to
to_is s zero m = absurd (Memᴰ.not-nil m)
to_is s (suc k) m = elim (Memᴰ.append_cases (open_to s k) m) [
  | inl a ↦ let r = to_is s k a in let l = r.1.1 in (r.0, (r.1.0, omega arith, r.1.2))
  | inr a ↦ (suc k, (omega arith, omega arith, a))
]

is_to : {x : Step} (s : State) (k i : ℕ) → 1 ≤ i → i ≤ k → Memᴰ x (open_at s i) → Memᴰ x (open_to s k)
unfolding open_to
is_to s zero i a b m = absurd (omega arith)
is_to {x} s (suc k) i a b m = elim (same_or_not i (suc k)) [
  | inl e ↦ Memᴰ.append_right (open_to s k) (subst (λ (j : ℕ). Memᴰ x (open_at s j)) e m)
  | inr n ↦ Memᴰ.append_left (open_at s (suc k)) (is_to s k i a (omega arith) m)
]

-- ---- on a table and a state that fit

module _ (t : Table) (s : State) (f : TableMeets t) (m : StateMeets t s) where
  -- a step at a head is among those that are due just where it is enabled
  due_enabled : (x : Step) → Memᴰ x (open_to s t.n) → Enabled t s x
  unfolding Enabled
  due_enabled x a = let r = to_is s t.n a in elim (at_is s r.0 r.1.2) [
    | inl w ↦ rw w.0 (record { low = r.1.0; high = r.1.1 }, w.1)
    | inr w ↦ rw w.0 (w.1, w.2)
  ]

  enabled_due : (x : Step) → (x ≡ Advance → ⊥) → Enabled t s x → Memᴰ x (open_to s t.n)
  unfolding Enabled
  enabled_due Advance n e = absurd (n refl)
  enabled_due (Timer i) n e = is_to s t.n i e.0.low e.0.high (at_timer s i e.1)
  enabled_due (Hear i) n e = let h = m.few i e.0 in is_to s t.n i h.low h.high (at_hear s i e.0 e.1)

  -- one of them is there just where something is due
  due_some : {x : Step} → Memᴰ x (open_to s t.n) → due t s ≡ true
  due_some a = let r = to_is s t.n a in is_due t s (elim (at_is s r.0 r.1.2) [
    | inl w ↦ a_timer r.0 record { low = r.1.0; high = r.1.1 } w.1
    | inr w ↦ a_delivery r.0 w.1 w.2
  ])

  some_due : due t s ≡ true → (x : Step) × Memᴰ x (open_to s t.n)
  some_due e = go (due_is t s e)
    where
      go : Due t s → (x : Step) × Memᴰ x (open_to s t.n)
      go (a_timer i h q) = (Timer i, is_to s t.n i h.low h.high (at_timer s i q))
      go (a_delivery i h q) = let l = m.few i h in (Hear i, is_to s t.n i l.low l.high (at_hear s i h q))

  none_due : open_to s t.n ≡ [] → due t s ≡ false
  none_due e = elim (either_or_not (due t s)) [ inl d ↦ let r = some_due d in absurd (Memᴰ.not-nil (subst (Memᴰ r.0) e r.1)) | inr d ↦ d ]

  -- the list, by whether something is due
  when_due : due t s ≡ true → open_steps t s ≡ open_to s t.n
  unfolding open_steps
  when_due e = rw e

  when_calm : due t s ≡ false → open_steps t s ≡ only_if (leb (next_instant t s) ceiling) Advance
  unfolding open_steps
  when_calm e = rw e

  pub open_due : (x : Step) (rest : List Step) → open_to s t.n ≡ x ∷ rest → open_steps t s ≡ open_to s t.n
  open_due x rest e = when_due (due_some (subst (Memᴰ x) (sym e) (Memᴰ.head refl)))

  pub open_advance : open_to s t.n ≡ [] → step_refusal t s Advance ≡ 0 → open_steps t s ≡ only_if true Advance
  unfolding Enabled
  open_advance e a = when_calm (none_due e) ∙ ap (λ (b : Bool). only_if b Advance) (le-leb _ _ (next_low t s (enabled_is t s f m Advance a).1))

  pub open_none : open_to s t.n ≡ [] → (step_refusal t s Advance ≡ 0 → ⊥) → open_steps t s ≡ []
  unfolding only_if Enabled
  open_none e a = when_calm (none_due e) ∙ ap (λ (b : Bool). only_if b Advance) high
    where
      high : leb (next_instant t s) ceiling ≡ false
      high = elim (less_or_not ceiling (next_instant t s)) [
        | inl l ↦ lt-leb _ _ l
        | inr l ↦ absurd (a (is_enabled t s f m Advance (λ d. not_both (due t s) (is_due t s d) (none_due e), (next_instant t s, (next_least t s f.some_head, l)))))
      ]

  -- nothing is due: by the next instant
  pub open_high : open_to s t.n ≡ [] → ceiling < next_instant t s → open_steps t s ≡ []
  unfolding only_if
  open_high e l = when_calm (none_due e) ∙ ap (λ (b : Bool). only_if b Advance) (lt-leb _ _ l)

  pub open_low : open_to s t.n ≡ [] → next_instant t s ≤ ceiling → open_steps t s ≡ only_if true Advance
  open_low e l = when_calm (none_due e) ∙ ap (λ (b : Bool). only_if b Advance) (le-leb _ _ l)

  -- so a step is in it just where it is enabled
  open_enabled : (x : Step) → Memᴰ x (open_steps t s) → Enabled t s x
  unfolding Enabled
  open_enabled x a = elim (either_or_not (due t s)) [
    | inl d ↦ due_enabled x (subst (Memᴰ x) (when_due d) a)
    | inr d ↦ let r = if_is (leb (next_instant t s) ceiling) Advance (subst (Memᴰ x) (when_calm d) a) in
        rw r.0 (λ w. not_both (due t s) (is_due t s w) d, (next_instant t s, (next_least t s f.some_head, leb-true _ _ r.1)))
  ]

  enabled_open : (x : Step) → Enabled t s x → Memᴰ x (open_steps t s)
  unfolding Enabled
  enabled_open Advance e = subst (Memᴰ Advance) (sym (when_calm calm)) (is_if (leb (next_instant t s) ceiling) Advance (le-leb _ _ (next_low t s e.1)))
    where
      calm : due t s ≡ false
      calm = elim (either_or_not (due t s)) [ inl d ↦ absurd (e.0 (due_is t s d)) | inr d ↦ d ]
  enabled_open (Timer i) e = let a = enabled_due (Timer i) (λ q. let z : ◌≡◌ {A = ℕ} 0 1 = cc in omega arith) e in subst (Memᴰ (Timer i)) (sym (when_due (due_some a))) a
  enabled_open (Hear i) e = let a = enabled_due (Hear i) (λ q. let z : ◌≡◌ {A = ℕ} 0 1 = cc in omega arith) e in subst (Memᴰ (Hear i)) (sym (when_due (due_some a))) a

  -- and so just where no number refuses it
  pub open_accepted : (x : Step) → Memᴰ x (open_steps t s) → step_refusal t s x ≡ 0
  open_accepted x a = is_enabled t s f m x (open_enabled x a)

pub listed_exactly : ListedExactly
listed_exactly t s x p q =
    let f = table_meets t p in
    let m = state_meets t s f.heads q in
    (λ a. (accepted_exactly t s x).1 f m (open_enabled t s f m x a), λ e. enabled_open t s f m x ((accepted_exactly t s x).0 e).2)

-- ---- the order

order_append : {a b : List Step} → InOrder a → InOrder b → ((x y : Step) → Memᴰ x a → Memᴰ y b → Before x y) → InOrder (a ++ b)
order_append order_none q f = q
order_append {a = x ∷ rest} {b} (order_first g p) q f = order_first {x = x} (λ y (m : Memᴰ y (rest ++ b)). elim (Memᴰ.append_cases rest m) [ inl n ↦ g y n | inr n ↦ f x y (Memᴰ.head refl) n ]) (order_append p q (λ z y m n. f z y (Memᴰ.tail m) n))

order_if : (b : Bool) (x : Step) → InOrder (only_if b x)
unfolding only_if
order_if true x = order_first (λ y m. absurd (Memᴰ.not-nil m)) order_none
order_if false x = order_none

order_at : (s : State) (i : ℕ) → InOrder (open_at s i)
unfolding open_at
order_at s i = order_append (order_if (timer_due s i) (Timer i)) (order_if (hear_due s.clock s.calendar i) (Hear i))
    (λ x y m n. let p = (if_is (timer_due s i) (Timer i) m).0 in let q = (if_is (hear_due s.clock s.calendar i) (Hear i) n).0 in inr (rw (p, q) (refl, omega arith)))

head_at : {x : Step} (s : State) (i : ℕ) → Memᴰ x (open_at s i) → head_number x ≡ i
head_at s i m = elim (at_is s i m) [ inl w ↦ ap head_number w.0 | inr w ↦ ap head_number w.0 ]

order_to : (s : State) (k : ℕ) → InOrder (open_to s k)
unfolding open_to
order_to s zero = order_none
order_to s (suc k) = order_append (order_to s k) (order_at s (suc k)) (λ x y m n. let r = to_is s k m in let a = head_at s r.0 r.1.2 in let b = head_at s (suc k) n in let l = r.1.1 in inl (omega arith))

pub listed_in_order : ListedInOrder
unfolding open_steps
listed_in_order t s = elim (either_or_not (due t s)) [ inl d ↦ rw d (order_to s t.n) | inr d ↦ rw d (order_if (leb (next_instant t s) ceiling) Advance) ]

-- what stands before itself stands nowhere
order_once : {l : List Step} → InOrder l → EachOnce l
order_once order_none = once_none
order_once (order_first {x} g p) = once_first (λ m. elim (g x m) [ inl l ↦ omega arith | inr w ↦ omega (arith, w.1) ]) (order_once p)

pub listed_once : ListedOnce
listed_once t s = order_once (listed_in_order t s)

-- ---- the first of them

-- a search of the heads finds the first step of the list, where there is one, and otherwise a step that is refused
module _ (t : Table) (s : State) (f : TableMeets t) (m : StateMeets t s) where
  pub first_open : step_refusal t s (first_due s t.n) ≡ 0 → (rest : List Step) × (open_steps t s ≡ first_due s t.n ∷ rest)
  unfolding first_due first_or only_if
  first_open e = go (open_to s t.n) refl
    where
      go : (l : List Step) → open_to s t.n ≡ l → (rest : List Step) × (open_steps t s ≡ first_or Advance (open_to s t.n) ∷ rest)
      go [] q = ([], rw q (open_advance t s f m q (rw q at e)))
      go (x ∷ rest) q = (rest, rw q (open_due t s f m x rest q ∙ q))

  pub first_refused : (step_refusal t s (first_due s t.n) ≡ 0 → ⊥) → open_steps t s ≡ []
  unfolding first_due first_or
  first_refused n = go (open_to s t.n) refl
    where
      go : (l : List Step) → open_to s t.n ≡ l → open_steps t s ≡ []
      go [] q = open_none t s f m q (rw q at n)
      go (x ∷ rest) q = absurd (n (rw q (open_accepted t s f m x (subst (Memᴰ x) (sym (open_due t s f m x rest q ∙ q)) (Memᴰ.head refl)))))

-- what is found is not refused, but where it is an advance
free : (t : Table) (s : State) (x : Step) → step_refusal t s x ≡ 0 → moving_refusal t s x ≡ 0
free t s Advance e = refl
free t s (Timer i) e = e
free t s (Hear i) e = e

pub first_free : (t : Table) (s : State) → table_fits t ≡ true → state_fits t s ≡ true → (x : Step) → x ≡ first_due s t.n → moving_refusal t s x ≡ 0
unfolding first_due first_or
first_free t s p q x e = rw e (go (open_to s t.n) refl)
  where
    go : (l : List Step) → open_to s t.n ≡ l → moving_refusal t s (first_or Advance (open_to s t.n)) ≡ 0
    go [] z = rw z refl
    go (y ∷ rest) z =
        let f = table_meets t p in
        let m = state_meets t s f.heads q in
        rw z (free t s y (open_accepted t s f m y (subst (Memᴰ y) (sym (open_due t s f m y rest z ∙ z)) (Memᴰ.head refl))))

pub search_first : SearchFirst
search_first t s x rest p q e =
    let f = table_meets t p in
    let m = state_meets t s f.heads q in
    elim (same_or_not (step_refusal t s (first_due s t.n)) 0) [
      | inl a ↦ let r = first_open t s f m a in let w = r.1 in cc
      | inr a ↦ let r = first_refused t s f m a in let z : ◌≡◌ {A = ℕ} 0 1 = cc in absurd (omega arith)
    ]

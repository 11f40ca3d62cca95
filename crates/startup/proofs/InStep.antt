-- Demand 3, proved: every state of every run from power-up is in step.
use Rattle.std.proofs.Common.{ℕ, zero, suc, ◌+◌, ◌≤◌, ◌≡◌, refl, sym, ap, subst, ◌∙◌, false, List, [], ◌∷◌, ◌⊎◌, inl, inr, arith}
use Rattle.hearers.proofs.Laws.{has_none}
use Rattle.words.specs.declared.Step.{Step}
use Rattle.rules.specs.declared.Phase.{Phase}
use Rattle.rules.specs.declared.Phase.TheVariants.{Init, Listen, Coldstart, Active}
use Rattle.rules.specs.declared.Head.{Head}
use Rattle.rules.specs.declared.State.{State}
use Rattle.rules.specs.declared.Table.{Table}
use Rattle.rules.specs.Table.{wake_of}
use Rattle.rules.specs.State.{phase_number, slot_number, phase_of, fresh}
use Rattle.rules.specs.Step.{due, moved}
use Rattle.rules.specs.Judge.{refusal, judged}
use Rattle.rules.specs.Conditions.{IsHead, TableMeets}
use Rattle.rules.proofs.Each.{same_or_not}
use Rattle.rules.proofs.Meaning.{table_meets}
use Rattle.rules.proofs.Moves.{fresh_head}
use Rattle.exact.proofs.Enabled.{accepted_exactly}
use Rattle.exact.proofs.Keeps.{accepted_moves, refused_stays}
use Rattle.startup.specs.World.{Fit}
use Rattle.startup.specs.Demand.{Run, power_up, then, played_from, played, IsActive, Agreed, AllActive, last_of, last_wake, six_rounds, bound, InStep, Demand3, Demand3Judged}
use Rattle.startup.proofs.Main.{Good, good_start, good_move, agree, joined, joined_idle, six}
use Rattle.startup.proofs.Link.{tab, view, in_head, round_is, idle, link}

-- a head is active just where its phase has the number 3
active : (p : Phase) → phase_number p ≡ 3 → (k : ℕ) × (p ≡ Active k)
active Init e = absurd (omega arith)
active Listen e = absurd (omega arith)
active Coldstart e = absurd (omega arith)
active (Active k) e = (k, refl)

-- no wake is after the latest
wake_last : (t : Table) (n i : ℕ) → 1 ≤ i → i ≤ n → wake_of t i ≤ last_of t n
unfolding last_of
wake_last t zero i a b = absurd (omega arith)
wake_last t (suc n) i a b = elim (same_or_not i (suc n)) [ inl e ↦ rw e (omega arith) | inr e ↦ let q = wake_last t n i a (omega arith) in omega arith ]

module _ (t : Table) (F : TableMeets t) where
  -- a table within the limits is one that the proof is about
  fit : Fit (tab t)
  fit = let p = F.short in record { some = F.some_head; moving = F.propagation; short = omega arith; last = λ j k. wake_last t t.n j k.low k.high }

  -- power-up is a start
  good_fresh : Good (tab t) (view (fresh t))
  unfolding fresh
  good_fresh = good_start (tab t) (view (fresh t)) record {
    clock_is = refl;
    hears_is = has_none;
    phase_is = λ j k. ap (λ (h : Head). phase_number h.phase) (fresh_head t j);
    timeout_is = λ j k. ap (λ (h : Head). h.timeout) (fresh_head t j);
  }

  -- an accepted step is a move
  good_judged : (s : State) (x : Step) → Good (tab t) (view s) → refusal t s x ≡ 0 → Good (tab t) (view (judged t s x))
  good_judged s x G e = let r = (accepted_exactly t s x).0 e in
      subst (λ u. Good (tab t) (view u)) (sym (accepted_moves t s x e)) (good_move (tab t) fit (view s) (view (moved t s x)) G (link t F s r.1 x r.2))

  good_run : {xs : List Step} {s : State} → Run t xs s → Good (tab t) (view s)
  good_run power_up = good_fresh
  good_run (then {s = s} r x e) = good_judged s x (good_run r) e

  -- what the invariant says, in the demand's words
  module _ (s : State) (G : Good (tab t) (view s)) where
    active_or_not : (i : ℕ) → (phase_number (phase_of s i) ≡ 3 → ⊥) ⊎ IsActive s i
    active_or_not i = elim (same_or_not (phase_number (phase_of s i)) 3) [ inl e ↦ inr (active (phase_of s i) e) | inr e ↦ inl e ]

    good_agreed : due t s ≡ false → Agreed t s
    good_agreed e i j a b k l p q = let r = agree (tab t) (view s) G (idle t s e) i j (in_head a) (in_head b) (ap phase_number p) (ap phase_number q) in (sym (ap slot_number p) ∙ r.0 ∙ ap slot_number q, r.1)

    good_joined : 2 ≤ t.n → last_wake t + six_rounds t ≤ s.clock → AllActive t s
    good_joined two l i h = active (phase_of s i) (six (tab t) fit (view s) G two (omega (arith, round_is t)) i (in_head h))

    good_sharp : 2 ≤ t.n → (i : ℕ) → IsHead t i → (IsActive s i → ⊥) → s.clock ≤ bound t
    good_sharp two i h n = let r = joined (tab t) fit (view s) G two i (in_head h) (λ e. n (active (phase_of s i) e)) in omega (arith, round_is t)

    good_idle : 2 ≤ t.n → due t s ≡ false → bound t ≤ s.clock → AllActive t s
    good_idle two e l i h = elim (active_or_not i) [
      | inl n ↦ let r = joined_idle (tab t) fit (view s) G (idle t s e) two i (in_head h) n in absurd (omega (arith, round_is t))
      | inr a ↦ a
    ]

    -- each premise is shown anew from the statement's own, so that a statement that asks too much fails here
    good_in_step : InStep t s
    good_in_step = record { agreed = λ e. good_agreed (rw e refl); joined = λ two. good_joined (omega arith); sharp = good_sharp; sharp_idle = good_idle }

-- Demand 3.
pub in_step : Demand3
in_step t f xs s r = let F = table_meets t f in good_in_step t F s (good_run t F r)

-- Whatever steps are given to the judged step, the accepted ones are a run.
played_run : (t : Table) (xs : List Step) {ys : List Step} {s : State} → Run t ys s → (zs : List Step) × Run t zs (played_from t s xs)
unfolding played_from
played_run t [] {ys} r = (ys, r)
played_run t (x ∷ xs) {ys} {s} r = elim (same_or_not (refusal t s x) 0) [
  | inl e ↦ played_run t xs (then r x e)
  | inr n ↦ rw (refused_stays t s x n) (played_run t xs r)
]

-- So demand 3 holds of the judged step, whose contract answers number `refusal t s x` and state `judged t s x`.
pub judged_in_step : Demand3Judged
judged_in_step t f xs = in_step t f _ (played t xs) (played_run t xs power_up).1

-- The invariant of runs, and what demand 3 asks of it: all active heads agree, and all heads are active by W + 3R + S + P, hence by six rounds.
use Rattle.std.proofs.Common.{ℕ, ◌+◌, ◌*◌, ◌≤◌, ◌<◌, ◌≡◌, ◌⊎◌, inl, inr, arith}
use Rattle.rules.proofs.Each.{same_or_not, less_or_not}
use Rattle.startup.specs.World.{Tab, In, Fit, round, World, Idle, Move}
use Rattle.startup.proofs.Laws.{offset_top, round_two}
use Rattle.startup.proofs.Rules.{Rules, rules_move, early}
use Rattle.startup.proofs.Phases.{deadline, Phase, quiet, cold, live}
use Rattle.startup.proofs.FromQuiet.{from_quiet}
use Rattle.startup.proofs.FromCold.{cold_early, from_cold}
use Rattle.startup.proofs.FromLive.{sends_ahead, from_live}

-- The invariant.
pub record Good (t : Tab) (a : World) : Type 0 where
  pub rules : Rules t a
  pub phase : Phase t a

-- The fresh state.
pub record Start (t : Tab) (a : World) : Type 0 where
  pub clock_is : a.clock ≡ 0
  pub hears_is : (j : ℕ) → a.hears j ≡ 0
  pub phase_is : (j : ℕ) → In t j → a.phase j ≡ 0
  pub timeout_is : (j : ℕ) → In t j → a.timeout j ≡ t.wake j

-- A run starts well.
pub good_start : (t : Tab) (a : World) → Start t a → Good t a
good_start t a S = record {
  rules = record {
    heads = λ j k. let p = S.phase_is j k in let q = S.timeout_is j k in record {
      ahead = omega arith;
      phases = omega arith;
      init_wake = λ e. q;
      listen_wake = λ e. absurd (omega arith);
      active_slot = λ e. absurd (omega arith);
    };
    flags = λ j. let q = S.hears_is j in omega arith;
    frame = λ h e. let q = S.hears_is h in absurd (omega arith);
  };
  phase = quiet record { silent = S.hears_is; nobody_started = λ j k. let p = S.phase_is j k in omega arith };
}

-- Every step keeps the invariant.
pub good_move : (t : Tab) → Fit t → (a b : World) → Good t a → Move t a b → Good t b
good_move t F a b G m = record { rules = rules_move t F a b G.rules m; phase = by G.phase }
  where
    by : Phase t a → Phase t b
    by (quiet C) = from_quiet t F a b G.rules C m
    by (cold e o again C) = from_cold t F a b G.rules e o again C m
    by (live c e w d C) = from_live t F a b G.rules c e w d C m

-- When nothing is due, any two active heads are in the same slot, with the same timeout.
pub agree : (t : Tab) (a : World) → Good t a → Idle t a → (i j : ℕ) → In t i → In t j → a.phase i ≡ 3 → a.phase j ≡ 3 → (a.slot i ≡ a.slot j) × (a.timeout i ≡ a.timeout j)
agree t a G I i j k l p q = by G.phase
  where
    by : Phase t a → (a.slot i ≡ a.slot j) × (a.timeout i ≡ a.timeout j)
    by (quiet C) = let n = C.nobody_started i k in absurd (omega arith)
    by (cold e o again C) = let n = C.heads i k in absurd (omega arith)
    by (live c e w d C) = let u = on i k p in let v = on j l q in omega arith
      where
        -- nobody is about to turn
        on : (j : ℕ) → In t j → a.phase j ≡ 3 → (a.slot j ≡ c) × (a.timeout j ≡ e + t.s)
        on j k p = let r = G.rules.heads j k in let x = I.timers j k in let y = C.begun in (C.heads j k).in_slot p (omega arith)

-- While some head is not active, it is not past the deadline, or some frame sent by then is still to be heard.
near : (t : Tab) → Fit t → (a : World) → Good t a → 2 ≤ t.n → (i : ℕ) → In t i → (a.phase i ≡ 3 → ⊥)
    → (a.clock ≤ deadline t) ⊎ ((h : ℕ) × ((a.hears h ≡ 1) × (a.sent ≤ deadline t)))
near t F a G two i k n = by G.phase
  where
    by : Phase t a → (a.clock ≤ deadline t) ⊎ ((h : ℕ) × ((a.hears h ≡ 1) × (a.sent ≤ deadline t)))
    by (quiet C) = let q = early t F a G.rules i k (C.nobody_started i k) in let r = offset_top t i k in inl (omega arith)
    by (cold e o again C) = elim (cold_early t F a G.rules e o again C two) [
      | inl l ↦ inl (omega arith)
      | inr r ↦ let h = r.1 in let f = C.frame r.0 h in let q = C.sent_early two in inr (r.0, (h, omega arith))
    ]
    by (live c e w d C) = elim (less_or_not (deadline t) d) [
      | inl l ↦ let r = G.rules.heads i k in let q = (C.heads i k).joins_early (omega arith) l in let f = C.frame i q.0 in inr (i, (q.0, omega arith))
      | inr l ↦ let q = sends_ahead t F a G.rules c e w d C in inl (omega arith)
    ]

-- While some head is not active, it is at most W + 3R + S + P.
pub joined : (t : Tab) → Fit t → (a : World) → Good t a → 2 ≤ t.n → (i : ℕ) → In t i → (a.phase i ≡ 3 → ⊥) → a.clock ≤ t.top + 3 * round t + t.s + t.p
joined t F a G two i k n = elim (near t F a G two i k n) [
  | inl l ↦ omega arith
  | inr r ↦ let x = r.1 in let f = G.rules.frame r.0 x.0 in omega arith
]

-- With nothing due, it is before that tick.
pub joined_idle : (t : Tab) → Fit t → (a : World) → Good t a → Idle t a → 2 ≤ t.n → (i : ℕ) → In t i → (a.phase i ≡ 3 → ⊥) → a.clock < t.top + 3 * round t + t.s + t.p
joined_idle t F a G I two i k n = elim (near t F a G two i k n) [
  | inl l ↦ let p = F.moving in omega arith
  | inr r ↦ let x = r.1 in let f = G.rules.frame r.0 x.0 in let y = I.frame r.0 x.0 in omega arith
]

-- Six rounds after the last wake every head is active.
pub six : (t : Tab) → Fit t → (a : World) → Good t a → 2 ≤ t.n → t.top + 6 * round t ≤ a.clock → (j : ℕ) → In t j → a.phase j ≡ 3
six t F a G two late j k = elim (same_or_not (a.phase j) 3) [
  | inl e ↦ e
  | inr n ↦ let q = joined t F a G two j k n in let r = round_two t two in let s = F.short in absurd (omega arith)
]

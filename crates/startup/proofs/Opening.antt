-- The taking of a coldstart frame, from Quiet or from Cold: the one way into Cold with a new last sender.
use Rattle.std.proofs.Common.{ℕ, ◌+◌, ◌*◌, ◌≤◌, ◌<◌, ◌≡◌, arith}
use Rattle.startup.specs.World.{Tab, In, Fit, round, World, Taken, Coldstarts, Alone}
use Rattle.startup.proofs.Laws.{split}
use Rattle.startup.proofs.Phases.{FirstLate, ColdHead, Cold, in_window}

-- What has to be known when the coldstart frame of head i is taken: before the step, but for `FirstLate`.
pub record Opening (t : Tab) (a b : World) (i again : ℕ) : Type 0 where
  -- nobody is active
  pub not_active : (j : ℕ) → In t j → a.phase j ≤ 2
  -- another head in coldstart makes it a frame that is not the first one
  pub first : (j : ℕ) → In t j → (j ≡ i → ⊥) → a.phase j ≡ 2 → again ≡ 1
  -- then no other head but one in init times out while it is on the air
  pub flight : again ≡ 1 → (j : ℕ) → In t j → (j ≡ i → ⊥) → 1 ≤ a.phase j → a.clock + t.p < a.timeout j
  -- it is sent within three rounds of the last wake
  pub sent_early : 2 ≤ t.n → a.clock ≤ t.top + 3 * round t
  -- within two, if it is not head 1's
  pub sent_earlier : 2 ≤ t.n → (i ≡ 1 → ⊥) → a.clock ≤ t.top + 2 * round t
  -- if head 1 is late from now on, then everybody else is in coldstart
  pub all_cold : 2 ≤ t.n → FirstLate t b → (j : ℕ) → In t j → (j ≡ i → ⊥) → a.phase j ≡ 2

-- A coldstart frame is taken.
pub opens : (t : Tab) → Fit t → (a b : World) (i again : ℕ) → Alone t a b i → ((j : ℕ) → j ≡ i → Coldstarts t a b j) → Taken t a b i 1 → Opening t a b i again → Cold t b a.clock i again
opens t F a b i again A f m O = record {
  sender = A.is;
  frame = λ h e. let q = m.frame h e in record { kind_is = q.kind_is; origin_is = q.origin_is; sent_is = q.sent_is };
  heads = split (λ j. In t j → ColdHead t b a.clock i again j) i
      (λ j e k. let q = f j e in in_window t F b a.clock i again j q.phase_is (m.self j e) (omega arith) (omega arith))
      (λ j e k. let r = A.rest j e in let z = m.others j e k in record {
        not_active = let q = O.not_active j k in omega arith;
        last_sender = λ x. absurd (e x);
        window_low = λ p h. absurd (omega arith);
        window_high = λ p h. absurd (omega arith);
        cold_hearer = λ p h. O.first j k e (omega arith);
        missed = λ p h. absurd (omega arith);
        flight = λ g h x p. let q = O.flight g j k e (omega arith) in omega arith;
      });
  sent_early = O.sent_early;
  sent_earlier = O.sent_earlier;
  all_hear = λ two l j k e. let r = A.rest j e in let q = O.all_cold two l j k e in (omega arith, m.others j e k);
}

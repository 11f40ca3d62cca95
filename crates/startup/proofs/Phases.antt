-- The three phases of a run: Quiet (nobody has started), Cold (somebody is in coldstart, nobody active), Live (somebody is active or joins now).
-- Every fact speaks of one head, beside fixed ones: head 1, the last sender, and in Live a witness, the head whose next frame lets the others join.
use Rattle.std.proofs.Common.{ℕ, ◌+◌, ◌*◌, ◌≤◌, ◌<◌, ◌≡◌, ap, arith}
use Rattle.startup.specs.World.{Tab, In, Fit, round, offset, next_slot, distance, World}
use Rattle.startup.proofs.Laws.{round_one}

-- Nothing has been sent.
pub record Quiet (t : Tab) (a : World) : Type 0 where
  -- no frame is on the air
  pub silent : (j : ℕ) → a.hears j ≡ 0
  -- every head is in init or listens
  pub nobody_started : (j : ℕ) → In t j → a.phase j ≤ 1

-- Head 1 is in coldstart and times out more than three rounds after the last wake.
pub record FirstLate (t : Tab) (a : World) : Type 0 where
  -- it is in coldstart
  pub cold : a.phase 1 ≡ 2
  -- and late
  pub late : t.top + 3 * round t < a.timeout 1

-- Head j in Cold: the last coldstart frame was sent at e by head o, and again is 1 if o was in coldstart before.
pub record ColdHead (t : Tab) (a : World) (e o again j : ℕ) : Type 0 where
  -- it is not active
  pub not_active : a.phase j ≤ 2
  -- the last sender is in coldstart
  pub last_sender : j ≡ o → a.phase j ≡ 2
  -- in coldstart, not to hear the frame: it times out in its slot of the round after the sending, at most P late
  pub window_low : a.phase j ≡ 2 → a.hears j ≡ 0 → e + round t + offset t j ≤ a.timeout j
  pub window_high : a.phase j ≡ 2 → a.hears j ≡ 0 → a.timeout j ≤ e + round t + offset t j + t.p
  -- in coldstart, still to hear the frame: it is not the first one
  pub cold_hearer : a.phase j ≡ 2 → a.hears j ≡ 1 → again ≡ 1
  -- not started, and not to hear the frame: it wakes after the sending
  pub missed : a.phase j ≤ 1 → a.hears j ≡ 0 → e ≤ t.wake j
  -- while a frame that is not the first one is on the air, it does not time out unless in init
  pub flight : again ≡ 1 → (h : ℕ) → a.hears h ≡ 1 → 1 ≤ a.phase j → e + t.p < a.timeout j

-- The frame on the air in Cold is the last one sent.
pub record ColdFrame (a : World) (e o : ℕ) : Type 0 where
  -- it is a coldstart frame
  pub kind_is : a.kind ≡ 1
  -- of the last sender
  pub origin_is : a.origin ≡ o
  -- sent at e
  pub sent_is : a.sent ≡ e

-- Somebody is in coldstart, nobody is active. The facts on early and late are for N ≥ 2: a lone head never joins.
pub record Cold (t : Tab) (a : World) (e o again : ℕ) : Type 0 where
  -- the last sender is a head
  pub sender : In t o
  -- whoever waits, waits for the last frame
  pub frame : (h : ℕ) → a.hears h ≡ 1 → ColdFrame a e o
  -- each head as above
  pub heads : (j : ℕ) → In t j → ColdHead t a e o again j
  -- the last frame was sent within three rounds of the last wake
  pub sent_early : 2 ≤ t.n → e ≤ t.top + 3 * round t
  -- within two, if it is not head 1's
  pub sent_earlier : 2 ≤ t.n → (o ≡ 1 → ⊥) → e ≤ t.top + 2 * round t
  -- if head 1 is late, then everybody but the last sender is in coldstart and still to hear the frame
  pub all_hear : 2 ≤ t.n → FirstLate t a → (j : ℕ) → In t j → (j ≡ o → ⊥) → (a.phase j ≡ 2) × (a.hears j ≡ 1)

-- The tick by which the frame that lets everybody join is sent.
abbrev pub deadline : Tab → ℕ
deadline t = t.top + 3 * round t + t.s

-- The witness w of Live: it next sends at tick d. Slot c began at tick e.
pub record Witness (t : Tab) (a : World) (c e w d : ℕ) : Type 0 where
  -- it is a head
  pub head : In t w
  -- in coldstart or active
  pub started : 2 ≤ a.phase w
  -- active: d is the start of its next own slot
  pub active : a.phase w ≡ 3 → a.timeout w + distance t (a.slot w) w ≡ d
  -- not yet active: it joins in this tick, by the coldstart frame of slot c
  pub joining : a.phase w ≡ 2 → (a.hears w ≡ 1) × (a.kind ≡ 1) × (e + t.s + distance t c w ≡ d)

-- The frame on the air in Live is that of slot c, sent when the slot began.
pub record LiveFrame (t : Tab) (a : World) (c e d : ℕ) : Type 0 where
  -- its sender owns slot c
  pub origin_is : a.origin ≡ c
  -- it was sent at e
  pub sent_is : a.sent ≡ e
  -- a coldstart frame: this is the tick of the first join, and the witness sends at least a slot before the round is over
  pub first_join : a.kind ≡ 1 → (a.clock ≡ e + t.p) × (d + t.s ≤ e + round t)

-- Head j in Live.
pub record LiveHead (t : Tab) (a : World) (c e d j : ℕ) : Type 0 where
  -- an active head is in slot c, which ends at e + S
  pub in_slot : a.phase j ≡ 3 → e < a.timeout j → (a.slot j ≡ c) × (a.timeout j ≡ e + t.s)
  -- or it is about to turn to slot c
  pub turning : a.phase j ≡ 3 → a.timeout j ≤ e → (next_slot t (a.slot j) ≡ c) × (a.timeout j ≡ e)
  -- listening or in coldstart, not to hear the frame on the air: it does not time out before it can hear the witness
  pub waiting : 1 ≤ a.phase j → a.phase j ≤ 2 → a.hears j ≡ 0 → d + t.p < a.timeout j
  -- listening or in coldstart, still to hear the frame on the air: it does not time out before that
  pub hearing : 1 ≤ a.phase j → a.phase j ≤ 2 → a.hears j ≡ 1 → e + t.p < a.timeout j
  -- the sender of an i-frame on the air stays in its slot
  pub owner : j ≡ c → (h : ℕ) → a.hears h ≡ 1 → a.kind ≡ 2 → a.timeout j ≡ e + t.s
  -- not active: the witness sends in time, or an i-frame that was sent in time is about to be heard
  pub joins_early : a.phase j ≤ 2 → deadline t < d → (a.hears j ≡ 1) × (a.kind ≡ 2) × (e ≤ deadline t)

-- Somebody is active: slot c began at e, and the witness w next sends at d.
pub record Live (t : Tab) (a : World) (c e w d : ℕ) : Type 0 where
  -- a lone head hears nobody, so it does not get here
  pub two : 2 ≤ t.n
  -- slot c has begun
  pub begun : e ≤ a.clock
  -- the witness as above
  pub witness : Witness t a c e w d
  -- whoever waits, waits for the frame of slot c
  pub frame : (h : ℕ) → a.hears h ≡ 1 → LiveFrame t a c e d
  -- each head as above
  pub heads : (j : ℕ) → In t j → LiveHead t a c e d j

-- The phase of a state, with what has to be remembered of its past.
pub data Phase (t : Tab) (a : World) : Type 0 where
  quiet : Quiet t a → Phase t a
  cold : (e o again : ℕ) → Cold t a e o again → Phase t a
  live : (c e w d : ℕ) → Live t a c e w d → Phase t a

module _ (t : Tab) (F : Fit t) (a : World) where
  -- A head in coldstart that is not to hear the frame is known by its window.
  pub in_window : (e o again j : ℕ) → a.phase j ≡ 2 → a.hears j ≡ 0 → e + round t + offset t j ≤ a.timeout j → a.timeout j ≤ e + round t + offset t j + t.p → ColdHead t a e o again j
  in_window e o again j p z low high = record {
    not_active = omega arith;
    last_sender = λ x. p;
    window_low = λ q h. low;
    window_high = λ q h. high;
    cold_hearer = λ q h. absurd (omega arith);
    missed = λ q h. absurd (omega arith);
    flight = λ g h x q. omega (arith, round_one t F.some, F.short);
  }

  -- A head that has not started is known by its wake, and by its timeout once it listens.
  pub not_started : (e o again j : ℕ) → a.phase j ≤ 1 → (j ≡ o → ⊥) → (a.hears j ≡ 0 → e ≤ t.wake j) → ((h : ℕ) → a.hears h ≡ 1 → 1 ≤ a.phase j → e + t.p < a.timeout j) → ColdHead t a e o again j
  not_started e o again j p n f g = record {
    not_active = omega arith;
    last_sender = λ x. absurd (n x);
    window_low = λ q h. absurd (omega arith);
    window_high = λ q h. absurd (omega arith);
    cold_hearer = λ q h. absurd (omega arith);
    missed = λ q. f;
    flight = λ x. g;
  }

  -- An active head that has turned is known by its slot.
  pub in_step : (c e d j : ℕ) → a.phase j ≡ 3 → a.slot j ≡ c → a.timeout j ≡ e + t.s → LiveHead t a c e d j
  in_step c e d j p q r = let s = F.short in record {
    in_slot = λ x l. (q, r);
    turning = λ x l. absurd (omega arith);
    waiting = λ x y h. absurd (omega arith);
    hearing = λ x y h. absurd (omega arith);
    owner = λ x h y z. r;
    joins_early = λ x l. absurd (omega arith);
  }

  -- An active witness that has turned sends when its next own slot starts.
  pub witness_in_step : (c e w d : ℕ) → In t w → a.phase w ≡ 3 → a.slot w ≡ c → a.timeout w ≡ e + t.s → e + t.s + distance t c w ≡ d → Witness t a c e w d
  witness_in_step c e w d k p q r s = let g = ap (λ y. distance t y w) q in record { head = k; started = omega arith; active = λ x. omega arith; joining = λ x. absurd (omega arith) }

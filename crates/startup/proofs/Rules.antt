-- The rules of a state that the proof uses, and that every step keeps them.
use Rattle.std.proofs.Common.{ℕ, ◌+◌, ◌*◌, ◌≤◌, ◌≡◌, refl, sym, ◌∙◌, inl, inr, arith}
use Rattle.rules.proofs.Each.{same_or_not}
use Rattle.startup.specs.World.{Tab, In, Fit, round, offset, World, Still, SameFrame, SameCalendar, Leaves, Taken, Dropped, Sent, taken, dropped, Listens, Turns, Alone, Move, advance, listens, coldstarts, turns, speaks, ignores, follows, joins}
use Rattle.startup.proofs.Laws.{split, offset_one, first_in, next_in}

-- The rules of head j.
pub record HeadRules (t : Tab) (a : World) (j : ℕ) : Type 0 where
  -- no timeout lies behind the clock
  pub ahead : a.clock ≤ a.timeout j
  -- there are four phases
  pub phases : a.phase j ≤ 3
  -- a head in init times out at its wake
  pub init_wake : a.phase j ≡ 0 → a.timeout j ≡ t.wake j
  -- a listener's timeout goes back to its wake (true of runs, no rule of a state)
  pub listen_wake : a.phase j ≡ 1 → a.timeout j ≡ t.wake j + 2 * round t + offset t j
  -- an active head has a slot
  pub active_slot : a.phase j ≡ 3 → In t (a.slot j)

-- The rules of the calendar while head h waits.
pub record FrameRules (t : Tab) (a : World) (h : ℕ) : Type 0 where
  -- only heads wait
  pub hearer : In t h
  -- a head has sent the frame
  pub sender : In t a.origin
  -- and does not hear it
  pub deaf_sender : a.origin ≡ h → ⊥
  -- there are two kinds
  pub kind_low : 1 ≤ a.kind
  pub kind_high : a.kind ≤ 2
  -- delivery is P after the sending
  pub delivery_is : a.delivery ≡ a.sent + t.p
  -- the clock lies between the two
  pub sent_low : a.sent ≤ a.clock
  pub delivery_high : a.clock ≤ a.delivery

-- All the rules.
pub record Rules (t : Tab) (a : World) : Type 0 where
  -- of each head
  pub heads : (j : ℕ) → In t j → HeadRules t a j
  -- a hearer flag is 0 or 1
  pub flags : (j : ℕ) → a.hears j ≤ 1
  -- of the calendar, while somebody waits
  pub frame : (h : ℕ) → a.hears h ≡ 1 → FrameRules t a h

-- A head that waits now waited before, for the same frame.
abbrev pub Kept : (a b : World) → Type 0
Kept a b = (h : ℕ) → b.hears h ≡ 1 → (a.hears h ≡ 1) × SameFrame a b

-- So it is if the calendar stands, or if a head leaves the hearers.
pub kept_same : {a b : World} → SameCalendar a b → Kept a b
kept_same s h e = let r = s.hears_is h in (omega arith, s.frame_is)

pub kept_leaves : {a b : World} (i : ℕ) → Leaves a b i → Kept a b
kept_leaves i s h e = elim (same_or_not h i) [ inl q ↦ let g = s.gone h q in absurd (omega arith) | inr q ↦ let g = s.others h q in (omega arith, s.frame_is h e) ]

-- A head whose frame is dropped leaves the hearers.
pub dropped_leaves : {a b : World} {i : ℕ} → Dropped a b i → Leaves a b i
dropped_leaves s = record { gone = λ j e. let q = s.deaf j e in omega arith; others = s.others; frame_is = s.frame_is }

-- A step of head i that puts no frame on the air.
pub record Lone (t : Tab) (a b : World) (i : ℕ) : Type 0 where
  pub is : In t i
  pub clock_is : b.clock ≡ a.clock
  pub rest : (j : ℕ) → (j ≡ i → ⊥) → Still a b j
  pub hears_is : (j : ℕ) → (j ≡ i → ⊥) → b.hears j ≡ a.hears j
  pub kept : Kept a b

-- It leaves the calendar as it is, or takes i out of the hearers.
pub lone_same : {t : Tab} {a b : World} {i : ℕ} → Alone t a b i → SameCalendar a b → Lone t a b i
lone_same A s = record { is = A.is; clock_is = A.clock_is; rest = A.rest; hears_is = λ j e. s.hears_is j; kept = kept_same s }

pub lone_leaves : {t : Tab} {a b : World} {i : ℕ} → Alone t a b i → Leaves a b i → Lone t a b i
lone_leaves {i = i} A s = record { is = A.is; clock_is = A.clock_is; rest = A.rest; hears_is = s.others; kept = kept_leaves i s }

-- While some head j has not been in coldstart, it is early.
pub early : (t : Tab) → Fit t → (a : World) → Rules t a → (j : ℕ) → In t j → a.phase j ≤ 1 → a.clock ≤ t.top + 2 * round t + offset t j
early t F a B j k p = let h = B.heads j k in let l = F.last j k in elim (same_or_not (a.phase j) 0) [
  | inl e ↦ let q = h.init_wake e in omega arith
  | inr e ↦ let q = h.listen_wake (omega arith) in omega arith
]

-- The same of head 1, whose slot starts the round.
pub early_first : (t : Tab) → Fit t → (a : World) → Rules t a → a.phase 1 ≤ 1 → a.clock ≤ t.top + 2 * round t
early_first t F a B p = let q = early t F a B 1 (first_in t F) p in omega (arith, offset_one t)

module _ (t : Tab) (F : Fit t) (a b : World) (B : Rules t a) where
  -- the frame stays, and the clock does not pass its delivery
  frame_kept : Kept a b → a.clock ≤ b.clock → ((h : ℕ) → a.hears h ≡ 1 → b.clock ≤ a.delivery) → (h : ℕ) → b.hears h ≡ 1 → FrameRules t b h
  frame_kept f up low h e = let r = f h e in let c = r.1 in let q = B.frame h r.0 in let d = low h r.0 in record {
    hearer = q.hearer;
    sender = rw c.origin_is q.sender;
    deaf_sender = λ x. q.deaf_sender (sym c.origin_is ∙ x);
    kind_low = omega arith;
    kind_high = omega arith;
    delivery_is = omega arith;
    sent_low = omega arith;
    delivery_high = omega arith;
  }

  -- a frame is taken
  frame_new : (i k : ℕ) → 1 ≤ k → k ≤ 2 → In t i → b.clock ≡ a.clock → Taken t a b i k → (h : ℕ) → b.hears h ≡ 1 → FrameRules t b h
  frame_new i k low high l c m h e = let f = m.frame h e in record {
    hearer = m.hearers h e;
    sender = rw f.origin_is l;
    deaf_sender = λ x. let r = m.self h (sym x ∙ f.origin_is) in omega arith;
    kind_low = omega arith;
    kind_high = omega arith;
    delivery_is = omega arith;
    sent_low = omega arith;
    delivery_high = omega arith;
  }

  -- a head stands still, and the clock does not pass its timeout
  head_still : (j : ℕ) → In t j → Still a b j → b.clock ≤ a.timeout j → HeadRules t b j
  head_still j k r low = let h = B.heads j k in record {
    ahead = omega arith;
    phases = omega arith;
    init_wake = λ e. let q = h.init_wake (omega arith) in omega arith;
    listen_wake = λ e. let q = h.listen_wake (omega arith) in omega arith;
    active_slot = λ e. rw r.slot_is (h.active_slot (omega arith));
  }

  -- a head wakes at its wake
  head_listens : (j : ℕ) → In t j → b.clock ≡ a.clock → Listens t a b j → HeadRules t b j
  head_listens j k c m = let q = (B.heads j k).init_wake m.was in record {
    ahead = omega arith;
    phases = omega arith;
    init_wake = λ e. omega arith;
    listen_wake = λ e. omega arith;
    active_slot = λ e. absurd (omega arith);
  }

  -- a head that is in coldstart or active from now on
  head_up : (j : ℕ) → b.clock ≤ b.timeout j → 2 ≤ b.phase j → b.phase j ≤ 3 → (b.phase j ≡ 3 → In t (b.slot j)) → HeadRules t b j
  head_up j low p q s = record { ahead = low; phases = q; init_wake = λ e. absurd (omega arith); listen_wake = λ e. absurd (omega arith); active_slot = s }

  -- an active head turns to the next slot
  head_turns : (j : ℕ) → In t j → b.clock ≡ a.clock → Turns t a b j → HeadRules t b j
  head_turns j k c m = head_up j (omega arith) (omega arith) (omega arith) (λ e. rw m.slot_is (next_in t (a.slot j) ((B.heads j k).active_slot m.was)))

  -- all heads, from what becomes of head i
  heads_but : (i : ℕ) → b.clock ≡ a.clock → ((j : ℕ) → (j ≡ i → ⊥) → Still a b j) → ((j : ℕ) → j ≡ i → In t j → HeadRules t b j) → (j : ℕ) → In t j → HeadRules t b j
  heads_but i c r f = split (λ j. In t j → HeadRules t b j) i f (λ j e k. head_still j k (r j e) (let q = B.heads j k in omega arith))

  -- all rules, after a step that takes no frame
  rules_lone : (i : ℕ) → Lone t a b i → ((j : ℕ) → j ≡ i → b.hears j ≤ 1) → ((j : ℕ) → j ≡ i → In t j → HeadRules t b j) → Rules t b
  rules_lone i L g f = record {
    heads = heads_but i L.clock_is L.rest f;
    flags = split (λ j. b.hears j ≤ 1) i g (λ j e. let q = L.hears_is j e in let r = B.flags j in omega arith);
    frame = frame_kept L.kept (omega arith) (λ h e. let q = B.frame h e in omega arith);
  }

  -- the same, by what the step does to the calendar
  rules_same : (i : ℕ) → Alone t a b i → SameCalendar a b → ((j : ℕ) → j ≡ i → In t j → HeadRules t b j) → Rules t b
  rules_same i A s = rules_lone i (lone_same A s) (λ j e. let q = s.hears_is j in let r = B.flags j in omega arith)

  rules_leaves : (i : ℕ) → Alone t a b i → Leaves a b i → ((j : ℕ) → j ≡ i → In t j → HeadRules t b j) → Rules t b
  rules_leaves i A s = rules_lone i (lone_leaves A s) (λ j e. let q = s.gone j e in omega arith)

  rules_sent : (i k : ℕ) → 1 ≤ k → k ≤ 2 → Alone t a b i → Sent t a b i k → ((j : ℕ) → j ≡ i → In t j → HeadRules t b j) → Rules t b
  rules_sent i k low high A (taken m) f = record { heads = heads_but i A.clock_is A.rest f; flags = m.flags; frame = frame_new i k low high A.is A.clock_is m }
  rules_sent i k low high A (dropped h e m) f = rules_leaves i A (dropped_leaves m) f

  -- Every step keeps the rules.
  pub rules_move : Move t a b → Rules t b
  rules_move (advance m) = let s = m.calendar in record {
    heads = λ j k. head_still j k (m.rest j) (m.timers j k);
    flags = λ j. let q = s.hears_is j in let r = B.flags j in omega arith;
    frame = frame_kept (kept_same s) (omega arith) (λ h e. let q = m.frame h e in omega arith);
  }
  rules_move (listens i A f s) = rules_same i A s (λ j e k. head_listens j k A.clock_is (f j e))
  rules_move (coldstarts i A f s) = rules_sent i 1 (omega arith) (omega arith) A s (λ j e k. let m = f j e in head_up j (omega arith) (omega arith) (omega arith) (λ x. absurd (omega arith)))
  rules_move (turns i A f o s) = rules_same i A s (λ j e k. head_turns j k A.clock_is (f j e))
  rules_move (speaks i A f o s) = rules_sent i 2 (omega arith) (omega arith) A s (λ j e k. head_turns j k A.clock_is (f j e))
  rules_move (ignores i A h f) = rules_leaves i A h.leaves (λ j e k. head_still j k (f j e).still (let q = B.heads j k in omega arith))
  rules_move (follows i A h f) = rules_leaves i A h.leaves (λ j e k. let m = f j e in head_up j (omega arith) (omega arith) (omega arith) (λ x. absurd (omega arith)))
  -- (the slot after the sender's is a slot as well, so a machine that takes that one fails later, where slots are compared)
  rules_move (joins i A h f) =
      let o = (B.frame i (h.waits i refl)).sender in
      let n = next_in t a.origin o in
      rules_leaves i A h.leaves (λ j e k. let m = f j e in head_up j (omega (arith, F.short)) (omega arith) (omega arith) (λ x. record { low = omega arith; high = omega arith }))

-- Steps from Cold: to Cold, and to Live when the first head in coldstart hears a frame.
use Rattle.std.proofs.Common.{ℕ, ◌+◌, ◌*◌, ◌≤◌, ◌<◌, ◌≡◌, refl, ◌⊎◌, inl, inr, arith}
use Rattle.rules.proofs.Each.{same_or_not, less_or_not}
use Rattle.startup.specs.World.{Tab, In, Fit, round, offset, World, Still, taken, dropped, Listens, Coldstarts, Turns, Ignores, Follows, Alone, Move, advance, listens, coldstarts, turns, speaks, ignores, follows, joins}
use Rattle.startup.proofs.Laws.{split, offset_top, offset_step, offset_one, round_one, listener_wait_lem, first_in, another}
use Rattle.startup.proofs.Rules.{Rules, Kept, kept_same, Lone, lone_same, lone_leaves, dropped_leaves, early_first}
use Rattle.startup.proofs.Phases.{FirstLate, ColdHead, ColdFrame, Cold, Phase, cold, in_window, not_started}
use Rattle.startup.proofs.Opening.{Opening, opens}
use Rattle.startup.proofs.FirstJoin.{first_join}

-- In Cold it is at most three rounds past the last wake, unless somebody is about to hear a frame.
pub cold_early : (t : Tab) → Fit t → (a : World) → Rules t a → (e o again : ℕ) → Cold t a e o again → 2 ≤ t.n → (a.clock ≤ t.top + 3 * round t) ⊎ ((h : ℕ) × (a.hears h ≡ 1))
cold_early t F a B e o again C two = elim (same_or_not (a.phase 1) 2) [
  | inl p ↦ elim (less_or_not (t.top + 3 * round t) (a.timeout 1)) [
    | inl l ↦ let z = another t o two in inr (z.0, (C.all_hear two (record { cold = p; late = l }) z.0 z.1.0 z.1.1).1)
    | inr l ↦ let q = B.heads 1 (first_in t F) in inl (omega arith)
  ]
  | inr p ↦ let q = C.heads 1 (first_in t F) in let r = early_first t F a B (omega arith) in inl (omega arith)
]

module _ (t : Tab) (F : Fit t) (a b : World) (B : Rules t a) (e o again : ℕ) (C : Cold t a e o again) where
  -- The frame on the air is still the last one sent.
  frame_kept : Kept a b → (h : ℕ) → b.hears h ≡ 1 → ColdFrame b e o
  frame_kept f h x = let r = f h x in let q = C.frame h r.0 in record { kind_is = omega arith; origin_is = omega arith; sent_is = omega arith }

  -- A head that stands still keeps its facts.
  head_still : Kept a b → (j : ℕ) → In t j → Still a b j → b.hears j ≡ a.hears j → ColdHead t b e o again j
  head_still f j k r s = let H = C.heads j k in record {
    not_active = omega arith;
    last_sender = λ x. let q = H.last_sender x in omega arith;
    window_low = λ p h. let q = H.window_low (omega arith) (omega arith) in omega arith;
    window_high = λ p h. let q = H.window_high (omega arith) (omega arith) in omega arith;
    cold_hearer = λ p h. H.cold_hearer (omega arith) (omega arith);
    missed = λ p h. H.missed (omega arith) (omega arith);
    flight = λ g h x p. let q = H.flight g h (f h x).0 (omega arith) in omega arith;
  }

  -- What has to be shown of the head i that moves, when no frame is taken and nobody joins.
  record Own (j : ℕ) : Type 0 where
    -- it had not started
    was : a.phase j ≤ 1
    -- if it has started now, it times out a round and its slot from now at the latest
    now : b.phase j ≡ 2 → b.timeout j ≤ a.clock + round t + offset t j
    head : ColdHead t b e o again j

  -- Such a step stays in Cold: head i had not started, so head 1 was not late, nor is it now.
  cold_lone : (i : ℕ) → Lone t a b i → ((j : ℕ) → j ≡ i → In t j → Own j) → Phase t b
  cold_lone i L f = cold e o again record {
    sender = C.sender;
    frame = frame_kept L.kept;
    heads = split (λ j. In t j → ColdHead t b e o again j) i (λ j x k. (f j x k).head) (λ j x k. head_still L.kept j k (L.rest j x) (L.hears_is j x));
    sent_early = C.sent_early;
    sent_earlier = C.sent_earlier;
    all_hear = λ two l j k x. let q = C.all_hear two (late l) j k x in elim (same_or_not j i) [
      | inl y ↦ let m = f j y k in absurd (omega (arith, m.was, q.0))
      | inr y ↦ let r = L.rest j y in let s = L.hears_is j y in omega arith
    ];
  }
    where
      late : FirstLate t b → FirstLate t a
      late l = elim (same_or_not 1 i) [
        | inl x ↦ let m = f 1 x (first_in t F) in let q = early_first t F a B m.was in let r = m.now l.cold in absurd (omega (arith, offset_one t))
        | inr x ↦ let r = L.rest 1 x in record { cold = omega arith; late = omega arith }
      ]

  -- A head that has not started is not the last sender.
  other_sender : (j : ℕ) → In t j → a.phase j ≤ 1 → j ≡ o → ⊥
  other_sender j k p x = let q = (C.heads j k).last_sender x in omega arith

  -- A head wakes: it listens past the delivery.
  own_listens : (j : ℕ) → In t j → b.hears j ≡ a.hears j → Kept a b → Listens t a b j → Own j
  own_listens j k s f m = record {
    was = omega arith;
    now = λ p. absurd (omega arith);
    head = not_started t F b e o again j (omega arith) (other_sender j k (omega arith)) (λ h. (C.heads j k).missed (omega arith) (omega arith))
        (λ h x p. let q = f h x in let c = C.frame h q.0 in let r = B.frame h q.0 in omega (arith, round_one t F.some, F.short));
  }

  -- A listener that starts now, by its timer or by the frame, and hears no more.
  own_starts : (j : ℕ) → a.phase j ≡ 1 → b.phase j ≡ 2 → b.hears j ≡ 0 → e + round t + offset t j ≤ b.timeout j → b.timeout j ≤ e + round t + offset t j + t.p
      → b.timeout j ≤ a.clock + round t + offset t j → Own j
  own_starts j was p z low high now = record {
    was = omega arith;
    now = λ x. now;
    head = in_window t F b e o again j p z low high;
  }

  -- A head in init lets the frame pass: it wakes after the sending.
  own_ignores : (j : ℕ) → In t j → a.hears j ≡ 1 → Ignores a b j → Own j
  own_ignores j k w m = let r = m.still in let p : a.phase j ≡ 0 = init in record {
    was = omega arith;
    now = λ x. absurd (omega arith);
    head = not_started t F b e o again j (omega arith) (other_sender j k (omega arith))
        (λ x. let h = B.heads j k in let q = h.init_wake p in let f = B.frame j w in let c = C.frame j w in omega arith) (λ h x y. absurd (omega arith));
  }
    where
      init : a.phase j ≡ 0
      init = elim (same_or_not (a.phase j) 0) [ inl x ↦ x | inr x ↦ let y = m.was (omega arith) in let h = C.heads j k in absurd (omega arith) ]

  -- While a frame is on the air, a due timer is a listener's: its frame is dropped.
  dropped_listener : (i h : ℕ) → In t i → a.hears h ≡ 1 → Coldstarts t a b i → a.phase i ≡ 1
  dropped_listener i h k w m = let f = B.frame h w in let c = C.frame h w in let H = C.heads i k in elim (same_or_not (a.phase i) 1) [
    | inl p ↦ p
    | inr p ↦ elim (same_or_not (a.hears i) 1) [
      | inl x ↦ let q = H.flight (H.cold_hearer (omega arith) x) h w (omega arith) in absurd (omega arith)
      | inr x ↦ let y = B.flags i in let q = H.window_low (omega arith) (omega arith) in absurd (omega (arith, round_one t F.some, F.short))
    ]
  ]

  -- Its coldstart timer then runs from now, at most P after the last sending.
  own_dropped : (j h : ℕ) → In t j → b.hears j ≡ 0 → a.hears h ≡ 1 → Coldstarts t a b j → Own j
  own_dropped j h k z w m = let f = B.frame h w in let c = C.frame h w in
      own_starts j (dropped_listener j h k w m) m.phase_is z (omega arith) (omega arith) (omega arith)

  -- A listener that hears the frame starts with the wait of a listener.
  own_follows : (j : ℕ) → b.hears j ≡ 0 → a.hears j ≡ 1 → a.delivery ≡ a.clock → Follows t a b j → Own j
  own_follows j z w n m = let f = B.frame j w in let c = C.frame j w in let q = listener_wait_lem t j in
      own_starts j m.was m.phase_is z (omega arith) (omega arith) (omega arith)

  -- With no frame on the air, a due timer is that of a head in coldstart, which sends again.
  module _ (i : ℕ) (A : Alone t a b i) (f : (j : ℕ) → j ≡ i → Coldstarts t a b j) (silent : (j : ℕ) → a.hears j ≡ 0) where
    -- a listener would have timed out after the last sender
    sender_cold : a.phase i ≡ 2
    sender_cold = let m = f i refl in elim (same_or_not (a.phase i) 1) [
      | inl p ↦ let x = (C.heads i A.is).missed (omega arith) (silent i) in let y = (B.heads i A.is).listen_wake p in let H = C.heads o C.sender in
          let z = H.window_high (H.last_sender refl) (silent o) in let v = B.heads o C.sender in absurd (omega (arith, offset_top t o C.sender, F.short))
      | inr p ↦ omega arith
    ]

    -- this sending and the last one are a round and i's slot apart, and at most P more
    low : e + round t + offset t i ≤ a.clock
    low = let m = f i refl in let q = (C.heads i A.is).window_low sender_cold (silent i) in omega arith

    high : a.clock ≤ e + round t + offset t i + t.p
    high = let m = f i refl in let q = (C.heads i A.is).window_high sender_cold (silent i) in omega arith

    -- a head in coldstart or listening times out a slot later than i, less P, so not while the frame is on the air
    again_flight : (j : ℕ) → In t j → (j ≡ i → ⊥) → 1 ≤ a.phase j → a.clock + t.p < a.timeout j
    again_flight j k x p = let H = C.heads j k in let r = B.heads j k in elim (same_or_not (a.phase j) 1) [
      | inl q ↦ let u = H.missed (omega arith) (silent j) in let v = r.listen_wake q in omega (arith, high, offset_top t i A.is, F.short)
      | inr q ↦ elim (less_or_not i j) [
        | inl l ↦ let u = H.window_low (omega arith) (silent j) in omega (arith, high, offset_step t i j A.is.low l, F.short)
        | inr l ↦ let u = H.window_high (omega arith) (silent j) in absurd (omega (arith, low, offset_step t j i k.low (omega arith), F.short))
      ]
    ]

    -- head 1 would have sent before another head does
    sent_earlier : (i ≡ 1 → ⊥) → a.clock ≤ t.top + 2 * round t
    sent_earlier x = early_first t F a B (elim (same_or_not (a.phase 1) 2) [
      | inl p ↦ let q = (C.heads 1 (first_in t F)).window_high p (silent 1) in let r = B.heads 1 (first_in t F) in let y = A.is in absurd (omega (arith, low, offset_step t 1 i (omega arith) (omega arith), F.short))
      | inr p ↦ let q = C.heads 1 (first_in t F) in omega arith
    ])

    -- a head that has not started wakes after the last frame, so head 1 is not late
    all_cold : FirstLate t b → (j : ℕ) → In t j → (j ≡ i → ⊥) → a.phase j ≡ 2
    all_cold l j k x = let H = C.heads j k in elim (same_or_not (a.phase j) 2) [
      | inl p ↦ p
      | inr p ↦ let u = H.missed (omega arith) (silent j) in let v = F.last j k in elim (same_or_not 1 i) [
        | inl y ↦ let m = f 1 y in let q = (C.heads 1 (first_in t F)).window_high (was 1 y) (silent 1) in absurd (omega (arith, offset_one t, round_one t F.some, F.short))
        | inr y ↦ let r = A.rest 1 y in let q = (C.heads 1 (first_in t F)).window_high (omega arith) (silent 1) in absurd (omega (arith, offset_one t, round_one t F.some, F.short))
      ]
    ]
      where
        was : (j : ℕ) → j ≡ i → a.phase j ≡ 2
        was j y = rw y sender_cold

    -- so the frame may be taken
    opening : Opening t a b i 1
    opening = record {
      not_active = λ j k. (C.heads j k).not_active;
      first = λ j k x p. refl;
      flight = λ _. again_flight;
      sent_early = λ two. elim (cold_early t F a B e o again C two) [ inl l ↦ l | inr h ↦ let q = silent h.0 in let r = h.1 in absurd (omega arith) ];
      sent_earlier = λ two. sent_earlier;
      all_cold = λ two. all_cold;
    }

  -- Nobody is active, so no active timer is due.
  no_turn : (i : ℕ) → In t i → Turns t a b i → ⊥
  no_turn i k m = let H = C.heads i k in omega arith

  -- Every step from Cold.
  pub from_cold : Move t a b → Phase t b
  from_cold (advance m) = let s = m.calendar in let f = kept_same s in cold e o again record {
    sender = C.sender;
    frame = frame_kept f;
    heads = λ j k. head_still f j k (m.rest j) (s.hears_is j);
    sent_early = C.sent_early;
    sent_earlier = C.sent_earlier;
    all_hear = λ two l j k x. let r = m.rest 1 in let u = m.rest j in let v = s.hears_is j in
        let q = C.all_hear two (record { cold = omega arith; late = omega arith }) j k x in omega arith;
  }
  from_cold (listens i A f s) = cold_lone i (lone_same A s) (λ j x k. own_listens j k (s.hears_is j) (kept_same s) (f j x))
  from_cold (coldstarts i A f (taken m)) = cold a.clock i 1 (opens t F a b i 1 A f m (opening i A f (λ j. let q = m.quiet j in omega arith)))
  from_cold (coldstarts i A f (dropped h w m)) = let s = dropped_leaves m in cold_lone i (lone_leaves A s) (λ j x k. own_dropped j h k (s.gone j x) w (f j x))
  from_cold (turns i A f n s) = absurd (no_turn i A.is (f i refl))
  from_cold (speaks i A f n s) = absurd (no_turn i A.is (f i refl))
  from_cold (ignores i A h f) = cold_lone i (lone_leaves A h.leaves) (λ j x k. own_ignores j k (h.waits j x) (f j x))
  from_cold (follows i A h f) = cold_lone i (lone_leaves A h.leaves) (λ j x k. own_follows j (h.leaves.gone j x) (h.waits j x) h.now (f j x))
  from_cold (joins i A h f) = first_join t F a b B e o again C i A h f

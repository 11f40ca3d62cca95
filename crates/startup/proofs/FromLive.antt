-- Steps from Live: always to Live. The slot moves on with the first active head that turns, the witness with the head that sends.
use Rattle.std.proofs.Common.{ℕ, ◌+◌, ◌≤◌, ◌<◌, ◌≡◌, refl, sym, ◌∙◌, ap, inl, inr, arith}
use Rattle.rules.proofs.Each.{same_or_not, less_or_not}
use Rattle.startup.specs.World.{Tab, In, Fit, round, next_slot, distance, World, Still, SameCalendar, Taken, Sent, taken, dropped, Listens, Coldstarts, Turns, Ignores, Follows, Joins, Alone, Move, advance, listens, coldstarts, turns, speaks, ignores, follows, joins}
use Rattle.startup.proofs.Laws.{split, round_one, listener_wait_lem, distance_top, distance_next}
use Rattle.startup.proofs.Rules.{Rules, Kept, kept_same, Lone, lone_same, lone_leaves}
use Rattle.startup.proofs.Phases.{deadline, Witness, LiveFrame, LiveHead, Live, Phase, live, in_step, witness_in_step}

-- The witness has not sent yet, and sends within a round of the start of the slot.
pub sends_ahead : (t : Tab) → Fit t → (a : World) → Rules t a → (c e w d : ℕ) → Live t a c e w d → (a.clock ≤ d) × (d ≤ e + round t)
sends_ahead t F a B c e w d C = let W = C.witness in let r = B.heads w W.head in let s = F.short in elim (same_or_not (a.phase w) 3) [
  | inl p ↦ let q = W.active p in let g = distance_top t (a.slot w) w (r.active_slot p) W.head in let x = C.heads w W.head in elim (less_or_not e (a.timeout w)) [
    | inl l ↦ let y = x.in_slot p l in omega arith
    | inr l ↦ let y = x.turning p l in omega arith
  ]
  | inr p ↦ let m = W.started in let q = W.joining (omega arith) in let x = (C.frame w q.0).first_join q.1 in omega arith
]

module _ (t : Tab) (F : Fit t) (a b : World) (B : Rules t a) (c e w d : ℕ) (C : Live t a c e w d) where
  -- Both facts, of this state.
  ahead : (a.clock ≤ d) × (d ≤ e + round t)
  ahead = sends_ahead t F a B c e w d C

  -- The frame on the air stays that of slot c; the clock does not pass its delivery.
  frame_kept : Kept a b → a.clock ≤ b.clock → ((h : ℕ) → a.hears h ≡ 1 → b.clock ≤ a.delivery) → (h : ℕ) → b.hears h ≡ 1 → LiveFrame t b c e d
  frame_kept f up low h x = let r = f h x in let q = C.frame h r.0 in let y = B.frame h r.0 in let z = low h r.0 in record {
    origin_is = omega arith;
    sent_is = omega arith;
    first_join = λ p. let v = q.first_join (omega arith) in omega arith;
  }

  -- A head that stands still. Its flag matters unless it is active, and in init only if the witness is late.
  head_still : Kept a b → (j : ℕ) → In t j → Still a b j → (a.phase j ≤ 2 → (a.phase j ≡ 0 → deadline t < d) → b.hears j ≡ a.hears j) → LiveHead t b c e d j
  head_still f j k r s = let H = C.heads j k in record {
    in_slot = λ p x. let q = H.in_slot (omega arith) (omega arith) in omega arith;
    turning = λ p x. let q = H.turning (omega arith) (omega arith) in (ap (next_slot t) r.slot_is ∙ q.0, omega arith);
    waiting = λ p x y. let z = s (omega arith) (λ v. absurd (omega arith)) in let q = H.waiting (omega arith) (omega arith) (omega arith) in omega arith;
    hearing = λ p x y. let z = s (omega arith) (λ v. absurd (omega arith)) in let q = H.hearing (omega arith) (omega arith) (omega arith) in omega arith;
    owner = λ x g y z. let v = f g y in let q = H.owner x g v.0 (omega arith) in omega arith;
    joins_early = λ p l. let v = s (omega arith) (λ x. l) in let q = H.joins_early (omega arith) l in let z = f j (omega arith) in omega arith;
  }

  -- A witness that stands still, and still hears if it is to join.
  witness_still : Kept a b → Still a b w → (a.phase w ≡ 2 → b.hears w ≡ a.hears w) → Witness t b c e w d
  witness_still f r s = let W = C.witness in record {
    head = W.head;
    started = omega arith;
    active = λ p. let q = W.active (omega arith) in let g = ap (λ y. distance t y w) r.slot_is in omega arith;
    joining = λ p. let q = W.joining (omega arith) in let x = s (omega arith) in let z = f w (omega arith) in omega arith;
  }

  -- A step of head i that takes no frame and turns no slot, from what becomes of i.
  live_lone : (i : ℕ) → Lone t a b i → (w ≡ i → Witness t b c e w d) → ((j : ℕ) → j ≡ i → In t j → LiveHead t b c e d j) → Phase t b
  live_lone i L g f = let c= = L.clock_is in let x = C.begun in live c e w d record {
    two = C.two;
    begun = omega arith;
    witness = elim (same_or_not w i) [ inl y ↦ g y | inr y ↦ witness_still L.kept (L.rest w y) (λ p. L.hears_is w y) ];
    frame = frame_kept L.kept (omega arith) (λ h y. let q = B.frame h y in omega arith);
    heads = split (λ j. In t j → LiveHead t b c e d j) i f (λ j y k. head_still L.kept j k (L.rest j y) (λ p l. L.hears_is j y));
  }

  -- A head wakes: it listens past the witness's frame.
  own_listens : (j : ℕ) → In t j → b.hears j ≡ a.hears j → Kept a b → Listens t a b j → LiveHead t b c e d j
  own_listens j k s f m = let x = C.begun in let y = ahead in let v = round_one t F.some in let z = F.short in record {
    in_slot = λ p l. absurd (omega arith);
    turning = λ p l. absurd (omega arith);
    waiting = λ p q h. omega arith;
    hearing = λ p q h. omega arith;
    owner = λ o g h i. let u = f g h in let q = (C.heads j k).owner o g u.0 (omega arith) in let r = B.frame g u.0 in let n = C.frame g u.0 in absurd (omega arith);
    joins_early = λ p l. let q = (C.heads j k).joins_early (omega arith) l in let u = f j (omega arith) in omega arith;
  }

  -- A head in init or active lets the frame pass; in init, it is too early for the witness to be late.
  own_ignores : (j : ℕ) → In t j → Kept a b → Ignores a b j → LiveHead t b c e d j
  own_ignores j k f m = head_still f j k m.still (λ p l. elim (same_or_not (a.phase j) 0) [
    | inl x ↦ let q = B.heads j k in let v = q.init_wake x in let u = F.last j k in let y = ahead in let z = C.begun in let n = l x in absurd (omega arith)
    | inr x ↦ let q = m.was (omega arith) in absurd (omega arith)
  ])

  -- A listener hears the coldstart frame of the first join: it waits past the witness's frame.
  own_follows : (j : ℕ) → In t j → a.hears j ≡ 1 → b.hears j ≡ 0 → Kept a b → Follows t a b j → LiveHead t b c e d j
  own_follows j k x z f m = let q = (C.frame j x).first_join m.coldstart in let v = listener_wait_lem t j in let s = F.short in record {
    in_slot = λ p l. absurd (omega arith);
    turning = λ p l. absurd (omega arith);
    waiting = λ p l h. omega arith;
    hearing = λ p l h. absurd (omega arith);
    owner = λ o g h i. let u = f g h in absurd (omega arith);
    joins_early = λ p l. let u = (C.heads j k).joins_early (omega arith) l in absurd (omega arith);
  }

  -- A head that joins is in the sender's slot, which began with the sending.
  joined : (j : ℕ) → a.hears j ≡ 1 → a.delivery ≡ a.clock → Joins t a b j → (b.slot j ≡ c) × (b.timeout j ≡ e + t.s)
  joined j x n m = let f = C.frame j x in let r = B.frame j x in (omega arith, omega arith)

  -- So it is in step.
  own_joins : (j : ℕ) → a.hears j ≡ 1 → a.delivery ≡ a.clock → Joins t a b j → LiveHead t b c e d j
  own_joins j x n m = let q = joined j x n m in in_step t F b c e d j m.phase_is q.0 q.1

  -- If it is the witness, it sends when it was expected to.
  witness_joins : a.hears w ≡ 1 → a.delivery ≡ a.clock → Joins t a b w → Witness t b c e w d
  witness_joins x n m = let W = C.witness in let y = W.started in let z = W.joining (omega arith) in let q = joined w x n m in witness_in_step t F b c e w d W.head m.phase_is q.0 q.1 z.2

  -- A listener's or a coldstart timer is not due.
  no_start : (i : ℕ) → In t i → Coldstarts t a b i → ⊥
  no_start i k m = let H = C.heads i k in let y = ahead in elim (same_or_not (a.hears i) 1) [
    | inl x ↦ let q = H.hearing m.was_low m.was_high x in let f = C.frame i x in let r = B.frame i x in omega arith
    | inr x ↦ let z = B.flags i in let q = H.waiting m.was_low m.was_high (omega arith) in omega arith
  ]

  -- Head i turns to its next slot, which becomes the slot of Live and begins now.
  module _ (i : ℕ) (A : Alone t a b i) (f : (j : ℕ) → j ≡ i → Turns t a b j) where
    -- while a frame is on the air, that slot is c already
    turns_late : (h : ℕ) → a.hears h ≡ 1 → (b.slot i ≡ c) × (a.clock ≡ e)
    turns_late h x = let m = f i refl in let H = C.heads i A.is in let n = C.frame h x in let r = B.frame h x in let s = F.short in elim (less_or_not e (a.timeout i)) [
      | inl l ↦ let q = H.in_slot m.was l in absurd (omega arith)
      | inr l ↦ let q = H.turning m.was l in (m.slot_is ∙ q.0, omega arith)
    ]

    -- so the frame is no coldstart frame
    no_coldstart : (h : ℕ) → a.hears h ≡ 1 → a.kind ≡ 1 → ⊥
    no_coldstart h x k = let q = (C.frame h x).first_join k in let r = turns_late h x in let p = F.moving in omega arith

    -- another active head has turned already, or is about to
    record Beside (j : ℕ) : Type 0 where
      in_slot : a.clock < b.timeout j → (b.slot j ≡ b.slot i) × (b.timeout j ≡ a.clock + t.s)
      turning : b.timeout j ≤ a.clock → (next_slot t (b.slot j) ≡ b.slot i) × (b.timeout j ≡ a.clock)

    beside : (j : ℕ) → In t j → Still a b j → b.phase j ≡ 3 → Beside j
    beside j k r p = let m = f i refl in let H = C.heads i A.is in let G = C.heads j k in let n = C.begun in elim (less_or_not e (a.timeout i)) [
      | inl l ↦ let q = H.in_slot m.was l in let v = B.heads j k in let u = G.in_slot (omega arith) (omega arith) in record {
        in_slot = λ x. absurd (omega arith);
        turning = λ x. (ap (next_slot t) (r.slot_is ∙ u.0 ∙ sym q.0) ∙ sym m.slot_is, omega arith);
      }
      | inr l ↦ let q = H.turning m.was l in let v = B.heads i A.is in let c= = m.slot_is ∙ q.0 in record {
        in_slot = λ x. let u = G.in_slot (omega arith) (omega arith) in omega arith;
        turning = λ x. let u = G.turning (omega arith) (omega arith) in (ap (next_slot t) r.slot_is ∙ u.0 ∙ sym c=, omega arith);
      }
    ]

    -- head i has turned
    own_turns : (d' j : ℕ) → j ≡ i → LiveHead t b (b.slot i) a.clock d' j
    own_turns d' j x = in_step t F b (b.slot i) a.clock d' j (f j x).phase_is (ap b.slot x) (f j x).timeout_is

    -- the other heads, when no frame is sent
    turned : SameCalendar a b → (j : ℕ) → (j ≡ i → ⊥) → In t j → LiveHead t b (b.slot i) a.clock d j
    turned S j x k = let H = C.heads j k in let r = A.rest j x in let s = S.hears_is j in record {
      in_slot = λ p. (beside j k r p).in_slot;
      turning = λ p. (beside j k r p).turning;
      waiting = λ p l h. let q = H.waiting (omega arith) (omega arith) (omega arith) in omega arith;
      hearing = λ p l h. let q = H.hearing (omega arith) (omega arith) (omega arith) in let u = turns_late j (omega arith) in omega arith;
      owner = λ o g h z. let v = kept_same S g h in let u = turns_late g v.0 in let q = H.owner (o ∙ u.0) g v.0 (omega arith) in omega arith;
      joins_early = λ p l. let q = H.joins_early (omega arith) l in let u = turns_late j q.0 in let v = kept_same S j (omega arith) in omega arith;
    }

    -- the witness goes on towards its own slot
    witness_turns : SameCalendar a b → ((j : ℕ) → j ≡ i → b.slot j ≡ j → ⊥) → Witness t b (b.slot i) a.clock w d
    witness_turns S n = let W = C.witness in elim (same_or_not w i) [
      | inl x ↦ let m = f w x in let q = W.active m.was in let g = distance_next t (a.slot w) w ((B.heads w W.head).active_slot m.was) W.head (λ y. n w x (m.slot_is ∙ y)) in
          let v = ap (λ y. distance t y w) m.slot_is in record { head = W.head; started = omega arith; active = λ p. omega arith; joining = λ p. absurd (omega arith) }
      | inr x ↦ let r = A.rest w x in record {
        head = W.head;
        started = omega (arith, W.started);
        active = λ p. let q = W.active (omega arith) in let g = ap (λ y. distance t y w) r.slot_is in omega arith;
        joining = λ p. let q = W.joining (omega arith) in absurd (no_coldstart w q.0 q.1);
      }
    ]

    -- the new slot, with no frame sent
    after_turn : SameCalendar a b → ((j : ℕ) → j ≡ i → b.slot j ≡ j → ⊥) → Phase t b
    after_turn S n = live (b.slot i) a.clock w d record {
      two = C.two;
      begun = omega (arith, A.clock_is);
      witness = witness_turns S n;
      frame = λ h x. let v = kept_same S h x in let u = turns_late h v.0 in let q = C.frame h v.0 in
          record { origin_is = omega arith; sent_is = omega arith; first_join = λ y. absurd (no_coldstart h v.0 (omega arith)) };
      heads = split (λ j. In t j → LiveHead t b (b.slot i) a.clock d j) i (λ j x k. own_turns d j x) (turned S);
    }

    -- the other heads, when head i sends: all of them hear it, and they had waited for the witness
    told : b.slot i ≡ i → Taken t a b i 2 → (d' j : ℕ) → (j ≡ i → ⊥) → In t j → LiveHead t b (b.slot i) a.clock d' j
    told o S d' j x k = let H = C.heads j k in let r = A.rest j x in let h = S.others j x k in let n = S.frame j h in let z = S.quiet j in let y = ahead in record {
      in_slot = λ p. (beside j k r p).in_slot;
      turning = λ p. (beside j k r p).turning;
      waiting = λ p l v. absurd (omega arith);
      hearing = λ p l v. let q = H.waiting (omega arith) (omega arith) (omega arith) in omega arith;
      owner = λ u. absurd (x (u ∙ o));
      joins_early = λ p l. elim (less_or_not (deadline t) d) [ inl u ↦ let q = H.joins_early (omega arith) u in absurd (omega arith) | inr u ↦ omega arith ];
    }

    -- the new slot, with head i as the sender and the new witness; its frame is not dropped
    after_send : ((j : ℕ) → j ≡ i → b.slot j ≡ j) → Sent t a b i 2 → Phase t b
    after_send o (taken S) = let m = f i refl in let d' : ℕ = b.timeout i + distance t (b.slot i) i in live (b.slot i) a.clock i d' record {
      two = C.two;
      begun = omega (arith, A.clock_is);
      witness = record { head = A.is; started = omega arith; active = λ p. refl; joining = λ p. absurd (omega arith) };
      frame = λ h x. let n = S.frame h x in let q = o i refl in record { origin_is = omega arith; sent_is = omega arith; first_join = λ y. absurd (omega arith) };
      heads = split (λ j. In t j → LiveHead t b (b.slot i) a.clock d' j) i (λ j x k. own_turns d' j x) (told (o i refl) S d');
    }
    after_send o (dropped h x S) = let m = f i refl in let u = turns_late h x in let r = B.frame h x in let p = F.short in elim (same_or_not a.kind 1) [
      | inl y ↦ absurd (no_coldstart h x y)
      | inr y ↦ let q = (C.heads i A.is).owner (sym (o i refl) ∙ u.0) h x (omega arith) in absurd (omega arith)
    ]

  -- Every step from Live.
  pub from_live : Move t a b → Phase t b
  from_live (advance m) = let s = m.calendar in let f = kept_same s in let x = C.begun in live c e w d record {
    two = C.two;
    begun = omega arith;
    witness = witness_still f (m.rest w) (λ p. s.hears_is w);
    frame = frame_kept f (omega arith) (λ h y. let q = m.frame h y in omega arith);
    heads = λ j k. head_still f j k (m.rest j) (λ p l. s.hears_is j);
  }
  from_live (listens i A f s) = live_lone i (lone_same A s) (λ x. let m = f w x in let q = C.witness.started in absurd (omega arith)) (λ j x k. own_listens j k (s.hears_is j) (kept_same s) (f j x))
  from_live (coldstarts i A f s) = absurd (no_start i A.is (f i refl))
  from_live (turns i A f n s) = after_turn i A f s (λ j x y. n j x (omega arith))
  from_live (speaks i A f o s) = after_send i A f (λ j x. let y = o j x in omega arith) s
  from_live (ignores i A h f) = let L = lone_leaves A h.leaves in live_lone i L (λ x. let m = f w x in witness_still L.kept m.still (λ p. let q = m.was (omega arith) in absurd (omega arith)))
      (λ j x k. own_ignores j k L.kept (f j x))
  from_live (follows i A h f) = let L = lone_leaves A h.leaves in live_lone i L (λ x. let m = f w x in let q = C.witness.started in absurd (omega arith))
      (λ j x k. own_follows j k (h.waits j x) (h.leaves.gone j x) L.kept (f j x))
  from_live (joins i A h f) = live_lone i (lone_leaves A h.leaves) (λ x. witness_joins (h.waits w x) h.now (f w x)) (λ j x k. own_joins j (h.waits j x) h.now (f j x))

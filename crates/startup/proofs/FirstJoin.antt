-- From Cold to Live: the first head hears a frame in coldstart and joins.
use Rattle.std.proofs.Common.{ℕ, ◌+◌, ◌*◌, ◌≤◌, ◌<◌, ◌≡◌, refl, sym, ◌∙◌, ap, inl, inr, arith}
use Rattle.rules.proofs.Each.{same_or_not, less_or_not}
use Rattle.startup.specs.World.{Tab, In, Fit, round, distance, World, Joins, Alone, Hears}
use Rattle.startup.proofs.Laws.{split, first_in, distance_far, distance_two}
use Rattle.startup.proofs.Rules.{Rules, Lone, lone_leaves}
use Rattle.startup.proofs.Phases.{FirstLate, Cold, deadline, Witness, LiveHead, Live, Phase, live, in_step, witness_in_step}

module _ (t : Tab) (F : Fit t) (a b : World) (B : Rules t a) (e o again : ℕ) (C : Cold t a e o again) (i : ℕ) (A : Alone t a b i) (h : Hears a b i) (f : (j : ℕ) → j ≡ i → Joins t a b j) where
  -- The joining takes no frame.
  L : Lone t a b i
  L = lone_leaves A h.leaves

  -- Head i was about to hear the frame.
  waits : a.hears i ≡ 1
  waits = h.waits i refl

  -- It was in coldstart, for a listener is not told by a coldstart frame.
  was_cold : a.phase i ≡ 2
  was_cold = let m = f i refl in elim (same_or_not (a.phase i) 1) [ inl p ↦ absurd (m.was_told p (C.frame i waits).kind_is) | inr p ↦ omega arith ]

  -- A hearer is not the sender.
  not_sender : (w : ℕ) → a.hears w ≡ 1 → o ≡ w → ⊥
  not_sender w x y = (B.frame w x).deaf_sender ((C.frame w x).origin_is ∙ y)

  -- So there are two heads.
  two : 2 ≤ t.n
  two = let k = A.is in let l = C.sender in let x = not_sender i waits in omega arith

  -- The head that joins is in the sender's slot, which began with the sending.
  on : (j : ℕ) → j ≡ i → (b.slot j ≡ o) × (b.timeout j ≡ e + t.s)
  on j x = let m = f j x in let c = C.frame i waits in let r = B.frame i waits in let n = h.now in (omega arith, omega arith)

  -- The witness w, which sends at d: in coldstart, about to hear the frame, and in time.
  record Chosen (w d : ℕ) : Type 0 where
    head : In t w
    cold : a.phase w ≡ 2
    waits : a.hears w ≡ 1
    sends : e + t.s + distance t o w ≡ d
    early : d ≤ deadline t

  -- A frame sent late is head 1's.
  late_first : t.top + 2 * round t < e → o ≡ 1
  late_first l = elim (same_or_not o 1) [ inl x ↦ x | inr x ↦ let q = C.sent_earlier two x in absurd (omega arith) ]

  -- Then head 1 is late.
  late : t.top + 2 * round t < e → FirstLate t a
  late l = let x = late_first l in let H = C.heads 1 (first_in t F) in let p = H.last_sender (sym x) in elim (same_or_not (a.hears 1) 1) [
    | inl y ↦ absurd (not_sender 1 y x)
    | inr y ↦ let z = B.flags 1 in let q = H.window_low p (omega arith) in record { cold = p; late = omega arith }
  ]

  -- In that case the witness is head 2, whose slot comes next; otherwise the head that joins now.
  choose : (w : ℕ) × Chosen w (e + t.s + distance t o w)
  choose = elim (less_or_not (t.top + 2 * round t) e) [
    | inl l ↦ let k : In t 2 = record { low = omega arith; high = two } in let x = late_first l in let q = C.all_hear two (late l) 2 k (λ y. absurd (omega arith)) in
        let d = ap (λ y. distance t y 2) x in let r = C.sent_early two in (2, record { head = k; cold = q.0; waits = q.1; sends = refl; early = omega (arith, d, distance_two t) })
    | inr l ↦ let d = distance_far t o i C.sender A.is (not_sender i waits) in (i, record { head = A.is; cold = was_cold; waits = waits; sends = refl; early = omega arith })
  ]

  module _ (w d : ℕ) (W : Chosen w d) where
    -- The witness sends at least a slot before the round is over.
    soon : d + t.s ≤ e + round t
    soon = omega (arith, distance_far t o w C.sender W.head (not_sender w W.waits))

    -- The other heads are not active yet.
    other : (j : ℕ) → In t j → (j ≡ i → ⊥) → LiveHead t b o e d j
    other j k x = let H = C.heads j k in let r = L.rest j x in let s = L.hears_is j x in record {
      in_slot = λ p y. absurd (omega arith);
      turning = λ p y. absurd (omega arith);
      waiting = λ p y z. elim (same_or_not (a.phase j) 1) [
        | inl q ↦ let u = H.missed (omega arith) (omega arith) in let v = (B.heads j k).listen_wake q in omega (arith, soon, F.short)
        | inr q ↦ let u = H.window_low (omega arith) (omega arith) in omega (arith, soon, F.short)
      ];
      hearing = λ p y z. let q = H.flight ((C.heads i A.is).cold_hearer was_cold waits) i waits (omega arith) in omega arith;
      owner = λ p g y z. let q = L.kept g y in let c = C.frame g q.0 in absurd (omega arith);
      joins_early = λ p l. absurd (omega (arith, W.early));
    }

    -- The witness joins now, or is still to hear the same frame.
    witness : Witness t b o e w d
    witness = elim (same_or_not w i) [
      | inl x ↦ let q = on w x in witness_in_step t F b o e w d W.head (f w x).phase_is q.0 q.1 W.sends
      | inr x ↦ let r = L.rest w x in let s = L.hears_is w x ∙ W.waits in let c = C.frame w W.waits in let q = L.kept w s in
          record { head = W.head; started = omega arith; active = λ p. absurd (omega arith); joining = λ p. (s, omega arith, W.sends) }
    ]

    -- The slot of Live is the sender's, and began with the sending.
    joined : Live t b o e w d
    joined = let c = C.frame i waits in let r = B.frame i waits in let n = h.now in let c= = A.clock_is in record {
      two = two;
      begun = omega arith;
      witness = witness;
      frame = λ g x. let q = L.kept g x in record { origin_is = omega arith; sent_is = omega arith; first_join = λ y. (omega arith, soon) };
      heads = split (λ j. In t j → LiveHead t b o e d j) i (λ j x k. let q = on j x in in_step t F b o e d j (f j x).phase_is q.0 q.1) (λ j x k. other j k x);
    }

  -- The first head joins.
  pub first_join : Phase t b
  first_join = live o e choose.0 _ (joined choose.0 _ choose.1)

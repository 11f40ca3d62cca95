-- Steps from Quiet: to Quiet, and to Cold by the first coldstart frame.
use Rattle.std.proofs.Common.{ℕ, ◌+◌, ◌*◌, ◌≤◌, ◌≡◌, refl, inl, inr, arith}
use Rattle.rules.proofs.Each.{same_or_not}
use Rattle.startup.specs.World.{Tab, Fit, round, World, taken, dropped, Coldstarts, Alone, Hears, Move, advance, listens, coldstarts, turns, speaks, ignores, follows, joins}
use Rattle.startup.proofs.Laws.{first_in, offset_one}
use Rattle.startup.proofs.Rules.{Rules, early_first}
use Rattle.startup.proofs.Phases.{Quiet, FirstLate, Phase, quiet, cold}
use Rattle.startup.proofs.Opening.{Opening, opens}

module _ (t : Tab) (F : Fit t) (a b : World) (B : Rules t a) (C : Quiet t a) where
  -- Nobody hears in Quiet.
  no_hearer : (i : ℕ) → Hears a b i → ⊥
  no_hearer i h = let w = h.waits i refl in let q = C.silent i in omega arith

  -- The first coldstart frame may be taken: head 1 has not started, so it is early.
  opening : (i : ℕ) → Alone t a b i → ((j : ℕ) → j ≡ i → Coldstarts t a b j) → Opening t a b i 0
  opening i A f = record {
    not_active = λ j k. let q = C.nobody_started j k in omega arith;
    first = λ j k e p. let q = C.nobody_started j k in absurd (omega arith);
    flight = λ g. absurd (omega arith);
    sent_early = λ two. omega (arith, soon);
    sent_earlier = λ two e. soon;
    all_cold = λ two l j k e. absurd (not_late l);
  }
    where
      soon : a.clock ≤ t.top + 2 * round t
      soon = early_first t F a B (C.nobody_started 1 (first_in t F))

      not_late : FirstLate t b → ⊥
      not_late l = elim (same_or_not 1 i) [
        | inl e ↦ let q = f 1 e in omega (arith, offset_one t, soon)
        | inr e ↦ let r = A.rest 1 e in let q = C.nobody_started 1 (first_in t F) in omega arith
      ]

  -- Every step from Quiet.
  pub from_quiet : Move t a b → Phase t b
  from_quiet (advance m) = quiet record {
    silent = λ j. let q = m.calendar.hears_is j in let r = C.silent j in omega arith;
    nobody_started = λ j k. let q = m.rest j in let r = C.nobody_started j k in omega arith;
  }
  from_quiet (listens i A f s) = quiet record {
    silent = λ j. let q = s.hears_is j in let r = C.silent j in omega arith;
    nobody_started = λ j k. elim (same_or_not j i) [ inl e ↦ let q = f j e in omega arith | inr e ↦ let q = A.rest j e in let r = C.nobody_started j k in omega arith ];
  }
  from_quiet (coldstarts i A f (taken m)) = cold a.clock i 0 (opens t F a b i 0 A f m (opening i A f))
  from_quiet (coldstarts i A f (dropped h e m)) = let q = C.silent h in absurd (omega arith)
  from_quiet (turns i A f o s) = let w = f i refl in let q = C.nobody_started i A.is in absurd (omega arith)
  from_quiet (speaks i A f o s) = let w = f i refl in let q = C.nobody_started i A.is in absurd (omega arith)
  from_quiet (ignores i A h f) = absurd (no_hearer i h)
  from_quiet (follows i A h f) = absurd (no_hearer i h)
  from_quiet (joins i A h f) = absurd (no_hearer i h)

-- Document 01, "Bench sheet": "C1 to C13 are proved of the rules together, as one list under one theorem".
use Rattle.std.specs.Prelude.{◌≡◌, ℕ, replicate}
use Rattle.hearers.specs.Set.{alone}
use Rattle.words.specs.declared.Step.{Step}
use Rattle.words.specs.declared.Step.TheVariants.{Advance, Timer, Hear}
use Rattle.words.specs.Pair.{step_of}
use Rattle.rules.specs.declared.Phase.TheVariants.{Coldstart, Active}
use Rattle.rules.specs.declared.State.{State}
use Rattle.rules.specs.declared.Table.{Table}
use Rattle.rules.specs.Calendar.{i_frame, empty_calendar}
use Rattle.rules.specs.State.{head_in, head_of, timeout_of, fresh}
use Rattle.rules.specs.Judge.{refusal, judged}
use Rattle.sheet.specs.Tables.{table_e, table_f, refusals, lines, listing, steps_e, at_e, at_f}

-- the step is accepted in the state, and the clock there is c
abbrev pub AcceptedAt : ℕ → Table → State → Step → Type 0
AcceptedAt c t s x = (s.clock ≡ c) × (refusal t s x ≡ 0)

pub record Sheet : Type 0 where
  -- "Table E, along the listing: C1 fresh timeouts 3, 5."
  pub c1 : (timeout_of (fresh table_e) 1 ≡ 3) × (timeout_of (fresh table_e) 2 ≡ 5)
  -- "C2 advance from fresh gives clock 3."
  pub c2 : (refusal table_e (fresh table_e) Advance ≡ 0) × ((judged table_e (fresh table_e) Advance).clock ≡ 3)
  -- "C3 timer 1 on fresh: 9."
  pub c3 : refusal table_e (fresh table_e) (Timer 1) ≡ 9
  -- "C4 hear 2 on fresh: 10."
  pub c4 : refusal table_e (fresh table_e) (Hear 2) ≡ 10
  -- "C5 advance at clock 3 before timer 1: 8."
  pub c5 : ((at_e 1).clock ≡ 3) × (refusal table_e (at_e 1) Advance ≡ 8)
  -- "C6 timer 1 at 43: frame kind 1, origin 1, delivery 45, hearer 2."
  pub c6 : AcceptedAt 43 table_e (at_e 5) (Timer 1) × ((at_e 6).calendar ≡ record { hearers = alone 2; kind = 1; origin = 1; sent = 43; delivery = 45 })
  -- "C7 hear 2 at 45: coldstart, 75, calendar empty."
  pub c7 : AcceptedAt 45 table_e (at_e 7) (Hear 2) × (head_of (at_e 8).heads 2 ≡ head_in Coldstart 75) × ((at_e 8).calendar ≡ empty_calendar)
  -- "C8 hear 2 at 65: active, slot 1, 73."
  pub c8 : AcceptedAt 65 table_e (at_e 11) (Hear 2) × (head_of (at_e 12).heads 2 ≡ head_in (Active 1) 73)
  -- "C9 timer 2 at 73: slot 2, i-frame sent, 83."
  pub c9 : AcceptedAt 73 table_e (at_e 13) (Timer 2) × (head_of (at_e 14).heads 2 ≡ head_in (Active 2) 83) × ((at_e 14).calendar ≡ record { hearers = alone 1; kind = i_frame; origin = 2; sent = 73; delivery = 75 })
  -- "C10 hear 1 at 75: active, slot 2, 83."
  pub c10 : AcceptedAt 75 table_e (at_e 15) (Hear 1) × (head_of (at_e 16).heads 1 ≡ head_in (Active 2) 83)
  -- "Table F: head 1 sends at 81 and C11 timer 2 at 82 is dropped, head 2 has timeout 122, hearers only 3, origin still 1."
  pub c11 : AcceptedAt 81 table_f (at_f 7) (Timer 1) × AcceptedAt 82 table_f (at_f 9) (Timer 2) × (timeout_of (at_f 10) 2 ≡ 122) × ((at_f 10).calendar ≡ record { hearers = alone 3; kind = 1; origin = 1; sent = 81; delivery = 83 })
  -- "C12 hear 3 at 83: coldstart, 133."
  pub c12 : AcceptedAt 83 table_f (at_f 11) (Hear 3) × (head_of (at_f 12).heads 3 ≡ head_in Coldstart 133)
  -- "C13 step 0,1: 7."
  pub c13 : (refusal table_e (fresh table_e) (step_of 0 1) ≡ 7) × (refusal table_f (fresh table_f) (step_of 0 1) ≡ 7)
  -- the listing of table E, line by line, and its last: "END 17 0"
  pub listed : (lines table_e (fresh table_e) steps_e ≡ listing) × (refusals table_e (fresh table_e) steps_e ≡ replicate 17 0)

-- The theorem is not empty, and its bound is sharp: runs by computation, of document 01's table E and of a table that comes to the bound.
use Rattle.std.proofs.Common.{◌+◌, ◌≡◌, refl, sym, subst, Bool, true, false, ◌&&◌, List, [], ◌∷◌, ◌++◌, append-nil, append_assoc, eqb, replicate, eqb-true}
use Rattle.hearers.specs.Set.{has, alone, without, all_but}
use Rattle.words.specs.declared.Step.{Step}
use Rattle.words.specs.declared.Step.TheVariants.{Advance, Timer, Hear}
use Rattle.words.specs.Refusal.{unless, first_refusal}
use Rattle.rules.specs.declared.Phase.TheVariants.{Coldstart, Active}
use Rattle.rules.specs.declared.State.{State}
use Rattle.rules.specs.declared.Table.{Table}
use Rattle.rules.specs.Each.{every, some}
use Rattle.rules.specs.Table.{is_head, round, offset, wake_of, numbers_fit, wake_fits, table_fits, table_refusal}
use Rattle.rules.specs.Calendar.{quiet, hears, hear_due, settled, left, taken, send, delivery_due, all_zero, frame_fits, calendar_fits}
use Rattle.rules.specs.State.{phase_of, timeout_of, head_of, put, listen_wait, coldstart_wait, phase_fits, head_fits, is_zero, place_fits, front_fits, state_fits, state_refusal, fresh}
use Rattle.rules.specs.Step.{timer_due, due, least_timeout, next_instant, advance, slot_after, timer_head, timer_frame, sends, timer, listener_wait, hear_head, hear, moved}
use Rattle.rules.specs.Judge.{name_refusal, due_refusal, last_refusal, step_refusal, state_after, refusal, judged}
use Rattle.rules.proofs.Each.{and_true}
use Rattle.startup.specs.Demand.{Run, power_up, then, played_from, played, last_of, last_wake, six_rounds, bound}

-- ---- steps that are all accepted make a run

-- whether each of the steps is accepted in its turn
unfoldable accepts : Table → State → List Step → Bool
accepts t s [] = true
accepts t s (x ∷ xs) = eqb (refusal t s x) 0 && accepts t (judged t s x) xs

run_on : (t : Table) (xs : List Step) {ys : List Step} {s : State} → Run t ys s → accepts t s xs ≡ true → Run t (ys ++ xs) (played_from t s xs)
unfolding accepts played_from
run_on t [] {ys} {s} r e = subst (λ zs. Run t zs s) (sym (append-nil ys)) r
run_on t (x ∷ xs) {ys} {s} r e = let q = and_true (eqb (refusal t s x) 0) _ e in
    subst (λ zs. Run t zs (played_from t (judged t s x) xs)) (append_assoc ys (x ∷ []) xs) (run_on t xs (then r x (eqb-true _ _ q.0)) q.1)

-- ---- the runs

-- "Table E: N 2, S 10, P 2, wakes 3 and 5": sixteen of the listing's seventeen steps, and the seventeenth
abbrev pub table_e : Table
table_e = record { n = 2; s = 10; p = 2; wakes = 3 ∷ 5 ∷ replicate 62 0 }

abbrev pub sixteen : List Step
sixteen = Advance ∷ Timer 1 ∷ Advance ∷ Timer 2 ∷ Advance ∷ Timer 1 ∷ Advance ∷ Hear 2 ∷ Advance ∷ Timer 1 ∷ Advance ∷ Hear 2 ∷ Advance ∷ Timer 2 ∷ Advance ∷ Hear 1 ∷ []

abbrev pub listing : List Step
listing = sixteen ++ (Advance ∷ [])

-- at 83 both timers are due; head 1's comes first
abbrev pub half_turned : List Step
half_turned = listing ++ (Timer 1 ∷ [])

-- two slots: both heads turn, head 1 is heard; both turn, head 2 is heard
abbrev two_slots : List Step
two_slots = Timer 1 ∷ Timer 2 ∷ Advance ∷ Hear 2 ∷ Advance ∷ Timer 1 ∷ Timer 2 ∷ Advance ∷ Hear 1 ∷ Advance ∷ []

abbrev pub six_later : List Step
six_later = listing ++ (two_slots ++ (two_slots ++ (Timer 1 ∷ Timer 2 ∷ Advance ∷ [])))

-- N 2, S 5, P 2, both wakes 1: head 1 starts at 21 and again at 31, head 2 joins at 33 and sends at 36, and head 1 is to join at 38
abbrev pub table_b : Table
table_b = record { n = 2; s = 5; p = 2; wakes = 1 ∷ 1 ∷ replicate 62 0 }

abbrev pub to_bound : List Step
to_bound = Advance ∷ Timer 1 ∷ Timer 2 ∷ Advance ∷ Timer 1 ∷ Advance ∷ Hear 2 ∷ Advance ∷ Timer 1 ∷ Advance ∷ Hear 2 ∷ Advance ∷ Timer 2 ∷ Advance ∷ []

-- ---- what they come to

-- nothing is due, and both heads are active, in slot 2 until 83
pub record BothAgreed (s : State) : Type 0 where
  pub run : Run table_e sixteen s
  pub idle : due table_e s ≡ false
  pub one : (phase_of s 1 ≡ Active 2) × (timeout_of s 1 ≡ 83)
  pub two : (phase_of s 2 ≡ Active 2) × (timeout_of s 2 ≡ 83)

-- head 1 has turned and head 2 has not: why agreement is asked only where nothing is due
pub record NotYetAgreed (s : State) : Type 0 where
  pub run : Run table_e half_turned s
  pub due : due table_e s ≡ true
  pub one : phase_of s 1 ≡ Active 1
  pub two : phase_of s 2 ≡ Active 2

-- the clock stands six rounds past the latest wake
pub record SixLater (s : State) : Type 0 where
  pub run : Run table_e six_later s
  pub late : s.clock ≡ last_wake table_e + six_rounds table_e

-- the clock stands at the bound, and head 1 is not active
pub record AtBound (s : State) : Type 0 where
  pub run : Run table_b to_bound s
  pub late : s.clock ≡ bound table_b
  pub one : phase_of s 1 ≡ Coldstart

pub reached : Run table_e listing (played table_e listing) × BothAgreed (played table_e sixteen) × NotYetAgreed (played table_e half_turned) × SixLater (played table_e six_later) × AtBound (played table_b to_bound)
unfolding accepts played_from last_of every some unless first_refusal is_head round offset wake_of numbers_fit wake_fits table_fits table_refusal quiet hears hear_due settled left taken send delivery_due all_zero frame_fits calendar_fits head_of put listen_wait coldstart_wait phase_fits head_fits is_zero place_fits front_fits state_fits state_refusal fresh timer_due due least_timeout next_instant advance slot_after timer_head timer_frame sends timer listener_wait hear_head hear moved name_refusal due_refusal last_refusal step_refusal state_after refusal judged has alone without all_but
reached = (
  run_on table_e listing power_up refl,
  record { run = run_on table_e sixteen power_up refl; idle = refl; one = (refl, refl); two = (refl, refl) },
  record { run = run_on table_e half_turned power_up refl; due = refl; one = refl; two = refl },
  record { run = run_on table_e six_later power_up refl; late = refl },
  record { run = run_on table_b to_bound power_up refl; late = refl; one = refl },
)

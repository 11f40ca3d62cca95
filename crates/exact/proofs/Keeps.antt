-- An accepted step keeps the state rules, from every state that fits; a refused one returns the given state.
use Rattle.std.proofs.Common.{refl, sym, ap, subst, ◌∙◌, inl, inr, ℕ, ◌≤◌, arith, eqb, ltb, ltb-true, ne_eqb}
use Rattle.std.proofs.Math.ListN.{length-map}
use Rattle.words.specs.declared.Step.{Step}
use Rattle.words.specs.declared.Step.TheVariants.{Advance, Timer, Hear}
use Rattle.rules.specs.declared.Phase.{Phase}
use Rattle.rules.specs.declared.Phase.TheVariants.{Init, Listen, Coldstart, Active}
use Rattle.rules.specs.declared.Head.{Head}
use Rattle.rules.specs.declared.Calendar.{Calendar}
use Rattle.rules.specs.declared.State.{State}
use Rattle.rules.specs.declared.Table.{Table}
use Rattle.rules.specs.Limits.{ceiling}
use Rattle.rules.specs.Calendar.{coldstart_frame, i_frame}
use Rattle.rules.specs.State.{head_in, head_of, put, phase_of, timeout_of, fresh}
use Rattle.rules.specs.Step.{next_instant, advance, slot_after, timer_head, timer_frame, timer, listener_wait, joined, hear_head, hear, moved}
use Rattle.rules.specs.Judge.{state_after, refusal, judged}
use Rattle.rules.specs.Conditions.{IsHead, TableMeets, Hears, PhaseMeets, StateMeets, Enabled}
use Rattle.rules.proofs.Each.{same_or_not, either_or_not}
use Rattle.rules.proofs.Meaning.{meets_state, hearer_waits, CalendarMeets}
use Rattle.rules.proofs.Moves.{put_same, put_other, put_length, fresh_head, empty_meets, left_meets, sends_meets, next_timeout, next_delivery, clock_next}
use Rattle.exact.specs.Claims.{Keeps, AcceptedMoves, KeepsJudged, RefusedStays, FreshMeets}
use Rattle.exact.proofs.Enabled.{next_low, enabled_is, accepted_exactly}

-- what the rules say of one head
record HeadMeets (t : Table) (clock i : ℕ) (h : Head) : Type 0 where
  ahead : clock ≤ h.timeout
  phase : PhaseMeets t clock i h.timeout h.phase

-- ---- a head after its timer, and after a hearing

-- the slot after a head's is a head's
slot_meets : (t : Table) (k : ℕ) → 1 ≤ t.n → IsHead t k → IsHead t (slot_after t k)
unfolding slot_after
slot_meets t k n h = elim (either_or_not (ltb k t.n)) [
  | inl e ↦ let l = ltb-true k t.n e in rw e record { low = omega arith; high = omega arith }
  | inr e ↦ rw e record { low = omega arith; high = n }
]

-- the head after its timer meets the rules, and what it sends is a frame
timer_meets : (t : Table) (clock i e : ℕ) (p : Phase) → 1 ≤ t.n → PhaseMeets t clock i e p → HeadMeets t clock i (timer_head t clock i p)
unfolding timer_head PhaseMeets
timer_meets t clock i e Init n m = record { ahead = omega arith; phase = omega arith }
timer_meets t clock i e Listen n m = record { ahead = omega arith; phase = omega arith }
timer_meets t clock i e Coldstart n m = record { ahead = omega arith; phase = omega arith }
timer_meets t clock i e (Active k) n m = record { ahead = omega arith; phase = (omega arith, slot_meets t k n m.1) }

timer_kind : (t : Table) (i : ℕ) (p : Phase) → timer_frame t i p ≤ i_frame
unfolding timer_frame
timer_kind t i Init = omega arith
timer_kind t i Listen = omega arith
timer_kind t i Coldstart = omega arith
timer_kind t i (Active k) = elim (either_or_not (eqb (slot_after t k) i)) [ inl e ↦ rw e (omega arith) | inr e ↦ rw e (omega arith) ]

-- the head that joins, and every head that hears, meets the rules
joined_meets : (t : Table) (clock i : ℕ) (c : Calendar) → TableMeets t → IsHead t c.origin → HeadMeets t clock i (joined t clock c)
unfolding PhaseMeets
joined_meets t clock i c f o = let q = f.short in record { ahead = omega arith; phase = (omega arith, o) }

hear_meets : (t : Table) (clock i : ℕ) (c : Calendar) (h : Head) (p : Phase) → TableMeets t → IsHead t c.origin → HeadMeets t clock i h → HeadMeets t clock i (hear_head t clock i c h p)
unfolding hear_head listener_wait PhaseMeets
hear_meets t clock i c h Init f o m = m
hear_meets t clock i c h Listen f o m = elim (either_or_not (eqb c.kind coldstart_frame)) [
  | inl e ↦ rw e record { ahead = omega arith; phase = omega arith }
  | inr e ↦ rw e (joined_meets t clock i c f o)
]
hear_meets t clock i c h Coldstart f o m = joined_meets t clock i c f o
hear_meets t clock i c h (Active k) f o m = m

-- what the rules say of a phase, they say at every later clock
phase_later : (t : Table) (clock later i e : ℕ) (p : Phase) → clock ≤ later → PhaseMeets t clock i e p → PhaseMeets t later i e p
unfolding PhaseMeets
phase_later t clock later i e Init l q = q
phase_later t clock later i e Listen l q = omega arith
phase_later t clock later i e Coldstart l q = omega arith
phase_later t clock later i e (Active k) l q = (omega (arith, q.0), q.1)

-- ---- a state after a step

module _ (t : Table) (s : State) (f : TableMeets t) (m : StateMeets t s) where
  -- the rules' words about the calendar, and about one head
  its_calendar : CalendarMeets t s.clock s.calendar
  its_calendar = record { empty = m.empty; few = m.few; frame = m.frame }

  its_head : (i : ℕ) → IsHead t i → HeadMeets t s.clock i (head_of s.heads i)
  its_head i h = record { ahead = m.ahead i h; phase = m.phases i h }

  -- another calendar and another head i, both within the rules, keep the state within them
  keeps_put : (i : ℕ) (h : Head) (c : Calendar) → IsHead t i → HeadMeets t s.clock i h → CalendarMeets t s.clock c → StateMeets t record { clock = s.clock; n = s.n; calendar = c; heads = put s.heads i h }
  keeps_put i h c k q r = record {
    places = put_length s.heads i h ∙ m.places;
    clock = m.clock;
    count = m.count;
    empty = r.empty;
    few = r.few;
    frame = r.frame;
    ahead = λ j l. (place j l).ahead;
    phases = λ j l. (place j l).phase;
    spare = λ j l. put_other s.heads i j h (let a = k.high in omega arith) ∙ m.spare j l;
  }
    where
      place : (j : ℕ) → IsHead t j → HeadMeets t s.clock j (head_of (put s.heads i h) j)
      place j l = elim (same_or_not j i) [
        | inl e ↦ rw e (subst (HeadMeets t s.clock i) (sym (put_same s.heads i h k.low (let a = k.high in let b = f.heads in let d = m.places in omega arith))) q)
        | inr n ↦ subst (HeadMeets t s.clock j) (sym (put_other s.heads i j h n)) (its_head j l)
      ]

  -- no timeout and no delivery is before the next instant
  keeps_advance : next_instant t s ≤ ceiling → StateMeets t (advance t s)
  unfolding advance
  keeps_advance l = record {
    places = m.places;
    clock = l;
    count = m.count;
    empty = m.empty;
    few = m.few;
    frame = λ n. let r = m.frame n in record {
      kind = r.kind;
      origin = r.origin;
      deaf = r.deaf;
      flight = r.flight;
      sent = let a = r.sent in let b = clock_next t s f m in omega arith;
      ahead = next_delivery t s n;
    };
    ahead = next_timeout t s;
    phases = λ i h. phase_later t s.clock (next_instant t s) i (timeout_of s i) (phase_of s i) (clock_next t s f m) (m.phases i h);
    spare = m.spare;
  }

  -- whether or not the timer is due
  keeps_timer : (i : ℕ) → IsHead t i → StateMeets t (timer t s i)
  unfolding timer
  keeps_timer i h = keeps_put i _ _ h (timer_meets t s.clock i (timeout_of s i) (phase_of s i) f.some_head (m.phases i h)) (sends_meets t s.clock _ i s.calendar (timer_kind t i (phase_of s i)) h its_calendar)

  -- whether or not the delivery is now
  keeps_hear : (i : ℕ) → Hears s.calendar i → StateMeets t (hear t s i)
  unfolding hear
  keeps_hear i h = keeps_put i _ _ (m.few i h) (hear_meets t s.clock i s.calendar _ (phase_of s i) f origin (its_head i (m.few i h))) (left_meets t s.clock i s.calendar its_calendar)
    where
      origin : IsHead t s.calendar.origin
      origin = (m.frame (hearer_waits s.calendar i h)).origin

  -- all three, for a step that is enabled
  keeps_enabled : (x : Step) → Enabled t s x → StateMeets t (moved t s x)
  unfolding moved Enabled
  keeps_enabled Advance e = keeps_advance (next_low t s e.1)
  keeps_enabled (Timer i) e = keeps_timer i e.0
  keeps_enabled (Hear i) e = keeps_hear i e.0

-- ---- the claims

-- a step that no number refuses is enabled
pub keeps : Keeps
keeps t s x f m e = keeps_enabled t s f m x (enabled_is t s f m x e)

-- the state that is answered, by the refusal number
pub accepted_moves : AcceptedMoves
unfolding judged state_after
accepted_moves t s x e = rw e

pub refused_stays : RefusedStays
unfolding judged state_after
refused_stays t s x n = rw (ne_eqb (refusal t s x) 0 n)

-- so what an accepted step answers fits
pub keeps_judged : KeepsJudged
keeps_judged t s x e = let a = (accepted_exactly t s x).0 e in rw (accepted_moves t s x e) (meets_state t (moved t s x) (keeps_enabled t s a.0 a.1 x a.2))

-- in the fresh state every head waits for its wake, and nobody for a frame
pub fresh_meets : FreshMeets
unfolding fresh PhaseMeets
fresh_meets t f = record {
  places = length-map t.wakes (head_in Init) ∙ f.places;
  clock = omega arith;
  count = refl;
  empty = (empty_meets t 0).empty;
  few = (empty_meets t 0).few;
  frame = (empty_meets t 0).frame;
  ahead = λ i h. omega arith;
  phases = λ i h. subst (λ (x : Head). PhaseMeets t 0 i x.timeout x.phase) (sym (fresh_head t i)) refl;
  spare = λ i h. fresh_head t i ∙ ap (head_in Init) (f.spare i h);
}

-- Document 01, "The state": head places, the state rules, the fresh state.
use Rattle.std.specs.Prelude.{Bool, cond, ◌&&◌, List, map, ℕ, zero, suc, ◌+◌, ◌*◌, eqb, leb, length, get_or, set, replicate}
use Rattle.words.specs.declared.Refusal.TheVariants.{StateRule}
use Rattle.words.specs.Refusal.{unless}
use Rattle.rules.specs.declared.Phase.{Phase}
use Rattle.rules.specs.declared.Phase.TheVariants.{Init, Listen, Coldstart, Active}
use Rattle.rules.specs.declared.Head.{Head}
use Rattle.rules.specs.declared.State.{State}
use Rattle.rules.specs.declared.Table.{Table}
use Rattle.rules.specs.Each.{every}
use Rattle.rules.specs.Limits.{max_heads, ceiling}
use Rattle.rules.specs.Table.{is_head, round, offset, wake_of, table_fits}
use Rattle.rules.specs.Calendar.{empty_calendar, calendar_fits}

-- "Phases: init 0, listen 1, coldstart 2, active 3."
abbrev pub phase_number : Phase → ℕ
phase_number Init = 0
phase_number Listen = 1
phase_number Coldstart = 2
phase_number (Active k) = 3

-- "An active head carries its slot; no other phase has one (written 0)."
abbrev pub slot_number : Phase → ℕ
slot_number Init = 0
slot_number Listen = 0
slot_number Coldstart = 0
slot_number (Active k) = k

-- a head in a phase, with its timeout
abbrev pub head_in : Phase → ℕ → Head
head_in p e = record { phase = p; timeout = e }

-- a head place that is zero
abbrev pub no_head : Head
no_head = head_in Init 0

-- head i of the places, counted from 1
unfoldable pub head_of : List Head → ℕ → Head
head_of hs zero = no_head
head_of hs (suc k) = get_or hs k no_head

-- the places with h for head i
unfoldable pub put : List Head → ℕ → Head → List Head
put hs zero h = hs
put hs (suc k) h = set hs k h

abbrev pub phase_of : State → ℕ → Phase
phase_of s i = (head_of s.heads i).phase

abbrev pub timeout_of : State → ℕ → ℕ
timeout_of s i = (head_of s.heads i).timeout

-- 2R + (i-1)S, how long head i listens
unfoldable pub listen_wait : Table → ℕ → ℕ
listen_wait t i = 2 * round t + offset t i

-- R + (i-1)S, how long head i waits in coldstart
unfoldable pub coldstart_wait : Table → ℕ → ℕ
coldstart_wait t i = round t + offset t i

-- "Init: timeout is the head's wake. Listen, head i: timeout <= clock + 2R + (i-1)S. Coldstart: <= clock + R + (i-1)S. Active: <= clock + S, and slot 1 to N."
unfoldable pub phase_fits : Table → ℕ → ℕ → ℕ → Phase → Bool
phase_fits t clock i e Init = eqb e (wake_of t i)
phase_fits t clock i e Listen = leb e (clock + listen_wait t i)
phase_fits t clock i e Coldstart = leb e (clock + coldstart_wait t i)
phase_fits t clock i e (Active k) = leb e (clock + t.s) && is_head t k

-- "every timeout of heads 1 to N is >= clock"
unfoldable pub head_fits : Table → ℕ → ℕ → Head → Bool
head_fits t clock i h = leb clock h.timeout && phase_fits t clock i h.timeout h.phase

-- whether a head place is zero
unfoldable pub is_zero : Head → Bool
is_zero h = eqb (phase_number h.phase) 0 && eqb h.timeout 0

-- "head places above N are zero"
unfoldable pub place_fits : Table → ℕ → ℕ → Head → Bool
place_fits t clock i h = cond (leb i t.n) (head_fits t clock i h) (is_zero h)

-- "clock at most the ceiling; the head count is the table's N", and the calendar's rules
unfoldable pub front_fits : Table → State → Bool
front_fits t s = leb s.clock ceiling && (eqb s.n t.n && calendar_fits t s.clock s.calendar)

-- the state rules, against a table; a state has sixty-four head places
unfoldable pub state_fits : Table → State → Bool
state_fits t s = eqb (length s.heads) max_heads && (front_fits t s && every max_heads (λ i. place_fits t s.clock i (head_of s.heads i)))

-- "6: a state rule broken"
unfoldable pub state_refusal : Table → State → ℕ
state_refusal t s = unless (state_fits t s) StateRule

-- "an all-zero record"
abbrev pub blank : State
blank = record { clock = 0; n = 0; calendar = empty_calendar; heads = replicate max_heads no_head }

-- "Fresh state: clock 0, calendar empty, all heads init with timeout = wake."
unfoldable pub fresh : Table → State
fresh t = record { clock = 0; n = t.n; calendar = empty_calendar; heads = map (head_in Init) t.wakes }

-- "the fresh state asked of an unfit table (3), returns an all-zero record"
unfoldable pub fresh_or_blank : Table → State
fresh_or_blank t = cond (table_fits t) (fresh t) blank

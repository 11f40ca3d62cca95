-- Document 01, "The state": "The calendar holds at most one frame", and what a send and a hearing do to it.
use Rattle.std.specs.Prelude.{Bool, cond, not, ◌&&◌, ℕ, ◌+◌, eqb, leb}
use Rattle.std.specs.Int.Count.{ones}
use Rattle.hearers.specs.Set.{has, without, everyone, all_but}
use Rattle.rules.specs.declared.Table.{Table}
use Rattle.rules.specs.declared.Calendar.{Calendar}
use Rattle.rules.specs.Each.{between}
use Rattle.rules.specs.Table.{is_head}

-- "kind (1 coldstart frame, 2 i-frame)"
abbrev pub coldstart_frame : ℕ
coldstart_frame = 1

abbrev pub i_frame : ℕ
i_frame = 2

-- "The number of waiting hearers is the count of ones in the set."
abbrev pub waiting : Calendar → ℕ
waiting c = ones c.hearers

-- whether nobody waits: the calendar holds no frame
unfoldable pub quiet : Calendar → Bool
quiet c = eqb c.hearers 0

-- whether head i is a hearer
unfoldable pub hears : Calendar → ℕ → Bool
hears c i = eqb (has c.hearers i) 1

abbrev pub empty_calendar : Calendar
empty_calendar = record { hearers = 0; kind = 0; origin = 0; sent = 0; delivery = 0 }

-- "When the set is empty, all other calendar fields are zero."
unfoldable pub settled : Calendar → Calendar
settled c = cond (quiet c) empty_calendar c

-- head i leaves the hearers
unfoldable pub left : Calendar → ℕ → Calendar
left c i = settled (record { hearers = without c.hearers i; kind = c.kind; origin = c.origin; sent = c.sent; delivery = c.delivery })

-- "the calendar takes the frame, origin i, sent T, delivery T + P, hearers all heads but i (with N = 1 the calendar stays empty)"
unfoldable pub taken : Table → ℕ → ℕ → ℕ → Calendar
taken t clock k i = settled (record { hearers = all_but t.n i; kind = k; origin = i; sent = clock; delivery = clock + t.p })

-- "Send by i at T": taken if no hearer waits; "if hearers wait, the new frame is dropped, the frame in the calendar stays, and i is taken out of the hearers"
unfoldable pub send : Table → ℕ → ℕ → ℕ → Calendar → Calendar
send t clock k i c = cond (quiet c) (taken t clock k i) (left c i)

-- "hearers waiting with delivery equal to the clock"
unfoldable pub delivery_due : ℕ → Calendar → Bool
delivery_due clock c = not (quiet c) && eqb c.delivery clock

-- "i is a hearer and delivery equals T"
unfoldable pub hear_due : ℕ → Calendar → ℕ → Bool
hear_due clock c i = hears c i && eqb c.delivery clock

-- state rules: "with no hearer, all calendar fields are zero"
unfoldable pub all_zero : Calendar → Bool
all_zero c = eqb c.kind 0 && (eqb c.origin 0 && (eqb c.sent 0 && eqb c.delivery 0))

-- state rules: "no hearer above N; if hearers wait: kind 1 or 2, origin 1 to N and not a hearer, delivery = sent + P, sent <= clock <= delivery"
unfoldable pub frame_fits : Table → ℕ → Calendar → Bool
frame_fits t clock c =
    leb c.hearers (everyone t.n) && (between coldstart_frame i_frame c.kind && (is_head t c.origin && (not (hears c c.origin) &&
    (eqb c.delivery (c.sent + t.p) && (leb c.sent clock && leb clock c.delivery)))))

unfoldable pub calendar_fits : Table → ℕ → Calendar → Bool
calendar_fits t clock c = cond (quiet c) (all_zero c) (frame_fits t clock c)

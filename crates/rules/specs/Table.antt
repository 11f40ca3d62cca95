-- Document 01, "The head table".
use Rattle.std.specs.Prelude.{Bool, cond, ◌&&◌, ℕ, zero, suc, ◌-◌, ◌*◌, eqb, leb, ltb, length, get_or}
use Rattle.words.specs.declared.Refusal.TheVariants.{TableRange}
use Rattle.words.specs.Refusal.{unless}
use Rattle.rules.specs.declared.Table.{Table}
use Rattle.rules.specs.Each.{between, every}
use Rattle.rules.specs.Limits.{max_heads, shortest_slot, longest_slot, latest_wake}

-- "N heads are numbered 1 to N."
unfoldable pub is_head : Table → ℕ → Bool
is_head t i = between 1 t.n i

-- "A round R = N x S."
unfoldable pub round : Table → ℕ
round t = t.n * t.s

-- (i-1)S, the part of a round before head i's own slot
unfoldable pub offset : Table → ℕ → ℕ
offset t i = (i - 1) * t.s

-- "Each head has a wake tick": that of place i, counted from 1
unfoldable pub wake_of : Table → ℕ → ℕ
wake_of t zero = 0
wake_of t (suc k) = get_or t.wakes k 0

-- "N 1 to 64; S 3 to 10,000; P at least 1, and 2 x P < S"
unfoldable pub numbers_fit : ℕ → ℕ → ℕ → Bool
numbers_fit n s p = between 1 max_heads n && (between shortest_slot longest_slot s && (leb 1 p && ltb (2 * p) s))

-- "wake 1 to 1,000,000"; "in a table record the wake places above N are zero"
unfoldable pub wake_fits : ℕ → ℕ → ℕ → Bool
wake_fits n i w = cond (leb i n) (between 1 latest_wake w) (eqb w 0)

-- a table record has sixty-four wake places, and every number is in its range
unfoldable pub table_fits : Table → Bool
table_fits t = eqb (length t.wakes) max_heads && (numbers_fit t.n t.s t.p && every max_heads (λ i. wake_fits t.n i (wake_of t i)))

-- "3: table number outside its range"
unfoldable pub table_refusal : Table → ℕ
table_refusal t = unless (table_fits t) TableRange

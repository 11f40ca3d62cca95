-- A set of heads as a number (document 01, state image: "hearers (64, head 1 in the lowest bit)"). Heads are counted from 1; head 0 is in no set.
use Rattle.std.specs.Prelude.{ℕ, zero, suc, ◌-◌, ◌*◌, ◌/◌, ◌%◌, ◌^◌}

-- 1 where head i is in the set h, otherwise 0
unfoldable pub has : ℕ → ℕ → ℕ
has h zero = 0
has h (suc k) = h / 2 ^ k % 2

-- the set of head i alone
unfoldable pub alone : ℕ → ℕ
alone zero = 0
alone (suc k) = 2 ^ k

-- the set h, with head i taken out
unfoldable pub without : ℕ → ℕ → ℕ
without h i = h - has h i * alone i

-- heads 1 to n
abbrev pub everyone : ℕ → ℕ
everyone n = 2 ^ n - 1

-- heads 1 to n, but for head i
unfoldable pub all_but : ℕ → ℕ → ℕ
all_but n i = without (everyone n) i

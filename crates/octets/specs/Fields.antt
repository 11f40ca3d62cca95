-- Fields of an image, as document 01 lists them, each by its width in bits: "N (8), S (16), wakes (32 each)", "hearers (64)".
use Rattle.std.specs.Prelude.{◌≡◌, Bool, cond, ◌&&◌, Result, MatchResult, List, [], ◌∷◌, ◌++◌, ℕ, zero, suc, ◌+◌, ◌*◌, eqb, set, replicate}
use Rattle.words.specs.declared.Refusal.{Refusal}
use Rattle.words.specs.Refusal.{number_of}
use Rattle.rules.specs.Limits.{max_heads}
use Rattle.octets.specs.Bytes.{bytes_of, number_at}

-- a field: its width in bytes, and its number
pub record Field : Type 0 where
  pub width : ℕ
  pub number : ℕ

abbrev pub bits8 : ℕ → Field
bits8 x = record { width = 1; number = x }

abbrev pub bits16 : ℕ → Field
bits16 x = record { width = 2; number = x }

abbrev pub bits32 : ℕ → Field
bits32 x = record { width = 4; number = x }

abbrev pub bits64 : ℕ → Field
bits64 x = record { width = 8; number = x }

-- "mark (3 bytes)": the number that its letters make
abbrev pub mark : ℕ → Field
mark x = record { width = 3; number = x }

abbrev pub letters_of : ℕ → ℕ → ℕ → ℕ
letters_of a b c = a + 256 * (b + 256 * c)

-- "version 1"
abbrev pub version : ℕ
version = 1

-- fields one after the other
unfoldable pub in_bytes : List Field → List ℕ
in_bytes [] = []
in_bytes (f ∷ rest) = bytes_of f.width f.number ++ in_bytes rest

-- "for each": the bytes of 1 to k, one after the other
unfoldable pub joined : ℕ → (ℕ → List ℕ) → List ℕ
joined zero f = []
joined (suc k) f = joined k f ++ f (suc k)

-- where the part of head i begins, behind a front and parts of equal length
abbrev pub place_of : ℕ → ℕ → ℕ → ℕ
place_of front each zero = front
place_of front each (suc k) = front + each * k

-- sixty-four places: those of 1 to k hold f's, the others d
unfoldable pub places : {A : Type 0} → A → (ℕ → A) → ℕ → List A
places d f zero = replicate max_heads d
places d f (suc k) = set (places d f k) k (f (suc k))

-- ---- both images begin with a mark, the version and N

abbrev pub opening_fields : ℕ → ℕ → List Field
opening_fields m n = mark m ∷ bits16 version ∷ bits8 n ∷ []

-- where the version and N stand, counted from 0, and how long all three are
abbrev pub version_place : ℕ
version_place = 3

abbrev pub count_place : ℕ
count_place = 5

abbrev pub opening : ℕ
opening = 6

unfoldable pub is_marked : ℕ → List ℕ → Bool
is_marked m l = eqb (number_at l 0 3) m && eqb (number_at l version_place 2) version

abbrev pub count_in : List ℕ → ℕ
count_in l = number_at l count_place 1

-- ---- what a reader answers

-- "A reader's refusal returns an all-zero record."
unfoldable pub or_blank : {A : Type 0} → ℕ → A → A → A
or_blank refusal x zeros = cond (eqb refusal 0) x zeros

-- the same before the refusal takes the zeros along: what is read, where the number of the refusal is 0, or that refusal
abbrev pub Reads : {A : Type 0} → Result A Refusal → ℕ → A → Type 0
Reads r number x = MatchResult r (λ y. (number ≡ 0) × (y ≡ x)) (λ why. number_of why ≡ number)

-- Fields one after the other and the parts of the heads: what one turn of a loop adds.
use Rattle.std.proofs.Common.{◌≡◌, refl, sym, ap, List, [], ◌∷◌, ◌++◌, ℕ, zero, suc, ◌+◌, ◌*◌, ◌/◌, ◌≤◌, add-zero, mul-zero, add-one, arith, length, drop, set}
use Rattle.std.proofs.Math.Seq.{sets, sets-eq}
use Rattle.std.proofs.lemmas.Grind.{common_steps}
use Rattle.octets.specs.Bytes.{bytes_of}
use Rattle.octets.specs.Room.{stored}
use Rattle.octets.specs.Fields.{joined}

-- ---- what is stored

pub length_bytes : (width x : ℕ) → length (bytes_of width x) ≡ width
unfolding bytes_of
length_bytes zero x = refl
length_bytes (suc width) x = ap suc (length_bytes width (x / 256))

pub stored_append : (l : List ℕ) (k : ℕ) (a b : List ℕ) → stored l k (a ++ b) ≡ stored (stored l k a) (k + length a) b
unfolding stored
stored_append l k [] b = rw add-zero
stored_append l k (x ∷ a) b = grind (arith, common_steps, stored_append (set l k x) (suc k) a b)

pub stored_sets : (l : List ℕ) (k : ℕ) (v : List ℕ) → stored l k v ≡ sets l k v
unfolding stored
stored_sets l k [] = refl
stored_sets l k (x ∷ v) = stored_sets (set l k x) (suc k) v

-- an image stands before what was there past it
pub stored_front : (l v : List ℕ) → length v ≤ length l → stored l 0 v ≡ v ++ drop (length v) l
stored_front l v h = grind (arith, common_steps, stored_sets l 0 v, sets-eq v l 0)

-- ---- the parts of the heads

pub joined_long : (each : ℕ) (f : ℕ → List ℕ) → ((i : ℕ) → length (f i) ≡ each) → (k : ℕ) → length (joined k f) ≡ each * k
unfolding joined
joined_long each f long zero = sym (mul-zero each)
joined_long each f long (suc k) = grind (arith, common_steps, joined_long each f long k, long (suc k))

pub joined_none : (l : List ℕ) (front : ℕ) (f : ℕ → List ℕ) → l ≡ stored l front (joined 0 f)
unfolding joined stored
joined_none l front f = refl

pub joined_more : (l m r : List ℕ) (front each k : ℕ) (f : ℕ → List ℕ) (v : List ℕ) → ((i : ℕ) → length (f i) ≡ each) → m ≡ stored l front (joined k f) → v ≡ f (suc k) → r ≡ stored m (front + each * k) v
    → r ≡ stored l front (joined (k + 1) f)
unfolding joined
joined_more l m r front each k f v long p q e = rw add-one (grind (arith, common_steps, joined_long each f long k, stored_append l front (joined k f) (f (suc k))))

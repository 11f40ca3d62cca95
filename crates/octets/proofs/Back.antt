-- Bytes tell their numbers and numbers their bytes, at every width: for one number, for fields in a row, for the parts of the heads.
use Rattle.std.proofs.Common.{◌≡◌, refl, sym, ◌∙◌, true, List, [], ◌∷◌, ◌++◌, append_assoc, append-nil, ℕ, zero, suc, ◌+◌, ◌*◌, ◌/◌, ◌%◌, ◌^◌, ◌≤◌, ◌<◌, mul-zero, mul-suc, arith, rules, tests, length, get_or, take, drop, replicate, length-append, ◌-◌, drop-cons, take-add, drop-drop, ext_get_or}
use Rattle.std.proofs.Math.Decide.{ℕ_discrete}
use Rattle.std.proofs.Math.ListN.{length-replicate}
use Rattle.std.proofs.Math.Seq.{append_snoc, take-append_seam, drop-append_seam}
use Rattle.std.proofs.lemmas.Grind.{common_steps}
use Rattle.rules.specs.Limits.{max_heads}
use Rattle.octets.specs.Bytes.{bytes_of, number_at, Bytes}
use Rattle.rules.specs.Room.{room_after}
use Rattle.octets.specs.Fields.{Field, bits8, version, in_bytes, joined, places, is_marked}
use Rattle.octets.proofs.Rows.{joined_long, length_bytes}

-- ---- one number

-- a number that fits its width is read back where its bytes stand
pub number_back : (a b : List ℕ) (width x : ℕ) → x < 256 ^ width → number_at (a ++ (bytes_of width x ++ b)) (length a) width ≡ x
unfolding number_at bytes_of
number_back a b zero x h = omega arith
number_back a b (suc width) x h = grind (arith, common_steps, append_snoc a (x % 256) (bytes_of width (x / 256) ++ b), length-append a (x % 256 ∷ []), number_back (a ++ (x % 256 ∷ [])) b width (x / 256) (omega arith))

-- bytes are written back as they stood
pub bytes_back : (l : List ℕ) → Bytes l → (k width : ℕ) → k + width ≤ length l → bytes_of width (number_at l k width) ≡ take width (drop k l)
unfolding number_at bytes_of
bytes_back l bytes k zero h = refl
bytes_back l bytes k (suc width) h = grind (arith, common_steps, bytes k, drop-cons l k 0 (omega arith), bytes_back l bytes (suc k) width (omega arith))

-- ---- fields in a row

-- every number fits its width
abbrev pub Fit : List Field → Type 0
Fit [] = Unit
Fit (f ∷ rest) = (f.number < 256 ^ f.width) × (Fit rest)

-- the fields of these widths that stand from place k on
unfoldable pub fields_at : List ℕ → ℕ → List ℕ → List Field
fields_at [] k l = []
fields_at (w ∷ rest) k l = record { width = w; number = number_at l k w } ∷ fields_at rest (k + w) l

unfoldable pub widths : List Field → List ℕ
widths [] = []
widths (f ∷ rest) = f.width ∷ widths rest

unfoldable pub sum : List ℕ → ℕ
sum [] = 0
sum (w ∷ rest) = w + sum rest

-- the number of field i of a row, counted from 0
abbrev pub number_in : ℕ → List Field → ℕ
number_in i fs = (get_or fs i (bits8 0)).number

pub fields_back : (fs : List Field) → Fit fs → (a b : List ℕ) (k : ℕ) → length a ≡ k → fields_at (widths fs) k (a ++ (in_bytes fs ++ b)) ≡ fs
unfolding fields_at widths in_bytes
fields_back [] g a b k e = refl
fields_back (f ∷ fs) g a b k e =
    let v = bytes_of f.width f.number in
    let one : number_at (a ++ ((v ++ in_bytes fs) ++ b)) k f.width ≡ f.number = rw (← e, append_assoc v (in_bytes fs) b) (number_back a (in_bytes fs ++ b) f.width f.number g.0) in
    let n : length (a ++ v) ≡ k + f.width = length-append a v ∙ rw (length_bytes f.width f.number, e) in
    let others : fields_at (widths fs) (k + f.width) (a ++ ((v ++ in_bytes fs) ++ b)) ≡ fs = rw (append_assoc v (in_bytes fs) b, ← append_assoc a v (in_bytes fs ++ b)) (fields_back fs g.1 (a ++ v) b (k + f.width) n) in
    λ i. record { width = f.width; number = one i } ∷ others i

pub row_back : (ws : List ℕ) (l : List ℕ) → Bytes l → (k : ℕ) → k + sum ws ≤ length l → in_bytes (fields_at ws k l) ≡ take (sum ws) (drop k l)
unfolding fields_at in_bytes sum
row_back [] l bytes k h = refl
row_back (w ∷ ws) l bytes k h =
    rw (bytes_back l bytes k w (omega arith), row_back ws l bytes (k + w) (omega arith), take-add w (sum ws) (drop k l), drop-drop w k l)

-- ---- the parts of the heads

pub joined_split : (f : ℕ → List ℕ) (n k : ℕ) → k < n → (rest : List ℕ) × (joined n f ≡ joined k f ++ (f (suc k) ++ rest))
unfolding joined
joined_split f zero k h = absurd (omega arith)
joined_split f (suc n) k h = elim (ℕ_discrete k n) [
  | yes e ↦ ([], rw (e, append-nil))
  | no e ↦ let r = joined_split f n k (omega arith) in (r.0 ++ f (suc n), rw r.1 (append_assoc (joined k f) (f (suc k) ++ r.0) (f (suc n)) ∙ rw (append_assoc (f (suc k)) r.0 (f (suc n)))))
]

pub parts_back : (front : List ℕ) (each n k : ℕ) (fs : ℕ → List Field) → ((i : ℕ) → length (in_bytes (fs i)) ≡ each) → k < n → Fit (fs (suc k))
    → fields_at (widths (fs (suc k))) (length front + each * k) (front ++ joined n (λ i. in_bytes (fs i))) ≡ fs (suc k)
parts_back front each n k fs long h g =
    let f : ℕ → List ℕ = λ i. in_bytes (fs i) in
    let r = joined_split f n k h in
    let m : length (front ++ joined k f) ≡ length front + each * k = length-append front (joined k f) ∙ rw (joined_long each f long k) in
    rw (r.1, ← append_assoc front (joined k f) (f (suc k) ++ r.0)) (fields_back (fs (suc k)) g (front ++ joined k f) r.0 (length front + each * k) m)

pub joined_back : (l : List ℕ) (front each n : ℕ) (f : ℕ → List ℕ) → ((k : ℕ) → k < n → f (suc k) ≡ take each (drop (front + each * k) l)) → joined n f ≡ take (each * n) (drop front l)
unfolding joined
joined_back l front each zero f g = rw mul-zero
joined_back l front each (suc n) f g =
    rw (joined_back l front each n f (λ k h. g k (omega arith)), g n (omega arith), mul-suc, take-add (each * n) each (drop front l), drop-drop (each * n) front l)

-- ---- the places

zeros : {A : Type 0} (d : A) (m k : ℕ) → get_or (replicate m d) k d ≡ d
zeros d m k = grind (arith, common_steps)

pub places_long : {A : Type 0} (d : A) (f : ℕ → A) (n : ℕ) → length (places d f n) ≡ max_heads
unfolding places
places_long d f zero = length-replicate max_heads d
places_long d f (suc n) = grind (arith, common_steps, places_long d f n)

pub places_used : {A : Type 0} (d : A) (f : ℕ → A) (n k : ℕ) → k < n → n ≤ max_heads → get_or (places d f n) k d ≡ f (suc k)
unfolding places
places_used d f zero k h m = absurd (omega arith)
places_used d f (suc n) k h m = grind (arith, common_steps, places_long d f n, places_used d f n k)

pub places_spare : {A : Type 0} (d : A) (f : ℕ → A) (n k : ℕ) → n ≤ k → get_or (places d f n) k d ≡ d
unfolding places
places_spare d f zero k h = zeros d max_heads k
places_spare d f (suc n) k h = grind (arith, common_steps, places_spare d f n k)

-- the places hold what a list holds, of which no more than n are used
pub places_are : {A : Type 0} (d : A) (f : ℕ → A) (n : ℕ) (xs : List A) → length xs ≡ max_heads → n ≤ max_heads → ((k : ℕ) → k < n → f (suc k) ≡ get_or xs k d) → ((k : ℕ) → n ≤ k → get_or xs k d ≡ d)
    → places d f n ≡ xs
places_are d f n xs l m used spare =
    ext_get_or d (places d f n) xs (places_long d f n ∙ sym l)
    (λ k h. grind (arith, common_steps, places_used d f n k, places_spare d f n k, used k, spare k))

-- a front and the parts behind it are all of the bytes
pub two_parts : (l a b : List ℕ) (front each n : ℕ) → length l ≡ front + each * n → a ≡ take front l → b ≡ take (each * n) (drop front l) → a ++ b ≡ l
two_parts l a b front each n w p q = grind (arith, common_steps)

-- ---- the room

-- an accepted writer's room: the image, and past it what was there
pub room_image : (image room : List ℕ) → take (length image) (room_after 0 image room) ≡ image
unfolding room_after
room_image image room = take-append_seam image (drop (length image) room)

pub room_past : (image room : List ℕ) → drop (length image) (room_after 0 image room) ≡ drop (length image) room
unfolding room_after
room_past image room = drop-append_seam image (drop (length image) room)

-- ---- the mark and the version

pub mark_is : (m : ℕ) (l : List ℕ) → is_marked m l ≡ true → (number_at l 0 3 ≡ m) × (number_at l 3 2 ≡ version)
unfolding is_marked
mark_is m l e = search (rules, tests)

pub is_marked_lem : (m : ℕ) (l : List ℕ) → number_at l 0 3 ≡ m → number_at l 3 2 ≡ version → is_marked m l ≡ true
unfolding is_marked
is_marked_lem m l e f = grind (arith, common_steps)

-- ---- what is written is bytes

pub bytes_append : (a b : List ℕ) → Bytes a → Bytes b → (i : ℕ) → get_or (a ++ b) i 0 < 256
bytes_append a b p q i = grind (arith, common_steps, p i, q (i - length a))

bytes_number : (width x i : ℕ) → get_or (bytes_of width x) i 0 < 256
unfolding bytes_of
bytes_number zero x i = omega arith
bytes_number (suc width) x i = grind (arith, common_steps, bytes_number width (x / 256) (i - 1))

pub bytes_fields : (fs : List Field) → Bytes (in_bytes fs)
unfolding in_bytes
bytes_fields [] = λ i. omega arith
bytes_fields (f ∷ fs) = bytes_append (bytes_of f.width f.number) (in_bytes fs) (bytes_number f.width f.number) (bytes_fields fs)

pub bytes_joined : (n : ℕ) (f : ℕ → List ℕ) → ((i : ℕ) → Bytes (f i)) → Bytes (joined n f)
unfolding joined
bytes_joined zero f g = λ i. omega arith
bytes_joined (suc n) f g = bytes_append (joined n f) (f (suc n)) (bytes_joined n f g) (g (suc n))

-- A table and its image: a fitting table's image reads as that table, and whatever bytes read as a table are that table's image.
use Rattle.std.proofs.Common.{◌≡◌, refl, sym, ap, ◌∙◌, true, List, [], ◌∷◌, ℕ, suc, ◌+◌, ◌*◌, ◌≤◌, ◌<◌, arith, eqb, leb, length, take, drop, eqb-true, leb-true}
use Rattle.words.specs.declared.Refusal.TheVariants.{TableLength, TableMark, TableRange}
use Rattle.words.specs.Refusal.{unless}
use Rattle.words.proofs.Order.{unless_is, first_is}
use Rattle.rules.specs.declared.Table.{Table}
use Rattle.rules.specs.Each.{between}
use Rattle.rules.specs.Limits.{max_heads}
use Rattle.rules.specs.Table.{wake_of, table_fits, table_refusal}
use Rattle.rules.specs.Conditions.{TableMeets}
use Rattle.rules.proofs.Each.{between_is}
use Rattle.rules.proofs.Meaning.{table_meets}
use Rattle.rules.proofs.Checks.{accepted_table, table_accepted}
use Rattle.octets.specs.Bytes.{bytes_of, number_at, Bytes}
use Rattle.octets.specs.Fields.{bits8, bits16, bits32, mark, in_bytes, joined, places, is_marked, count_in}
use Rattle.octets.proofs.Cases.{or_some}
use Rattle.octets.proofs.Back.{Fit, fields_at, number_in, widths, sum, fields_back, row_back, parts_back, joined_back, two_parts, places_used, places_are, mark_is, is_marked_lem, bytes_fields, bytes_joined, bytes_append}
use Rattle.table_images.specs.TableImage.{table_mark, table_front, wake_length, table_length, table_fields, wake_fields, table_image, wake_place, table_in, read_table_refusal, blank_table, read_table}
use Rattle.table_images.proofs.Cases.{table_taken, wake_long, table_long}

-- ---- from the record to bytes and back

table_fit : (t : Table) → TableMeets t → Fit (table_fields t)
table_fit t m = let n = m.heads in let s = m.slot_high in let p = m.short in (omega arith, (omega arith, (omega arith, (omega arith, (omega arith, tt)))))

wake_fit : (t : Table) → TableMeets t → (k : ℕ) → k < t.n → Fit (wake_fields t (suc k))
wake_fit t m k h = let w = m.wake_high (suc k) record { low = omega arith; high = omega arith } in (omega arith, tt)

front_back : (t : Table) → TableMeets t → fields_at (3 ∷ 2 ∷ 1 ∷ 2 ∷ 2 ∷ []) 0 (table_image t) ≡ table_fields t
unfolding table_image widths
front_back t m = fields_back (table_fields t) (table_fit t m) [] (joined t.n (λ i. in_bytes (wake_fields t i))) 0 refl

count_back : (t : Table) → TableMeets t → count_in (table_image t) ≡ t.n
unfolding fields_at
count_back t m = ap (number_in 2) (front_back t m)

marked_back : (t : Table) → TableMeets t → is_marked table_mark (table_image t) ≡ true
unfolding fields_at
marked_back t m = is_marked_lem table_mark (table_image t) (ap (number_in 0) (front_back t m)) (ap (number_in 1) (front_back t m))

wake_back : (t : Table) → TableMeets t → (k : ℕ) → k < t.n → number_at (table_image t) (wake_place (suc k)) 4 ≡ wake_of t (suc k)
unfolding table_image fields_at widths in_bytes bytes_of
wake_back t m k h = ap (number_in 0) (parts_back (in_bytes (table_fields t)) wake_length t.n k (wake_fields t) (wake_long t) h (wake_fit t m k h))

table_back : (t : Table) → TableMeets t → table_in (table_image t) ≡ t
unfolding table_in fields_at wake_of
table_back t m =
    let n = count_back t m in
    let f : ℕ → ℕ = λ i. number_at (table_image t) (wake_place i) 4 in
    let w : places 0 f t.n ≡ t.wakes = places_are 0 f t.n t.wakes m.places m.heads (λ k h. wake_back t m k h) (λ k h. m.spare (suc k) (omega arith)) in
    λ i. record { n = n i; s = ap (number_in 3) (front_back t m) i; p = ap (number_in 4) (front_back t m) i; wakes = (ap (places 0 f) n ∙ w) i }

-- a fitting table's image is accepted, and read as that table
pub table_reads_back : (t : Table) → table_fits t ≡ true → (read_table_refusal (table_image t) ≡ 0) × (read_table (table_image t) ≡ t)
table_reads_back t fit =
    let m = table_meets t fit in
    let l = table_image t in
    let n = count_back t m in
    let some = m.some_head in
    let few = m.heads in
    let e : length l ≡ table_length (count_in l) = table_long t ∙ ap table_length (sym n) in
    let z : read_table_refusal l ≡ 0 = sym (table_taken l (omega (arith, table_long t)) (marked_back t m) (omega arith) (omega arith) e) ∙ ap table_refusal (table_back t m) ∙ sym (table_accepted t fit) in
    (z, sym (or_some (read_table_refusal l) (table_in l) blank_table z) ∙ table_back t m)

-- the image is a list of bytes
pub table_bytes : (t : Table) → Bytes (table_image t)
unfolding table_image
table_bytes t = bytes_append (in_bytes (table_fields t)) _ (bytes_fields (table_fields t)) (bytes_joined t.n (λ i. in_bytes (wake_fields t i)) (λ i. bytes_fields (wake_fields t i)))

-- ---- from bytes to the record and back

-- what reading tells where nothing is refused
record Read (l : List ℕ) : Type 0 where
  pub long : table_front ≤ length l
  pub marked : is_marked table_mark l ≡ true
  pub some_head : 1 ≤ count_in l
  pub heads : count_in l ≤ max_heads
  pub whole : length l ≡ table_length (count_in l)
  pub fits : table_fits (table_in l) ≡ true

was_read : (l : List ℕ) → read_table_refusal l ≡ 0 → Read l
unfolding read_table_refusal
was_read l z =
    let a = first_is (unless (leb table_front (length l)) TableLength) _ z in
    let b = first_is (unless (is_marked table_mark l) TableMark) _ a.1 in
    let c = first_is (unless (between 1 max_heads (count_in l)) TableRange) _ b.1 in
    let d = first_is (unless (eqb (length l) (table_length (count_in l))) TableLength) _ c.1 in
    let e = first_is (table_refusal (table_in l)) [] d.1 in
    let n = between_is 1 max_heads (count_in l) (unless_is _ TableRange c.0) in
    record {
      long = leb-true _ _ (unless_is _ TableLength a.0);
      marked = unless_is _ TableMark b.0;
      some_head = n.0;
      heads = n.1;
      whole = eqb-true _ _ (unless_is _ TableLength d.0);
      fits = accepted_table (table_in l) e.0;
    }

front_again : (l : List ℕ) → Bytes l → Read l → in_bytes (table_fields (table_in l)) ≡ take table_front l
unfolding table_in fields_at sum
front_again l bytes r =
    let m = mark_is table_mark l r.marked in
    (λ i. in_bytes (mark (sym m.0 i) ∷ bits16 (sym m.1 i) ∷ bits8 (count_in l) ∷ bits16 (number_at l 6 2) ∷ bits16 (number_at l 8 2) ∷ []))
    ∙ row_back (3 ∷ 2 ∷ 1 ∷ 2 ∷ 2 ∷ []) l bytes 0 r.long

wake_again : (l : List ℕ) → Bytes l → Read l → (k : ℕ) → k < count_in l → in_bytes (wake_fields (table_in l) (suc k)) ≡ take wake_length (drop (table_front + wake_length * k) l)
unfolding table_in wake_of fields_at sum
wake_again l bytes r k h =
    let w = r.whole in
    ap (λ (x : ℕ). in_bytes (bits32 x ∷ [])) (places_used 0 (λ i. number_at l (wake_place i) 4) (count_in l) k h r.heads)
    ∙ row_back (4 ∷ []) l bytes (table_front + wake_length * k) (omega arith)

table_again : (l : List ℕ) → Bytes l → Read l → table_image (table_in l) ≡ l
unfolding table_image table_in
table_again l bytes r =
    two_parts l (in_bytes (table_fields (table_in l))) (joined (count_in l) (λ i. in_bytes (wake_fields (table_in l) i))) table_front wake_length (count_in l) r.whole (front_again l bytes r)
    (joined_back l table_front wake_length (count_in l) (λ i. in_bytes (wake_fields (table_in l) i)) (wake_again l bytes r))

-- whatever reads as a table fits, and is that table's image
pub read_table_fits : (l : List ℕ) → read_table_refusal l ≡ 0 → table_fits (read_table l) ≡ true
read_table_fits l z = ap table_fits (sym (or_some (read_table_refusal l) (table_in l) blank_table z)) ∙ (was_read l z).fits

pub read_table_image : (l : List ℕ) → Bytes l → read_table_refusal l ≡ 0 → table_image (read_table l) ≡ l
read_table_image l bytes z = ap table_image (sym (or_some (read_table_refusal l) (table_in l) blank_table z)) ∙ table_again l bytes (was_read l z)

-- so two different byte strings never read as one table
pub tables_apart : (l k : List ℕ) → Bytes l → Bytes k → read_table_refusal l ≡ 0 → read_table_refusal k ≡ 0 → read_table l ≡ read_table k → l ≡ k
tables_apart l k b c z y e = sym (read_table_image l b z) ∙ ap table_image e ∙ read_table_image k c y

-- and damaged bytes never read as the table whose image they were
pub table_damaged : (t : Table) (l : List ℕ) → Bytes l → (l ≡ table_image t → ⊥) → read_table_refusal l ≡ 0 → read_table l ≡ t → ⊥
table_damaged t l b n z e = n (sym (read_table_image l b z) ∙ ap table_image e)

-- The table reader and writer in the code's own terms: what is read where nothing before the numbers is wrong, and an image in two strokes.
use Rattle.std.proofs.Common.{◌≡◌, refl, sym, ap, ◌∙◌, true, List, ℕ, suc, ◌≤◌, ◌<◌, length, get_or, take, length-append, le-leb, eq-eqb}
use Rattle.std.proofs.lemmas.List.{get_or-take}
use Rattle.words.specs.Refusal.{unless, first_refusal}
use Rattle.words.proofs.Order.{first_last}
use Rattle.rules.specs.declared.Table.{Table}
use Rattle.rules.specs.Limits.{max_heads}
use Rattle.rules.specs.Table.{wake_of, table_refusal}
use Rattle.octets.specs.Bytes.{bytes_of}
use Rattle.octets.specs.Room.{stored}
use Rattle.octets.specs.Fields.{in_bytes, joined, is_marked, count_in}
use Rattle.octets.proofs.Rows.{stored_append, joined_long}
use Rattle.table_images.specs.TableImage.{table_mark, table_front, wake_length, table_length, table_fields, wake_fields, table_image, table_in, read_table_refusal}

pub table_taken : (l : List ℕ) → table_front ≤ length l → is_marked table_mark l ≡ true → 1 ≤ count_in l → count_in l ≤ max_heads → length l ≡ table_length (count_in l) → table_refusal (table_in l) ≡ read_table_refusal l
unfolding read_table_refusal first_refusal unless
table_taken l long m a b e = rw (le-leb _ _ long, m, le-leb _ _ a, le-leb _ _ b, eq-eqb _ _ e) (sym (first_last (table_refusal (table_in l))))

-- ---- an image in two strokes: the front, then the heads' parts

pub wake_long : (t : Table) (i : ℕ) → length (in_bytes (wake_fields t i)) ≡ wake_length
unfolding in_bytes bytes_of
wake_long t i = refl

pub wake_next : (t : Table) (k : ℕ) → k < t.n → bytes_of 4 (get_or (take t.n t.wakes) k 0) ≡ in_bytes (wake_fields t (suc k))
unfolding in_bytes bytes_of wake_of
wake_next t k l = ap (bytes_of 4) (get_or-take t.n t.wakes k 0 l)

pub table_long : (t : Table) → length (table_image t) ≡ table_length t.n
unfolding table_image in_bytes bytes_of
table_long t = length-append (in_bytes (table_fields t)) (joined t.n (λ i. in_bytes (wake_fields t i))) ∙ rw (joined_long wake_length (λ i. in_bytes (wake_fields t i)) (wake_long t) t.n)

pub table_stored : (t : Table) (l b e : List ℕ) → b ≡ stored l 0 (in_bytes (table_fields t)) → e ≡ stored b table_front (joined t.n (λ i. in_bytes (wake_fields t i))) → e ≡ stored l 0 (table_image t)
unfolding table_image in_bytes bytes_of
table_stored t l b e p q = q ∙ rw p (sym (stored_append l 0 (in_bytes (table_fields t)) (joined t.n (λ i. in_bytes (wake_fields t i)))))

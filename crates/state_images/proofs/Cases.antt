-- The state reader and writer, case by case and in the code's own terms: each return of a function cites one law.
use Rattle.std.proofs.Common.{◌≡◌, refl, sym, ap, ◌∙◌, true, List, ℕ, suc, ◌≤◌, ◌<◌, arith, length, get_or, take, length-append, eq-eqb}
use Rattle.std.proofs.lemmas.List.{get_or-take}
use Rattle.words.specs.declared.Refusal.{Refusal}
use Rattle.words.specs.declared.Refusal.TheVariants.{TableRange}
use Rattle.words.specs.Refusal.{number_of, unless, first_refusal}
use Rattle.words.proofs.Order.{number_some, first_some, first_none, first_last}
use Rattle.rules.specs.declared.Head.{Head}
use Rattle.rules.specs.declared.Table.{Table}
use Rattle.rules.specs.declared.State.{State}
use Rattle.rules.specs.Each.{every}
use Rattle.rules.specs.Limits.{max_heads}
use Rattle.rules.specs.Table.{table_fits, table_refusal}
use Rattle.rules.specs.State.{no_head, head_of, state_refusal}
use Rattle.rules.specs.Judge.{record_refusal}
use Rattle.rules.proofs.Meaning.{table_meets, state_meets}
use Rattle.rules.proofs.Checks.{table_accepted, accepted_record, refused_table}
use Rattle.octets.specs.Bytes.{bytes_of}
use Rattle.octets.specs.Room.{stored}
use Rattle.octets.specs.Fields.{in_bytes, joined, is_marked, count_in}
use Rattle.octets.proofs.Rows.{stored_append, joined_long}
use Rattle.state_images.specs.StateImage.{state_mark, state_front, head_length, state_length, state_fields, head_fields, state_image, head_place, known_at, state_in, take_refusal, read_state_refusal}

-- ---- what is read of a state image, and against its table

pub take_known : (n : ℕ) (l : List ℕ) → length l ≡ state_length n → is_marked state_mark l ≡ true → count_in l ≡ n → every n (λ i. known_at l (head_place i)) ≡ true → 0 ≡ take_refusal n l
unfolding take_refusal first_refusal unless
take_known n l long m h e = rw (eq-eqb _ _ long, m, eq-eqb _ _ h, e)

table_number : (t : Table) (why : Refusal) → number_of why ≡ table_refusal t → number_of TableRange ≡ table_refusal t
unfolding table_refusal unless
table_number t why e = let n = refused_table t (λ z. omega (arith, number_some why)) in rw n refl

module _ (t : Table) (l : List ℕ) where
  pub read_no_table : (why : Refusal) → number_of why ≡ table_refusal t → number_of why ≡ read_state_refusal t l
  unfolding read_state_refusal
  read_no_table why e = e ∙ sym (first_some (table_refusal t) _ (λ z. omega (arith, number_some why)))

  -- and it is the table's own number, whatever refused it
  pub read_unfit : (why : Refusal) → number_of why ≡ table_refusal t → number_of TableRange ≡ read_state_refusal t l
  read_unfit why e = read_no_table TableRange (table_number t why e)

  module _ (fit : table_fits t ≡ true) where
    pub read_untaken : (why : Refusal) → number_of why ≡ take_refusal t.n l → number_of why ≡ read_state_refusal t l
    unfolding read_state_refusal
    read_untaken why e = e ∙ sym (first_none (table_refusal t) _ (sym (table_accepted t fit)) ∙ first_some (take_refusal t.n l) _ (λ z. omega (arith, number_some why)))

    pub read_taken : take_refusal t.n l ≡ 0 → state_refusal t (state_in t.n l) ≡ read_state_refusal t l
    unfolding read_state_refusal
    read_taken e = sym (first_none (table_refusal t) _ (sym (table_accepted t fit)) ∙ first_none (take_refusal t.n l) _ e ∙ first_last (state_refusal t (state_in t.n l)))

-- ---- an image in two strokes: the front, then the heads' parts

pub head_long : (h : Head) → length (in_bytes (head_fields h)) ≡ head_length
unfolding in_bytes bytes_of
head_long h = refl

pub part_long : (s : State) (i : ℕ) → length (in_bytes (head_fields (head_of s.heads i))) ≡ head_length
part_long s i = head_long (head_of s.heads i)

pub part_next : (s : State) (k : ℕ) → k < s.n → in_bytes (head_fields (get_or (take s.n s.heads) k no_head)) ≡ in_bytes (head_fields (head_of s.heads (suc k)))
unfolding head_of
part_next s k l = ap (λ h. in_bytes (head_fields h)) (get_or-take s.n s.heads k no_head l)

pub state_long : (s : State) → length (state_image s) ≡ state_length s.n
unfolding state_image in_bytes bytes_of
state_long s = length-append (in_bytes (state_fields s)) (joined s.n (λ i. in_bytes (head_fields (head_of s.heads i)))) ∙ rw (joined_long head_length (λ i. in_bytes (head_fields (head_of s.heads i))) (λ i. head_long (head_of s.heads i)) s.n)

pub state_stored : (s : State) (l b e : List ℕ) → b ≡ stored l 0 (in_bytes (state_fields s)) → e ≡ stored b state_front (joined s.n (λ i. in_bytes (head_fields (head_of s.heads i)))) → e ≡ stored l 0 (state_image s)
unfolding state_image in_bytes bytes_of
state_stored s l b e p q = q ∙ rw p (sym (stored_append l 0 (in_bytes (state_fields s)) (joined s.n (λ i. in_bytes (head_fields (head_of s.heads i))))))

-- a state that fits has no more heads than there are places
pub written_heads : (t : Table) (s : State) → record_refusal t s ≡ 0 → s.n ≤ max_heads
written_heads t s z =
    let r = accepted_record t s z in
    let m = table_meets t r.0 in
    let c = (state_meets t s m.heads r.1).count in
    let h = m.heads in
    omega arith

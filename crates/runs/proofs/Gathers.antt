-- The bytes of the step list: gathered step by step, then copied to the front of the room.
use Rattle.std.proofs.Common.{◌≡◌, refl, sym, ap, ◌∙◌, Bool, true, false, List, [], ◌∷◌, ◌++◌, append_assoc, append-nil, ℕ, zero, suc, ◌+◌, ◌*◌, ◌≤◌, add-one, arith, eqb, length, get_or, set, take, drop, length-append, length-set, take_at, length-take-le}
use Rattle.std.proofs.Math.ListN.{length-replicate}
use Rattle.std.proofs.Math.Seq.{sets-eq}
use Rattle.words.specs.declared.Step.{Step}
use Rattle.words.specs.declared.Step.TheVariants.{Timer, Hear}
use Rattle.words.specs.Pair.{kind_of, head_number}
use Rattle.rules.specs.declared.State.{State}
use Rattle.rules.specs.State.{no_head, head_of}
use Rattle.rules.specs.Step.{timer_due}
use Rattle.runs.specs.declared.listing.Pairs.{Pairs}
use Rattle.rules.specs.Calendar.{hear_due}
use Rattle.runs.specs.Open.{only_if, open_at, open_to, step_bytes}
use Rattle.runs.specs.Gathered.{most_bytes, no_pairs, Holds, Adds}

-- ---- steps in bytes

pub bytes_append : (a b : List Step) → step_bytes (a ++ b) ≡ step_bytes a ++ step_bytes b
unfolding step_bytes
bytes_append [] b = refl
bytes_append (x ∷ a) b = ap (λ (l : List ℕ). kind_of x ∷ head_number x ∷ l) (bytes_append a b)

-- two bytes for a step
pub bytes_long : (l : List Step) → length (step_bytes l) ≡ 2 * length l
unfolding step_bytes
bytes_long [] = refl
bytes_long (x ∷ l) = let e = bytes_long l in omega arith

if_short : (b : Bool) (x : Step) → length (only_if b x) ≤ 1
unfolding only_if
if_short true x = omega arith
if_short false x = omega arith

-- at most two steps for a head
pub to_short : (s : State) (k : ℕ) → length (step_bytes (open_to s k)) ≤ 4 * k
unfolding open_to open_at step_bytes
to_short s zero = omega arith
to_short s (suc k) =
    let e = to_short s k in
    let a = if_short (timer_due s (suc k)) (Timer (suc k)) in
    let b = if_short (hear_due s.clock s.calendar (suc k)) (Hear (suc k)) in
    simp (bytes_append, bytes_long, length-append) (omega (arith, bytes_long (open_to s k)))

-- ---- gathering

pub holds_none : Holds no_pairs []
unfolding step_bytes
holds_none = record { places = length-replicate {A = ℕ} most_bytes 0; long = refl; same = refl }

-- two stores at the end of what is used
two_more : (b : List ℕ) (u a c : ℕ) → u + 2 ≤ length b → take (u + 2) (set (set b u a) (u + 1) c) ≡ take u b ++ (a ∷ c ∷ [])
two_more b u a c h =
    let e : u + 1 ≡ suc u = add-one u in
    let n : length (take u b ++ (a ∷ c ∷ [])) ≡ u + 2 = length-append (take u b) (a ∷ c ∷ []) ∙ ap (λ (k : ℕ). k + 2) (length-take-le u b (omega arith)) in
    rw (e, sets-eq (a ∷ c ∷ []) b u h) (take_at (take u b ++ (a ∷ c ∷ [])) (drop (u + 2) b) (u + 2) n)

pub adds_one : (p : Pairs) (x : Step) → p.used + 2 ≤ most_bytes → (kind : ℕ) → kind ≡ kind_of x → (i : ℕ) → i ≡ head_number x
    → Adds p x (record { bytes = set (set p.bytes p.used kind) (p.used + 1) i; used = p.used + 2 })
unfolding step_bytes
adds_one p x r kind k i j l h =
    let m = h.places in
    let n = h.long in
    let o : step_bytes (l ++ (x ∷ [])) ≡ step_bytes l ++ (kind_of x ∷ head_number x ∷ []) = bytes_append l (x ∷ []) in
    record {
      places = simp length-set m;
      long = ap (λ (y : ℕ). y + 2) n ∙ sym (length-append (step_bytes l) (kind_of x ∷ head_number x ∷ [])) ∙ ap length (sym o);
      same = two_more p.bytes p.used kind i (omega arith) ∙ rw (h.same, k, j) (sym o);
    }

-- a step that is gathered where a test holds
pub held_yes : (p q : Pairs) (l : List Step) (b : Bool) (x : Step) → Holds p l → b ≡ true → Adds p x q → Holds q (l ++ only_if b x)
unfolding only_if
held_yes p q l b x h e a = rw e (a l h)

pub held_no : (p : Pairs) (l : List Step) (b : Bool) (x : Step) → Holds p l → b ≡ false → Holds p (l ++ only_if b x)
unfolding only_if
held_no p l b x h e = rw (e, append-nil) h

-- what is gathered at k heads leaves room for the next
pub held_to : (p : Pairs) (s : State) (k : ℕ) → Holds p (open_to s k) → p.used ≤ 4 * k
held_to p s k h = omega (arith, h.long, to_short s k)

pub held_more : (p : Pairs) (s : State) (k : ℕ) (b : Bool) (x : Step) → Holds p (open_to s k ++ only_if b x) → p.used ≤ 4 * k + 2
held_more p s k b x h =
    let e = to_short s k in
    let a = if_short b x in
    let n = h.long ∙ ap length (bytes_append (open_to s k) (only_if b x)) ∙ length-append (step_bytes (open_to s k)) (step_bytes (only_if b x)) in
    omega (arith, bytes_long (only_if b x))

-- a head's two steps make what is due at one head more
pub held_next : (p : Pairs) (s : State) (k : ℕ) (b : Bool) → b ≡ hear_due s.clock s.calendar (k + 1)
    → Holds p (open_to s k ++ only_if (eqb (get_or s.heads k no_head).timeout s.clock) (Timer (k + 1)) ++ only_if b (Hear (k + 1))) → Holds p (open_to s (k + 1))
unfolding open_to open_at timer_due head_of
held_next p s k b e h = rw (add-one k) (rw (e, add-one k, append_assoc) at h)

pub held_long : (p : Pairs) (l : List Step) → Holds p l → length (take p.used p.bytes) ≡ p.used
held_long p l h = ap length h.same ∙ sym h.long

-- Decimal texts say their numbers, and lines end once.
use Rattle.std.proofs.Common.{◌≡◌, refl, sym, ap, ◌∙◌, true, inl, inr, List, [], ◌∷◌, ◌++◌, append_assoc, ℕ, zero, suc, ◌+◌, ◌-◌, ◌*◌, ◌/◌, ◌≤◌, ◌<◌, arith, length, get_or, length-append, ne_eqb}
use Rattle.std.proofs.Math.ListN.{get_or-append}
use Rattle.words.specs.declared.Step.{Step}
use Rattle.words.specs.declared.Step.TheVariants.{Advance, Timer, Hear}
use Rattle.words.specs.Pair.{head_number}
use Rattle.rules.specs.declared.State.{State}
use Rattle.rules.specs.State.{phase_number, slot_number, head_of, phase_of, timeout_of}
use Rattle.rules.specs.Each.{between}
use Rattle.rules.proofs.Each.{less_or_not, both, and_true, between_is, is_between}
use Rattle.lines.specs.Decimal.{digit, decimal}
use Rattle.lines.specs.Line.{space, lf, line_of, letter_of, row_line, step_line, end_line}
use Rattle.lines.specs.Reading.{read_on, digits_only, occurs, Says, Lined}
use Rattle.lines.proofs.Numbers.{decimal_few, decimal_more}

-- ---- a number's text

read_last : (a : ℕ) (v : List ℕ) (d : ℕ) → read_on a (v ++ (d ∷ [])) ≡ read_on a v * 10 + (d - 48)
unfolding read_on
read_last a [] d = refl
read_last a (c ∷ v) d = read_last (a * 10 + (c - 48)) v d

digits_last : (v : List ℕ) (d : ℕ) → digits_only v ≡ true → between 48 57 d ≡ true → digits_only (v ++ (d ∷ [])) ≡ true
unfolding digits_only
digits_last [] d h e = both e refl
digits_last (c ∷ v) d h e = let w = and_true (between 48 57 c) (digits_only v) h in both w.0 (digits_last v d w.1 e)

is_digit : (n : ℕ) → between 48 57 (digit n) ≡ true
is_digit n = is_between 48 57 (digit n) (omega arith) (omega arith)

says_few : (n : ℕ) → n ≤ 9 → Says (decimal n) n
unfolding digits_only read_on
says_few n h = rw (decimal_few n h) (record {
  digits = both (is_digit n) refl;
  some = omega arith;
  value = omega arith;
  lead = λ e. ap (λ (d : ℕ). d ∷ []) e;
})

zero_reads : read_on 0 (48 ∷ []) ≡ 0
unfolding read_on
zero_reads = refl

says_more : (n : ℕ) → 9 < n → Says (decimal (n / 10)) (n / 10) → Says (decimal n) n
says_more n h w = rw (decimal_more n h) (record {
  digits = digits_last (decimal (n / 10)) (digit n) w.digits (is_digit n);
  some = omega (arith, length-append (decimal (n / 10)) (digit n ∷ []));
  value = omega (arith, read_last 0 (decimal (n / 10)) (digit n), w.value);
  lead = λ e.
      let first = get_or-append (decimal (n / 10)) (digit n ∷ []) 0 0 w.some in
      let z : read_on 0 (decimal (n / 10)) ≡ 0 = ap (read_on 0) (w.lead (sym first ∙ e)) ∙ zero_reads in
      absurd (omega (arith, z, w.value));
})

says_in : (f n : ℕ) → n < f → Says (decimal n) n
says_in zero n h = absurd (omega arith)
says_in (suc f) n h = elim (less_or_not n 10) [
  | inl l ↦ says_few n (omega arith)
  | inr l ↦ says_more n l (says_in f (n / 10) (omega arith))
]

pub reads_back : (n : ℕ) → Says (decimal n) n
reads_back n = says_in (suc n) n (omega arith)

-- ---- and no other text does

last_of : (v : List ℕ) → 0 < length v → (u : List ℕ) × (d : ℕ) × (v ≡ u ++ (d ∷ []))
last_of [] h = absurd (omega arith)
last_of (c ∷ []) h = ([], c, refl)
last_of (c ∷ e ∷ v) h = let w = last_of (e ∷ v) (omega arith) in (c ∷ w.0, w.1, ap (λ (u : List ℕ). c ∷ u) w.2)

digits_of : (v : List ℕ) (d : ℕ) → digits_only (v ++ (d ∷ [])) ≡ true → (digits_only v ≡ true) × (between 48 57 d ≡ true)
unfolding digits_only
digits_of [] d h = (refl, (and_true (between 48 57 d) true h).0)
digits_of (c ∷ v) d h =
    let w = and_true (between 48 57 c) (digits_only (v ++ (d ∷ []))) h in
    let k = digits_of v d w.1 in
    (both w.0 k.0, k.1)

one_digit : (d n : ℕ) → Says (d ∷ []) n → d ∷ [] ≡ decimal n
unfolding read_on digits_only
one_digit d n w =
    let k = between_is 48 57 d (and_true (between 48 57 d) true w.digits).0 in
    let e : n ≡ d - 48 = omega (arith, w.value) in
    let x : digit n ≡ d = omega arith in
    sym (decimal_few n (omega arith) ∙ ap (λ (b : ℕ). b ∷ []) x)

-- the digits before the last are not none, do not start with `0`, and so say a number above 0
leads : (c d n : ℕ) (v : List ℕ) → Says (c ∷ v ++ (d ∷ [])) n → c ≡ 48 → ⊥
leads c d n v w e = let k = ap length (w.lead e) in omega (arith, length-append v (d ∷ []), k)

more_digits : (c d n : ℕ) (v : List ℕ) → Says (c ∷ v ++ (d ∷ [])) n → c ∷ v ≡ decimal (read_on 0 (c ∷ v)) → c ∷ v ++ (d ∷ []) ≡ decimal n
more_digits c d n v w ih =
    let m = read_on 0 (c ∷ v) in
    let k = between_is 48 57 d (digits_of (c ∷ v) d w.digits).1 in
    let r : n ≡ m * 10 + (d - 48) = sym w.value ∙ read_last 0 (c ∷ v) d in
    let p : 0 < m =
    elim (less_or_not 0 m) [
      | inl l ↦ l
      | inr l ↦ absurd (leads c d n v w (ap (λ (u : List ℕ). get_or u 0 0) (ih ∙ decimal_few m (omega arith)) ∙ omega arith))
    ] in
    let x : n / 10 ≡ m = omega arith in
    let y : digit n ≡ d = omega arith in
    ap (λ (u : List ℕ). u ++ (d ∷ [])) ih ∙ sym (decimal_more n (omega arith) ∙ rw (x, y))

-- a text by its last digit, where the theorem holds of the digits before it
by_last : (n : ℕ) (u : List ℕ) (d : ℕ) → Says (u ++ (d ∷ [])) n → (Says u (read_on 0 u) → u ≡ decimal (read_on 0 u)) → u ++ (d ∷ []) ≡ decimal n
by_last n [] d w ih = one_digit d n w
by_last n (c ∷ u) d w ih = more_digits c d n u w (ih (record {
  digits = (digits_of (c ∷ u) d w.digits).0;
  some = omega arith;
  value = refl;
  lead = λ e. absurd (leads c d n u w e);
}))

one_in : (f : ℕ) (v : List ℕ) (n : ℕ) → length v < f → Says v n → v ≡ decimal n
one_in zero v n h w = absurd (omega arith)
one_in (suc f) v n h w =
    let s = last_of v w.some in
    let l = ap length s.2 ∙ length-append s.0 (s.1 ∷ []) in
    rw s.2 (by_last n s.0 s.1 (rw s.2 at w) (one_in f s.0 (read_on 0 s.0) (omega (arith, l))))

pub one_text : (v : List ℕ) (n : ℕ) → Says v n → v ≡ decimal n
one_text v n w = one_in (suc (length v)) v n (omega arith) w

-- ---- bytes that stand in no number

none : (b : ℕ) → occurs b [] ≡ 0
unfolding occurs
none b = refl

occurs_both : (b : ℕ) (u v : List ℕ) → occurs b (u ++ v) ≡ occurs b u + occurs b v
unfolding occurs
occurs_both b [] v = omega arith
occurs_both b (d ∷ u) v = omega (arith, occurs_both b u v)

occurs_other : (b d : ℕ) (v : List ℕ) → (d ≡ b → ⊥) → occurs b (d ∷ v) ≡ occurs b v
unfolding occurs
occurs_other b d v h = rw (ne_eqb d b h) (omega arith)

no_digit : (b : ℕ) → b < 48 → (v : List ℕ) → digits_only v ≡ true → occurs b v ≡ 0
unfolding digits_only
no_digit b l [] h = none b
no_digit b l (d ∷ v) h =
    let w = and_true (between 48 57 d) (digits_only v) h in
    let k = between_is 48 57 d w.0 in
    occurs_other b d v (λ e. omega (arith, k.0)) ∙ no_digit b l v w.1

in_number : (b n : ℕ) → b < 48 → occurs b (decimal n) ≡ 0
in_number b n l = no_digit b l (decimal n) (reads_back n).digits

-- ---- a line of fields

-- how often a byte stands in the fields
abbrev within : ℕ → List (List ℕ) → ℕ
within b [] = 0
within b (f ∷ fs) = occurs b f + within b fs

-- the line before its LF
abbrev before : List (List ℕ) → List ℕ
before [] = []
before (f ∷ []) = f
before (f ∷ g ∷ fs) = f ++ (space ∷ before (g ∷ fs))

line_ends : (fs : List (List ℕ)) → line_of fs ≡ before fs ++ (lf ∷ [])
unfolding line_of
line_ends [] = refl
line_ends (f ∷ []) = refl
line_ends (f ∷ g ∷ fs) = rw (line_ends (g ∷ fs)) (simp append_assoc)

before_feeds : (fs : List (List ℕ)) → occurs lf (before fs) ≡ within lf fs
before_feeds [] = none lf
before_feeds (f ∷ []) = omega arith
before_feeds (f ∷ g ∷ fs) =
    occurs_both lf f (space ∷ before (g ∷ fs))
    ∙ ap (λ (k : ℕ). occurs lf f + k) (occurs_other lf space (before (g ∷ fs)) (λ e. omega (arith, e)) ∙ before_feeds (g ∷ fs))

line_spaces : (f : List ℕ) (fs : List (List ℕ)) → occurs space (line_of (f ∷ fs)) ≡ within space (f ∷ fs) + length fs
unfolding line_of occurs
line_spaces f [] = omega (arith, occurs_both space f (lf ∷ []))
line_spaces f (g ∷ fs) = omega (arith, occurs_both space f (space ∷ line_of (g ∷ fs)), line_spaces g fs)

lined : (f : List ℕ) (fs : List (List ℕ)) → within lf (f ∷ fs) ≡ 0 → within space (f ∷ fs) ≡ 0 → Lined (line_of (f ∷ fs)) (length fs)
lined f fs a b = record {
  front = before (f ∷ fs);
  ends = line_ends (f ∷ fs);
  one = before_feeds (f ∷ fs) ∙ a;
  apart = omega (arith, line_spaces f fs, b);
}

module _ (b : ℕ) (l : b < 48) where
  row_free : (clock letter i phase slot timeout : ℕ) → (letter ≡ b → ⊥)
      → within b (decimal clock ∷ (letter ∷ []) ∷ decimal i ∷ decimal phase ∷ decimal slot ∷ decimal timeout ∷ []) ≡ 0
  row_free clock letter i phase slot timeout h =
      omega (arith, in_number b clock l, occurs_other b letter [] h ∙ none b, in_number b i l, in_number b phase l, in_number b slot l, in_number b timeout l)

  end_free : (accepted refusal : ℕ) → within b ((69 ∷ 78 ∷ 68 ∷ []) ∷ decimal accepted ∷ decimal refusal ∷ []) ≡ 0
  end_free accepted refusal =
      let w : occurs b (69 ∷ 78 ∷ 68 ∷ []) ≡ 0 =
      occurs_other b 69 (78 ∷ 68 ∷ []) (λ e. omega arith) ∙ occurs_other b 78 (68 ∷ []) (λ e. omega arith) ∙ occurs_other b 68 [] (λ e. omega arith) ∙ none b in
      omega (arith, w, in_number b accepted l, in_number b refusal l)

letter_high : (x : Step) → 48 ≤ letter_of x
letter_high Advance = omega arith
letter_high (Timer i) = omega arith
letter_high (Hear i) = omega arith

-- "head (0 for A)", "three zeros for A", whatever the state
pub advance_zeros : (s : State) → step_line s Advance ≡ row_line s.clock 65 0 0 0 0
unfolding step_line head_of
advance_zeros s = refl

-- six fields stand five spaces apart, three fields two
pub step_lined : (s : State) (x : Step) → Lined (step_line s x) 5
unfolding step_line row_line
step_lined s x =
    let k = letter_high x in
    let i = head_number x in
    let p = phase_of s i in
    lined (decimal s.clock) _
    (row_free lf (omega arith) s.clock (letter_of x) i (phase_number p) (slot_number p) (timeout_of s i) (λ e. omega arith))
    (row_free space (omega arith) s.clock (letter_of x) i (phase_number p) (slot_number p) (timeout_of s i) (λ e. omega arith))

pub end_lined : (accepted refusal : ℕ) → Lined (end_line accepted refusal) 2
unfolding end_line
end_lined accepted refusal = lined (69 ∷ 78 ∷ 68 ∷ []) _ (end_free lf (omega arith) accepted refusal) (end_free space (omega arith) accepted refusal)

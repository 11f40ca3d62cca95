-- A line put piece by piece, in the code's own terms: what each return of a writer cites.
use Rattle.std.proofs.Common.{◌≡◌, refl, sym, ap, ◌∙◌, List, [], ◌∷◌, ◌++◌, append_assoc, ℕ, ◌+◌, ◌≤◌, ◌<◌, arith, length, length-append, le-leb, inl, inr, Option, None, Some}
use Rattle.std.proofs.lemmas.Bool.{lt-leb}
use Rattle.rules.proofs.Each.{less_or_not}
use Rattle.words.specs.declared.Step.{Step}
use Rattle.words.specs.Pair.{head_number}
use Rattle.rules.specs.declared.Head.{Head}
use Rattle.rules.specs.declared.State.{State}
use Rattle.rules.specs.State.{phase_number, slot_number, head_of}
use Rattle.lines.specs.Decimal.{decimal}
use Rattle.lines.specs.Line.{space, lf, line_of, letter_of, row_line, step_line, end_line, longest_line}
use Rattle.lines.specs.Room.{over, wrote, written, bytes_put, room_after}
use Rattle.lines.proofs.Over.{over_none, over_next}

-- ---- what a writer of the line v promises: an answer r, and the room m

abbrev pub Puts : List ℕ → ℕ → List ℕ → Option ℕ → List ℕ → Type 0
Puts l at v r m = (r ≡ written (length l) at v) × (m ≡ room_after l at v) × (length v ≤ longest_line)

-- what is answered counts the bytes that are put
pub counts : (size at : ℕ) (v : List ℕ) → bytes_put (written size at v) ≡ wrote size at v
unfolding written wrote
counts size at v = elim (less_or_not size (at + length v)) [
  | inl h ↦ rw (lt-leb _ _ h)
  | inr h ↦ rw (le-leb _ _ h)
]

module _ (l : List ℕ) (at : ℕ) (v : List ℕ) (short : length v ≤ longest_line) where
  -- room for none of the line, and for all of it
  pub none_put : length l < at + length v → Puts l at v None l
  unfolding written room_after
  none_put h = rw (lt-leb _ _ h) (refl, refl, short)

  all_put : at + length v ≤ length l → (r : ℕ) → r ≡ length v → (m : List ℕ) → m ≡ over l at v → Puts l at v (Some r) m
  unfolding written room_after
  all_put h r e m f = rw (le-leb _ _ h) (ap Some e, f, short)

-- ---- piece after piece

-- the room m is l with the bytes a put from position at on, and p is the position past them
pub record Put (l : List ℕ) (at : ℕ) (a m : List ℕ) (p : ℕ) : Type 0 where
  room : m ≡ over l at a
  past : p ≡ at + length a

module _ (l : List ℕ) (at : ℕ) where
  put_none : Put l at [] l at
  put_none = record { room = sym (over_none l at); past = omega arith }

  -- what a pen promises of the bytes b: from position p of the room m on
  put_more : {a m : List ℕ} {p : ℕ} → Put l at a m p → (b e : List ℕ) (q : ℕ) → p + length b ≤ length l → q ≡ p + length b → e ≡ over m p b → Put l at (a ++ b) e q
  put_more {a} {m} {p} w b e q h x y = record {
    room = y ∙ ap (λ (r : List ℕ). over r p b) w.room ∙ over_next l at a b p w.past h;
    past = x ∙ omega (arith, length-append a b, w.past);
  }

  -- of a number and the byte after it
  put_number : {a m : List ℕ} {p : ℕ} → Put l at a m p → (n after : ℕ) → p + length (decimal n) + 1 ≤ length l → (e : List ℕ) (q : ℕ) → q ≡ p + length (decimal n) + 1
      → e ≡ over m p (decimal n ++ (after ∷ [])) → Put l at (a ++ (decimal n ++ (after ∷ []))) e q
  put_number w n after h e q x y = let k = length-append (decimal n) (after ∷ []) in put_more w (decimal n ++ (after ∷ [])) e q (omega arith) (omega arith) y

  -- the whole of a line
  put_whole : {a m : List ℕ} {p : ℕ} → Put l at a m p → (v : List ℕ) → a ≡ v → length v ≤ longest_line → at + length v ≤ length l → (r : ℕ) → r ≡ length v → Puts l at v (Some r) m
  put_whole {a} {m} w v e short h r k = all_put l at v short h r k m (w.room ∙ ap (over l at) e)

-- ---- the two kinds of line

pub row_long : (clock letter i phase slot timeout : ℕ)
    → length (row_line clock letter i phase slot timeout) ≡ length (decimal clock) + length (decimal i) + length (decimal phase) + length (decimal slot) + length (decimal timeout) + 7
unfolding row_line line_of
row_long clock letter i phase slot timeout = simp length-append (omega arith)

pub end_long : (accepted refusal : ℕ) → length (end_line accepted refusal) ≡ length (decimal accepted) + length (decimal refusal) + 6
unfolding end_line line_of
end_long accepted refusal = simp length-append (omega arith)

row_pieces : (clock letter i phase slot timeout : ℕ)
    → (decimal clock ++ (space ∷ [])) ++ (letter ∷ space ∷ []) ++ (decimal i ++ (space ∷ [])) ++ (decimal phase ++ (space ∷ [])) ++ (decimal slot ++ (space ∷ [])) ++ (decimal timeout ++ (lf ∷ []))
    ≡ row_line clock letter i phase slot timeout
unfolding row_line line_of
row_pieces clock letter i phase slot timeout = simp append_assoc

end_pieces : (accepted refusal : ℕ) → (69 ∷ 78 ∷ 68 ∷ space ∷ []) ++ (decimal accepted ++ (space ∷ [])) ++ (decimal refusal ++ (lf ∷ [])) ≡ end_line accepted refusal
unfolding end_line line_of
end_pieces accepted refusal = simp append_assoc

-- what a pen promises of a number and the byte after it
abbrev Number : List ℕ → ℕ → ℕ → ℕ → ℕ → List ℕ → Type 0
Number m p n after q e = (q ≡ p + length (decimal n) + 1) × (e ≡ over m p (decimal n ++ (after ∷ [])))

abbrev Text : List ℕ → ℕ → List ℕ → ℕ → List ℕ → Type 0
Text m p v q e = (q ≡ p + length v) × (e ≡ over m p v)

pub row_written : (l : List ℕ) (at clock letter i phase slot timeout : ℕ) → length (row_line clock letter i phase slot timeout) ≤ longest_line → at + length (row_line clock letter i phase slot timeout) ≤ length l
    → (r : ℕ) → r ≡ length (row_line clock letter i phase slot timeout)
    → (m₁ : List ℕ) (p₁ : ℕ) → Number l at clock space p₁ m₁
    → (m₂ : List ℕ) (p₂ : ℕ) → Text m₁ p₁ (letter ∷ space ∷ []) p₂ m₂
    → (m₃ : List ℕ) (p₃ : ℕ) → Number m₂ p₂ i space p₃ m₃
    → (m₄ : List ℕ) (p₄ : ℕ) → Number m₃ p₃ phase space p₄ m₄
    → (m₅ : List ℕ) (p₅ : ℕ) → Number m₄ p₄ slot space p₅ m₅
    → (m₆ : List ℕ) (p₆ : ℕ) → Number m₅ p₅ timeout lf p₆ m₆ → (m : List ℕ) → m ≡ m₆
    → Puts l at (row_line clock letter i phase slot timeout) (Some r) m
row_written l at clock letter i phase slot timeout short h r e m₁ p₁ n₁ m₂ p₂ n₂ m₃ p₃ n₃ m₄ p₄ n₄ m₅ p₅ n₅ m₆ p₆ n₆ m f =
    let k = row_long clock letter i phase slot timeout in
    let w₁ = put_number l at (put_none l at) clock space (omega arith) m₁ p₁ n₁.0 n₁.1 in
    let w₂ = put_more l at w₁ (letter ∷ space ∷ []) m₂ p₂ (omega arith) n₂.0 n₂.1 in
    let w₃ = put_number l at w₂ i space (omega arith) m₃ p₃ n₃.0 n₃.1 in
    let w₄ = put_number l at w₃ phase space (omega arith) m₄ p₄ n₄.0 n₄.1 in
    let w₅ = put_number l at w₄ slot space (omega arith) m₅ p₅ n₅.0 n₅.1 in
    let w₆ = put_number l at w₅ timeout lf (omega arith) m₆ p₆ n₆.0 n₆.1 in
    rw f (put_whole l at w₆ _ (row_pieces clock letter i phase slot timeout) short h r e)

pub end_written : (l : List ℕ) (at accepted refusal : ℕ) → length (end_line accepted refusal) ≤ longest_line → at + length (end_line accepted refusal) ≤ length l
    → (r : ℕ) → r ≡ length (end_line accepted refusal)
    → (m₁ : List ℕ) (p₁ : ℕ) → Text l at (69 ∷ 78 ∷ 68 ∷ space ∷ []) p₁ m₁
    → (m₂ : List ℕ) (p₂ : ℕ) → Number m₁ p₁ accepted space p₂ m₂
    → (m₃ : List ℕ) (p₃ : ℕ) → Number m₂ p₂ refusal lf p₃ m₃ → (m : List ℕ) → m ≡ m₃
    → Puts l at (end_line accepted refusal) (Some r) m
end_written l at accepted refusal short h r e m₁ p₁ n₁ m₂ p₂ n₂ m₃ p₃ n₃ m f =
    let k = end_long accepted refusal in
    let w₁ = put_more l at (put_none l at) (69 ∷ 78 ∷ 68 ∷ space ∷ []) m₁ p₁ (omega arith) n₁.0 n₁.1 in
    let w₂ = put_number l at w₁ accepted space (omega arith) m₂ p₂ n₂.0 n₂.1 in
    let w₃ = put_number l at w₂ refusal lf (omega arith) m₃ p₃ n₃.0 n₃.1 in
    rw f (put_whole l at w₃ _ (end_pieces accepted refusal) short h r e)

-- a step's line, by the numbers that the code takes out of the state and the step
pub step_is : (s : State) (x : Step) (i letter phase slot : ℕ) (h : Head) → i ≡ head_number x → h ≡ head_of s.heads i → letter ≡ letter_of x
    → phase ≡ phase_number h.phase → slot ≡ slot_number h.phase → row_line s.clock letter i phase slot h.timeout ≡ step_line s x
unfolding step_line
step_is s x i letter phase slot h e₁ e₂ e₃ e₄ e₅ = rw (e₅, e₄, e₃, e₂, e₁)

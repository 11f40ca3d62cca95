-- The arithmetic of slots and rounds: all that the proof knows of products and of `next_slot`.
use Rattle.std.proofs.Common.{ℕ, ◌+◌, ◌*◌, ◌-◌, ◌≤◌, ◌<◌, ◌≡◌, ap, inl, inr, arith, mul-le-mul_right, eq-eqb, ne_eqb, lt-ltb, le-ltb}
use Rattle.rules.proofs.Each.{same_or_not, less_or_not}
use Rattle.startup.specs.World.{Tab, In, Fit, round, offset, next_slot, slots_between, distance, listener_wait}

-- A fact at every j: at i, and at the others.
pub split : (P : ℕ → Type 0) (i : ℕ) → ((j : ℕ) → j ≡ i → P j) → ((j : ℕ) → (j ≡ i → ⊥) → P j) → (j : ℕ) → P j
split P i f g j = elim (same_or_not j i) [ inl e ↦ f j e | inr n ↦ g j n ]

module _ (t : Tab) where
  -- A slot ends within the round.
  pub offset_top : (j : ℕ) → In t j → offset t j + t.s ≤ round t
  unfolding offset round
  offset_top j k = let h : (j - 1) + 1 ≤ t.n = omega arith in omega (arith, mul-le-mul_right t.s h)

  -- A later slot starts after an earlier one has ended.
  pub offset_step : (i j : ℕ) → 1 ≤ i → i < j → offset t i + t.s ≤ offset t j
  unfolding offset
  offset_step i j k l = let h : (i - 1) + 1 ≤ j - 1 = omega arith in omega (arith, mul-le-mul_right t.s h)

  -- The first slot starts with the round.
  pub offset_one : offset t 1 ≡ 0
  unfolding offset
  offset_one = omega arith

  -- A round has room for a slot, and for two if there are two heads.
  pub round_one : 1 ≤ t.n → t.s ≤ round t
  unfolding round
  round_one h = omega (arith, mul-le-mul_right t.s h)

  pub round_two : 2 ≤ t.n → t.s + t.s ≤ round t
  unfolding round
  round_two h = omega (arith, mul-le-mul_right t.s h)

  -- All that is used of the listener's wait: counted from the sending, P before the hearing, it is at least the sender's own wait, and at most P more.
  pub listener_wait_lem : (j : ℕ) → (round t + offset t j ≤ listener_wait t j + t.p) × (listener_wait t j ≤ round t + offset t j)
  unfolding listener_wait
  listener_wait_lem j = (omega arith, omega arith)

  -- There is a head 1.
  pub first_in : Fit t → In t 1
  first_in F = record { low = omega arith; high = F.some }

  -- There is another head than i.
  pub another : (i : ℕ) → 2 ≤ t.n → (h : ℕ) × (In t h × (h ≡ i → ⊥))
  another i two = elim (same_or_not i 1) [
    | inl e ↦ (2, (record { low = omega arith; high = two }, omega arith))
    | inr e ↦ (1, (record { low = omega arith; high = omega arith }, omega arith))
  ]

  -- The two cases of the next slot, and of the slots between two.
  next_top : (c : ℕ) → c ≡ t.n → next_slot t c ≡ 1
  unfolding next_slot
  next_top c e = rw (eq-eqb c t.n e)

  next_up : (c : ℕ) → (c ≡ t.n → ⊥) → next_slot t c ≡ c + 1
  unfolding next_slot
  next_up c e = rw (ne_eqb c t.n e)

  -- The next slot is a slot.
  pub next_in : (c : ℕ) → In t c → In t (next_slot t c)
  next_in c k = elim (same_or_not c t.n) [
    | inl e ↦ let q = next_top c e in record { low = omega arith; high = omega arith }
    | inr e ↦ let q = next_up c e in record { low = omega arith; high = omega arith }
  ]

  between_lt : (c i : ℕ) → c < i → slots_between t c i ≡ i - c - 1
  unfolding slots_between
  between_lt c i h = rw (lt-ltb c i h)

  between_ge : (c i : ℕ) → i ≤ c → slots_between t c i ≡ t.n + i - c - 1
  unfolding slots_between
  between_ge c i h = rw (le-ltb c i h)

  -- Fewer than N slots lie between any two, fewer than N - 1 between two different ones, and one fewer after a turn.
  between_top : (c i : ℕ) → In t c → In t i → slots_between t c i + 1 ≤ t.n
  between_top c i k l = elim (less_or_not c i) [ inl h ↦ let q = between_lt c i h in omega arith | inr h ↦ let q = between_ge c i h in omega arith ]

  between_far : (c i : ℕ) → In t c → In t i → (c ≡ i → ⊥) → slots_between t c i + 2 ≤ t.n
  between_far c i k l d = elim (less_or_not c i) [ inl h ↦ let q = between_lt c i h in omega arith | inr h ↦ let q = between_ge c i h in omega arith ]

  between_next : (c i : ℕ) → In t c → In t i → (next_slot t c ≡ i → ⊥) → slots_between t (next_slot t c) i + 1 ≡ slots_between t c i
  between_next c i k l d = elim (same_or_not c t.n) [
    | inl e ↦ let q = next_top c e in let u = between_ge c i (omega arith) in let v = between_lt (next_slot t c) i (omega arith) in omega arith
    | inr e ↦ let q = next_up c e in elim (less_or_not (next_slot t c) i) [
      | inl h ↦ let u = between_lt c i (omega arith) in let v = between_lt (next_slot t c) i h in omega arith
      | inr h ↦ let u = between_ge c i (omega arith) in let v = between_ge (next_slot t c) i h in omega arith
    ]
  ]

  -- A head's next slot starts within a round of the start of this slot.
  pub distance_top : (c i : ℕ) → In t c → In t i → distance t c i + t.s ≤ round t
  unfolding distance round
  distance_top c i k l = omega (arith, mul-le-mul_right t.s (between_top c i k l))

  -- Unless this slot is the head's own, a slot sooner.
  pub distance_far : (c i : ℕ) → In t c → In t i → (c ≡ i → ⊥) → distance t c i + (t.s + t.s) ≤ round t
  unfolding distance round
  distance_far c i k l d = omega (arith, mul-le-mul_right t.s (between_far c i k l d))

  -- A turn to a slot that is not the head's own takes one slot off.
  pub distance_next : (c i : ℕ) → In t c → In t i → (next_slot t c ≡ i → ⊥) → distance t (next_slot t c) i + t.s ≡ distance t c i
  unfolding distance
  distance_next c i k l d = omega (arith, ap (λ x. x * t.s) (between_next c i k l d))

  -- Slot 2 follows slot 1.
  pub distance_two : distance t 1 2 ≡ 0
  unfolding distance
  distance_two = omega (arith, ap (λ x. x * t.s) (between_lt 1 2 (omega arith)))

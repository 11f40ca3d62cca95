-- Refusal numbers: no two refusals share one, and what a row of them gives.
use Rattle.std.proofs.Common.{◌≡◌, refl, sym, ap, ◌∙◌, Bool, true, false, List, [], ◌∷◌, ℕ, zero, suc, ◌≤◌, arith, get_or, Result, Ok, Err}
use Rattle.words.specs.declared.Refusal.{Refusal}
use Rattle.words.specs.declared.Refusal.TheVariants.{TableLength, TableMark, TableRange, StateLength, StateMark, StateRule, NoSuchStep, SomethingDue, TimerNotDue, NotHearing, PastCeiling, ShortRoom, OwnFrame, HoldRange, BeforeLastBreak, NotActive, NoFreePlace, NoSuchEntry, NoNumberLeft, BookRule}
use Rattle.words.specs.declared.answers.Refused.{Refused}
use Rattle.words.specs.Refusal.{number_of, verdict_number, unless, first_refusal}
use Rattle.words.specs.Answer.{answer_number, answer_record, Answers}

-- ---- each number is one refusal's

-- the refusals by their numbers; a place that no number names holds any
by_number : ℕ → Refusal
by_number n = get_or (OwnFrame ∷ TableLength ∷ TableMark ∷ TableRange ∷ StateLength ∷ StateMark ∷ StateRule ∷ NoSuchStep ∷ SomethingDue ∷ TimerNotDue ∷ NotHearing ∷ PastCeiling ∷ ShortRoom ∷ OwnFrame ∷ OwnFrame ∷ HoldRange ∷ BeforeLastBreak ∷ NotActive ∷ NoFreePlace ∷ NoSuchEntry ∷ NoNumberLeft ∷ OwnFrame ∷ OwnFrame ∷ OwnFrame ∷ OwnFrame ∷ BookRule ∷ []) n OwnFrame

found : (x : Refusal) → by_number (number_of x) ≡ x
unfolding by_number
found TableLength = refl
found TableMark = refl
found TableRange = refl
found StateLength = refl
found StateMark = refl
found StateRule = refl
found NoSuchStep = refl
found SomethingDue = refl
found TimerNotDue = refl
found NotHearing = refl
found PastCeiling = refl
found ShortRoom = refl
found OwnFrame = refl
found HoldRange = refl
found BeforeLastBreak = refl
found NotActive = refl
found NoFreePlace = refl
found NoSuchEntry = refl
found NoNumberLeft = refl
found BookRule = refl

pub number_one : (x y : Refusal) → number_of x ≡ number_of y → x ≡ y
number_one x y e = sym (found x) ∙ ap by_number e ∙ found y

-- no refusal has the number 0
pub number_some : (x : Refusal) → 1 ≤ number_of x
number_some TableLength = omega arith
number_some TableMark = omega arith
number_some TableRange = omega arith
number_some StateLength = omega arith
number_some StateMark = omega arith
number_some StateRule = omega arith
number_some NoSuchStep = omega arith
number_some SomethingDue = omega arith
number_some TimerNotDue = omega arith
number_some NotHearing = omega arith
number_some PastCeiling = omega arith
number_some ShortRoom = omega arith
number_some OwnFrame = omega arith
number_some HoldRange = omega arith
number_some BeforeLastBreak = omega arith
number_some NotActive = omega arith
number_some NoFreePlace = omega arith
number_some NoSuchEntry = omega arith
number_some NoNumberLeft = omega arith
number_some BookRule = omega arith

-- a verdict is known by its number
pub verdict_one : (v w : Result (Unit {0}) Refusal) → verdict_number v ≡ verdict_number w → v ≡ w
verdict_one (Ok a) (Ok b) e = refl
verdict_one (Ok a) (Err y) e = absurd (omega (arith, number_some y))
verdict_one (Err x) (Ok a) e = absurd (omega (arith, number_some x))
verdict_one (Err x) (Err y) e = ap Err (number_one x y e)

pub accepted_zero : {A : Type 0} → (v : Result A Refusal) (n : ℕ) (a : A) → verdict_number v ≡ n → v ≡ Ok a → n ≡ 0
accepted_zero v n a e f = sym e ∙ ap verdict_number f

pub refused_some : {A : Type 0} → (v : Result A Refusal) (n : ℕ) (x : Refusal) → verdict_number v ≡ n → v ≡ Err x → n ≡ 0 → ⊥
refused_some v n x e a z = let q : number_of x ≡ 0 = sym (ap verdict_number a) ∙ e ∙ z in omega (arith, number_some x)

-- an answer is known by its number and its record
pub refused_one : {A : Type 0} → (r q : Refused A) → r.why ≡ q.why → r.back ≡ q.back → r ≡ q
refused_one r q e f = ap (λ w. record { why = w; back = r.back }) e ∙ ap (λ b. record { why = q.why; back = b }) f

pub answer_one : {A : Type 0} → (r q : Result A (Refused A)) → answer_number r ≡ answer_number q → answer_record r ≡ answer_record q → r ≡ q
answer_one (Ok a) (Ok b) e f = ap Ok f
answer_one (Ok a) (Err y) e f = absurd (omega (arith, number_some y.why))
answer_one (Err x) (Ok b) e f = absurd (omega (arith, number_some x.why))
answer_one (Err x) (Err y) e f = ap Err (refused_one x y (number_one _ _ e) f)

pub answers_one : {A : Type 0} → (r q : Result A (Refused A)) (n : ℕ) (a : A) → Answers r n a → Answers q n a → r ≡ q
answers_one r q n a p e = answer_one r q (p.0 ∙ sym e.0) (p.1 ∙ sym e.1)

-- ---- the first refusal of a row

-- nothing is refused where the test holds, and only there
pub unless_is : (b : Bool) (x : Refusal) → unless b x ≡ 0 → b ≡ true
unfolding unless
unless_is true x e = refl
unless_is false x e = absurd (omega (arith, number_some x))

pub is_unless : (b : Bool) (x : Refusal) → b ≡ true → unless b x ≡ 0
unfolding unless
is_unless b x e = rw e

pub unless_not : (b : Bool) (x : Refusal) → b ≡ false → unless b x ≡ number_of x
unfolding unless
unless_not b x e = rw e

-- a row gives its first where that refuses, and otherwise goes on
pub first_some : (x : ℕ) (rest : List ℕ) → (x ≡ 0 → ⊥) → first_refusal (x ∷ rest) ≡ x
unfolding first_refusal
first_some zero rest n = absurd (n refl)
first_some (suc x) rest n = refl

pub first_none : (x : ℕ) (rest : List ℕ) → x ≡ 0 → first_refusal (x ∷ rest) ≡ first_refusal rest
unfolding first_refusal
first_none x rest e = rw e

pub first_last : (x : ℕ) → first_refusal (x ∷ []) ≡ x
unfolding first_refusal
first_last zero = refl
first_last (suc x) = refl

-- a row gives no refusal where its first gives none and the rest give none
pub first_is : (x : ℕ) (rest : List ℕ) → first_refusal (x ∷ rest) ≡ 0 → (x ≡ 0) × (first_refusal rest ≡ 0)
unfolding first_refusal
first_is zero rest e = (refl, e)
first_is (suc x) rest e = absurd (omega arith)

pub is_first : (x : ℕ) (rest : List ℕ) → x ≡ 0 → first_refusal rest ≡ 0 → first_refusal (x ∷ rest) ≡ 0
unfolding first_refusal
is_first x rest e f = rw e f

-- the same of a row of three
pub row_is : (a b c : ℕ) → first_refusal (a ∷ b ∷ c ∷ []) ≡ 0 → (a ≡ 0) × (b ≡ 0) × (c ≡ 0)
row_is a b c e = let r = first_is a _ e in let q = first_is b _ r.1 in (r.0, q.0, (first_is c [] q.1).0)

pub is_row : {a b c : ℕ} → a ≡ 0 → b ≡ 0 → c ≡ 0 → first_refusal (a ∷ b ∷ c ∷ []) ≡ 0
unfolding first_refusal
is_row p q r = rw (p, q, r)

-- a row that begins with two gives what those give, or what the rest gives
pub row_first : (x y : ℕ) (rest : List ℕ) → (first_refusal (x ∷ y ∷ []) ≡ 0 → ⊥) → first_refusal (x ∷ y ∷ []) ≡ first_refusal (x ∷ y ∷ rest)
unfolding first_refusal
row_first zero zero rest n = absurd (n refl)
row_first zero (suc y) rest n = refl
row_first (suc x) y rest n = refl

-- a row of two gives what it gives with a third that refuses nothing
pub row_end : (x y : ℕ) → first_refusal (x ∷ y ∷ []) ≡ first_refusal (x ∷ y ∷ 0 ∷ [])
unfolding first_refusal
row_end zero zero = refl
row_end zero (suc y) = refl
row_end (suc x) y = refl

pub row_past : (x y : ℕ) (rest : List ℕ) → first_refusal (x ∷ y ∷ []) ≡ 0 → first_refusal rest ≡ first_refusal (x ∷ y ∷ rest)
row_past x y rest e = let r = first_is x _ e in sym (first_none x _ r.0 ∙ first_none y _ (first_is y [] r.1).0)

-- which of a row of three gives its number n
pub data Gives (a b c n : ℕ) : Type 0 where
  by_first : a ≡ n → Gives a b c n
  by_second : a ≡ 0 → b ≡ n → Gives a b c n
  by_third : a ≡ 0 → b ≡ 0 → c ≡ n → Gives a b c n

pub row_gives : (a b c n : ℕ) → first_refusal (a ∷ b ∷ c ∷ []) ≡ suc n → Gives a b c (suc n)
unfolding first_refusal
row_gives zero zero zero n e = absurd (omega arith)
row_gives zero zero (suc c) n e = by_third refl refl e
row_gives zero (suc b) c n e = by_second refl e
row_gives (suc a) b c n e = by_first e

-- a test that refuses gives its own number
pub unless_gives : (b : Bool) (x : Refusal) (n : ℕ) → unless b x ≡ suc n → number_of x ≡ suc n
unfolding unless
unless_gives true x n e = absurd (omega arith)
unless_gives false x n e = e

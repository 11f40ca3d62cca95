-- What a break that a book admits has shown; when its clock is, and when a phase is active.
use Rattle.std.proofs.Common.{◌≡◌, refl, sym, true, ◌&&◌, [], ℕ, ◌≤◌, arith}
use Rattle.std.proofs.lemmas.Bool.{leb-true, le-leb}
use Rattle.words.specs.declared.Refusal.TheVariants.{BeforeLastBreak, NotActive}
use Rattle.words.specs.Refusal.{unless}
use Rattle.words.proofs.Order.{unless_is, is_unless, first_is}
use Rattle.rules.specs.declared.Phase.{Phase}
use Rattle.rules.specs.declared.Phase.TheVariants.{Init, Listen, Coldstart, Active}
use Rattle.rules.specs.declared.State.{State}
use Rattle.rules.specs.declared.Table.{Table}
use Rattle.rules.specs.Limits.{max_heads}
use Rattle.rules.specs.Table.{is_head, table_fits}
use Rattle.rules.specs.State.{phase_of}
use Rattle.rules.proofs.Each.{no_both, and_true, between_is}
use Rattle.rules.proofs.Meaning.{table_meets}
use Rattle.book.specs.declared.Book.{Book}
use Rattle.book.specs.Breaks.{active, clock_refusal, head_refusal, admit_refusal}

-- an active head is one of the table's
pub active_head : (t : Table) (s : State) (i : ℕ) → table_fits t ≡ true → (is_head t i && active (phase_of s i)) ≡ true → (1 ≤ i) × (i ≤ max_heads)
unfolding is_head
active_head t s i f e = let r = between_is 1 t.n i (and_true (is_head t i) (active (phase_of s i)) e).0 in let m = (table_meets t f).heads in (r.0, omega arith)

-- ---- 16, then 17

module _ (b : Book) (clock : ℕ) where
  pub clock_is : clock_refusal b clock ≡ 0 → b.latest ≤ clock
  unfolding clock_refusal
  clock_is e = leb-true _ _ (unless_is _ BeforeLastBreak e)

  pub is_clock : b.latest ≤ clock → clock_refusal b clock ≡ 0
  unfolding clock_refusal
  is_clock l = is_unless _ BeforeLastBreak (le-leb _ _ l)

module _ (t : Table) (s : State) (b : Book) (i : ℕ) where
  -- what a break that is admitted has shown
  pub accepted_break : table_fits t ≡ true → admit_refusal t s b i ≡ 0 → (b.latest ≤ s.clock) × (1 ≤ i) × (i ≤ max_heads)
  unfolding admit_refusal head_refusal
  accepted_break f z =
      let r = first_is (clock_refusal b s.clock) _ z in
      let h = active_head t s i f (unless_is (is_head t i && active (phase_of s i)) NotActive (first_is (unless (is_head t i && active (phase_of s i)) NotActive) [] r.1).0) in
      (clock_is b s.clock r.0, h.0, h.1)

-- ---- "active": in some slot, and only so

pub active_is : (p : Phase) → active p ≡ true → (k : ℕ) × (p ≡ Active k)
unfolding active
active_is Init e = no_both (sym e)
active_is Listen e = no_both (sym e)
active_is Coldstart e = no_both (sym e)
active_is (Active k) e = (k, refl)

pub is_active : (p : Phase) → (k : ℕ) × (p ≡ Active k) → active p ≡ true
unfolding active
is_active p a = rw a.1

-- Together the parts are the step: on a table and a state that fit, what they refuse and what they make is what the rules say.
use Rattle.std.proofs.Common.{◌≡◌, refl, sym, ap, ◌∙◌, true, false, ⊎_elim, List, [], ◌∷◌, ℕ, zero, suc, ◌-◌, ◌≤◌, ◌<◌, arith, eqb, length, get_or, set, ne_eqb, le-leb}
use Rattle.std.proofs.Math.ListN.{get_or-map}
use Rattle.std.proofs.Math.Seq.{set-get_or}
use borrow.Author.Tests.{lt-leb}
use Rattle.words.specs.declared.Step.{Step}
use Rattle.words.specs.declared.Step.TheVariants.{Advance, Timer, Hear}
use Rattle.words.specs.declared.Refusal.TheVariants.{NoSuchStep}
use Rattle.words.specs.Refusal.{first_refusal}
use Rattle.words.specs.Pair.{head_number}
use Rattle.words.proofs.Order.{unless_is, unless_not, first_none, row_is, row_end}
use Rattle.rules.specs.declared.Head.{Head}
use Rattle.rules.specs.declared.Phase.{Phase}
use Rattle.rules.specs.declared.Phase.TheVariants.{Init, Listen, Coldstart, Active}
use Rattle.rules.specs.declared.Calendar.{Calendar}
use Rattle.rules.specs.declared.State.{State}
use Rattle.rules.specs.declared.Table.{Table}
use Rattle.rules.specs.Limits.{max_heads}
use Rattle.rules.specs.Table.{is_head, table_fits}
use Rattle.rules.specs.Calendar.{left}
use Rattle.rules.specs.State.{no_head, head_of, put, phase_of, state_fits}
use Rattle.rules.specs.Step.{timer_due, due, least_timeout, next_instant, timer_head, timer_frame, sends, hear_head, advance, timer, hear, moved}
use Rattle.rules.specs.Judge.{name_refusal, due_refusal, last_refusal, step_refusal, state_after}
use Rattle.rules.proofs.Filled.{Filled, filled_all}
use Rattle.rules.proofs.Each.{less_or_not, either_or_not, is_between, no_both}
use Rattle.rules.proofs.Meaning.{head_is, table_meets, state_meets}
use Rattle.rules.proofs.Checks.{head_at}
use Rattle.rules.proofs.Moves.{due_is_now}
use Rattle.steps.specs.Parts.{place, heeds, timeouts, least, instant, clock_after, calendar_after, head_after, advance_refusal, timer_refusal, hear_refusal, part_refusal}
use Rattle.steps.specs.Ready.{Sender, Ready}

-- ---- places

pub place_in : (i : ℕ) → 1 ≤ i → i ≤ max_heads → place i ≡ i - 1
unfolding place
place_in i a b = rw (is_between 1 max_heads i a b)

pub place_low : (i : ℕ) → i < 1 → 0 ≡ place i
unfolding place
place_low i l = rw (lt-leb 1 i l)

pub place_high : (i : ℕ) → max_heads < i → 0 ≡ place i
unfolding place
place_high i l = rw (le-leb 1 i (omega arith), lt-leb i max_heads l)

pub place_below : (i : ℕ) → place i < max_heads
place_below i = ⊎_elim
    (λ l. rw (← place_low i l) (omega arith))
    (λ l. ⊎_elim (λ m. rw (← place_high i m) (omega arith)) (λ m. rw (place_in i l m) (omega arith)) (less_or_not max_heads i))
    (less_or_not i 1)

-- a step that is ready stands within the table
pub place_within : (t : Table) (clock : ℕ) (x : Step) → Ready t clock x → place (head_number x) ≤ t.n
unfolding Ready
place_within t clock Advance r = rw (← place_low 0 (omega arith)) (omega arith)
place_within t clock (Timer i) r = let a = r.first in let b = r.last in let n = r.heads in rw (place_in i a (omega arith)) (omega arith)
place_within t clock (Hear i) r = let a = r.first in let b = r.last in let n = r.heads in rw (place_in i a (omega arith)) (omega arith)

put_at : (hs : List Head) (i : ℕ) (h : Head) → 1 ≤ i → set hs (i - 1) h ≡ put hs i h
unfolding put
put_at hs zero h l = absurd (omega arith)
put_at hs (suc k) h l = let e : suc k - 1 ≡ k = omega arith in rw e

-- ---- the timeouts, side by side

pub timeout_at : (hs : List Head) (k : ℕ) → get_or (timeouts hs) k 0 ≡ (get_or hs k no_head).timeout
unfolding timeouts
timeout_at hs k = get_or-map (λ (h : Head). h.timeout) hs k no_head

pub timeouts_set : (hs : List Head) (k : ℕ) (h : Head) → set (timeouts hs) k h.timeout ≡ timeouts (set hs k h)
unfolding timeouts
timeouts_set [] k h = refl
timeouts_set (g ∷ hs) zero h = refl
timeouts_set (g ∷ hs) (suc k) h = ap (λ (r : List ℕ). g.timeout ∷ r) (timeouts_set hs k h)

least_is : (s : State) (k : ℕ) → least (timeouts s.heads) k ≡ least_timeout s k
unfolding least least_timeout head_of
least_is s zero = timeout_at s.heads 0
least_is s (suc k) = rw (least_is s k, timeout_at s.heads k)

pub instant_is : (t : Table) (s : State) → instant (timeouts s.heads) t.n s.calendar ≡ next_instant t s
unfolding instant next_instant
instant_is t s = rw (least_is s t.n)

-- ---- the timeouts, place by place

abbrev pub timeout_in : Head → ℕ
timeout_in h = h.timeout

pub timeouts_all : (hs : List Head) (k : ℕ) (es : List ℕ) → length hs ≡ max_heads → max_heads ≤ k → Filled timeout_in no_head hs max_heads k es → es ≡ timeouts hs
unfolding timeouts
timeouts_all hs k es w l a = filled_all timeout_in no_head hs max_heads k es w l a

-- ---- a step on a table and a state that fit, by its place, the clock after it, and the parts it reads

module _ (t : Table) (s : State) (f : table_fits t ≡ true) (g : state_fits t s ≡ true) where
  due_now : due t s ≡ eqb (next_instant t s) s.clock
  due_now = let m = table_meets t f in due_is_now t s m (state_meets t s m.heads g)

  -- a head of the table stands at its place
  named : (i : ℕ) → is_head t i ≡ true → get_or s.heads (place i) no_head ≡ head_of s.heads i
  named i e =
      let h = head_is t i e in
      let m = table_meets t f in
      rw (place_in i h.low (let n = m.heads in omega arith)) (sym (head_at s.heads i h.low))

  advance_refusal_lem : advance_refusal s.clock (instant (timeouts s.heads) t.n s.calendar) ≡ step_refusal t s Advance
  unfolding advance_refusal step_refusal name_refusal due_refusal last_refusal
  advance_refusal_lem = rw (instant_is t s, due_now) (sym (first_none 0 _ refl))

  timer_refusal_lem : (i : ℕ) → timer_refusal t s.clock (get_or s.heads (place i) no_head) i ≡ step_refusal t s (Timer i)
  unfolding timer_refusal step_refusal name_refusal due_refusal last_refusal timer_due first_refusal
  timer_refusal_lem i = ⊎_elim
      (λ e. rw (named i e) (row_end _ _))
      (λ e. rw (unless_not (is_head t i) NoSuchStep e))
      (either_or_not (is_head t i))

  hear_refusal_lem : (i : ℕ) → hear_refusal t s.clock s.calendar i ≡ step_refusal t s (Hear i)
  unfolding hear_refusal step_refusal name_refusal due_refusal last_refusal
  hear_refusal_lem i = refl

  -- an accepted step names a head of the table, or none
  timer_named : (i : ℕ) → step_refusal t s (Timer i) ≡ 0 → is_head t i ≡ true
  unfolding step_refusal name_refusal
  timer_named i e = unless_is (is_head t i) NoSuchStep (row_is _ _ _ e).0

  hear_named : (i : ℕ) → step_refusal t s (Hear i) ≡ 0 → is_head t i ≡ true
  unfolding step_refusal name_refusal
  hear_named i e = unless_is (is_head t i) NoSuchStep (row_is _ _ _ e).0

  sender : (i : ℕ) → is_head t i ≡ true → Sender t s.clock i
  sender i e =
      let m = table_meets t f in
      let w = state_meets t s m.heads g in
      let h = head_is t i e in
      record { first = h.low; last = h.high; heads = m.heads; slot = m.slot_high; flight = let p = m.short in omega arith; now = w.clock }

  pub ready : (x : Step) → step_refusal t s x ≡ 0 → Ready t s.clock x
  unfolding Ready
  ready Advance e = tt
  ready (Timer i) e = sender i (timer_named i e)
  ready (Hear i) e = sender i (hear_named i e)

-- the same by the place at of the step and the clock later that it comes to
module _ (t : Table) (s : State) (f : table_fits t ≡ true) (g : state_fits t s ≡ true) (at later : ℕ) where
  refusal_at : (x : Step) → at ≡ place (head_number x) → later ≡ clock_after (timeouts s.heads) t.n s.clock s.calendar x
      → part_refusal t s.clock later s.calendar (get_or s.heads at no_head) x ≡ step_refusal t s x
  unfolding part_refusal clock_after
  refusal_at Advance a b = rw b (advance_refusal_lem t s f g)
  refusal_at (Timer i) a b = rw a (timer_refusal_lem t s f g i)
  refusal_at (Hear i) a b = hear_refusal_lem t s f g i

  moved_at : (x : Step) → at ≡ place (head_number x) → later ≡ clock_after (timeouts s.heads) t.n s.clock s.calendar x → step_refusal t s x ≡ 0
      → (c : Calendar) → c ≡ calendar_after t s.clock s.calendar (get_or s.heads at no_head) x
      → (h : Head) → h ≡ head_after t s.clock s.calendar (get_or s.heads at no_head) x
      → record { clock = later; n = s.n; calendar = c; heads = set s.heads at h } ≡ moved t s x
  unfolding clock_after calendar_after head_after moved advance timer hear
  moved_at Advance a b z c d h e =
      let hs : set s.heads at h ≡ s.heads = ap (set s.heads at) e ∙ set-get_or s.heads at no_head in
      λ j. record { clock = (b ∙ instant_is t s) j; n = s.n; calendar = d j; heads = hs j }
  moved_at (Timer i) a b z c d h e =
      let q = timer_named t s f g i z in
      let w = named t s f g i q in
      let at_i : at ≡ i - 1 = a ∙ place_in i (head_is t i q).low (let m = table_meets t f in let l = m.heads in let k = (head_is t i q).high in omega arith) in
      let cal : c ≡ sends t s.clock (timer_frame t i (phase_of s i)) i s.calendar = d ∙ rw (a, w) in
      let hs : set s.heads at h ≡ put s.heads i (timer_head t s.clock i (phase_of s i)) = rw (at_i, put_at s.heads i h (head_is t i q).low) (ap (put s.heads i) (e ∙ rw (a, w))) in
      λ j. record { clock = b j; n = s.n; calendar = cal j; heads = hs j }
  moved_at (Hear i) a b z c d h e =
      let q = hear_named t s f g i z in
      let w = named t s f g i q in
      let at_i : at ≡ i - 1 = a ∙ place_in i (head_is t i q).low (let m = table_meets t f in let l = m.heads in let k = (head_is t i q).high in omega arith) in
      let hs : set s.heads at h ≡ put s.heads i (hear_head t s.clock i s.calendar (head_of s.heads i) (phase_of s i)) = rw (at_i, put_at s.heads i h (head_is t i q).low) (ap (put s.heads i) (e ∙ rw (a, w))) in
      λ j. record { clock = b j; n = s.n; calendar = d j; heads = hs j }

-- the same from the code's own values: i and at for the step's head and its place, es for the timeouts, later for the clock after it
module _ (t : Table) (s : State) (f : table_fits t ≡ true) (g : state_fits t s ≡ true) (x : Step) (i at : ℕ) (es : List ℕ) (later : ℕ)
    (p : i ≡ head_number x) (q : at ≡ place i) (r : es ≡ timeouts s.heads) (b : later ≡ clock_after es t.n s.clock s.calendar x) where
  pub same_refusal : part_refusal t s.clock later s.calendar (get_or s.heads at no_head) x ≡ step_refusal t s x
  same_refusal = refusal_at t s f g at later x (q ∙ ap place p) (rw r at b)

  pub whole : step_refusal t s x ≡ 0
      → (c : Calendar) → c ≡ calendar_after t s.clock s.calendar (get_or s.heads at no_head) x
      → (h : Head) → h ≡ head_after t s.clock s.calendar (get_or s.heads at no_head) x
      → record { clock = later; n = s.n; calendar = c; heads = set s.heads at h } ≡ moved t s x
  whole = moved_at t s f g at later x (q ∙ ap place p) (rw r at b)

hear_still : (t : Table) (clock i : ℕ) (c : Calendar) (h : Head) (p : Phase) → heeds p ≡ false → hear_head t clock i c h p ≡ h
unfolding hear_head heeds
hear_still t clock i c h Init w = refl
hear_still t clock i c h Listen w = no_both w
hear_still t clock i c h Coldstart w = no_both w
hear_still t clock i c h (Active k) w = refl

-- ---- a step on a state that is kept in place, with its timeouts beside it: what the code comes to is the step, and it is accepted

pub record Goes (t : Table) (s : State) (x : Step) (u : State) (es : List ℕ) : Type 0 where
  pub accepted : step_refusal t s x ≡ 0
  pub moves : u ≡ moved t s x
  pub beside : es ≡ timeouts u.heads

module _ (t : Table) (s : State) (f : table_fits t ≡ true) (g : state_fits t s ≡ true) (es : List ℕ) (r : es ≡ timeouts s.heads) (x : Step) (u : State) (e : List ℕ) where
  pub goes_advance : x ≡ Advance → (next : ℕ) → next ≡ instant es t.n s.calendar → advance_refusal s.clock next ≡ 0
      → u ≡ record { clock = next; n = s.n; calendar = s.calendar; heads = s.heads } → e ≡ es → Goes t s x u e
  unfolding moved advance
  goes_advance p next q z m k =
      let q' : next ≡ instant (timeouts s.heads) t.n s.calendar = q ∙ ap (λ (y : List ℕ). instant y t.n s.calendar) r in
      record {
        accepted = rw p (sym (advance_refusal_lem t s f g) ∙ (rw q' at z));
        moves = rw p (m ∙ (λ j. record { clock = (q' ∙ instant_is t s) j; n = s.n; calendar = s.calendar; heads = s.heads }));
        beside = rw m (k ∙ r);
      }

  module _ (at i : ℕ) (a : at ≡ place i) where
    pub goes_timer : x ≡ Timer i → timer_refusal t s.clock (get_or s.heads at no_head) i ≡ 0
        → (c : Calendar) → c ≡ sends t s.clock (timer_frame t i (get_or s.heads at no_head).phase) i s.calendar
        → (h : Head) → h ≡ timer_head t s.clock i (get_or s.heads at no_head).phase
        → u ≡ record { clock = s.clock; n = s.n; calendar = c; heads = set s.heads at h } → e ≡ set es at h.timeout → Goes t s x u e
    unfolding clock_after calendar_after head_after
    goes_timer p z c d h q m k =
        let y : step_refusal t s (Timer i) ≡ 0 = sym (timer_refusal_lem t s f g i) ∙ (rw a at z) in
        record {
          accepted = rw p y;
          moves = rw p (m ∙ moved_at t s f g at s.clock (Timer i) a refl y c d h q);
          beside = rw m (k ∙ rw r (timeouts_set s.heads at h));
        }

    pub goes_hear : x ≡ Hear i → hear_refusal t s.clock s.calendar i ≡ 0
        → (c : Calendar) → c ≡ left s.calendar i
        → (h : Head) → h ≡ hear_head t s.clock i s.calendar (get_or s.heads at no_head) (get_or s.heads at no_head).phase
        → u ≡ record { clock = s.clock; n = s.n; calendar = c; heads = set s.heads at h } → e ≡ set es at h.timeout → Goes t s x u e
    unfolding clock_after calendar_after head_after
    goes_hear p z c d h q m k =
        let y : step_refusal t s (Hear i) ≡ 0 = sym (hear_refusal_lem t s f g i) ∙ z in
        record {
          accepted = rw p y;
          moves = rw p (m ∙ moved_at t s f g at s.clock (Hear i) a refl y c d h q);
          beside = rw m (k ∙ rw r (timeouts_set s.heads at h));
        }

    -- a head that heeds no frame stays as it is
    pub goes_still : x ≡ Hear i → hear_refusal t s.clock s.calendar i ≡ 0
        → (c : Calendar) → c ≡ left s.calendar i
        → heeds (get_or s.heads at no_head).phase ≡ false
        → u ≡ record { clock = s.clock; n = s.n; calendar = c; heads = s.heads } → e ≡ es → Goes t s x u e
    goes_still p z c d w m k =
        let h = get_or s.heads at no_head in
        goes_hear p z c d h (sym (hear_still t s.clock i s.calendar h h.phase w))
        (m ∙ ap (λ (hs : List Head). record { clock = s.clock; n = s.n; calendar = c; heads = hs }) (sym (set-get_or s.heads at no_head)))
        (k ∙ sym (ap (set es at) (sym (timeout_at s.heads at) ∙ ap (λ (y : List ℕ). get_or y at 0) (sym r)) ∙ set-get_or es at 0))

-- what each kind is refused with, and who may send once it is not
module _ (t : Table) (s : State) (f : table_fits t ≡ true) (g : state_fits t s ≡ true) (x : Step) where
  pub same_advance : x ≡ Advance → (es : List ℕ) → es ≡ timeouts s.heads → (next : ℕ) → next ≡ instant es t.n s.calendar → advance_refusal s.clock next ≡ step_refusal t s x
  same_advance p es r next q = rw (p, q, r) (advance_refusal_lem t s f g)

  pub same_timer : (at i : ℕ) → at ≡ place i → x ≡ Timer i → timer_refusal t s.clock (get_or s.heads at no_head) i ≡ step_refusal t s x
  same_timer at i a p = rw (p, a) (timer_refusal_lem t s f g i)

  pub same_hear : (i : ℕ) → x ≡ Hear i → hear_refusal t s.clock s.calendar i ≡ step_refusal t s x
  same_hear i p = rw p (hear_refusal_lem t s f g i)

  pub timer_sender : (i : ℕ) → x ≡ Timer i → step_refusal t s x ≡ 0 → Sender t s.clock i
  timer_sender i p z = sender t s f g i (timer_named t s f g i (rw p at z))

  pub hear_sender : (i : ℕ) → x ≡ Hear i → step_refusal t s x ≡ 0 → Sender t s.clock i
  hear_sender i p z = sender t s f g i (hear_named t s f g i (rw p at z))

-- ---- what an attempted step answers

-- a verdict's number n and a state u are the answer to a step
abbrev pub Answer : Table → State → Step → ℕ → State → Type 0
Answer t s x n u = (n ≡ step_refusal t s x) × (u ≡ state_after t s x (step_refusal t s x))

pub answer_refused : (t : Table) (s : State) (x : Step) (n : ℕ) → n ≡ step_refusal t s x → (n ≡ 0 → ⊥) → Answer t s x n s
unfolding state_after
answer_refused t s x n e z = (e, rw (← e, ne_eqb n 0 z))

pub answer_accepted : (t : Table) (s : State) (x : Step) (u : State) → step_refusal t s x ≡ 0 → u ≡ moved t s x → Answer t s x 0 u
unfolding state_after
answer_accepted t s x u e m = (sym e, rw e m)

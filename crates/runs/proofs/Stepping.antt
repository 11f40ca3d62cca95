-- One more step of a run under way: refused, it leaves all as it was; accepted, it goes on to the next state.
use Rattle.std.proofs.Common.{◌≡◌, refl, sym, ap, ◌∙◌, ℕ, true, false, Result, Ok, Err, get_or, set}
use Rattle.std.proofs.Common.{ne_eqb}
use Rattle.words.specs.declared.Step.{Step}
use Rattle.words.specs.declared.Step.TheVariants.{Advance, Timer, Hear}
use Rattle.words.specs.declared.Refusal.{Refusal}
use Rattle.words.specs.Refusal.{verdict_number}
use Rattle.words.proofs.Order.{refused_some}
use Rattle.rules.specs.declared.Calendar.{Calendar}
use Rattle.rules.specs.declared.Head.{Head}
use Rattle.rules.specs.declared.State.{State}
use Rattle.rules.specs.Calendar.{left}
use Rattle.rules.specs.State.{no_head, state_fits}
use Rattle.rules.specs.Step.{timer_frame, timer_head, hear_head, moved}
use Rattle.rules.specs.Judge.{step_refusal, state_after}
use Rattle.steps.specs.Parts.{place, frame_of, sent, heeds, instant, advance_refusal, timer_refusal, hear_refusal}
use Rattle.steps.proofs.Laws.{sent_frame}
use Rattle.steps.proofs.Parts.{Goes, goes_advance, goes_timer, goes_hear, goes_still, same_timer, same_hear}
use Rattle.runs.specs.declared.run.Run.{Run}
use Rattle.runs.specs.Stepped.{moving_refusal, Stepped}
use Rattle.runs.proofs.Laws.{still_fits}

pub stays : (r : Run) (x : Step) (v w : Result (Unit {0}) Refusal) (y : Refusal) → v ≡ Err y → w ≡ Err y → verdict_number v ≡ step_refusal r.table r.state x → Stepped x r r w
unfolding state_after
stays r x v w y a b n = record {
  number = ap verdict_number (b ∙ sym a) ∙ n;
  table = refl;
  state = rw (ne_eqb (step_refusal r.table r.state x) 0 (refused_some v _ y n a));
}

pub head_stays : (r : Run) (x : Step) (v w : Result (Unit {0}) Refusal) (y : Refusal) → v ≡ Err y → w ≡ Err y → verdict_number v ≡ moving_refusal r.table r.state x → Stepped x r r w
head_stays r Advance v w y a b n = absurd (refused_some v _ y n a refl)
head_stays r (Timer i) v w y a b n = stays r (Timer i) v w y a b n
head_stays r (Hear i) v w y a b n = stays r (Hear i) v w y a b n

pub goes_on : (r u : Run) (x : Step) → step_refusal r.table r.state x ≡ 0 → u.table ≡ r.table → u.state ≡ moved r.table r.state x → Stepped x r u (Ok tt)
unfolding state_after
goes_on r u x z t m = record { number = sym z; table = t; state = m ∙ rw z refl }

-- ---- what the code stores is the step

module _ (r : Run) where
  pub advanced : (next : ℕ) → next ≡ instant r.due r.table.n r.state.calendar → advance_refusal r.state.clock next ≡ 0
      → Goes r.table r.state Advance record { clock = next; n = r.state.n; calendar = r.state.calendar; heads = r.state.heads } r.due
  advanced next q z = goes_advance r.table r.state r.table_fits r.state_fits r.due r.beside Advance _ _ refl next q z refl refl

  module _ (i at : ℕ) (a : at ≡ place i) where
    abbrev head : Head
    head = get_or r.state.heads at no_head

    abbrev stored : Calendar → Head → State
    stored c h = record { clock = r.state.clock; n = r.state.n; calendar = c; heads = set r.state.heads at h }

    pub timed : timer_refusal r.table r.state.clock head i ≡ 0
        → (frame : _) → frame ≡ frame_of (timer_frame r.table i head.phase) → (c : Calendar) → c ≡ sent r.table r.state.clock frame i r.state.calendar
        → (h : Head) → h ≡ timer_head r.table r.state.clock i head.phase → Goes r.table r.state (Timer i) (stored c h) (set r.due at h.timeout)
    timed z frame p c q h e =
        let k = q ∙ ap (λ f. sent r.table r.state.clock f i r.state.calendar) p ∙ sent_frame r.table r.state.clock _ i r.state.calendar in
        goes_timer r.table r.state r.table_fits r.state_fits r.due r.beside (Timer i) _ _ at i a refl z c k h e refl refl

    pub heard : hear_refusal r.table r.state.clock r.state.calendar i ≡ 0 → (c : Calendar) → c ≡ left r.state.calendar i
        → (h : Head) → h ≡ hear_head r.table r.state.clock i r.state.calendar head head.phase → Goes r.table r.state (Hear i) (stored c h) (set r.due at h.timeout)
    heard z c q h e = goes_hear r.table r.state r.table_fits r.state_fits r.due r.beside (Hear i) _ _ at i a refl z c q h e refl refl

    pub unheeded : hear_refusal r.table r.state.clock r.state.calendar i ≡ 0 → (c : Calendar) → c ≡ left r.state.calendar i
        → heeds head.phase ≡ false → Goes r.table r.state (Hear i) record { clock = r.state.clock; n = r.state.n; calendar = c; heads = r.state.heads } r.due
    unheeded z c q w = goes_still r.table r.state r.table_fits r.state_fits r.due r.beside (Hear i) _ _ at i a refl z c q w refl refl

    -- the same of an accepted step, whatever tested it
    pub timer_goes : step_refusal r.table r.state (Timer i) ≡ 0
        → (frame : _) → frame ≡ frame_of (timer_frame r.table i head.phase) → (c : Calendar) → c ≡ sent r.table r.state.clock frame i r.state.calendar
        → (h : Head) → h ≡ timer_head r.table r.state.clock i head.phase → Goes r.table r.state (Timer i) (stored c h) (set r.due at h.timeout)
    timer_goes z = timed (same_timer r.table r.state r.table_fits r.state_fits (Timer i) at i a refl ∙ z)

    module _ (z : step_refusal r.table r.state (Hear i) ≡ 0) where
      tested : hear_refusal r.table r.state.clock r.state.calendar i ≡ 0
      tested = same_hear r.table r.state r.table_fits r.state_fits (Hear i) i refl ∙ z

      pub hear_goes : (c : Calendar) → c ≡ left r.state.calendar i
          → (h : Head) → h ≡ hear_head r.table r.state.clock i r.state.calendar head head.phase → Goes r.table r.state (Hear i) (stored c h) (set r.due at h.timeout)
      hear_goes = heard tested

      pub hear_passes : (c : Calendar) → c ≡ left r.state.calendar i
          → heeds head.phase ≡ false → Goes r.table r.state (Hear i) record { clock = r.state.clock; n = r.state.n; calendar = c; heads = r.state.heads } r.due
      hear_passes = unheeded tested

-- and it keeps what a run says of itself
pub keeps_fit : (r : Run) (x : Step) (u : State) (es : _) → Goes r.table r.state x u es → state_fits r.table u ≡ true
keeps_fit r x u es y = still_fits _ _ _ _ r.table_fits r.state_fits y.accepted y.moves

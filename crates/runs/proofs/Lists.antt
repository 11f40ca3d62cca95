-- The step list, case by case and in the code's own terms: each return of a function cites one law.
use Rattle.std.proofs.Common.{◌≡◌, refl, sym, ap, subst, ◌∙◌, true, List, [], ◌∷◌, ◌++◌, ℕ, ◌≤◌, ◌<◌, arith, length, take, drop, Ok, Err}
use Rattle.words.specs.declared.Step.{Step}
use Rattle.words.specs.declared.Step.TheVariants.{Advance}
use Rattle.words.specs.declared.Refusal.TheVariants.{ShortRoom}
use Rattle.rules.specs.declared.State.{State}
use Rattle.rules.specs.declared.Table.{Table}
use Rattle.rules.specs.Table.{table_fits}
use Rattle.rules.specs.State.{state_fits}
use Rattle.rules.specs.Limits.{ceiling}
use Rattle.rules.specs.Step.{next_instant}
use Rattle.rules.proofs.Meaning.{table_meets, state_meets}
use Rattle.runs.specs.declared.listing.Pairs.{Pairs}
use Rattle.runs.specs.Open.{only_if, open_to, open_steps, step_bytes}
use Rattle.rules.specs.Room.{write_refusal, Wrote}
use Rattle.rules.proofs.Rooms.{write_fits, wrote_short, wrote_image}
use Rattle.runs.specs.Listing.{list_image}
use Rattle.steps.specs.Parts.{timeouts, instant}
use Rattle.steps.proofs.Parts.{instant_is}
use Rattle.runs.specs.Gathered.{Holds, Adds}
use Rattle.runs.proofs.Opens.{open_due, open_high, open_low}

-- ---- what is open, from what is due

module _ (t : Table) (s : State) (f : table_fits t ≡ true) (g : state_fits t s ≡ true) (p : Pairs) (h : Holds p (open_to s t.n)) where
  pub pairs_due : 0 < p.used → Holds p (open_steps t s)
  unfolding step_bytes
  pairs_due l = go (open_to s t.n) refl
    where
      go : (x : List Step) → open_to s t.n ≡ x → Holds p (open_steps t s)
      go [] e = let n = h.long ∙ ap (λ (y : List Step). length (step_bytes y)) e in absurd (omega arith)
      go (x ∷ rest) e = let m = table_meets t f in subst (Holds p) (sym (open_due t s m (state_meets t s m.heads g) x rest e)) h

  nothing_due : p.used ≤ 0 → open_to s t.n ≡ []
  unfolding step_bytes
  nothing_due l = go (open_to s t.n) refl
    where
      go : (x : List Step) → open_to s t.n ≡ x → open_to s t.n ≡ []
      go [] e = e
      go (x ∷ rest) e = let n = h.long ∙ ap (λ (y : List Step). length (step_bytes y)) e in absurd (omega arith)

  -- and by the next instant, as the code has it of the timeouts es
  module _ (es : List ℕ) (r : es ≡ timeouts s.heads) (next : ℕ) (q : next ≡ instant es t.n s.calendar) where
    is_next : next ≡ next_instant t s
    is_next = q ∙ ap (λ (x : List ℕ). instant x t.n s.calendar) r ∙ instant_is t s

    pub pairs_none : p.used ≤ 0 → ceiling < next → Holds p (open_steps t s)
    pairs_none l z =
        let m = table_meets t f in
        let e = nothing_due l in
        subst (Holds p) (e ∙ sym (open_high t s m (state_meets t s m.heads g) e (rw is_next at z))) h

    pub pairs_advance : p.used ≤ 0 → next ≤ ceiling → (u : Pairs) → Adds p Advance u → Holds u (open_steps t s)
    unfolding only_if
    pairs_advance l z u k =
        let m = table_meets t f in
        let e = nothing_due l in
        subst (Holds u) (ap (λ (x : List Step). x ++ only_if true Advance) e ∙ sym (open_low t s m (state_meets t s m.heads g) e (rw is_next at z))) (k (open_to s t.n) h)

-- ---- what the list answers, and what the room then holds

module _ (t : Table) (s : State) (room : List ℕ) (p : Pairs) (h : Holds p (open_steps t s)) where
  list_long : length (list_image t s) ≡ p.used
  unfolding list_image
  list_long = sym h.long

  pub list_short : length room < p.used → Wrote (Err ShortRoom) 0 (list_image t s) room room
  list_short l = wrote_short 0 (list_image t s) room refl (omega (arith, list_long))

  pub list_done : p.used ≤ length room → (after : List ℕ) → after ≡ take p.used p.bytes ++ drop p.used room → Wrote (Ok p.used) 0 (list_image t s) room after
  unfolding list_image
  list_done l after a =
      let none = write_fits 0 (list_image t s) room refl (omega (arith, list_long)) in
      let w = wrote_image (write_refusal 0 (list_image t s) room) p.used (list_image t s) room after none h.long (a ∙ rw (h.same, h.long)) in
      (sym none, w.0, w.1)

-- A call on a single-beam book is accepted exactly where the conditions hold, and each call is one of the changes that every book keeps to.
use Rattle.std.proofs.Common.{◌≡◌, refl, sym, ◌∙◌, true, false, [], inl, inr, ℕ, suc, arith}
use Rattle.words.specs.declared.Refusal.TheVariants.{TableRange, StateRule}
use Rattle.words.proofs.Order.{unless_is, is_unless, first_is, is_first, first_last, row_is, is_row}
use Rattle.rules.specs.declared.State.{State}
use Rattle.rules.specs.declared.Table.{Table}
use Rattle.rules.specs.Table.{table_refusal}
use Rattle.rules.specs.State.{state_refusal}
use Rattle.rules.proofs.Each.{same_or_not, either_or_not, not_both, no}
use Rattle.rules.proofs.Meaning.{table_meets, meets_table, state_meets, meets_state}
use Rattle.book.specs.declared.Book.{Book}
use Rattle.book.specs.Calls.{is_tail, entry_refusal, release_refusal, released, release_answer}
use Rattle.book.proofs.Filing.{after_refused, after_accepted}
use Rattle.book.proofs.Admits.{clock_is, is_clock}
use Rattle.single_beam.specs.Break.{new_refusal, cross_refusal, break_refusal, crossed, break_answer}
use Rattle.single_beam.proofs.Laws.{tail_files, new_files, tail_passes, new_asks}
use Rattle.kept.specs.Conditions.{AnyHead}
use Rattle.kept.specs.Change.{none, gives, frees, refused, a_tail, an_entry, a_release}
use Rattle.kept.specs.Claims.{Young}
use Rattle.kept.specs.Post.{Changes}
use Rattle.kept.proofs.Meaning.{hold_is, is_hold, rules_are, are_rules, any_head, active_head_is, is_active_head}
use Rattle.kept.proofs.Calls.{tail_exactly, room_exactly, present_exactly}
use Rattle.kept.proofs.Post.{none_frees, gives_frees}
use Rattle.mornings.specs.Morning.{Call, break, release, refusal_of, answer, Releases, accepted, single_beam}
use Rattle.mornings.specs.Conditions.{MayBreak, MayRelease, May}
use Rattle.mornings.specs.Claims.{AcceptedExactly, CallChanges, RefusedKept, BreakFiles, ReleaseFrees}

-- ---- accepted exactly where the conditions hold

module _ {t : Table} {s : State} {b : Book} {i : ℕ} (m : MayBreak t s b i) where
  tail_young : (is_tail b i s.clock ≡ true → Young b i s.clock) × (Young b i s.clock → is_tail b i s.clock ≡ true)
  tail_young = tail_exactly b i s.clock m.rules (any_head m.table m.head) m.clock

  -- where it is no tail, an entry is refused with neither 18 nor 20
  has_room : is_tail b i s.clock ≡ false → entry_refusal b ≡ 0
  has_room q = elim m.room [ inl y ↦ not_both (is_tail b i s.clock) (tail_young.1 y) q | inr r ↦ (room_exactly b).1 r ]

  new_none : new_refusal b i s.clock ≡ 0
  new_none = elim (either_or_not (is_tail b i s.clock)) [ inl q ↦ tail_passes b i s.clock q | inr q ↦ new_asks b i s.clock q ∙ has_room q ]

module _ (t : Table) (s : State) (b : Book) (i : ℕ) where
  break_is : break_refusal t s b i ≡ 0 → MayBreak t s b i
  unfolding break_refusal table_refusal state_refusal cross_refusal
  break_is e =
      let table = first_is _ _ e in
      let state = first_is _ _ table.1 in
      let hold = first_is _ _ state.1 in
      let rules = first_is _ _ hold.1 in
      let row = row_is _ _ _ (first_is _ [] rules.1).0 in
      let f = table_meets t (unless_is _ TableRange table.0) in
      let m = rules_are b rules.0 in
      let l = clock_is b s.clock row.0 in
      let a = active_head_is t s i row.1 in
      record {
        table = f;
        state = state_meets t s f.heads (unless_is _ StateRule state.0);
        hold_low = (hold_is b.hold hold.0).0;
        hold_high = (hold_is b.hold hold.0).1;
        rules = m;
        clock = l;
        head = a.0;
        active = a.1;
        room = elim (either_or_not (is_tail b i s.clock)) [
          | inl q ↦ inl ((tail_exactly b i s.clock m (any_head f a.0) l).0 q)
          | inr q ↦ inr ((room_exactly b).0 (sym (new_asks b i s.clock q) ∙ row.2))
        ];
      }

  is_break : MayBreak t s b i → break_refusal t s b i ≡ 0
  unfolding break_refusal table_refusal state_refusal cross_refusal
  is_break m =
      is_first _ _ (is_unless _ TableRange (meets_table t m.table))
      (is_first _ _ (is_unless _ StateRule (meets_state t s m.state))
      (is_first _ _ (is_hold b.hold m.hold_low m.hold_high)
      (is_first _ _ (are_rules b m.rules)
      (first_last _ ∙ is_row (is_clock b s.clock m.clock) (is_active_head t s i (m.head, m.active)) (new_none m)))))

module _ (b : Book) (number : ℕ) where
  pub release_is : release_refusal b number ≡ 0 → MayRelease b number
  unfolding release_refusal
  release_is e =
      let r = row_is _ _ _ e in
      let h = hold_is b.hold r.0 in
      record { hold_low = h.0; hold_high = h.1; rules = rules_are b r.1; entry = (present_exactly b number).0 r.2 }

  is_release : MayRelease b number → release_refusal b number ≡ 0
  unfolding release_refusal
  is_release m = is_row (is_hold b.hold m.hold_low m.hold_high) (are_rules b m.rules) ((present_exactly b number).1 m.entry)

pub accepted_exactly : AcceptedExactly
unfolding refusal_of May
accepted_exactly b (break t s i) = (break_is t s b i, is_break t s b i)
accepted_exactly b (release number) = (release_is b number, is_release b number)

-- ---- what is answered

pub refused_kept : RefusedKept
unfolding refusal_of answer break_answer release_answer
refused_kept b (break t s i) n = after_refused b _ _ n
refused_kept b (release number) n = after_refused b _ _ n

module _ (t : Table) (s : State) (b : Book) (i : ℕ) where
  break_crosses : break_refusal t s b i ≡ 0 → break_answer t s b i ≡ crossed b i s.clock
  unfolding break_answer
  break_crosses e = after_accepted b (crossed b i s.clock) _ e

pub break_files : BreakFiles
break_files t s b i e = let y = tail_young (break_is t s b i e) in (
  λ k. break_crosses t s b i e ∙ tail_files b i s.clock (y.1 k),
  λ n. break_crosses t s b i e ∙ new_files b i s.clock (sym (no (λ q. n (y.0 q)))),
)

pub release_frees : ReleaseFrees
unfolding release_answer release_refusal
release_frees b number e = ((row_is _ _ _ e).2, after_accepted b (released b number) _ e)

-- ---- each call is a change, and frees a number exactly where its release is accepted

refused_changes : (b : Book) (x : Call) → (refusal_of b x ≡ 0 → ⊥) → Changes single_beam b x
unfolding refusal_of
refused_changes b x n = record {
  effect = none;
  change = rw (refused_kept b x n) refused;
  only = λ number q. none_frees q;
  there = λ number f. absurd (none_released x n f);
}
  where
    none_released : (x : Call) → (refusal_of b x ≡ 0 → ⊥) → {number : ℕ} → Releases b x number → ⊥
    none_released (break _ _ _) n f = elim f [ ]
    none_released (release k) n (accepted e) = n e

break_changes : (t : Table) (s : State) (b : Book) (i : ℕ) → break_refusal t s b i ≡ 0 → Changes single_beam b (break t s i)
unfolding answer
break_changes t s b i e = elim (either_or_not (is_tail b i clock)) [
  | inl q ↦ record {
    effect = none;
    change = rw (break_crosses t s b i e, tail_files b i clock q) (a_tail i clock k ((tail_young m).0 q).0 m.clock);
    only = λ number q. none_frees q;
    there = λ number f. absurd (no_release f);
  }
  | inr q ↦ record {
    effect = gives (suc b.given);
    change = rw (break_crosses t s b i e, new_files b i clock q) (an_entry i clock clock k (omega arith) m.clock (has_room m q));
    only = λ number q. gives_frees q;
    there = λ number f. absurd (no_release f);
  }
]
  where
    clock : ℕ
    clock = s.clock

    m : MayBreak t s b i
    m = break_is t s b i e

    k : AnyHead i
    k = any_head m.table m.head

    no_release : {number : ℕ} → Releases b (break t s i) number → ⊥
    no_release = elim [ ]

release_changes : (b : Book) (number : ℕ) → release_refusal b number ≡ 0 → Changes single_beam b (release number)
unfolding answer
release_changes b number e = record {
  effect = frees number;
  change = rw (release_frees b number e).1 (a_release number (release_frees b number e).0);
  only = λ n q. let s : n ≡ number = cc in rw s (accepted e);
  there = λ n f. same n f;
}
  where
    same : (n : ℕ) → Releases b (release number) n → frees number ≡ frees n
    same n (accepted f) = refl

pub call_changes : CallChanges
unfolding refusal_of
call_changes b (break t s i) = elim (same_or_not (break_refusal t s b i) 0) [
  | inl e ↦ break_changes t s b i e
  | inr n ↦ refused_changes b (break t s i) n
]
call_changes b (release number) = elim (same_or_not (release_refusal b number) 0) [
  | inl e ↦ release_changes b number e
  | inr n ↦ refused_changes b (release number) n
]

-- What holds of one change and of rows of them, said of calls one after the other, of every kind of post.
use Rattle.std.proofs.Common.{◌≡◌, refl, sym, ap, ◌∙◌, List, [], ◌∷◌, inl, inr, ℕ, suc, arith, lt-ltb, le-ltb}
use mathlib.Core.List.Memᴰ
use Rattle.book.specs.declared.Book.{Book}
use Rattle.book.specs.Calls.{tailed, entered, released}
use Rattle.kept.specs.Conditions.{BookMeets}
use Rattle.kept.specs.Change.{Effect, none, gives, frees, Change, refused, a_tail, an_entry, a_release, Row, no_more, first, given_in}
use Rattle.kept.specs.Claims.{Absent, Own}
use Rattle.kept.specs.Post.{Post, EachChanges, after_calls, with_raised, numbers_given, now, later}
use Rattle.kept.specs.Post.{CallsChange, MadeMeets, NumbersOnce, NumbersGone, FreedGone, EntryKept, EveryPost}
use Rattle.kept.proofs.Keeps.{empty_meets, keeps_rules, hold_stays}
use Rattle.kept.proofs.Stays.{entries_stay}
use Rattle.kept.proofs.Numbers.{numbers_rise, never_twice, never_again, released_gone}
use Rattle.kept.proofs.Own.{empty_own, own_entries}

-- ---- one change

-- nothing, giving and freeing are three things
pub none_frees : {A : Type 0} {number : ℕ} → none ≡ frees number → A
none_frees q = let z : ◌≡◌ {A = ℕ} 0 1 = cc in absurd (omega arith)

pub gives_frees : {A : Type 0} {number n : ℕ} → gives n ≡ frees number → A
gives_frees q = let z : ◌≡◌ {A = ℕ} 0 1 = cc in absurd (omega arith)

-- a number is given just where the last given is raised
given_change : {b c : Book} {x : Effect} → Change b x c → (rest : List Effect) → given_in (x ∷ rest) ≡ with_raised b.given c.given (given_in rest)
unfolding given_in with_raised tailed entered released
given_change {b} refused rest = rw (le-ltb b.given b.given (omega arith))
given_change {b} (a_tail i clock k n l) rest = rw (le-ltb b.given b.given (omega arith))
given_change {b} (an_entry i tick clock k a l e) rest = rw (lt-ltb b.given (suc b.given) (omega arith))
given_change {b} (a_release number e) rest = rw (le-ltb b.given b.given (omega arith))

-- what a change frees is gone for good
gone_change :
    {b c d : Book} {x : Effect} {xs : List Effect} (number : ℕ) → BookMeets b → Change b x c → x ≡ frees number → Row c xs d → Absent d number
gone_change number m refused q r = none_frees q
gone_change number m (a_tail i clock k n l) q r = none_frees q
gone_change number m (an_entry i tick clock k a l e) q r = gives_frees q
gone_change {b} {d = d} {xs = xs} number m (a_release n e) q r = let s : n ≡ number = cc in rw s at (released_gone b d xs n m e r)

-- ---- calls one after the other

module _ (P : Post) (each : EachChanges P) where
  calls_change : CallsChange P
  unfolding after_calls numbers_given given_in
  calls_change k [] = ([], record { row = no_more; given = refl; freed = λ number m. absurd (Memᴰ.not-nil m) })
  calls_change k (x ∷ xs) = let r = calls_change (P.answer k x) xs in let w = each k x in (
    w.effect ∷ r.0,
    record {
      row = first w.change r.1.row;
      given = given_change w.change r.0 ∙ ap (with_raised (P.book_of k).given (P.book_of (P.answer k x)).given) r.1.given;
      freed = λ number m. elim (Memᴰ.cases_cons m) [ inl q ↦ now (w.only number (sym q)) | inr u ↦ later (r.1.freed number u) ];
    },
  )

  made_meets : MadeMeets P
  made_meets k xs hold e = record {
    meets = keeps_rules _ _ _ m row;
    hold_stays = hold_stays _ _ _ row ∙ ap (λ (b : Book). b.hold) e;
    own = own_entries _ _ _ m o row;
  }
    where
      row : Row (P.book_of k) (calls_change k xs).0 (P.book_of (after_calls P k xs))
      row = (calls_change k xs).1.row

      m : BookMeets (P.book_of k)
      m = rw e (empty_meets hold)

      o : Own (P.book_of k)
      o = rw e (empty_own hold)

  numbers_once : NumbersOnce P
  numbers_once k xs = let r = calls_change k xs in rw (← r.1.given) (numbers_rise _ _ r.0 r.1.row, (never_twice _ _ r.0 r.1.row).0)

  numbers_gone : NumbersGone P
  numbers_gone k xs n l f = let r = calls_change k xs in never_again _ _ r.0 n l f r.1.row

  freed_gone : FreedGone P
  freed_gone k x xs number m f = let w = each k x in gone_change number m w.change (w.there number f) (calls_change (P.answer k x) xs).1.row

  entry_kept : EntryKept P
  entry_kept k xs p h f = let r = calls_change k xs in entries_stay _ _ r.0 p h r.1.row (λ m. f (r.1.freed _ m))

pub every_post : EveryPost
every_post P each = record {
  change = calls_change P each;
  made = made_meets P each;
  once = numbers_once P each;
  gone = numbers_gone P each;
  freed = freed_gone P each;
  entry = entry_kept P each;
}

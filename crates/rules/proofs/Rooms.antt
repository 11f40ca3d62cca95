-- A writer into lent room, case by case: refused for what it is given, refused for short room, or done.
use Rattle.std.proofs.Common.{◌≡◌, sym, ◌∙◌, List, ◌++◌, ℕ, ◌≤◌, ◌<◌, arith, length, drop, ne_eqb, le-leb, Err}
use borrow.Author.Tests.{lt-leb}
use Rattle.words.specs.declared.Refusal.{Refusal}
use Rattle.words.specs.declared.Refusal.TheVariants.{ShortRoom}
use Rattle.words.specs.Refusal.{number_of, unless, first_refusal}
use Rattle.words.proofs.Order.{number_some, first_some}
use Rattle.rules.specs.Room.{write_refusal, bytes_written, room_after, Wrote}

module _ (unfit : ℕ) (image room : List ℕ) where
  pub write_unfit : (unfit ≡ 0 → ⊥) → unfit ≡ write_refusal unfit image room
  unfolding write_refusal
  write_unfit n = sym (first_some unfit _ n)

  pub write_short : unfit ≡ 0 → length room < length image → number_of ShortRoom ≡ write_refusal unfit image room
  unfolding write_refusal first_refusal unless
  write_short e h = rw (e, lt-leb _ _ h)

  pub write_fits : unfit ≡ 0 → length image ≤ length room → write_refusal unfit image room ≡ 0
  unfolding write_refusal first_refusal unless
  write_fits e h = rw (e, le-leb _ _ h)

-- a writer that refuses: no byte is written, and the room is as it was
pub wrote_none : (number : ℕ) (image room : List ℕ) → (number ≡ 0 → ⊥) → (0 ≡ bytes_written number image) × (room ≡ room_after number image room)
unfolding bytes_written room_after
wrote_none number image room n = (rw (ne_eqb _ _ n), rw (ne_eqb _ _ n))

pub wrote_unfit : (why : Refusal) (unfit : ℕ) (image room : List ℕ) → number_of why ≡ unfit → Wrote (Err why) unfit image room room
wrote_unfit why unfit image room e =
    let u : number_of why ≡ write_refusal unfit image room = e ∙ write_unfit unfit image room (λ z. omega (arith, number_some why)) in
    let w = wrote_none (write_refusal unfit image room) image room (λ z. omega (arith, number_some why)) in
    (u, w.0, w.1)

pub wrote_short : (unfit : ℕ) (image room : List ℕ) → unfit ≡ 0 → length room < length image → Wrote (Err ShortRoom) unfit image room room
wrote_short unfit image room e h =
    let u = write_short unfit image room e h in
    let w = wrote_none (write_refusal unfit image room) image room (λ (z : write_refusal unfit image room ≡ 0). omega arith) in
    (u, w.0, w.1)

-- a writer that has put its image at the front of the room
pub wrote_image : (number bytes : ℕ) (image room after : List ℕ) → number ≡ 0 → bytes ≡ length image → after ≡ image ++ drop (length image) room
    → (bytes ≡ bytes_written number image) × (after ≡ room_after number image room)
unfolding bytes_written room_after
wrote_image number bytes image room after e b a = (rw e b, rw e a)

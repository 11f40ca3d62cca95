-- Room that the caller lends: what stands there after bytes were put from a position on, or were not for want of room.
use Rattle.std.specs.Prelude.{cond, List, ◌++◌, ℕ, ◌+◌, Option, None, Some, leb, length, take, drop}

-- the room with the bytes v over what stood there from position at on
unfoldable pub over : List ℕ → ℕ → List ℕ → List ℕ
over room at v = take at room ++ v ++ drop (at + length v) room

-- how many of the bytes v are put into room of so many bytes, from position at on: all of them, or none where they do not fit
unfoldable pub wrote : ℕ → ℕ → List ℕ → ℕ
wrote size at v = cond (leb (at + length v) size) (length v) 0

-- the answer that says so: how many are put, or None where they do not fit
unfoldable pub written : ℕ → ℕ → List ℕ → Option ℕ
written size at v = cond (leb (at + length v) size) (Some (length v)) None

-- the number of bytes that an answer says were put
abbrev pub bytes_put : Option ℕ → ℕ
bytes_put None = 0
bytes_put (Some n) = n

-- and the room then: as it was where they do not fit
unfoldable pub room_after : List ℕ → ℕ → List ℕ → List ℕ
room_after room at v = cond (leb (at + length v) (length room)) (over room at v) room

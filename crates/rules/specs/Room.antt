-- Lent room, before and after a writer of an image or of a step list: document 01, "Refusal numbers".
use Rattle.std.specs.Prelude.{◌≡◌, cond, List, [], ◌∷◌, ◌++◌, ℕ, eqb, leb, length, drop, Result, Ok, Err}
use Rattle.words.specs.declared.Refusal.{Refusal}
use Rattle.words.specs.declared.Refusal.TheVariants.{ShortRoom}
use Rattle.words.specs.Refusal.{verdict_number, unless, first_refusal}

-- "Writers and the step list: 3, 6 where a state is given, then 12": the refusal of what is given, then "12: room shorter than the image or step list"
unfoldable pub write_refusal : ℕ → List ℕ → List ℕ → ℕ
write_refusal unfit image room = first_refusal (unfit ∷ unless (leb (length image) (length room)) ShortRoom ∷ [])

-- "a refused writer or step list answers 0 bytes. A writer that accepts answers the number of bytes written"
unfoldable pub bytes_written : ℕ → List ℕ → ℕ
bytes_written refusal image = cond (eqb refusal 0) (length image) 0

-- "and leaves the room past its image or step list untouched"; one that refuses leaves all of it
unfoldable pub room_after : ℕ → List ℕ → List ℕ → List ℕ
room_after refusal image room = cond (eqb refusal 0) (image ++ drop (length image) room) room

-- how many bytes a writer's answer tells: none where it refuses
abbrev pub bytes_told : Result ℕ Refusal → ℕ
bytes_told (Ok bytes) = bytes
bytes_told (Err why) = 0

-- a writer's answer and its room after, by the refusal of what it is given, its image and its room before
abbrev pub Wrote : Result ℕ Refusal → ℕ → List ℕ → List ℕ → List ℕ → Type 0
Wrote w unfit image before after =
    (verdict_number w ≡ write_refusal unfit image before)
    × (bytes_told w ≡ bytes_written (write_refusal unfit image before) image)
    × (after ≡ room_after (write_refusal unfit image before) image before)

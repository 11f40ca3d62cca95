-- The start of a listing.
use Rattle.std.proofs.Common.{◌≡◌, List, ℕ, take, drop}
use Rattle.words.specs.Refusal.{verdict_number}
use Rattle.rules.specs.State.{fresh}
use Rattle.table_images.specs.TableImage.{read_table_refusal, read_table}
use Rattle.walk.specs.declared.Place.{Place}
use Rattle.walk.specs.Listing.{table_part, listing_of, listing}
use Rattle.walk.specs.Pieces.{rest}

pub starts : (l : List ℕ) (k : ℕ) → k ≡ table_part l → (image : List ℕ) → image ≡ take k l
    → (p : Place) → p.table ≡ read_table image → verdict_number p.verdict ≡ read_table_refusal image → p.state ≡ fresh p.table → p.accepted ≡ 0 → p.pairs.now ≡ drop k l → rest p ≡ listing l
unfolding rest listing listing_of
starts l k a image b p t v s z d = rw (v, s, t, z, d, b, a)

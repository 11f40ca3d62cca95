-- A listing in pieces: what is left of it at a place, and after a piece.
use Rattle.std.specs.Prelude.{Option, None, Some, List, [], ℕ, ◌+◌, ◌≤◌, ◌<◌, length}
use Rattle.std.specs.Option.{IfSome}
use Rattle.words.specs.Refusal.{verdict_number}
use Rattle.walk.specs.declared.Place.{Place}
use Rattle.walk.specs.Listing.{input_most, unless_refused, lines_from}

-- the listing from a place on
unfoldable pub rest : Place → List ℕ
rest p = unless_refused p.accepted (verdict_number p.verdict) (lines_from p.table p.state p.accepted p.pairs.now)

-- the listing after a piece: nothing follows the END line
abbrev pub left : Option Place → List ℕ
left None = []
left (Some p) = rest p

-- a place in an input: a step is accepted for each pair that is passed, so steps and bytes that follow are no more than the bytes of an input
abbrev pub Stands : Place → Type 0
Stands p = p.accepted + length p.pairs.now ≤ input_most

-- a piece from a place on holds the END line, or passes a pair
abbrev pub Onward : Place → Option Place → Type 0
Onward from next = IfSome next (λ p. Stands p × (length p.pairs.now < length from.pairs.now))

use Rattle.std.proofs.Common.{◌≡◌, ◌-◌, length}
use Rattle.octets.specs.Bytes.{bytes_of}
use Rattle.octets.specs.Room.{stored}
use Rattle.octets.proofs.store.Given as goal

abbrev pub invariant-loop-byte : goal.invariant-loop-byte
invariant-loop-byte l = record {
  long : length l.byte-items ≡ l.width;
  rest : stored l.byte-items l.byte-index (bytes_of (l.width - l.byte-index) l.rest) ≡ bytes_of l.width l.x;
}

-- What passing a book by value tells: it has its 256 places and remembers a crossing for each of sixty-four heads.
use Rattle.std.proofs.Common.{◌≡◌, List, length}
use mir.Val.{Val}
use denote.Laws.{Is}
use denote.Struct.Declared.{row}
use Rattle.rules.specs.Limits.{max_heads}
use Rattle.book.specs.declared.Book.{Book}
use Rattle.book.specs.Limits.{all_places}
use Rattle.book.specs.contracts.Book as book

pub book_places : (b : Book) (vs : List Val) → Is (row book.the_type) b vs → length b.places ≡ all_places
book_places b vs p = p.1.1.1.1.1.1.0.1.0.1

pub book_crossings : (b : Book) (vs : List Val) → Is (row book.the_type) b vs → length b.remembered ≡ max_heads
book_crossings b vs p = p.1.1.1.1.1.0.1.0.1

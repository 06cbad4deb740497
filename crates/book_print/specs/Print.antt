-- The lines from the book's bytes, as the printing goes.
use Rattle.std.specs.Prelude.{Ok, true, List, [], ◌≡◌, ℕ, ◌+◌, ◌*◌, ◌≤◌, length}
use Rattle.text.specs.definitions.Bytes.{Reading, read, refused, is_row}
use Rattle.book.specs.definitions.Book.{Entry, number16, part, entries, entry_line, entry_lines}
use Rattle.book_read.specs.Heads.{head_of}

-- the book's row: the n letters behind the first byte
pub record Row (book : List ℕ) (n : ℕ) : Type 0 where
  pub proper : is_row (part book 1 n) ≡ true
  pub inside : 1 + n ≤ length book
  pub most : n ≤ 4
  pub short : length book ≤ 65535

-- an entry with its fields at p and its bodies from at on
pub record Here (book : List ℕ) (p at : ℕ) : Type 0 where
  pub fields : p + 8 ≤ length book
  pub bodies : at + number16 book (p + 2) + number16 book (p + 6) ≤ length book

-- k entries with their fields from p on and their bodies from at on, the first of which has the number i
pub record Left (book : List ℕ) (p at i k : ℕ) : Type 0 where
  pub fine : head_of (entries book p at k) ≡ Ok tt
  pub fields : p + 8 * k ≤ 600
  pub start : at ≤ 70000
  pub number : i + k ≤ 64

-- the bytes of the longest answer to a book, and more
abbrev pub page : ℕ
page = 16384

-- the line of an entry
unfoldable pub line_at : (book : List ℕ) (n p at i : ℕ) → List ℕ
line_at book n p at i =
    entry_line (part book 1 n) i (part book at (number16 book (p + 2))) (part book (at + number16 book (p + 2)) (number16 book (p + 6)))

-- the entries that were read
abbrev pub list_of : Reading (List Entry) → List Entry
list_of (read es) = es
list_of (refused bad) = []

unfoldable pub lines_from : (book : List ℕ) (n p at i k : ℕ) → List ℕ
lines_from book n p at i k = entry_lines (part book 1 n) i (list_of (entries book p at k))

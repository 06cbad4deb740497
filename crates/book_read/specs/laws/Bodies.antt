-- A body's two fields, case by case.
use Rattle.std.specs.Prelude.{List, ◌≡◌, ℕ, ◌+◌, ◌≤◌, leb, eqb, length}
use Rattle.std.proofs.Common.{arith, leb-true}
use Rattle.text.specs.definitions.Bytes.{Reading, read}
use Rattle.book.specs.definitions.Book.{must, whole, number16, body}
use Rattle.book_read.specs.laws.Fields.{right-read}

module _ (book : List ℕ) (p at : ℕ) where
  abbrev pub length_right : Unit {0} → Reading ℕ
  length_right x = read (number16 book (p + 2))

  abbrev pub length_field : Unit {0} → Reading ℕ
  length_field w = must (leb (at + number16 book (p + 2)) (length book)) (p + 2) length_right

  abbrev pub offset_right : Unit {0} → Reading ℕ
  offset_right v = whole book (p + 2) 2 length_field

  abbrev pub offset_field : Unit {0} → Reading ℕ
  offset_field u = must (eqb (number16 book p) at) p offset_right

-- ---- a body that was read
pub record IsBody (book : List ℕ) (p at n : ℕ) : Type 0 where
  pub field : p + 2 + 2 ≤ length book
  pub inside : at + n ≤ length book
  pub size : n ≡ number16 book (p + 2)

pub body_is : (book : List ℕ) (p at n : ℕ) → body book p at ≡ read n → IsBody book p at n
body_is book p at n e =
    let a = right-read (offset_field book p at) (leb (p + 2) (length book)) (length book) e in
    let b = right-read (offset_right book p at) (eqb (number16 book p) at) p a.1 in
    let c = right-read (length_field book p at) (leb (p + 2 + 2) (length book)) (length book) b.1 in
    let d = right-read (length_right book p at) (leb (at + number16 book (p + 2)) (length book)) (p + 2) c.1 in
    let f : read (number16 book (p + 2)) ≡ read n = d.1 in
    let g : n ≡ number16 book (p + 2) = cc in
    record {
      field = leb-true (p + 2 + 2) (length book) c.0;
      inside = omega (
        arith,
        g,
        leb-true (at + number16 book (p + 2)) (length book) d.0,
      );
      size = g;
    }

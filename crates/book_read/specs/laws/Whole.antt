-- The letters, the contents and the whole book, case by case.
use Rattle.std.specs.Prelude.{Result, Ok, Err, true, false, ◌&&◌, List, ◌≡◌, refl, ℕ, ◌+◌, ◌-◌, ◌*◌, ◌<◌, ◌≤◌, leb, length, get_or}
use Rattle.std.proofs.Common.{sym, ◌∙◌, arith, le-leb}
use Rattle.std.proofs.Math.Path.{ap}
use Rattle.std.proofs.lemmas.Bool.{lt-leb}
use Rattle.refusal.specs.Refusal.{fault}
use Rattle.refusal.specs.declared.Fault.{Fault}
use Rattle.text.specs.definitions.Bytes.{onward, Reading, read, refused, refused_at}
use Rattle.book.specs.definitions.Book.{Book, must, letters, entries, part, contents, headed, read_book}
use Rattle.book_read.specs.Heads.{head_of}
use Rattle.book_read.specs.laws.Fields.{is-must, is-wrong, is_whole, is_cut}

-- from 1 to m
pub within : (m n : ℕ) → 1 ≤ n → n ≤ m → (leb 1 n && leb n m) ≡ true
within m n h i = rw (le-leb 1 n h, le-leb n m i)

pub under : (m n : ℕ) → n < 1 → (leb 1 n && leb n m) ≡ false
under m n h = rw (lt-leb 1 n h)

pub above : (m n : ℕ) → 1 ≤ n → m < n → (leb 1 n && leb n m) ≡ false
above m n h i = rw (le-leb 1 n h, lt-leb n m i)

-- ---- contents

module _ (book : List ℕ) (n : ℕ) where
  abbrev pub count : ℕ
  count = get_or book (1 + n) 0

  abbrev pub listed : Unit {0} → Reading Book
  listed v = onward (entries book (2 + n) (2 + n + 8 * count) count) (λ es. read (record { row = part book 1 n; all = es }))

  abbrev pub counted : Unit {0} → Reading Book
  counted u = must (leb 1 count && leb count 64) (1 + n) listed

-- ---- the whole book
module _ (book : List ℕ) where
  pub book-long : 65535 < length book → head_of (read_book book) ≡ Err (fault 3 0)
  unfolding read_book
  book-long h = ap head_of (let e : read_book book ≡ refused_at 3 0 = rw (lt-leb (length book) 65535 h, read_book) in e)

  module _ (short : length book ≤ 65535) where
    pub book-headed : read_book book ≡ headed book
    unfolding read_book
    book-headed = rw (le-leb (length book) 65535 short, read_book)

    abbrev pub variables : ℕ
    variables = get_or book 0 0

    abbrev pub lettered : Unit {0} → Reading Book
    lettered v = onward (letters book 0 variables) (λ w. contents book variables)

    abbrev pub numbered : Unit {0} → Reading Book
    numbered u = must (leb 1 variables && leb variables 4) 0 lettered

    pub book-cut : length book < 1 → head_of (read_book book) ≡ Err (fault 13 (length book))
    book-cut h = ap head_of (book-headed ∙ is_cut numbered book 0 1 h)

    module _ (there : 1 ≤ length book) where
      pub book-few : variables < 1 → head_of (read_book book) ≡ Err (fault 13 0)
      book-few h = ap head_of (book-headed ∙ is_whole numbered book 0 1 there ∙ is-wrong lettered 0 (under 4 variables h))

      pub book-many : 1 ≤ variables → 4 < variables → head_of (read_book book) ≡ Err (fault 13 0)
      book-many i h = ap head_of (book-headed ∙ is_whole numbered book 0 1 there ∙ is-wrong lettered 0 (above 4 variables i h))

      module _ (some : 1 ≤ variables) (most : variables ≤ 4) where
        pub book-lettered : read_book book ≡ onward (letters book 0 variables) (λ w. contents book variables)
        book-lettered = book-headed ∙ is_whole numbered book 0 1 there ∙ is-must lettered 0 (within 4 variables some most)

        pub book-letters :
            {h : Result (Unit {0}) Fault} {bad : Fault} → h ≡ head_of (letters book 0 variables) → h ≡ Err bad → head_of (read_book book) ≡ Err bad
        book-letters {h} {bad} a b = ap head_of book-lettered ∙ go (letters book 0 variables) (sym a ∙ b)
          where
            go : (x : Reading (Unit {0})) → head_of x ≡ Err bad → head_of (onward x (λ w. contents book variables)) ≡ Err bad
            go (read a) c = let z : ◌≡◌ {A = ℕ} 0 1 = cc in absurd (omega arith)
            go (refused worse) c = c

        pub book-contents : {h : Result (Unit {0}) Fault} → h ≡ head_of (letters book 0 variables) → h ≡ Ok tt → read_book book ≡ contents book variables
        book-contents a b = book-lettered ∙ go (letters book 0 variables) (sym a ∙ b)
          where
            go : (x : Reading (Unit {0})) → head_of x ≡ Ok tt → onward x (λ w. contents book variables) ≡ contents book variables
            go (read a) c = refl
            go (refused bad) c = let z : ◌≡◌ {A = ℕ} 0 1 = cc in absurd (omega arith)

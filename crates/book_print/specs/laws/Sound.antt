-- A book that is fine: its row, its entries, and what is printed of it.
use Rattle.std.specs.Prelude.{Ok, Bool, true, false, ◌&&◌, List, [], ◌∷◌, ◌++◌, ◌≡◌, refl, ℕ, zero, suc, ◌+◌, ◌*◌, ◌≤◌, take, drop, get_or}
use Rattle.std.proofs.Common.{sym, ◌∙◌, length-take-le}
use Rattle.std.proofs.Math.Path.{ap, ap₂}
use native.Mathlib.Omega.{arith}
use borrow.Author.Tests.{leb-true, leb-false}
use Rattle.std.proofs.Math.Dec.{leb}
use Rattle.std.proofs.Math.ListN.{length, length-drop}
use Rattle.text.specs.definitions.Bytes.{onward, read, bytes, is_row, decimal}
use Rattle.text_laws.specs.laws.Bytes.{and_l, and_r}
use Rattle.book.specs.definitions.Book.{must, letters, part, entries, contents, read_book, line}
use Rattle.book.specs.definitions.Book.{entry_lines, answer, printed}
use Rattle.book_read.specs.Heads.{head_of}
use Rattle.book_read.specs.laws.Fields.{is-must, is_whole}
use Rattle.book_read.specs.laws.Whole.{counted, listed, numbered, lettered, book-long, book-headed}
use Rattle.book_line.specs.Lines.{head_text}
use Rattle.book_line.specs.laws.Texts.{head-is}
use Rattle.book_print.specs.Print.{Row, Left, list_of, lines_from}
use Rattle.book_print.specs.laws.Walk.{fine-must, fine-onward, first_of}

-- the letters so far are a row
row_of : (book : List ℕ) (i k : ℕ) → head_of (letters book i (suc k)) ≡ Ok tt → is_row (part book 1 (i + suc k)) ≡ true
row_of book i zero h =
    let a = fine-must (leb (1 + i + 1) (length book)) (length book) _ h in
    let b = fine-must (is_row (take (1 + i) (drop 1 book))) (1 + i) _ a.1 in
    ap (λ n. is_row (part book 1 n)) (let g : i + 1 ≡ 1 + i = omega arith in g) ∙ b.0
row_of book i (suc k) h =
    let a = fine-must (leb (1 + i + 1) (length book)) (length book) _ h in
    let b = fine-must (is_row (take (1 + i) (drop 1 book))) (1 + i) _ a.1 in
    ap (λ n. is_row (part book 1 n)) (let g : i + suc (suc k) ≡ 1 + i + suc k = omega arith in g) ∙ row_of book (1 + i) k b.1

row_from : (book : List ℕ) (n : ℕ) → 1 ≤ n → head_of (letters book 0 n) ≡ Ok tt → is_row (part book 1 n) ≡ true
row_from book zero l h = absurd (omega arith)
row_from book (suc k) l h = ap (λ n. is_row (part book 1 n)) (let g : suc k ≡ 0 + suc k = omega arith in g) ∙ row_of book 0 k h

-- as many entries as were asked for
entries-length : (book : List ℕ) (p at k : ℕ) → head_of (entries book p at k) ≡ Ok tt → length (list_of (entries book p at k)) ≡ k
entries-length book p at zero h = ap (λ b. length (list_of (must b at (λ u. read [])))) (fine-must (leb (length book) at) at _ h).0
entries-length book p at (suc k) h =
    let f = first_of book p at k h in
    ap length f.1.is ∙ ap suc (entries-length book (p + 8) _ k f.1.fine)

module _ (book : List ℕ) where
  abbrev vars : ℕ
  vars = get_or book 0 0

  abbrev many : ℕ
  many = get_or book (1 + vars) 0

  pub record Sound : Type 0 where
    pub row : Row book vars
    pub count : 1 + vars + 1 ≤ length book
    pub left : Left book (1 + vars + 1) (1 + vars + 1 + 8 * many) 0 many
    pub text : head_text vars many ++ lines_from book vars (1 + vars + 1) (1 + vars + 1 + 8 * many) 0 many ≡ printed book

  short-of : head_of (read_book book) ≡ Ok tt → length book ≤ 65535
  short-of h = go (leb (length book) 65535) refl
    where
      go : (b : Bool) → leb (length book) 65535 ≡ b → length book ≤ 65535
      go true e = leb-true (length book) 65535 e
      go false e = let l = book-long book (leb-false (length book) 65535 e) in let z : ◌≡◌ {A = ℕ} 0 1 = cc in absurd (omega arith)

  pub sound : head_of (read_book book) ≡ Ok tt → Sound
  unfolding printed lines_from
  sound h =
      let s = short-of h in
      let a = fine-must (leb (0 + 1) (length book)) (length book) (numbered book s) (ap head_of (sym (book-headed book s)) ∙ h) in
      let b = fine-must (leb 1 vars && leb vars 4) 0 (lettered book s) a.1 in
      let c = fine-onward (letters book 0 vars) (λ w. contents book vars) b.1 in
      let d = fine-must (leb (1 + vars + 1) (length book)) (length book) (counted book vars) c.then in
      let e = fine-must (leb 1 many && leb many 64) (1 + vars) (listed book vars) d.1 in
      let f = fine-onward (entries book (2 + vars) (2 + vars + 8 * many) many) _ e.1 in
      let some = leb-true 1 vars (and_l (leb 1 vars) (leb vars 4) b.0) in
      let most = leb-true vars 4 (and_r (leb 1 vars) (leb vars 4) b.0) in
      let there = leb-true (1 + vars + 1) (length book) d.0 in
      let full = leb-true many 64 (and_r (leb 1 many) (leb many 64) e.0) in
      let g : 1 + vars + 1 ≡ 2 + vars = omega arith in
      let fine : head_of (entries book (1 + vars + 1) (1 + vars + 1 + 8 * many) many) ≡ Ok tt = ap
      (λ p. head_of (entries book p (p + 8 * many) many)) g ∙ ap head_of f.is in
      let whole-book : read_book book ≡ read (record { row = part book 1 vars; all = f.value }) =
      book-headed book s
      ∙ is_whole (numbered book s) book 0 1 (leb-true (0 + 1) (length book) a.0) ∙ is-must (lettered book s) 0 b.0
      ∙ ap (λ x. onward x (λ w. contents book vars)) c.is
      ∙ is_whole (counted book vars) book (1 + vars) 1 there ∙ is-must (listed book vars) (1 + vars) e.0
      ∙ ap (λ x. onward x (λ es. read (record { row = part book 1 vars; all = es }))) f.is in
      let listed-as : list_of (entries book (1 + vars + 1) (1 + vars + 1 + 8 * many) many) ≡ f.value = ap
      (λ p. list_of (entries book p (p + 8 * many) many)) g ∙ ap list_of f.is in
      record {
        row = record { proper = row_from book vars some (ap head_of c.is); inside = omega (arith, there); most = most; short = s };
        count = there;
        left = record { fine = fine; fields = omega (arith, most, full); start = omega (arith, most, full); number = omega (arith, full) };
        text =
            ap₂ (λ x y. x ++ entry_lines (part book 1 vars) 0 y)
            (head-is vars many
            ∙ ap₂ (λ n m. line (bytes "BOOK" ∷ decimal n ∷ decimal m ∷ []))
            (sym (length-take-le vars (drop 1 book) (omega (arith, there, length-drop 1 book))))
            (sym (entries-length book (1 + vars + 1) (1 + vars + 1 + 8 * many) many fine) ∙ ap length listed-as))
            listed-as
            ∙ ap answer (sym whole-book);
      }

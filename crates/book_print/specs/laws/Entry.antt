-- The line of one entry, from the comparison of the parts of the book that are lent.
use Rattle.std.specs.Prelude.{List, ◌≡◌, ℕ, ◌+◌, ◌-◌, ◌≤◌, length, take, drop, true}
use Rattle.std.proofs.Common.{sym, ◌∙◌, arith, length-drop, length-take-le}
use Rattle.std.proofs.Math.Path.{ap, ap₂}
use Rattle.reply.specs.definitions.Calls.{Compared, Verdict, compare_of, point_after}
use Rattle.reply.specs.definitions.Reply.{Reply}
use Rattle.text.specs.definitions.Bytes.{is_row}
use Rattle.book.specs.definitions.Book.{number16, part, entry_line}
use Rattle.door_compare.specs.Compare.{compared_of}
use Rattle.book_line.specs.Lines.{entry_text}
use Rattle.book_line.specs.laws.Texts.{entry-is}
use Rattle.book_print.specs.Print.{Row, line_at}

module _ (book : List ℕ) (n p at : ℕ) (row : Row book n) where
  row-length : length (part book 1 n) ≡ n
  row-length = length-take-le n (drop 1 book) (omega (arith, row.inside, length-drop 1 book))

  lent_row : take (1 + n - 1) (drop 1 book) ≡ part book 1 n
  lent_row =
      let g : 1 + n - 1 ≡ n = omega arith in
      ap (λ x. take x (drop 1 book)) g

  -- the row that is lent is proper, and a point of four numbers is long enough
  pub lent-proper : is_row (take (1 + n - 1) (drop 1 book)) ≡ true
  lent-proper = ap is_row lent_row ∙ row.proper

  pub lent-short : length (take (1 + n - 1) (drop 1 book)) ≤ 4
  lent-short = omega (arith, ap length lent_row, row-length, row.most)

  -- m and l are the lengths of the two bodies; the reply on the parts that are lent
  abbrev lent_reply : ℕ → ℕ → Reply Verdict
  lent_reply m l =
      compare_of (take (1 + n - 1) (drop 1 book)) (take (at + m - at) (drop at book)) (take (at + m + l - (at + m)) (drop (at + m) book))

  lent-reply : (m l : ℕ) → lent_reply m l ≡ compare_of (part book 1 n) (part book at m) (part book (at + m) l)
  lent-reply m l =
      let f : at + m - at ≡ m = omega arith in
      let g : at + m + l - (at + m) ≡ l = omega arith in
      ap (λ x. compare_of x (take (at + m - at) (drop at book)) (take (at + m + l - (at + m)) (drop (at + m) book))) lent_row
      ∙ ap₂ (λ x y. compare_of (part book 1 n) (take x (drop at book)) (take y (drop (at + m) book))) f g

  pub entry-line :
      (m l i : ℕ) {r : Compared} {q : List ℕ} (point : List ℕ) → m ≡ number16 book (p + 2) → l ≡ number16 book (p + 6) →
      r ≡ compared_of (lent_reply m l) → q ≡ point_after (lent_reply m l) point → entry_text i r (take n q) ≡ line_at book n p at i
  unfolding line_at
  entry-line m l i point e f x y =
      let z = lent-reply m l in
      ap₂ (λ u v. entry_text i u (take n v)) (x ∙ ap compared_of z) (y ∙ ap (λ w. point_after w point) z)
      ∙ ap (λ j. entry_text i (compared_of (compare_of (part book 1 n) (part book at m) (part book (at + m) l)))
      (take j (point_after (compare_of (part book 1 n) (part book at m) (part book (at + m) l)) point))) (sym row-length)
      ∙ entry-is (part book 1 n) (part book at m) (part book (at + m) l) i point
      ∙ ap₂ (λ u v. entry_line (part book 1 n) i (part book at u) (part book (at + u) v)) e f

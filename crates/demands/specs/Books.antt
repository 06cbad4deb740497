-- The book: which bytes are one, which are refused, by which number and where, and what is printed of either. What the bytes say is
-- defined without reading, in crates/book/specs/definitions/Meaning.
use Rattle.std.specs.Prelude.{Bool, true, false, List, [], ◌∷◌, ◌++◌, ◌↔◌, ◌≡◌, ℕ, suc, ◌+◌, ◌≤◌, ◌<◌, leb, length}
use Rattle.std.proofs.Math.Path.{refl, ap, ap₂}
use Rattle.std.proofs.Common.{sym, ◌∙◌, arith}
use borrow.Author.Tests.{leb-true, leb-false, le-leb, lt-leb}
use Rattle.refusal.specs.Refusal.{of_neither}
use Rattle.refusal.specs.declared.Refusal.{Refusal}
use Rattle.text.specs.definitions.Bytes.{Reading, read, refused, refused_at, bytes, decimal}
use Rattle.text.specs.definitions.Limits.{accept_term}
use Rattle.text.specs.definitions.Meaning.{OrdinaryRefused}
use Rattle.text.specs.definitions.Tree.{Tree, term_of}
use Rattle.text_laws.specs.laws.Ordinary as Terms
use Rattle.reply.specs.definitions.Calls.{Verdict, equal, different, verdict_of, compare_of, compare_reply}
use Rattle.reply.specs.definitions.Reply.{gives, refuses, asked, enough}
use Rattle.book.specs.definitions.Book.{read_book, line, numbers, verdict, entry_line, entry_lines, answer, book_lines, printed, print_reply}
use Rattle.book.specs.definitions.Meaning.{Book, variables, count, row_of, panel_of, cloud_of, each, entry_of, IsBook, BookRefused}
use Rattle.book.proofs.laws.Lines.{each-parts, lines-each, entries-counted}
use Rattle.book.proofs.laws.Meaning as Laws

-- ---- which bytes are a book
-- "Byte 0 is the number of variables; then the letters; one byte with the number of entries, 1 to 64; per entry four little-endian 16-bit
-- numbers: panel offset, panel length, cloud offset, cloud length, offsets from byte 0. Bodies follow without gaps in that order, to the
-- book's end."
pub book-is : (s : List ℕ) (b : Book) → (read_book s ≡ read b) ↔ IsBook s b
book-is s b = Laws.book-is s b

-- "13 names the start of the first wrong field in reading order (a length is wrong if its body passes the end), the book's length if a
-- field is cut, or the first byte too many. .. A bad row is 13 here; each letter is a field." And "3: .. book over 65,535", place 0
pub book-refused : (s : List ℕ) (e p : ℕ) → (read_book s ≡ refused_at e p) ↔ BookRefused s e p
book-refused s e p = Laws.book-refused s e p

-- "A refused book gives `BOOK REFUSED`, number, place, alone."
pub refused-alone :
    (s : List ℕ) (e p : ℕ) → BookRefused s e p → printed s ≡ line (bytes "BOOK" ∷ bytes "REFUSED" ∷ decimal e ∷ decimal p ∷ [])
unfolding printed
refused-alone s e p h = ap answer ((book-refused s e p).1 h)

-- ---- from bytes to each entry's answer
-- "First `BOOK`, variables, entries."
abbrev pub head_of : List ℕ → List ℕ
head_of s = line (bytes "BOOK" ∷ decimal (variables s) ∷ decimal (count s) ∷ [])

-- the line of entry i, made of the row, i, and its own two bodies: the bytes at its offsets, as many as its lengths say
abbrev pub line_of : List ℕ → ℕ → List ℕ
line_of s i = entry_line (row_of s) i (panel_of s i) (cloud_of s i)

module _ (s : List ℕ) (b : Book) (is : IsBook s b) where
  -- "Then per entry its number, from 0, and" its answer
  pub book-text : printed s ≡ head_of s ++ each (line_of s) 0 (count s)
  unfolding printed
  book-text =
      let all = each (entry_of s) 0 (count s) in
      let as_said : b ≡ record { row = row_of s; all = all } = rw (is.row_is, is.entries-are) in
      ap answer ((book-is s b).1 is) ∙ ap book_lines as_said
      ∙ ap₂ (λ m n. line (bytes "BOOK" ∷ decimal m ∷ decimal n ∷ []) ++ entry_lines (row_of s) 0 all)
      (Laws.row-counted s is.fine) (entries-counted s 0 (count s))
      ∙ ap (λ w. head_of s ++ w) (lines-each (row_of s) s 0 (count s))

  -- "A refused body spoils only its entry": before the line of entry i and behind it stand the lines of the others, as they are
  pub each-its-own :
      (i k : ℕ) → i + suc k ≡ count s → printed s ≡ head_of s ++ (each (line_of s) 0 i ++ (line_of s i ++ each (line_of s) (suc i) k))
  each-its-own i k h =
      book-text ∙ ap (λ n. head_of s ++ each (line_of s) 0 n) (sym h)
      ∙ ap (λ w. head_of s ++ w) (each-parts (line_of s) 0 i i k (omega arith))

  -- "an entry of a book answers as its own two bodies do": as the call `compare` does, of which demand 3 speaks
  pub as-compared :
      (tables : List ℕ) (k i : ℕ) → enough tables ≡ true → length (row_of s) ≤ k →
      line_of s i ≡ line (decimal i ∷ verdict (compare_reply (row_of s) tables k (panel_of s i) (cloud_of s i)))
  unfolding entry_line compare_reply
  as-compared tables k i long room = rw (Laws.proper-row s is.fine, long, le-leb (length (row_of s)) k room)

-- the line w of entry i: "and `SAME`; or `DIFF`, the point, both remainders; or `REFUSED`, E for panel or C for cloud, number, place".
-- A refusal of the cloud body is said where the panel body has none
pub data Says (row panel cloud : List ℕ) (i : ℕ) (w : List ℕ) : Type 0 where
  same : compare_of row panel cloud ≡ gives equal → w ≡ line (decimal i ∷ bytes "SAME" ∷ []) → Says row panel cloud i w
  differ :
      (N : List ℕ) (l r : ℕ) → compare_of row panel cloud ≡ gives (different N l r) →
      w ≡ line (decimal i ∷ bytes "DIFF" ∷ (numbers N ++ (decimal l ∷ decimal r ∷ []))) → Says row panel cloud i w
  refused-panel :
      (e p : ℕ) → OrdinaryRefused row panel e p →
      w ≡ line (decimal i ∷ bytes "REFUSED" ∷ bytes "E" ∷ decimal e ∷ decimal p ∷ []) → Says row panel cloud i w
  refused-cloud :
      (e p : ℕ) (u : Tree) → accept_term row panel ≡ read u → OrdinaryRefused row cloud e p →
      w ≡ line (decimal i ∷ bytes "REFUSED" ∷ bytes "C" ∷ decimal e ∷ decimal p ∷ []) → Says row panel cloud i w

module _ (row panel cloud : List ℕ) (i : ℕ) where
  by-verdict : (v : Verdict) → compare_of row panel cloud ≡ gives v → Says row panel cloud i (entry_line row i panel cloud)
  unfolding entry_line
  by-verdict equal h = same h (ap (λ x. line (decimal i ∷ verdict x)) h)
  by-verdict (different N l r) h = differ N l r h (ap (λ x. line (decimal i ∷ verdict x)) h)

  by-cloud :
      (u : Tree) (y : Reading Tree) → accept_term row panel ≡ read u → accept_term row cloud ≡ y →
      Says row panel cloud i (entry_line row i panel cloud)
  unfolding entry_line
  by-cloud u (read v) e f = by-verdict (verdict_of (length row) (term_of row u) (term_of row v)) (rw (e, f))
  by-cloud u (refused bad) e f =
      refused-cloud bad.number bad.place u e ((Terms.refuses row cloud bad.number bad.place).0 f) (rw (e, f))

  by-panel : (x : Reading Tree) → accept_term row panel ≡ x → Says row panel cloud i (entry_line row i panel cloud)
  unfolding entry_line
  by-panel (read u) e = by-cloud u (accept_term row cloud) e refl
  by-panel (refused bad) e =
      refused-panel bad.number bad.place ((Terms.refuses row panel bad.number bad.place).0 e) (rw e)

  pub entry-says : Says row panel cloud i (entry_line row i panel cloud)
  entry-says = by-panel (accept_term row panel) refl

-- ---- the call that prints a book into n bytes
-- "2: work table under its fixed length" and "11: result text longer than the lent result buffer": a book's own refusal is printed
pub data PrintRefused (tables s : List ℕ) (n : ℕ) (r : Refusal) : Type 0 where
  tables-short : r ≡ of_neither 2 → enough tables ≡ false → PrintRefused tables s n r
  text-longer : r ≡ of_neither 11 → enough tables ≡ true → n < length (printed s) → PrintRefused tables s n r

module _ (tables s : List ℕ) (n : ℕ) where
  by_tests :
      (t u : Bool) → enough tables ≡ t → leb (length (printed s)) n ≡ u →
      print_reply tables s n ≡ asked t 2 (λ v. asked u 11 (λ z. gives (printed s)))
  unfolding print_reply
  by_tests t u e f = rw (e, f)

  pub print-refused : (r : Refusal) → (print_reply tables s n ≡ refuses r) ↔ PrintRefused tables s n r
  print-refused r = (why (enough tables) (leb (length (printed s)) n) refl refl, so)
    where
      why :
          (t u : Bool) → enough tables ≡ t → leb (length (printed s)) n ≡ u → print_reply tables s n ≡ refuses r →
          PrintRefused tables s n r
      why true true e f h = let k = by_tests true true e f in let z : ◌≡◌ {A = ℕ} 0 1 = cc in absurd (omega arith)
      why true false e f h = let k = by_tests true false e f in text-longer (cc) e (leb-false (length (printed s)) n f)
      why false u e f h = let k = by_tests false u e f in tables-short (cc) e

      so : PrintRefused tables s n r → print_reply tables s n ≡ refuses r
      so (tables-short q e) = by_tests false (leb (length (printed s)) n) e refl ∙ rw q
      so (text-longer q e l) = by_tests true false e (lt-leb (length (printed s)) n l) ∙ rw q

  -- otherwise the whole text is given
  pub print-given :
      (w : List ℕ) → (print_reply tables s n ≡ gives w) ↔ ((enough tables ≡ true) × ((length (printed s) ≤ n) × (w ≡ printed s)))
  print-given w = (
    why (enough tables) (leb (length (printed s)) n) refl refl,
    λ h. by_tests true true h.0 (le-leb (length (printed s)) n h.1.0) ∙ rw h.1.1,
  )
    where
      why :
          (t u : Bool) → enough tables ≡ t → leb (length (printed s)) n ≡ u → print_reply tables s n ≡ gives w →
          (enough tables ≡ true) × ((length (printed s) ≤ n) × (w ≡ printed s))
      why true true e f h = let k = by_tests true true e f in (e, (leb-true (length (printed s)) n f, cc))
      why true false e f h = let k = by_tests true false e f in let z : ◌≡◌ {A = ℕ} 0 1 = cc in absurd (omega arith)
      why false u e f h = let k = by_tests false u e f in let z : ◌≡◌ {A = ℕ} 0 1 = cc in absurd (omega arith)

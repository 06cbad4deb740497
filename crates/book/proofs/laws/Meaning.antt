-- A book is read exactly where it is one, and refused exactly as is described.
use Rattle.std.specs.Prelude.{Bool, ◌&&◌, List, [], ◌∷◌, ◌++◌, ◌↔◌, ◌≡◌, refl, ℕ, zero, suc, ◌+◌, ◌≤◌, leb, length}
use Rattle.std.proofs.Math.Bool.{true, false}
use Rattle.std.proofs.Common.{true≢false, sym, subst, ◌∙◌, arith, leb-true, leb-false, eqb-true, le-leb, length-take, length-drop}
use Rattle.std.proofs.Math.Path.{ap}
use Rattle.std.proofs.lemmas.Bool.{lt-leb}
use Rattle.refusal.specs.Refusal.{fault}
use Rattle.refusal.specs.declared.Fault.{Fault}
use Rattle.book.specs.definitions.Book.{must, headed, read_book}
use Rattle.book.specs.definitions.Meaning.{Field, each, letter_field, count_field, number_fields, fields_of, variables, count, row_of}
use Rattle.book.specs.definitions.Meaning.{Book, part, bodies_at, bodies_end, cloud_offset, cloud_length, panel_length, AllFine, IsBook}
use Rattle.book.specs.definitions.Meaning.{BookRefused, too_long, wrong-field, cut_field, byte-too-many}
use Rattle.book.proofs.laws.Checked.{book_of, at_end, head-check}
use Rattle.book.proofs.laws.Fields.{Outcome, all-fine, wrong-at, cut_at, outcome, check, check-fine, check-wrong, check-cut}
use Rattle.text.specs.definitions.Bytes.{read, refused_at, is_row}

module _ (s : List ℕ) where
  -- ---- where all fields are fine
  split : (fs gs : List Field) → AllFine s (fs ++ gs) → AllFine s fs × AllFine s gs
  split [] gs a = (tt, a)
  split (f ∷ fs) gs a = let r = split fs gs a.1 in ((a.0, r.0), r.1)

  letters-row : (end i k : ℕ) → i + suc k ≡ end → AllFine s (each (letter_field s) i (suc k)) → is_row (part s 1 end) ≡ true
  letters-row end i zero h a = ap (λ n. is_row (part s 1 n)) (let z : end ≡ 1 + i = omega arith in z) ∙ a.0.1
  letters-row end i (suc k) h a = letters-row end (suc i) k (omega arith) a.1

  numbers-within : (end i k : ℕ) → i + suc k ≡ end → AllFine s (each (number_fields s) i (suc k)) → bodies_at s end ≤ length s
  numbers-within end i zero h a =
      let o = eqb-true (cloud_offset s i) (bodies_at s i + panel_length s i) a.1.1.0.1 in
      let l = leb-true (cloud_offset s i + cloud_length s i) (length s) a.1.1.1.0.1 in
      let z : bodies_at s (suc i) ≤ length s = omega arith in
      subst (λ n. bodies_at s n ≤ length s) (let e : suc i ≡ end = omega arith in e) z
  numbers-within end i (suc k) h a = numbers-within end (suc i) k (omega arith) a.1.1.1.1

  module _ (a : AllFine s (fields_of s)) where
    behind-letters : AllFine s (count_field s ∷ each (number_fields s) 0 (count s))
    behind-letters = (split (each (letter_field s) 0 (variables s)) (count_field s ∷ each (number_fields s) 0 (count s)) a.1).1

    -- the letters are a row
    pub proper-row : is_row (row_of s) ≡ true
    proper-row = by (variables s) a.0.1 (split (each (letter_field s) 0 (variables s)) _ a.1).0
      where
        by : (n : ℕ) → (leb 1 n && leb n 4) ≡ true → AllFine s (each (letter_field s) 0 n) → is_row (part s 1 n) ≡ true
        by zero e b = absurd (true≢false (sym e))
        by (suc n) e b = letters-row (suc n) 0 n (omega arith) b

    -- and as many as byte 0 says
    pub row-counted : length (row_of s) ≡ variables s
    row-counted =
        let w = behind-letters.0.0 in
        simp (length-take, length-drop) (omega arith)

    within : bodies_end s ≤ length s
    within = by (count s) behind-letters.0.1 behind-letters.1
      where
        by : (n : ℕ) → (leb 1 n && leb n 64) ≡ true → AllFine s (each (number_fields s) 0 n) → bodies_at s n ≤ length s
        by zero e b = absurd (true≢false (sym e))
        by (suc n) e b = numbers-within (suc n) 0 n (omega arith) b

  -- ---- what read_book answers
  opens : length s ≤ 65535 → read_book s ≡ check s (fields_of s) (at_end s)
  unfolding read_book
  opens h = ap (λ b. elim b [ true ↦ headed s | false ↦ refused_at 3 0 ]) (le-leb (length s) 65535 h) ∙ head-check s

  module _ (e p : ℕ) where
    refuses : BookRefused s e p → read_book s ≡ refused_at e p
    unfolding read_book
    refuses (too_long c q l) =
        ap (λ b. elim b [ true ↦ headed s | false ↦ refused_at 3 0 ]) (lt-leb (length s) 65535 l) ∙ rw (c, q)
    refuses (wrong-field c h f i w g q) = opens h ∙ check-wrong s (at_end s) i w g ∙ rw (c, q)
    refuses (cut_field c h f i w q) = opens h ∙ check-cut s (at_end s) i w ∙ rw (c, q)
    refuses (byte-too-many c h a l q) =
        opens h ∙ check-fine s (fields_of s) (at_end s) a
        ∙ ap (λ b. must b (bodies_end s) (λ u. read (book_of s))) (lt-leb (length s) (bodies_end s) l) ∙ rw (c, q)

  reads : (b : Book) → IsBook s b → read_book s ≡ read b
  reads b is =
      opens is.short ∙ check-fine s (fields_of s) (at_end s) is.fine
      ∙ ap (λ t. must t (bodies_end s) (λ u. read (book_of s))) (le-leb (length s) (bodies_end s) (omega (arith, is.to_the_end)))
      ∙ rw (is.row_is, is.entries-are)

  -- one of the two
  data Known : Type 0 where
    no-book : (e p : ℕ) → BookRefused s e p → Known
    a-book : IsBook s (book_of s) → Known

  known : Known
  known = by_length (leb (length s) 65535) refl
    where
      by_end : length s ≤ 65535 → AllFine s (fields_of s) → (b : Bool) → leb (length s) (bodies_end s) ≡ b → Known
      by_end h a true e =
          let l = leb-true (length s) (bodies_end s) e in
          let w = within a in
          a-book (record { short = h; fine = a; to_the_end = omega arith; row_is = refl; entries-are = refl })
      by_end h a false e = no-book 13 (bodies_end s) (byte-too-many refl h a (leb-false (length s) (bodies_end s) e) refl)

      by-fields : length s ≤ 65535 → Outcome s (fields_of s) → Known
      by-fields h (all-fine a) = by_end h a (leb (length s) (bodies_end s)) refl
      by-fields h (wrong-at f i w g) = no-book 13 f.start (wrong-field refl h f i w g refl)
      by-fields h (cut_at f i w) = no-book 13 (length s) (cut_field refl h f i w refl)

      by_length : (b : Bool) → leb (length s) 65535 ≡ b → Known
      by_length true e = by-fields (leb-true (length s) 65535 e) (outcome s (fields_of s))
      by_length false e = no-book 3 0 (too_long refl refl (leb-false (length s) 65535 e))

  pub book-refused : (e p : ℕ) → (read_book s ≡ refused_at e p) ↔ BookRefused s e p
  book-refused e p = (λ h. why h known, refuses e p)
    where
      why : read_book s ≡ refused_at e p → Known → BookRefused s e p
      why h (no-book c q w) =
          let r = refuses c q w in
          let same : fault c q ≡ fault e p = cc in
          subst (λ (f : Fault). BookRefused s f.number f.place) same w
      why h (a-book is) = let r = reads (book_of s) is in let z : ◌≡◌ {A = ℕ} 0 1 = cc in absurd (omega arith)

  pub book-is : (b : Book) → (read_book s ≡ read b) ↔ IsBook s b
  book-is b = (λ h. why h known, reads b)
    where
      why : read_book s ≡ read b → Known → IsBook s b
      why h (no-book c q w) = let r = refuses c q w in let z : ◌≡◌ {A = ℕ} 0 1 = cc in absurd (omega arith)
      why h (a-book is) =
          let r = reads (book_of s) is in
          let same : book_of s ≡ b = cc in
          subst (λ (c : Book). IsBook s c) same is

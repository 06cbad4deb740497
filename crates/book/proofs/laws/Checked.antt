-- Reading a book is checking its fields one after another, and then its end.
use Rattle.std.specs.Prelude.{Bool, true, false, List, [], ◌∷◌, ◌≡◌, refl, ℕ, zero, suc, ◌+◌, eqb, leb, length}
use Rattle.std.proofs.Common.{sym, ap, ◌∙◌, arith, eqb-true}
use Rattle.book.specs.definitions.Book.{must, whole, letters, body, entries, contents, headed}
use Rattle.book.specs.definitions.Meaning.{Field, field, each, variables_field, letter_field, count_field, number_fields, fields_of}
use Rattle.book.specs.definitions.Meaning.{Book, Entry, part, number16, variables, count, row_of, numbers_at, bodies_at, bodies_end}
use Rattle.book.specs.definitions.Meaning.{panel_of, cloud_of, panel_length, cloud_length, entry_of}
use Rattle.book.proofs.laws.Fields.{check, check-onward, check-append, onward-must}
use Rattle.text.specs.definitions.Bytes.{Reading, read, refused, onward}

onward-onward :
    {A B C : Type 0} (x : Reading A) (k : A → Reading B) (l : B → Reading C) → onward (onward x k) l ≡ onward x (λ a. onward (k a) l)
onward-onward (read a) k l = refl
onward-onward (refused bad) k l = refl

-- behind the test that a is b, either stands for the other
either_number : {A : Type 0} (a b p : ℕ) (y : ℕ → Reading A) → must (eqb a b) p (λ u. y b) ≡ must (eqb a b) p (λ u. y a)
either_number a b p y = by (eqb a b) refl
  where
    by : (t : Bool) → eqb a b ≡ t → must t p (λ u. y b) ≡ must t p (λ u. y a)
    by true e = ap y (sym (eqb-true a b e))
    by false e = refl

module _ (s : List ℕ) where
  abbrev pub book_of : Book
  book_of = record { row = row_of s; all = each (entry_of s) 0 (count s) }

  -- the two numbers, at p and q, of a body that has to start at the place at
  abbrev numbers_in : (p q at : ℕ) → List Field
  numbers_in p q at = field p 2 (eqb (number16 s p) at) ∷ field q 2 (leb (number16 s p + number16 s q) (length s)) ∷ []

  -- what follows an entry's bodies w and v, and what follows w: k more entries
  abbrev behind_cloud : (p at k : ℕ) (w v : List ℕ) → Reading (List Entry)
  behind_cloud p at k w v = onward (entries s p at k) (λ es. read (record { panel = w; cloud = v } ∷ es))

  abbrev behind_panel : (p at k : ℕ) (w : List ℕ) → Reading (List Entry)
  behind_panel p at k w = onward (body s (p + 4) at) (λ n. behind_cloud (p + 8) (at + n) k w (part s at n))

  module _ {A : Type 0} where
    letters-check :
        (x : Reading A) (j i k : ℕ) → j ≡ i → onward (letters s j k) (λ u. x) ≡ check s (each (letter_field s) i k) x
    letters-check x j i zero h = refl
    letters-check x j i (suc k) h =
        check-onward s (letter_field s j) (letters s (1 + j) k) (λ u. x)
        ∙ ap (check s (letter_field s j)) (letters-check x (1 + j) (suc i) k (omega arith))
        ∙ ap (λ n. check s (letter_field s n) (check s (each (letter_field s) (suc i) k) x)) h

    body-check :
        (p q at : ℕ) (y : ℕ → ℕ → Reading A) → p + 2 ≡ q →
        onward (body s p at) (y at) ≡ check s (numbers_in p q at) (y (number16 s p) (number16 s q))
    body-check p q at y h =
        let m = number16 s (p + 2) in
        check-onward s (field p 2 (eqb (number16 s p) at) ∷ field (p + 2) 2 (leb (at + m) (length s)) ∷ []) (read m) (y at)
        ∙ ap (λ z. whole s p 2 (λ u. z))
        (either_number (number16 s p) at p (λ o. whole s (p + 2) 2 (λ u. must (leb (o + m) (length s)) (p + 2) (λ v. y o m))))
        ∙ ap (λ r. check s (numbers_in p r at) (y (number16 s p) (number16 s r))) h

    -- behind k entries, from entry i on: the end
    abbrev ended : (List Entry → Reading A) → (end i k : ℕ) → Reading A
    ended f end i k = must (leb (length s) (bodies_at s end)) (bodies_at s end) (λ u. f (each (entry_of s) i k))

    entries-check :
        (f : List Entry → Reading A) (end i k : ℕ) → i + k ≡ end →
        onward (entries s (numbers_at s i) (bodies_at s i) k) f ≡ check s (each (number_fields s) i k) (ended f end i k)
    entries-check f end i zero h =
        onward-must (leb (length s) (bodies_at s i)) (bodies_at s i) (λ u. read []) f
        ∙ ap (λ n. ended f n i 0) (let e : i ≡ end = omega arith in e)
    entries-check f end i (suc k) h =
        let p = numbers_at s i in
        let at = bodies_at s i in
        let m = panel_length s i in
        let n = cloud_length s i in
        let w = panel_of s i in
        let e : Entry = record { panel = w; cloud = cloud_of s i } in
        onward-onward (body s p at) (λ m. behind_panel p (at + m) k (part s at m)) f
        ∙ body-check p (p + 2) at (λ o m. onward (behind_panel p (at + m) k (part s o m)) f) refl
        ∙ ap (check s (numbers_in p (p + 2) at))
        (onward-onward (body s (p + 4) (at + m)) (λ n. behind_cloud (p + 8) (at + m + n) k w (part s (at + m) n)) f
        ∙ body-check (p + 4) (p + 6) (at + m) (λ o n. onward (behind_cloud (p + 8) (at + m + n) k w (part s o n)) f) (omega arith)
        ∙ ap (check s (numbers_in (p + 4) (p + 6) (at + m)))
        (onward-onward (entries s (p + 8) (at + m + n) k) (λ es. read (e ∷ es)) f
        ∙ ap (λ q. onward (entries s q (at + m + n) k) (λ es. f (e ∷ es))) (let z : p + 8 ≡ numbers_at s (suc i) = omega arith in z)
        ∙ entries-check (λ es. f (e ∷ es)) end (suc i) k (omega arith)))

  -- "to the book's end"
  abbrev pub at_end : Reading Book
  at_end = must (leb (length s) (bodies_end s)) (bodies_end s) (λ u. read book_of)

  contents-check : contents s (variables s) ≡ check s (count_field s ∷ each (number_fields s) 0 (count s)) at_end
  contents-check =
      let c = count s in
      let z : 2 + variables s ≡ numbers_at s 0 = omega arith in
      ap (check s (count_field s ∷ []))
      (ap (λ p. onward (entries s p (bodies_at s 0) c) (λ es. read (record { row = row_of s; all = es }))) z
      ∙ entries-check (λ es. read (record { row = row_of s; all = es })) c 0 c (omega arith))

  pub head-check : headed s ≡ check s (fields_of s) at_end
  head-check =
      let n = variables s in
      ap (check s (variables_field s ∷ []))
      (letters-check (contents s n) 0 0 n refl ∙ ap (check s (each (letter_field s) 0 n)) contents-check
      ∙ sym (check-append s (each (letter_field s) 0 n) (count_field s ∷ each (number_fields s) 0 (count s)) at_end))

-- The lines of a book's entries, each made of its own two bodies.
use Rattle.std.specs.Prelude.{List, ◌++◌, ◌≡◌, refl, ℕ, zero, suc, ◌+◌, length}
use Rattle.std.proofs.Common.{append_assoc, sym, ap, ◌∙◌, arith}
use Rattle.book.specs.definitions.Book.{entry_line, entry_lines}
use Rattle.book.specs.definitions.Meaning.{each, entry_of, panel_of, cloud_of}

-- entry n, i entries behind entry j, and the k behind it
pub each-parts :
    {A : Type 0} (f : ℕ → List A) (j i n k : ℕ) → j + i ≡ n → each f j (i + suc k) ≡ each f j i ++ (f n ++ each f (suc n) k)
each-parts f j zero n k h =
    let e : 0 + suc k ≡ suc k = omega arith in
    let d : j ≡ n = omega arith in
    ap (each f j) e ∙ ap (λ m. f m ++ each f (suc m) k) d
each-parts f j (suc i) n k h =
    let e : suc i + suc k ≡ suc (i + suc k) = omega arith in
    ap (each f j) e ∙ ap (λ w. f j ++ w) (each-parts f (suc j) i n k (omega arith))
    ∙ sym (append_assoc (f j) (each f (suc j) i) (f n ++ each f (suc n) k))

pub lines-each :
    (row s : List ℕ) (i k : ℕ) →
    entry_lines row i (each (entry_of s) i k) ≡ each (λ j. entry_line row j (panel_of s j) (cloud_of s j)) i k
lines-each row s i zero = refl
lines-each row s i (suc k) = ap (λ w. entry_line row i (panel_of s i) (cloud_of s i) ++ w) (lines-each row s (suc i) k)

pub entries-counted : (s : List ℕ) (i k : ℕ) → length (each (entry_of s) i k) ≡ k
entries-counted s i zero = refl
entries-counted s i (suc k) = ap suc (entries-counted s (suc i) k)

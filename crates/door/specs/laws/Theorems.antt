-- What stands besides: theorems of this crate that no other proof leans on.
use Rattle.std.specs.Prelude.{Bool, true, false, ◌&&◌, List, [], ◌∷◌, ◌≡◌, refl, ℕ, ◌≤◌, ◌<◌, leb}
use Rattle.std.proofs.Common.{ap, ◌∙◌, arith, le-leb}
use Rattle.std.proofs.lemmas.Bool.{lt-leb}
use Rattle.text.specs.definitions.Bytes.{is_row}
use Rattle.code.specs.Lengths.{Long}
use Rattle.door.specs.laws.Door.{Open, four-full}
use Rattle.std.specs.Prelude.{not, ◌||◌, ◌+◌, length, drop, get_or}
use Rattle.std.proofs.Common.{sym, eq-eqb, ne_eqb, drop_of_length-le}
use Rattle.text_word.proofs.Walk.{one_on}
use Rattle.text.specs.definitions.Bytes.{all, capital, is_in_row, distinct}
use Rattle.door.specs.laws.Rows.{letters}

-- four tables of the fixed length are long enough
pub open-long : {row : List ℕ} (a b c d : ℕ) → Open row (a ∷ b ∷ c ∷ d ∷ []) → Long a b c d
open-long a b c d o =
    let f = four-full a b c d o.long in
    record { first = f.first; second = f.second; third = f.third; fourth = omega (arith, f.fourth) }

letters-cons : (x : ℕ) (xs : List ℕ) → letters (x ∷ xs) ≡ (capital x && (not (is_in_row xs x) && letters xs))
letters-cons x xs = go (capital x) (is_in_row xs x) (all capital xs)
  where
    go : (a b c : Bool) → (a && c && (not b && distinct xs)) ≡ (a && (not b && (c && distinct xs)))
    go true true true = refl
    go true true false = refl
    go true false true = refl
    go true false false = refl
    go false b c = refl

-- one letter is looked at
cons-on : (x : ℕ) (xs : List ℕ) → capital x ≡ true → is_in_row xs x ≡ false → letters (x ∷ xs) ≡ letters xs
cons-on x xs h k = letters-cons x xs ∙ rw (h, k) refl

cons-low : (x : ℕ) (xs : List ℕ) → capital x ≡ false → letters (x ∷ xs) ≡ false
cons-low x xs h = letters-cons x xs ∙ rw h refl

cons-twice : (x : ℕ) (xs : List ℕ) → capital x ≡ true → is_in_row xs x ≡ true → letters (x ∷ xs) ≡ false
cons-twice x xs h k = letters-cons x xs ∙ rw (h, k) refl

module _ (row : List ℕ) (i : ℕ) (l : i < length row) where
  pub letters-on :
      capital (get_or row i 0) ≡ true → is_in_row (drop (i + 1) row) (get_or row i 0) ≡ false → letters (drop i row) ≡ letters (drop (i + 1) row)
  letters-on h k = ap letters (one_on row i l) ∙ cons-on (get_or row i 0) (drop (i + 1) row) h k

  pub letters-low : capital (get_or row i 0) ≡ false → letters (drop i row) ≡ false
  letters-low h = ap letters (one_on row i l) ∙ cons-low (get_or row i 0) (drop (i + 1) row) h

  pub letters-twice : capital (get_or row i 0) ≡ true → is_in_row (drop (i + 1) row) (get_or row i 0) ≡ true → letters (drop i row) ≡ false
  letters-twice h k = ap letters (one_on row i l) ∙ cons-twice (get_or row i 0) (drop (i + 1) row) h k

pub letters-end : (row : List ℕ) (i : ℕ) → length row ≤ i → letters (drop i row) ≡ true
letters-end row i l = ap letters (drop_of_length-le row {i = i} l)

and_assoc : (a b c d : Bool) → (a && b && c && d) ≡ (a && (b && (c && d)))
and_assoc true true c d = refl
and_assoc true false c d = refl
and_assoc false b c d = refl

sized : (row : List ℕ) → is_row row ≡ (leb 1 (length row) && (leb (length row) 4 && letters row))
sized row = and_assoc (leb 1 (length row)) (leb (length row) 4) (all capital row) (distinct row)

pub row-letters : (row : List ℕ) → 1 ≤ length row → length row ≤ 4 → is_row row ≡ letters row
row-letters row a b = sized row ∙ rw (le-leb 1 (length row) a, le-leb (length row) 4 b) refl

pub row-empty : (row : List ℕ) → length row ≡ 0 → is_row row ≡ false
row-empty row e = sized row ∙ ap (λ n. leb 1 n && (leb n 4 && letters row)) e

pub row-long : (row : List ℕ) → 4 < length row → is_row row ≡ false
row-long row l = sized row ∙ rw (le-leb 1 (length row) (omega arith), lt-leb (length row) 4 l) refl

-- ---- looking for a letter
module _ (row : List ℕ) (b i : ℕ) where
  pub in-here : i < length row → get_or row i 0 ≡ b → is_in_row (drop i row) b ≡ true
  in-here l e = ap (λ xs. is_in_row xs b) (one_on row i l) ∙ ap (λ c. c || is_in_row (drop (i + 1) row) b) (eq-eqb b (get_or row i 0) (sym e))

  pub in_on : i < length row → (get_or row i 0 ≡ b → ⊥) → is_in_row (drop i row) b ≡ is_in_row (drop (i + 1) row) b
  in_on l n = ap (λ xs. is_in_row xs b) (one_on row i l) ∙ ap (λ c. c || is_in_row (drop (i + 1) row) b) (ne_eqb b (get_or row i 0) (λ e. n (sym e)))

  pub in_end : length row ≤ i → is_in_row (drop i row) b ≡ false
  in_end l = ap (λ xs. is_in_row xs b) (drop_of_length-le row {i = i} l)

-- A row's letters, and what an accepted text hands on to the algebra.
use Rattle.std.specs.Prelude.{Bool, true, false, ◌&&◌, ◌||◌, List, [], ◌∷◌, ◌≡◌, refl, ℕ, suc, ◌≤◌, ◌<◌, eqb, leb, length}
use Rattle.std.proofs.Common.{true≢false, sym, arith, leb-true}
use Rattle.dialect.specs.Dialects.{ordinary}
use Rattle.dialect.specs.declared.Dialect.{Dialect}
use Rattle.horner.specs.laws.Within.{Within, Over}
use Rattle.text.specs.definitions.Answer as A
use Rattle.text.specs.definitions.Bytes.{read, all, capital, is_in_row, distinct, is_row, index_in}
use Rattle.text.specs.definitions.Limits.{accept, accept_term}
use Rattle.text.specs.definitions.Meaning.{itself}
use Rattle.text.specs.definitions.Tree.{Sign, add, sub, mul, Tree, num, letter, neg, two, power, letters, term_of}
use Rattle.text_laws.specs.laws.Accepted.{accepts}
use Rattle.text_laws.specs.laws.Bytes.{and_l, and_r}
use Rattle.text_laws.specs.laws.Ordinary.{accepted}

-- ---- letters and their places in the row
-- a letter of the row has an index in it
pub index_below : (row : List ℕ) (b : ℕ) → is_in_row row b ≡ true → index_in row b < length row
index_below [] b h = absurd (true≢false (sym h))
index_below (c ∷ row) b h = go (eqb b c) refl (index_below row b)
  where
    go : (e : Bool) → eqb b c ≡ e → (is_in_row row b ≡ true → index_in row b < length row) → index_in (c ∷ row) b < suc (length row)
    go true k ih = rw (k, index_in) (omega arith)
    go false k ih = rw (k, index_in) (omega (arith, ih (let i : (false || is_in_row row b) ≡ true = rw k at h in i)))

-- a row has one to four letters
pub row-length : (row : List ℕ) → is_row row ≡ true → (1 ≤ length row) × (length row ≤ 4)
row-length row r =
    let a = and_l (leb 1 (length row) && leb (length row) 4) (all capital row)
    (and_l (leb 1 (length row) && leb (length row) 4 && all capital row) (distinct row) r) in (
      leb-true 1 (length row) (and_l (leb 1 (length row)) (leb (length row) 4) a),
      leb-true (length row) 4
          (and_r (leb 1 (length row)) (leb (length row) 4) a),
    )

-- ---- what the algebra asks of a term
module _ (row : List ℕ) where
  over-sign :
      (g : Sign) (x y : Tree) → Over (length row) (term_of row x) → Over (length row) (term_of row y) → (p o c : ℕ) →
      Over (length row) (term_of row (two p o c g x y))
  over-sign add x y h k p o c = (h, k)
  over-sign sub x y h k p o c = (h, k)
  over-sign mul x y h k p o c = (h, k)

  -- a term whose letters are in the row is one over its variables
  pub letters-over : (t : Tree) → letters (is_in_row row) t ≡ true → Over (length row) (term_of row t)
  letters-over (num p w z) l = tt
  letters-over (letter p b) l = index_below row b l
  letters-over (neg p o c x) l = letters-over x l
  letters-over (two p o c g x y) l =
      over-sign g x y (letters-over x (and_l (letters (is_in_row row) x) (letters (is_in_row row) y) l))
      (letters-over y (and_r (letters (is_in_row row) x) (letters (is_in_row row) y) l)) p o c
  letters-over (power p o c x q n) l = letters-over x l

  -- an accepted term is within what the algebra asks
  pub dialect-within :
      (D : Dialect) (s : List ℕ) (t : Tree) → accept D row s ≡ A.read t → Within (length row) (term_of row t)
  dialect-within D s t e =
      let a = (accepts D row s t).0 e in
      let f = a.1 t (itself refl) in
      record { over = letters-over t a.0.in_row; degrees = f.degrees; weight = f.weight }

  -- document 01's own
  pub accepted-within : (s : List ℕ) (t : Tree) → accept_term row s ≡ read t → Within (length row) (term_of row t)
  accepted-within s t e = dialect-within ordinary s t (accepted row s t e)

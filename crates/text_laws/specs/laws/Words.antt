-- What the words of a term stand for.
use Rattle.std.specs.Prelude.{Bool, true, false, cond, List, [], ◌∷◌, ◌≡◌, refl, ℕ, ◌≤◌, leb, ℤ}
use Rattle.std.proofs.Math.Option.{Option, none, some}
use Rattle.std.proofs.Common.{sym, ap, ◌∙◌, arith, leb-true, le-leb, ne_eqb}
use Rattle.std.proofs.lemmas.Bool.{lt-leb}
use Rattle.dialect.specs.declared.Dialect.{Dialect}
use Rattle.text.specs.definitions.Bytes.{capital, write_int, canonical, read_nat, read_int}
use Rattle.text.specs.definitions.Integers.{is_hex, read_hex, or_hex, integer_of}
use Rattle.text.specs.definitions.Reading.{lone, int_or, leaf, letter_check}
use Rattle.text.specs.definitions.Tree.{Tree, num, letter}
use Rattle.text_laws.specs.laws.Bytes.{and_l, and_r}
use Rattle.text_laws.specs.laws.Numerals.{no_none, read-int}

-- no capital letter is an integer
pub capital-range : (b : ℕ) → capital b ≡ true → (65 ≤ b) × (b ≤ 90)
capital-range b e = (leb-true 65 b (and_l (leb 65 b) (leb b 90) e), leb-true b 90 (and_r (leb 65 b) (leb b 90) e))

-- in decimal
pub capital-no-int : (b : ℕ) → capital b ≡ true → read_int (b ∷ []) ≡ none
unfolding read_int read_nat
capital-no-int b e =
    let h = (capital-range b e).0 in
    rw (ne_eqb b 45 (omega arith), read_int)
    (rw (ne_eqb b 48 (omega arith), canonical) (rw (le-leb 48 b (omega arith), lt-leb b 57 (omega arith))))

-- and in any dialect
pub capital-no-integer : (h : Bool) (b : ℕ) → capital b ≡ true → integer_of h (b ∷ []) ≡ none
unfolding integer_of read_hex is_hex
capital-no-integer true b e = ap (or_hex true (b ∷ [])) (capital-no-int b e)
capital-no-integer false b e = ap (or_hex false (b ∷ [])) (capital-no-int b e)

-- a decimal integer is one in every dialect
pub decimal-integer : (h : Bool) (w : List ℕ) (z : ℤ) → read_int w ≡ some z → integer_of h w ≡ some z
unfolding integer_of
decimal-integer h w z e = ap (or_hex h w) e

-- ---- reading a word as an operand
-- a capital letter
pub record Lone (p : ℕ) (w : List ℕ) (t : Tree) : Type 0 where
  pub byte : ℕ
  pub is-capital : capital byte ≡ true
  pub word-is : byte ∷ [] ≡ w
  pub tree_is : letter p byte ≡ t

-- such a word is read as the letter
pub letter-lone : (p b : ℕ) → capital b ≡ true → lone p (b ∷ []) ≡ some (letter p b)
letter-lone p b c = ap (λ (x : Bool). cond x (some (letter p b)) none) c

-- and only such a word
pub lone-view : (p : ℕ) (w : List ℕ) (t : Tree) → lone p w ≡ some t → Lone p w t
lone-view p [] t h = no_none h
lone-view p (b ∷ []) t h = go (capital b) refl
  where
    go : (c : Bool) → capital b ≡ c → Lone p (b ∷ []) t
    go true c =
        let k : some (letter p b) ≡ some t = rw c at h in
        let i : letter p b ≡ t = cc in
        record { byte = b; is-capital = c; word-is = refl; tree_is = i }
    go false c = no_none (rw c at h)
lone-view p (b ∷ c ∷ w) t h = no_none h

module _ (D : Dialect) where
  -- an integer of the dialect is read as its value
  pub num-leaf : (p : ℕ) (w : List ℕ) (z : ℤ) → integer_of D.hex w ≡ some z → leaf D p w ≡ some (num p w z)
  num-leaf p w z e = ap (λ (r : Option ℤ). int_or p w r (lone p w)) e

  -- a capital letter as itself
  pub letter-leaf : (p b : ℕ) → capital b ≡ true → leaf D p (b ∷ []) ≡ some (letter p b)
  letter-leaf p b c =
      ap (λ (r : Option ℤ). int_or p (b ∷ []) r (lone p (b ∷ []))) (capital-no-integer D.hex b c) ∙ letter-lone p b c

  -- a word that is read is an integer of the dialect or a capital letter
  pub data LeafView (p : ℕ) (w : List ℕ) (t : Tree) : Type 0 where
    is-int : (z : ℤ) → integer_of D.hex w ≡ some z → num p w z ≡ t → LeafView p w t
    is-letter : Lone p w t → LeafView p w t

  -- as the reading finds it
  pub leaf-view : (p : ℕ) (w : List ℕ) (t : Tree) → leaf D p w ≡ some t → LeafView p w t
  leaf-view p w t h = go (integer_of D.hex w) refl
    where
      go : (r : Option ℤ) → integer_of D.hex w ≡ r → LeafView p w t
      go none e = is-letter (lone-view p w t (rw e at h))
      go (some z) e = is-int z e (let k : some (num p w z) ≡ some t = rw e at h in let i : num p w z ≡ t = cc in i)

-- ---- 5 is for letters alone
module _ (known : ℕ → Bool) where
  -- an integer passes
  pub check-int : (h : Bool) (w : List ℕ) (z : ℤ) → integer_of h w ≡ some z → letter_check known w ≡ 0
  check-int h [] z e = refl
  check-int h (b ∷ []) z e = go (capital b) refl
    where
      go : (c : Bool) → capital b ≡ c → letter_check known (b ∷ []) ≡ 0
      go true c = no_none (sym (capital-no-integer h b c) ∙ e)
      go false c = rw c
  check-int h (b ∷ c ∷ w) z e = refl

  -- written in decimal
  pub check-num : (z : ℤ) → letter_check known (write_int z) ≡ 0
  check-num z = check-int false (write_int z) z (decimal-integer false (write_int z) z (read-int z))

  -- a letter that is known passes
  pub check-letter : (b : ℕ) → known b ≡ true → letter_check known (b ∷ []) ≡ 0
  check-letter b k = go (capital b) refl
    where
      go : (c : Bool) → capital b ≡ c → letter_check known (b ∷ []) ≡ 0
      go true c = rw (c, k)
      go false c = rw c

  -- and no other capital
  pub letter-check : (b : ℕ) → capital b ≡ true → letter_check known (b ∷ []) ≡ 0 → known b ≡ true
  letter-check b c e = go (known b) refl
    where
      go : (k : Bool) → known b ≡ k → known b ≡ true
      go true k = k
      go false k = let h : ◌≡◌ {A = ℕ} 5 0 = rw (c, k) at e in absurd (omega arith)

-- Words: the leaf that a word is where a letter may stand, and where an operand may.
use Rattle.std.specs.Prelude.{◌≡◌, Bool, ◌&&◌, not, ℕ, ◌+◌, ◌*◌, ◌≤◌, ◌<◌, ℤ, pos, length, take, drop}
use Rattle.std.proofs.Math.Path.{refl, ap}
use Rattle.std.proofs.Common.{sym, ◌∙◌, subst, true≢false, inl, inr, arith}
use Rattle.std.proofs.Math.Bool.{true, false, cond}
use mathlib.Core.List.{List, [], ◌∷◌}
use Rattle.std.proofs.Math.Option.{Option, none, some}
use Rattle.std.proofs.Math.ListN.{get_or}
use borrow.Author.Tests.{lt-ltb, le-ltb}
use Rattle.text.specs.definitions.Bytes.{capital, is_in_row, index_in, canonical, read_nat, read_int, value_from, is_some}
use Rattle.text_word.specs.Words.{is_integer}
use Rattle.text_word.specs.Laws.{integer-some, in_row}
use Rattle.dialect.specs.declared.Dialect.{Dialect}
use Rattle.term_tree.specs.Coding.{int_code, enc}
use Rattle.text.specs.definitions.Integers.{integer_of, or_hex, is_hex, read_hex, hex_from}
use Rattle.text.specs.definitions.Reading.{lone, int_or, letter_check}
use Rattle.text.specs.definitions.Tree.{num, letter}
use Rattle.term_leaf.specs.Leaf.{Part, On, Off}
use Rattle.term_leaf.specs.Leaf.{CodeOf, hex_here, word_tree, letter_tree, WordReady, WordSays}
use Rattle.text_laws.specs.laws.Numerals.{int-read, decimal-read}
use Rattle.text_laws.specs.laws.Words.{check-num}
use Rattle.term_leaf.specs.laws.Integers.{none-some}

-- ---- letters
lone-many : (p : ℕ) (w : List ℕ) → (length w ≡ 1 → ⊥) → lone p w ≡ none
lone-many p [] h = refl
lone-many p (b ∷ []) h = absurd (h refl)
lone-many p (b ∷ c ∷ w) h = refl

lone-by : (p : ℕ) (w : List ℕ) (t : Bool) → length w ≡ 1 → capital (get_or w 0 0) ≡ t → lone p w ≡ cond t (some (letter p (get_or w 0 0))) none
lone-by p [] t h e = absurd (omega arith)
lone-by p (b ∷ []) t h e = ap (λ z. cond z (some (letter p b)) none) e
lone-by p (b ∷ c ∷ w) t h e = absurd (omega arith)

check-by : (D : Dialect) (row w : List ℕ) (t k : Bool) → length w ≡ 1 → capital (get_or w 0 0) ≡ t → is_in_row row (get_or w 0 0) ≡ k →
    letter_check (is_in_row row) w ≡ cond (t && not k) 5 0
check-by D row [] t k h e f = absurd (omega arith)
check-by D row (b ∷ []) t k h e f = λ i. cond (e i && not (f i)) 5 0
check-by D row (b ∷ c ∷ w) t k h e f = absurd (omega arith)

module _ (D : Dialect) (row w : List ℕ) (p e : ℕ) where
  -- it is no letter
  pub letter-many : (length w ≡ 1 → ⊥) → (out : List ℕ) → WordSays D row (letter_tree p w) w p e out (Off D.wrong p e)
  letter-many h out = record { case = record { place = refl; end = refl; why = inl (lone-many p w h, refl) } }

  pub letter-none : length w ≡ 1 → capital (get_or w 0 0) ≡ false → (out : List ℕ) →
      WordSays D row (letter_tree p w) w p e out (Off D.wrong p e)
  letter-none h c out = record { case = record { place = refl; end = refl; why = inl (lone-by p w false h c, refl) } }

  -- it is none of the row
  pub letter-unknown : length w ≡ 1 → capital (get_or w 0 0) ≡ true → length row ≤ index_in row (get_or w 0 0) → (out : List ℕ) →
      WordSays D row (letter_tree p w) w p e out (Off 5 p e)
  letter-unknown h c l out =
      let t = letter p (get_or w 0 0) in
      let f : lone p w ≡ some t = lone-by p w true h c in
      let n : is_in_row row (get_or w 0 0) ≡ false = in_row row (get_or w 0 0) ∙ le-ltb (index_in row (get_or w 0 0)) (length row) l in
      record {
        case = record {
          place = refl;
          end = refl;
          why = inr
              ((t, refl), (check-by D row w true false h c n, λ g. none-some t (sym g ∙ f)));
        };
      }

  -- it is one of the row
  pub letter-known : WordReady row w p e 2 → length w ≡ 1 → capital (get_or w 0 0) ≡ true → index_in row (get_or w 0 0) < length row →
      (out before : List ℕ) → out ≡ (2147483648 + 8 * index_in row (get_or w 0 0)) ∷ ((p + 65536 * e) ∷ before)
      → WordSays D row (letter_tree p w) w p e out (On 2 e)
  unfolding enc
  letter-known R h c l out before o =
      let b = get_or w 0 0 in
      let n : is_in_row row b ≡ true = in_row row b ∙ lt-ltb (index_in row b) (length row) l in
      let q : e ≡ p + 1 = omega (arith, R.ends, h) in
      record {
        case = record {
          tree = letter p b;
          found = lone-by p w true h c;
          fine = check-by D row w true true h c n;
          two = refl;
          past = refl;
          size = refl;
          is = ap (take 2) o ∙ ap (λ z. (2147483648 + 8 * index_in row b) ∷ ((p + 65536 * z) ∷ [])) q;
          known = n;
          short = omega (arith, R.small, R.some_byte);
        };
      }

-- ---- no integer is a letter
module _ (D : Dialect) (row : List ℕ) where
  -- an integer is no letter, nor is an exponent
  pub check-int : (w : List ℕ) (z : ℤ) → read_int w ≡ some z → letter_check (is_in_row row) w ≡ 0
  check-int w z e = ap (letter_check (is_in_row row)) (sym (int-read w z e)) ∙ check-num (is_in_row row) z

  pub check-natural : (w : List ℕ) → canonical w ≡ true → letter_check (is_in_row row) w ≡ 0
  unfolding read_nat
  check-natural w e =
      ap (letter_check (is_in_row row)) (sym (decimal-read w (value_from 0 w) (ap (λ b. cond b (some (value_from 0 w)) none) e)))
      ∙ check-num (is_in_row row) (pos (value_from 0 w))

-- ---- integers
module _ (D : Dialect) (row w : List ℕ) (p e : ℕ) where
  leaf-int : (z : ℤ) → read_int w ≡ some z → word_tree D p w ≡ some (num p w z)
  unfolding integer_of
  leaf-int z r = ap (λ o. int_or p w (or_hex D.hex w o) (lone p w)) r

  hex-none : hex_here D w ≡ false → or_hex D.hex w none ≡ none
  unfolding read_hex
  hex-none e = by D.hex refl
    where
      by : (h : Bool) → D.hex ≡ h → or_hex h w none ≡ none
      by true q = ap (λ b. cond b (some (pos (hex_from 0 (drop 2 w)))) none) (sym (ap (λ h. cond h (is_hex w) false) q) ∙ e)
      by false q = refl

  hex-some : hex_here D w ≡ true → or_hex D.hex w none ≡ some (pos (hex_from 0 (drop 2 w)))
  unfolding read_hex
  hex-some e = by D.hex refl
    where
      by : (h : Bool) → D.hex ≡ h → or_hex h w none ≡ some (pos (hex_from 0 (drop 2 w)))
      by true q = ap (λ b. cond b (some (pos (hex_from 0 (drop 2 w)))) none) (sym (ap (λ h. cond h (is_hex w) false) q) ∙ e)
      by false q = absurd (true≢false (sym (sym (ap (λ h. cond h (is_hex w) false) q) ∙ e)))

  leaf-none : hex_here D w ≡ false → read_int w ≡ none → word_tree D p w ≡ letter_tree p w
  unfolding integer_of
  leaf-none h r = ap (λ o. int_or p w (or_hex D.hex w o) (lone p w)) r ∙ ap (λ o. int_or p w o (lone p w)) (hex-none h)

  leaf-hex : hex_here D w ≡ true → read_int w ≡ none → word_tree D p w ≡ some (num p w (pos (hex_from 0 (drop 2 w))))
  unfolding integer_of
  leaf-hex h r = ap (λ o. int_or p w (or_hex D.hex w o) (lone p w)) r ∙ ap (λ o. int_or p w o (lone p w)) (hex-some h)

  -- a decimal integer
  pub word-int : WordReady row w p e 2 → is_integer w ≡ true → (c : ℕ) → CodeOf w c → (out before : List ℕ) → out
      ≡ c ∷ ((p + 65536 * e) ∷ before) → WordSays D row (word_tree D p w) w p e out (On 2 e)
  unfolding enc
  word-int R h c C out before o = at (read_int w) refl
    where
      at : (r : Option ℤ) → read_int w ≡ r → WordSays D row (word_tree D p w) w p e out (On 2 e)
      at none r = absurd (true≢false (sym h ∙ integer-some w ∙ ap is_some r))
      at (some z) r =
          record {
            case = record {
              tree = num p w z;
              found = leaf-int z r;
              fine = check-int D row w z r;
              two = refl;
              past = refl;
              size = refl;
              is = ap (take 2) o ∙ (λ i. C z r i ∷ ((p + 65536 * (R.ends i)) ∷ []));
              known = refl;
              short = omega (arith, R.small, R.some_byte);
            };
          }

  check-hex : is_hex w ≡ true → letter_check (is_in_row row) w ≡ 0
  unfolding is_hex
  check-hex h = by w h
    where
      by : (v : List ℕ) → is_hex v ≡ true → letter_check (is_in_row row) v ≡ 0
      by [] g = refl
      by (b ∷ []) g = absurd (true≢false (sym g))
      by (b ∷ c ∷ v) g = refl

  -- where the test says so, it is one
  pub is-hex : hex_here D w ≡ true → is_hex w ≡ true
  is-hex h = by D.hex h
    where
      by : (b : Bool) → cond b (is_hex w) false ≡ true → is_hex w ≡ true
      by true g = g
      by false g = absurd (true≢false (sym g))

  -- a hexadecimal integer
  pub word-hex : WordReady row w p e 2 → is_integer w ≡ false → hex_here D w ≡ true → (c : ℕ) → c ≡ int_code (pos (hex_from 0 (drop 2 w))) →
      (out before : List ℕ) → out ≡ c ∷ ((p + 65536 * e) ∷ before)
      → WordSays D row (word_tree D p w) w p e out (On 2 e)
  unfolding enc
  word-hex R n h c C out before o = at (read_int w) refl
    where
      at : (r : Option ℤ) → read_int w ≡ r → WordSays D row (word_tree D p w) w p e out (On 2 e)
      at (some z) r = absurd (true≢false (sym (integer-some w ∙ ap is_some r) ∙ n))
      at none r =
          record {
            case = record {
              tree = num p w (pos (hex_from 0 (drop 2 w)));
              found = leaf-hex h r;
              fine = check-hex (is-hex h);
              two = refl;
              past = refl;
              size = refl;
              is = ap (take 2) o ∙ (λ i. C i ∷ ((p + 65536 * (R.ends i)) ∷ []));
              known = refl;
              short = omega (arith, R.small, R.some_byte);
            };
          }

  -- no integer: a letter, or nothing
  pub word-letter : hex_here D w ≡ false → is_integer w ≡ false → (out : List ℕ) (r : Part) → WordSays D row (letter_tree p w) w p e out r →
      WordSays D row (word_tree D p w) w p e out r
  word-letter d h out r S = at (read_int w) refl
    where
      at : (o : Option ℤ) → read_int w ≡ o → WordSays D row (word_tree D p w) w p e out r
      at none q = subst (λ L. WordSays D row L w p e out r) (sym (leaf-none d q)) S
      at (some z) q = absurd (true≢false (sym (integer-some w ∙ ap is_some q) ∙ h))

-- less room is asked
pub ready-two : {row w : List ℕ} {p e n : ℕ} → WordReady row w p e n → WordReady row w p e 2
ready-two R = record { four = R.four; ends = R.ends; small = R.small; room = omega arith; some_byte = R.some_byte }

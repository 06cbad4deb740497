-- Laws of hexadecimal digits, for the loops that walk over them.
use Rattle.std.specs.Prelude.{◌≡◌, refl, ◌⊎◌, Bool, true, false, ◌&&◌, List, [], ◌∷◌, ℕ, ◌+◌, ◌-◌, ◌*◌, ◌≤◌, ◌<◌, min, eqb, leb, pos, length, get_or, drop}
use Rattle.std.proofs.Common.{sym, ap, ◌∙◌, inl, inr, true≢false, arith, ne_eqb, le-leb, lt-ltb, le-ltb, eqb-true}
use Rattle.std.proofs.lemmas.Bool.{lt-leb}
use Rattle.horner.proofs.laws.Compare.{lt-or-ge}
use Rattle.text.specs.definitions.Bytes.{all, is_empty}
use Rattle.text_laws.specs.laws.Bytes.{and_r}
use Rattle.text_word.proofs.Walk.{one_on}
use Rattle.term_tree.specs.Coding.{int_code}
use Rattle.text.specs.definitions.Integers.{hex_digit, hex_value, hex_digits, is_hex, hex_from}

-- ---- a value, cut down
value-le : (a : ℕ) (xs : List ℕ) → a ≤ hex_from a xs
value-le a [] = omega arith
value-le a (x ∷ xs) = omega (arith, value-le (a * 16 + hex_value x) xs)

value-cut : (a L : ℕ) (xs : List ℕ) → min (hex_from (min a L) xs) L ≡ min (hex_from a xs) L
value-cut a L xs = at (lt-or-ge L a)
  where
    at : (L < a) ⊎ (a ≤ L) → min (hex_from (min a L) xs) L ≡ min (hex_from a xs) L
    at (inl h) = omega (arith, value-le a xs, value-le (min a L) xs)
    at (inr h) = ap (λ m. min (hex_from m xs) L) (omega arith)

-- one digit more
pub value_on : (w : List ℕ) (i a L : ℕ) → i < length w → min (hex_from a (drop i w)) L
    ≡ min (hex_from (min (a * 16 + hex_value (get_or w i 0)) L) (drop (i + 1) w)) L
value_on w i a L h = ap (λ l. min (hex_from a l) L) (one_on w i h) ∙ sym (value-cut (a * 16 + hex_value (get_or w i 0)) L (drop (i + 1) w))

-- ---- by the first bytes and the length

-- nine digits are too many
pub digits_long : (w : List ℕ) → (get_or w 0 0 ≡ 48 → ⊥) → 8 < length w → hex_digits w ≡ false
digits_long [] n h = absurd (omega arith)
digits_long (x ∷ w) n h =
    ap (λ b. elim b [ true ↦ is_empty w | false ↦ leb (length w) 7 && (hex_digit x && all hex_digit w) ]) (ne_eqb x 48 n)
    ∙ ap (λ b. b && (hex_digit x && all hex_digit w)) (lt-leb (length w) 7 (omega arith))

-- one to eight digits
pub digits-all : (w : List ℕ) → 0 < length w → (get_or w 0 0 ≡ 48 → ⊥) → length w ≤ 8 → hex_digits w ≡ all hex_digit w
digits-all [] l n h = absurd (omega arith)
digits-all (x ∷ w) l n h =
    ap (λ b. elim b [ true ↦ is_empty w | false ↦ leb (length w) 7 && (hex_digit x && all hex_digit w) ]) (ne_eqb x 48 n)
    ∙ ap (λ b. b && (hex_digit x && all hex_digit w)) (le-leb (length w) 7 (omega arith))

digits-digits : (w : List ℕ) → hex_digits w ≡ true → all hex_digit w ≡ true
digits-digits [] h = refl
digits-digits (x ∷ w) h = by (eqb x 48) refl h
  where
    zero-only : (v : List ℕ) → is_empty v ≡ true → x ≡ 48 → (hex_digit x && all hex_digit v) ≡ true
    zero-only [] e q = ap (λ z. hex_digit z && true) q
    zero-only (y ∷ v) e q = absurd (true≢false (sym e))

    by : (b : Bool) → eqb x 48 ≡ b → elim b [ true ↦ is_empty w | false ↦ leb (length w) 7 && (hex_digit x && all hex_digit w) ] ≡ true →
        (hex_digit x && all hex_digit w) ≡ true
    by true e g = zero-only w g (borrow-eq x e)
      where
        borrow-eq : (y : ℕ) → eqb y 48 ≡ true → y ≡ 48
        borrow-eq y e = eqb-true y 48 e
    by false e g = and_r (leb (length w) 7) (hex_digit x && all hex_digit w) g

-- a hexadecimal integer
pub record Hex (w : List ℕ) : Type 0 where
  pub long : 2 ≤ length w
  pub digits : all hex_digit (drop 2 w) ≡ true

-- what follows from its being one
pub hex : (w : List ℕ) → is_hex w ≡ true → Hex w
unfolding is_hex
hex [] h = absurd (true≢false (sym h))
hex (a ∷ []) h = absurd (true≢false (sym h))
hex (a ∷ b ∷ w) h =
    record {
      long = omega arith;
      digits = digits-digits w
          (and_r (eqb b 120) (hex_digits w) (and_r (eqb a 48) (eqb b 120 && hex_digits w) h));
    }

-- ---- its code
pub code-cut : (n m : ℕ) → m ≡ min n 1073741824 → m ≡ 1073741824 → 2147483647 ≡ int_code (pos n)
unfolding int_code
code-cut n m e f = rw (lt-ltb 1073741823 n (omega (arith, e, f)))

-- within the limit it is its own code
pub code-plain : (n m : ℕ) → m ≡ min n 1073741824 → (m ≡ 1073741824 → ⊥) → m ≡ int_code (pos n)
unfolding int_code
code-plain n m e f = rw (le-ltb 1073741823 n (omega (arith, e, f))) (omega (arith, e, f))

-- What stands besides: theorems of this crate that no other proof leans on.
use Rattle.std.specs.Prelude.{◌≡◌, refl, Bool, true, false, ◌&&◌, ◌||◌, List, [], ◌∷◌, ℕ, suc, ◌+◌, ◌-◌, ◌≤◌, ◌<◌, eqb, leb, length, get_or, drop}
use Rattle.std.proofs.Common.{sym, ap, ◌∙◌, arith, drop_of_length-le, eq-eqb, ne_eqb, le-leb, leb-true}
use Rattle.std.proofs.lemmas.Bool.{lt-leb}
use Rattle.text.specs.definitions.Bytes.{all, digit}
use Rattle.text_laws.specs.laws.Bytes.{and_l, and_r, digit-range}
use Rattle.text_word.proofs.Walk.{one_on}
use Rattle.text.specs.definitions.Integers.{hex_digit, hex_value, hex_digits, is_hex, hex_from}

-- ---- what all bytes from a place on pass
module _ (t : ℕ → Bool) (s : List ℕ) (i : ℕ) where
  pub all-on : i < length s → t (get_or s i 0) ≡ true → all t (drop i s) ≡ all t (drop (i + 1) s)
  all-on h e = ap (all t) (one_on s i h) ∙ ap (λ b. b && all t (drop (i + 1) s)) e

  -- one byte fails
  pub all-off : i < length s → t (get_or s i 0) ≡ false → all t (drop i s) ≡ false
  all-off h e = ap (all t) (one_on s i h) ∙ ap (λ b. b && all t (drop (i + 1) s)) e

  -- none is left
  pub all_end : length s ≤ i → all t (drop i s) ≡ true
  all_end h = ap (all t) (drop_of_length-le s {i = i} h)

  -- all pass: this one does
  pub all_here : i < length s → all t (drop i s) ≡ true → t (get_or s i 0) ≡ true
  all_here h e = and_l (t (get_or s i 0)) (all t (drop (i + 1) s)) (sym (ap (all t) (one_on s i h)) ∙ e)

-- ---- digits
pub data Digit (b : ℕ) : Type 0 where
  decimal : 48 ≤ b → b ≤ 57 → hex_value b ≡ b - 48 → Digit b
  capital : 65 ≤ b → b ≤ 70 → hex_value b ≡ b - 55 → Digit b

-- which kind of digit it is
pub digit-of : (b : ℕ) → hex_digit b ≡ true → Digit b
digit-of b h = by (digit b) refl h
  where
    by : (x : Bool) → digit b ≡ x → (x || (leb 65 b && leb b 70)) ≡ true → Digit b
    by true e g =
        let r = digit-range b e in
        decimal r.0 r.1 (ap (λ z. elim z [ true ↦ b - 55 | false ↦ b - 48 ]) (lt-leb 65 b (omega (arith, r.1))))
    by false e g =
        let l : 65 ≤ b = leb-true 65 b (and_l (leb 65 b) (leb b 70) g) in
        capital l (leb-true b 70 (and_r (leb 65 b) (leb b 70) g)) (ap (λ z. elim z [ true ↦ b - 55 | false ↦ b - 48 ]) (le-leb 65 b l))

-- the value of a digit 0 to 9
pub low : (b : ℕ) → hex_digit b ≡ true → b < 65 → (48 ≤ b) × ((b - 48 ≡ hex_value b) × (b - 48 ≤ 15))
low b h l = by (digit-of b h)
  where
    by : Digit b → (48 ≤ b) × ((b - 48 ≡ hex_value b) × (b - 48 ≤ 15))
    by (decimal p q e) = (p, (sym e, omega arith))
    by (capital p q e) = absurd (omega arith)

-- the value of a digit A to F
pub high : (b : ℕ) → hex_digit b ≡ true → 65 ≤ b → (b - 55 ≡ hex_value b) × (b - 55 ≤ 15)
high b h l = by (digit-of b h)
  where
    by : Digit b → (b - 55 ≡ hex_value b) × (b - 55 ≤ 15)
    by (decimal p q e) = absurd (omega arith)
    by (capital p q e) = (sym e, omega arith)

-- no digit more
pub value-end : (w : List ℕ) (i a : ℕ) → length w ≤ i → hex_from a (drop i w) ≡ a
value-end w i a h = ap (hex_from a) (drop_of_length-le w {i = i} h)

pub digits-none : (w : List ℕ) → length w ≡ 0 → hex_digits w ≡ false
digits-none [] h = refl
digits-none (x ∷ w) h = absurd (omega arith)

-- `0` stands alone
pub digits-zero : (w : List ℕ) → 0 < length w → get_or w 0 0 ≡ 48 → hex_digits w ≡ eqb (length w) 1
digits-zero [] h e = absurd (omega arith)
digits-zero (x ∷ []) h e = ap (λ b. elim b [ true ↦ true | false ↦ leb 0 7 && (hex_digit x && true) ]) (eq-eqb x 48 e)
digits-zero (x ∷ y ∷ w) h e =
    ap (λ b. elim b [ true ↦ false | false ↦ leb (length (y ∷ w)) 7 && (hex_digit x && all hex_digit (y ∷ w)) ]) (eq-eqb x 48 e)
    ∙ sym (ne_eqb (suc (suc (length w))) 1 (λ f. omega arith))

-- `0x` is there, or it is none
pub hex-short : (w : List ℕ) → length w < 2 → is_hex w ≡ false
unfolding is_hex
hex-short [] h = refl
hex-short (a ∷ []) h = refl
hex-short (a ∷ b ∷ w) h = absurd (omega arith)

pub hex-first : (w : List ℕ) → (get_or w 0 0 ≡ 48 → ⊥) → is_hex w ≡ false
unfolding is_hex
hex-first [] n = refl
hex-first (a ∷ []) n = refl
hex-first (a ∷ b ∷ w) n = ap (λ z. z && (eqb b 120 && hex_digits w)) (ne_eqb a 48 n)

pub hex-second : (w : List ℕ) → get_or w 0 0 ≡ 48 → (get_or w 1 0 ≡ 120 → ⊥) → is_hex w ≡ false
unfolding is_hex
hex-second [] e n = refl
hex-second (a ∷ []) e n = refl
hex-second (a ∷ b ∷ w) e n = λ i. eq-eqb a 48 e i && (ne_eqb b 120 n i && hex_digits w)

-- `0x`, and then the digits
pub hex-rest : (w : List ℕ) → 2 ≤ length w → get_or w 0 0 ≡ 48 → get_or w 1 0 ≡ 120 → is_hex w ≡ hex_digits (drop 2 w)
unfolding is_hex
hex-rest [] l e n = absurd (omega arith)
hex-rest (a ∷ []) l e n = absurd (omega arith)
hex-rest (a ∷ b ∷ w) l e n = λ i. eq-eqb a 48 e i && (eq-eqb b 120 n i && hex_digits w)

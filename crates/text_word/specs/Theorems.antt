-- What stands besides: theorems of this crate that no other proof leans on.
use Rattle.std.specs.Prelude.{◌≡◌, refl, true, false, ◌&&◌, List, [], ◌∷◌, ℕ, suc, ◌<◌, eqb, length, get_or, None}
use Rattle.std.proofs.Common.{sym, ap, ◌∙◌, arith, eq-eqb, ne_eqb}
use Rattle.text.specs.definitions.Bytes.{all, digit, canonical, is_empty}
use Rattle.text_word.specs.Words.{is_positive, is_integer, operator_short, operator_long, operator_of}

pub natural-none : (w : List ℕ) → length w ≡ 0 → canonical w ≡ false
natural-none [] h = refl
natural-none (x ∷ w) h = absurd (omega arith)

pub natural-zero : (w : List ℕ) → 0 < length w → get_or w 0 0 ≡ 48 → canonical w ≡ eqb (length w) 1
natural-zero [] h e = absurd (omega arith)
natural-zero (x ∷ []) h e = ap (λ b. elim b [ true ↦ true | false ↦ digit x && true ]) (eq-eqb x 48 e)
natural-zero (x ∷ y ∷ w) h e =
    ap (λ b. elim b [ true ↦ false | false ↦ digit x && all digit (y ∷ w) ]) (eq-eqb x 48 e)
    ∙ sym (ne_eqb (suc (suc (length w))) 1 (λ f. omega arith))

pub natural-digits : (w : List ℕ) → 0 < length w → (get_or w 0 0 ≡ 48 → ⊥) → canonical w ≡ all digit w
natural-digits [] h n = absurd (omega arith)
natural-digits (x ∷ w) h n = ap (λ b. elim b [ true ↦ is_empty w | false ↦ digit x && all digit w ]) (ne_eqb x 48 n)

pub positive-none : (w : List ℕ) → length w ≡ 0 → is_positive w ≡ false
positive-none [] h = refl
positive-none (x ∷ w) h = absurd (omega arith)

pub positive-zero : (w : List ℕ) → get_or w 0 0 ≡ 48 → is_positive w ≡ false
positive-zero [] e = refl
positive-zero (x ∷ w) e = ap (λ b. elim b [ true ↦ false | false ↦ all digit (x ∷ w) ]) (eq-eqb x 48 e)

pub integer-none : (w : List ℕ) → length w ≡ 0 → is_integer w ≡ false
integer-none [] h = refl
integer-none (x ∷ w) h = absurd (omega arith)

pub operator-one : (w : List ℕ) → length w ≡ 1 → operator_of w ≡ operator_short (get_or w 0 0)
operator-one [] h = absurd (omega arith)
operator-one (a ∷ []) h = refl
operator-one (a ∷ b ∷ w) h = absurd (omega arith)

pub operator-four : (w : List ℕ) → length w ≡ 4 → operator_of w ≡ operator_long (get_or w 0 0) (get_or w 1 0) (get_or w 2 0) (get_or w 3 0)
operator-four [] h = absurd (omega arith)
operator-four (a ∷ []) h = absurd (omega arith)
operator-four (a ∷ b ∷ []) h = absurd (omega arith)
operator-four (a ∷ b ∷ c ∷ []) h = absurd (omega arith)
operator-four (a ∷ b ∷ c ∷ d ∷ []) h = refl
operator-four (a ∷ b ∷ c ∷ d ∷ e ∷ w) h = absurd (omega arith)

pub operator-none : (w : List ℕ) → (length w ≡ 1 → ⊥) → (length w ≡ 4 → ⊥) → operator_of w ≡ None
operator-none [] n m = refl
operator-none (a ∷ []) n m = absurd (n refl)
operator-none (a ∷ b ∷ []) n m = refl
operator-none (a ∷ b ∷ c ∷ []) n m = refl
operator-none (a ∷ b ∷ c ∷ d ∷ []) n m = absurd (m refl)
operator-none (a ∷ b ∷ c ∷ d ∷ e ∷ w) n m = refl

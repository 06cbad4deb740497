-- Tests on words, as code runs them, and that they are the definitions' own.
use Rattle.std.specs.Prelude.{◌≡◌, Bool, true, false, List, [], ◌∷◌, ℕ, ◌<◌, eqb, length, get_or, drop, Option, Some, None}
use Rattle.std.proofs.Common.{ap, arith, eq-eqb, ne_eqb}
use Rattle.text.specs.definitions.Bytes.{all, digit, canonical}
use Rattle.text_word.specs.declared.Operator.{Operator}
use Rattle.text_word.specs.declared.Operator.TheVariants.{Plus, Minus, Times, Power}

-- digits that do not begin with 0
abbrev pub is_positive : List ℕ → Bool
is_positive [] = false
is_positive (x ∷ xs) = elim (eqb x 48) [ true ↦ false | false ↦ all digit (x ∷ xs) ]

abbrev pub is_integer : List ℕ → Bool
is_integer [] = false
is_integer (x ∷ xs) = elim (eqb x 45) [ true ↦ is_positive xs | false ↦ canonical (x ∷ xs) ]

abbrev pub operator_short : ℕ → Option Operator
operator_short b =
    elim (eqb b 43) [
      | true ↦ Some Plus
      | false ↦ elim (eqb b 45) [ true ↦ Some Minus | false ↦ elim (eqb b 42) [ true ↦ Some Times | false ↦ None ] ]
    ]

abbrev pub operator_long : ℕ → ℕ → ℕ → ℕ → Option Operator
operator_long a b c d =
    elim (eqb a 69) [
      | true ↦ elim (eqb b 88)
          [ true ↦ elim (eqb c 80) [ true ↦ elim (eqb d 84) [ true ↦ Some Power | false ↦ None ] | false ↦ None ] | false ↦ None ]
      | false ↦ None
    ]

-- `+`, `-`, `*` or `EXPT`, and no other word
abbrev pub operator_of : List ℕ → Option Operator
operator_of [] = None
operator_of (a ∷ []) = operator_short a
operator_of (a ∷ b ∷ []) = None
operator_of (a ∷ b ∷ c ∷ []) = None
operator_of (a ∷ b ∷ c ∷ d ∷ []) = operator_long a b c d
operator_of (a ∷ b ∷ c ∷ d ∷ e ∷ w) = None

-- ---- by the first byte and the length

pub positive-digits : (w : List ℕ) → 0 < length w → (get_or w 0 0 ≡ 48 → ⊥) → is_positive w ≡ all digit w
positive-digits [] h n = absurd (omega arith)
positive-digits (x ∷ w) h n = ap (λ b. elim b [ true ↦ false | false ↦ all digit (x ∷ w) ]) (ne_eqb x 48 n)

pub integer-below : (w : List ℕ) → 0 < length w → get_or w 0 0 ≡ 45 → is_integer w ≡ is_positive (drop 1 w)
integer-below [] h e = absurd (omega arith)
integer-below (x ∷ w) h e = ap (λ b. elim b [ true ↦ is_positive w | false ↦ canonical (x ∷ w) ]) (eq-eqb x 45 e)

pub integer-natural : (w : List ℕ) → 0 < length w → (get_or w 0 0 ≡ 45 → ⊥) → is_integer w ≡ canonical w
integer-natural [] h n = absurd (omega arith)
integer-natural (x ∷ w) h n = ap (λ b. elim b [ true ↦ is_positive w | false ↦ canonical (x ∷ w) ]) (ne_eqb x 45 n)

-- The tests on words are the definitions' own.
use Rattle.std.specs.Prelude.{◌≡◌, Bool, cond, ◌||◌, List, [], ◌∷◌, eqb, ltb, ℤ, length, ◌⊎◌, Option, Some, None, ℕ, zero, suc, ◌+◌, ◌-◌, ◌*◌, ◌≤◌, ◌<◌}
use Rattle.text_word.specs.declared.Operator.{Operator}
use Rattle.text_word.specs.declared.Operator.TheVariants.{Plus, Minus, Times, Power}
use Rattle.std.proofs.Math.Path.{refl, ap}
use Rattle.std.proofs.Common.{sym, ◌∙◌, subst, arith, inl, inr}
use Rattle.std.proofs.Math.Bool.{true, false}
use Rattle.std.proofs.Math.Nat as NatL
use Rattle.horner.proofs.laws.Compare.{lt-or-ge}
use Rattle.std.proofs.Math.Option.{none, some}
use borrow.Author.Tests.{eqb-true, eqb-false, lt-ltb, le-ltb}
use Rattle.text.specs.definitions.Bytes.{bytes, all, digit, is_in_row, index_in, canonical, read_int, read_nat, value_from, below0, from0}
use Rattle.text.specs.definitions.Bytes.{is_empty, is_some}
use Rattle.text_laws.specs.laws.Bytes.{digit-range, and_l}
use Rattle.text_word.specs.Words.{is_positive, is_integer, operator_of}

-- ---- integers
-- digits that do not begin with 0 stand for more than 0
value-le : (a : ℕ) (xs : List ℕ) → a ≤ value_from a xs
value-le a [] = omega arith
value-le a (x ∷ xs) = omega (arith, value-le (a * 10 + (x - 48)) xs)

-- what read_nat reads, by the first byte
module _ (x : ℕ) (xs : List ℕ) where
  nat-zero : eqb x 48 ≡ true → is_some (below0 (read_nat (x ∷ xs))) ≡ false
  unfolding read_nat
  nat-zero e = at xs
    where
      x-is : x ≡ 48
      x-is = eqb-true x 48 e

      at : (ys : List ℕ) → is_some (below0 (cond (canonical (x ∷ ys)) (some (value_from 0 (x ∷ ys))) none)) ≡ false
      at [] = subst (λ z. is_some (below0 (cond (canonical (z ∷ [])) (some (value_from 0 (z ∷ []))) none)) ≡ false) (sym x-is) refl
      at (y ∷ ys) =
          subst (λ z. is_some (below0 (cond (canonical (z ∷ y ∷ ys)) (some (value_from 0 (z ∷ y ∷ ys))) none)) ≡ false) (sym x-is) refl

  nat-digits : eqb x 48 ≡ false → is_some (below0 (read_nat (x ∷ xs))) ≡ all digit (x ∷ xs)
  unfolding read_nat
  nat-digits e =
      ap (λ b. is_some (below0 (cond (elim b [ true ↦ is_empty xs | false ↦ all digit (x ∷ xs) ]) (some (value_from 0 (x ∷ xs))) none))) e
      ∙ at (all digit (x ∷ xs)) refl
    where
      some_more : (n : ℕ) → 1 ≤ n → is_some (below0 (some n)) ≡ true
      some_more zero h = absurd (omega arith)
      some_more (suc n) h = refl

      at : (b : Bool) → all digit (x ∷ xs) ≡ b → is_some (below0 (cond b (some (value_from 0 (x ∷ xs))) none)) ≡ b
      at true f =
          some_more (value_from 0 (x ∷ xs)) (omega (
            arith,
            digit-range x (and_l (digit x) (all digit xs) f),
            eqb-false x 48 e,
            value-le (0 * 10 + (x - 48)) xs,
            not-48
                (eqb-false x 48 e) (digit-range x (and_l (digit x) (all digit xs) f)).0,
          ))
        where
          not-48 : (x ≡ 48 → ⊥) → 48 ≤ x → 49 ≤ x
          not-48 n l = by (NatL.eq-or-lt_of_le l)
            where
              by : (48 ≡ x) ⊎ (48 < x) → 49 ≤ x
              by (inl q) = absurd (n (sym q))
              by (inr q) = q
      at false f = refl

positive-some : (xs : List ℕ) → is_positive xs ≡ is_some (below0 (read_nat xs))
unfolding read_nat
positive-some [] = refl
positive-some (x ∷ xs) = at (eqb x 48) refl
  where
    at : (b : Bool) → eqb x 48 ≡ b → elim b [ true ↦ false | false ↦ all digit (x ∷ xs) ] ≡ is_some (below0 (read_nat (x ∷ xs)))
    at true e = sym (nat-zero x xs e)
    at false e = sym (nat-digits x xs e)

natural-some : (w : List ℕ) → canonical w ≡ is_some (from0 (read_nat w))
unfolding read_nat
natural-some w = at (canonical w)
  where
    at : (b : Bool) → b ≡ is_some (from0 (cond b (some (value_from 0 w)) none))
    at true = refl
    at false = refl

pub integer-some : (w : List ℕ) → is_integer w ≡ is_some (read_int w)
unfolding read_int
integer-some [] = refl
integer-some (x ∷ xs) = at (eqb x 45)
  where
    at :
        (b : Bool) →
        elim b [ true ↦ is_positive xs | false ↦ canonical (x ∷ xs) ] ≡ is_some {A = ℤ}
        (elim b [ true ↦ below0 (read_nat xs) | false ↦ from0 (read_nat (x ∷ xs)) ])
    at true = positive-some xs
    at false = natural-some (x ∷ xs)

-- ---- letters
pub in_row : (row : List ℕ) (b : ℕ) → is_in_row row b ≡ ltb (index_in row b) (length row)
in_row [] b = sym (le-ltb 0 0 (omega arith))
in_row (c ∷ cs) b = at (eqb b c) (in_row cs b)
  where
    at :
        (t : Bool) → is_in_row cs b ≡ ltb (index_in cs b) (length cs) →
        (t || is_in_row cs b) ≡ ltb (elim t [ true ↦ 0 | false ↦ suc (index_in cs b) ]) (suc (length cs))
    at true e = sym (lt-ltb 0 (suc (length cs)) (omega arith))
    at false e = e ∙ up (lt-or-ge (index_in cs b) (length cs))
      where
        up :
            (index_in cs b < length cs) ⊎ (length cs ≤ index_in cs b) →
            ltb (index_in cs b) (length cs) ≡ ltb (suc (index_in cs b)) (suc (length cs))
        up (inl h) = lt-ltb (index_in cs b) (length cs) h ∙ sym (lt-ltb (suc (index_in cs b)) (suc (length cs)) (omega arith))
        up (inr h) = le-ltb (index_in cs b) (length cs) h ∙ sym (le-ltb (suc (index_in cs b)) (suc (length cs)) (omega arith))

-- ---- operators: no other word is one
pub operator-0 : (w : List ℕ) → (w ≡ bytes "+" → ⊥) → (w ≡ bytes "-" → ⊥) → (w ≡ bytes "*" → ⊥) → (w ≡ bytes "EXPT" → ⊥) → operator_of w ≡ None
operator-0 [] p m t e = refl
operator-0 (a ∷ []) p m t e = at (eqb a 43) refl (eqb a 45) refl (eqb a 42) refl
  where
    one : (n : ℕ) → eqb a n ≡ true → a ∷ [] ≡ n ∷ []
    one n q = ap (λ z. z ∷ []) (eqb-true a n q)

    at :
        (x : Bool) → eqb a 43 ≡ x → (y : Bool) → eqb a 45 ≡ y → (z : Bool) → eqb a 42 ≡ z →
        ◌≡◌ {A = Option Operator}
        (elim x [ true ↦ Some Plus | false ↦ elim y [ true ↦ Some Minus | false ↦ elim z [ true ↦ Some Times | false ↦ None ] ] ]) None
    at true f y g z h = absurd (p (one 43 f))
    at false f true g z h = absurd (m (one 45 g))
    at false f false g true h = absurd (t (one 42 h))
    at false f false g false h = refl
operator-0 (a ∷ b ∷ []) p m t e = refl
operator-0 (a ∷ b ∷ c ∷ []) p m t e = refl
operator-0 (a ∷ b ∷ c ∷ d ∷ []) p m t e = at (eqb a 69) refl (eqb b 88) refl (eqb c 80) refl (eqb d 84) refl
  where
    at : (x : Bool) → eqb a 69 ≡ x → (y : Bool) → eqb b 88 ≡ y → (z : Bool) → eqb c 80 ≡ z → (w : Bool) → eqb d 84 ≡ w
        → ◌≡◌ {A = Option Operator}
        (elim x [
          | true ↦ elim y [ true ↦ elim z [ true ↦ elim w [ true ↦ Some Power | false ↦ None ] | false ↦ None ] | false ↦ None ]
          | false ↦ None
        ]) None
    at true f true g true h true k = absurd (e (λ i. eqb-true a 69 f i ∷ eqb-true b 88 g i ∷ eqb-true c 80 h i ∷ eqb-true d 84 k i ∷ []))
    at true f true g true h false k = refl
    at true f true g false h w k = refl
    at true f false g z h w k = refl
    at false f y g z h w k = refl
operator-0 (a ∷ b ∷ c ∷ d ∷ f ∷ w) p m t e = refl

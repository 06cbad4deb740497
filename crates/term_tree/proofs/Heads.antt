-- A code whose first word was read has the node that the word says.
use Rattle.std.specs.Prelude.{List, ◌≡◌, refl, ℕ, ◌≤◌, ◌<◌, length}
use Rattle.std.proofs.Common.{◌∙◌, ap, subst, arith}
use Rattle.text.specs.definitions.Tree.{Sign, Tree, two}
use Rattle.term_tree.specs.Heads.{sign_of, tag_for, HeadIs, first_of, second_of, Operands}
use Rattle.term_tree.specs.Shapes.{Codes, head_of, tag_of, Operator, is-add, is-sub, is_mul, TwoTag, left-shorter, right-shorter}
use Rattle.term_tree.proofs.Shapes.{pair}
use Rattle.term_tree.specs.declared.Head.TheVariants.{Pair}
use Rattle.term_tree.specs.declared.Operation.{Operation}
use Rattle.term_tree.specs.declared.Operation.TheVariants.{Add, Subtract, Multiply}

module _ {w : List ℕ} where
  -- a tag tells one operator
  sign_by : {g : Sign} → Operator w g → (f : Operation) → tag_of w ≡ tag_for f → g ≡ sign_of f
  sign_by (is-add a) Add b = refl
  sign_by (is-add a) Subtract b = absurd (omega (arith, a, b))
  sign_by (is-add a) Multiply b = absurd (omega (arith, a, b))
  sign_by (is-sub a) Add b = absurd (omega (arith, a, b))
  sign_by (is-sub a) Subtract b = refl
  sign_by (is-sub a) Multiply b = absurd (omega (arith, a, b))
  sign_by (is_mul a) Add b = absurd (omega (arith, a, b))
  sign_by (is_mul a) Subtract b = absurd (omega (arith, a, b))
  sign_by (is_mul a) Multiply b = refl

  -- that of an operator is no other node's
  pub two-tag : (f : Operation) → 2147483648 ≤ head_of w → tag_of w ≡ tag_for f → TwoTag w
  two-tag Add n e = record { node = n; no-letter = λ z. omega arith; no-neg = λ z. omega arith; no_power = λ z. omega arith }
  two-tag Subtract n e = record { node = n; no-letter = λ z. omega arith; no-neg = λ z. omega arith; no_power = λ z. omega arith }
  two-tag Multiply n e = record { node = n; no-letter = λ z. omega arith; no-neg = λ z. omega arith; no_power = λ z. omega arith }

  -- the two operands
  pub operands : {row : List ℕ} {t : Tree} {f : Operation} {k : ℕ} → HeadIs (head_of w) (Pair f k) → Codes row t w → Operands row w f k t
  operands {row} {t} {f} {k} h C =
      let P = pair (two-tag f h.0 h.1.0) C in
      record {
        p = P.p;
        o = P.o;
        c = P.c;
        x = P.x;
        y = P.y;
        is = P.is ∙ ap (λ g. two P.p P.o P.c g P.x P.y) (sign_by P.operator f h.1.0);
        span = P.span;
        inside = omega (arith, P.inside, h.1.1);
        first = subst (λ j. Codes row P.x (first_of j w)) h.1.1 P.left;
        second = subst (λ j. Codes row P.y (second_of j w)) h.1.1 P.right;
      }

  -- the words of the first are fewer
  pub first-shorter :
      {row : List ℕ} {t : Tree} (f : Operation) {k : ℕ} → HeadIs (head_of w) (Pair f k) → Codes row t w → length (first_of k w) < length w
  first-shorter f h C = subst (λ j. length (first_of j w) < length w) h.1.1 (left-shorter (pair (two-tag f h.0 h.1.0) C))

  -- so are those of the second
  pub second-shorter :
      {row : List ℕ} {t : Tree} (f : Operation) {k : ℕ} → HeadIs (head_of w) (Pair f k) → Codes row t w → length (second_of k w) < length w
  second-shorter f h C = subst (λ j. length (second_of j w) < length w) h.1.1 (right-shorter (pair (two-tag f h.0 h.1.0) C))

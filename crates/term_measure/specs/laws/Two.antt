-- Nodes with two operands.
use Rattle.std.specs.Prelude.{Result, Ok, Err, true, List, ◌≡◌, refl, ℕ, ◌+◌, ◌≤◌, ◌<◌, length}
use Rattle.std.proofs.Common.{sym, ap, ◌∙◌, subst}
use Rattle.horner.specs.laws.Within.{Over as Within}
use Rattle.text.specs.definitions.Answer.{Reading, refused}
use Rattle.text.specs.definitions.Bytes.{is_in_row}
use Rattle.text.specs.definitions.Limits.{measured}
use Rattle.text.specs.definitions.Tree.{Sign, add, sub, mul, letters, term_of, Tree, two}
use Rattle.text_laws.specs.laws.Descent.{and_then, own, measured-two}
use Rattle.text_laws.specs.laws.Rows.{letters-over}
use Rattle.measure.specs.declared.Measures.{Measures}
use Rattle.measure.specs.Limits.{Meets}
use Rattle.measure.specs.Measure.{measures_of, Small, add_m, mul_m}
use Rattle.measure.specs.Nodes.{meets-add, meets-mul}
use Rattle.term_tree.specs.Heads.{sign_of, HeadIs, first_of, second_of, Operands}
use Rattle.term_tree.specs.Shapes.{Codes, head_of, span_in}
use Rattle.term_tree.specs.declared.Head.TheVariants.{Pair}
use Rattle.term_tree.specs.declared.Operation.{Operation}
use Rattle.term_tree.specs.declared.Operation.TheVariants.{Add, Subtract, Multiply}
use Rattle.term_tree.proofs.Heads.{operands, first-shorter, second-shorter}
use Rattle.refusal.specs.declared.Flaw.{Flaw}
use Rattle.term_measure.specs.Found.{Coded, joined_m, judged, Finds, MeasuredAs}
use Rattle.term_measure.specs.laws.Judged.{few, own-finds}

module _ (w : List ℕ) (o : Operation) (k : ℕ) (H : HeadIs (head_of w) (Pair o k)) where
  -- the first operand is coded
  pub left-coded : Coded w → Coded (first_of k w)
  left-coded K = let P = operands H K.codes in record { row = K.row; tree = P.x; codes = P.first }

  -- so is the second
  pub right-coded : Coded w → Coded (second_of k w)
  right-coded K = let P = operands H K.codes in record { row = K.row; tree = P.y; codes = P.second }

  -- its words are fewer
  pub fewer-left : Coded w → length (first_of k w) < length w
  fewer-left K = first-shorter o H K.codes

  -- so are those of the second
  pub fewer-right : Coded w → length (second_of k w) < length w
  fewer-right K = second-shorter o H K.codes

  -- both lie inside
  pub pair_inside : Coded w → 2 + k + 2 ≤ length w
  pair_inside K = (operands H K.codes).inside

  module _ (x : Result Measures Flaw) (X : MeasuredAs (first_of k w) x) where
    -- the refusal of the first is the node's
    pub left-off : (e : Flaw) → x ≡ Err e → MeasuredAs w x
    left-off e E = subst (MeasuredAs w) (sym E) (record { finds = λ row t C. by row t (operands H C) })
      where
        by : (row : List ℕ) (t : Tree) → Operands row w o k t → measured row t ≡ refused e.number e.place e.end
        by row t P =
            ap (measured row) P.is ∙ measured-two row P.p P.o P.c (sign_of o) P.x P.y
            ∙ ap (λ (z : Reading Tree). and_then z (and_then (measured row P.y)
            (own row (two P.p P.o P.c (sign_of o) P.x P.y))))
            ((subst (MeasuredAs (first_of k w)) E X).finds row P.x P.first)

    module _ (a : Measures) (Ea : x ≡ Ok a) (y : Result Measures Flaw) (Y : MeasuredAs (second_of k w) y) where
      left-fits : MeasuredAs (first_of k w) (Ok a)
      left-fits = subst (MeasuredAs (first_of k w)) Ea X

      -- its measures are within the limits
      pub left-small : Coded w → Small a
      left-small K = let P = operands H K.codes in (left-fits.finds K.row P.x P.first).1.1

      -- so is that of the second
      pub right-off : (e : Flaw) → y ≡ Err e → MeasuredAs w y
      right-off e E = subst (MeasuredAs w) (sym E) (record { finds = λ row t C. by row t (operands H C) })
        where
          by : (row : List ℕ) (t : Tree) → Operands row w o k t → measured row t ≡ refused e.number e.place e.end
          by row t P =
              let u = two P.p P.o P.c (sign_of o) P.x P.y in
              ap (measured row) P.is ∙ measured-two row P.p P.o P.c (sign_of o) P.x P.y
              ∙ ap (λ (z : Reading Tree). and_then z (and_then (measured row P.y) (own row u)))
              (left-fits.finds row P.x P.first).0
              ∙ ap (λ (z : Reading Tree). and_then z (own row u))
              ((subst (MeasuredAs (second_of k w)) E Y).finds row P.y P.second)

      module _ (b : Measures) (Eb : y ≡ Ok b) where
        right-fits : MeasuredAs (second_of k w) (Ok b)
        right-fits = subst (MeasuredAs (second_of k w)) Eb Y

        -- and its measures are, too
        pub right-small : Coded w → Small b
        right-small K = let P = operands H K.codes in (right-fits.finds K.row P.y P.second).1.1

        -- both are within the limits
        pub finds-two :
            (m : Measures) → m ≡ joined_m o a b → (r : Result Measures Flaw) → r ≡ judged m (span_in w) → MeasuredAs w r
        finds-two m em r er = subst (MeasuredAs w) (sym er) (record { finds = λ row t C. by row t C (operands H C) })
          where
            by : (row : List ℕ) (t : Tree) → Codes row t w → Operands row w o k t → Finds row t (judged m (span_in w))
            by row t C P =
                let u = two P.p P.o P.c (sign_of o) P.x P.y in
                let C' : Codes row u w = subst (λ z. Codes row z w) P.is C in
                let f = measured-two row P.p P.o P.c (sign_of o) P.x P.y
                ∙ ap (λ (z : Reading Tree). and_then z (and_then (measured row P.y) (own row u)))
                (left-fits.finds row P.x P.first).0
                ∙ ap (λ (z : Reading Tree). and_then z (own row u)) (right-fits.finds row P.y P.second).0 in
                subst (λ z. Finds row z (judged m (span_in w))) (sym P.is)
                (own-finds row C.four u C'.known refl m
                (meets o em C'.known) (span_in w) P.span C'.short.0 f)
              where
                node_of : Sign → Tree
                node_of g = two P.p P.o P.c g P.x P.y

                ea : a ≡ measures_of (length row) (term_of row P.x)
                ea = (left-fits.finds row P.x P.first).1.0

                eb : b ≡ measures_of (length row) (term_of row P.y)
                eb = (right-fits.finds row P.y P.second).1.0

                over-left : Within (length row) (term_of row P.x)
                over-left = letters-over row P.x P.first.known

                over-right : Within (length row) (term_of row P.y)
                over-right = letters-over row P.y P.second.known

                sum : (g : Sign) → (g ≡ mul → ⊥) → m ≡ add_m a b → letters (is_in_row row) (node_of g) ≡ true → Meets row (node_of g) m
                sum g q e k =
                    subst (Meets row (node_of g)) (sym (e ∙ (λ i. add_m (ea i) (eb i))))
                    (meets-add row C.four P.p P.o P.c g P.x P.y q over-left over-right (few row C.four (node_of g) k))

                meets : (o : Operation) → m ≡ joined_m o a b → letters (is_in_row row) (node_of (sign_of o)) ≡ true
                    → Meets row (node_of (sign_of o)) m
                meets Add e k = sum add (λ q. cc) e k
                meets Subtract e k = sum sub (λ q. cc) e k
                meets Multiply e k =
                    subst (Meets row (node_of mul)) (sym (e ∙ (λ i. mul_m (ea i) (eb i))))
                    (meets-mul row C.four P.p P.o P.c P.x P.y over-left over-right (few row C.four (node_of mul) k))

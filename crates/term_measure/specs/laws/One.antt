-- Leaves, and nodes with one operand.
use Rattle.std.specs.Prelude.{Result, Ok, Err, Bool, true, false, ◌&&◌, List, ◌⊎◌, ◌≡◌, refl, ℕ, ◌+◌, ◌/◌, ◌%◌, ◌≤◌, ◌<◌, leb, length}
use Rattle.std.proofs.Common.{true≢false, inl, inr, sym, ap, ◌∙◌, subst, arith, lt-ltb, le-ltb, le-leb}
use Rattle.std.proofs.lemmas.Bool.{lt-leb}
use Rattle.horner.specs.definitions.Measures.{degrees_of}
use Rattle.horner.proofs.laws.Compare.{lt-or-ge}
use Rattle.text.specs.definitions.Answer.{Reading, read, refused, fine}
use Rattle.text.specs.definitions.Bytes.{all}
use Rattle.text.specs.definitions.Limits.{weight_fits, terms_fit, over_limit, measured}
use Rattle.text.specs.definitions.Tree.{term_of, Tree, num, letter, neg, power}
use Rattle.text_laws.specs.laws.Descent.{and_then, own, measured-num, measured-letter, measured-neg, measured-power}
use Rattle.text_laws.specs.laws.Picks.{pick_yes, pick_no}
use Rattle.measure.specs.declared.Measures.{Measures}
use Rattle.measure.specs.Limits.{Meets}
use Rattle.measure.specs.Measure.{Small, pow_m}
use Rattle.measure.specs.Nodes.{meets-num, meets-letter, meets-neg, meets-power}
use Rattle.term_tree.specs.Shapes.{Codes, head_of, span_in, tag_of, number_of, operand, IsNum, is-num, IsLetter, is-letter}
use Rattle.term_tree.proofs.Shapes.{num_of, letter-of}
use Rattle.term_tree.specs.Shapes.{IsNeg, is-neg, IsPower, is-power, IsOne, one-neg, one_power, OneTag, tag-power}
use Rattle.term_tree.proofs.Shapes.{neg_of, power-of, one_of, power-tag}
use Rattle.term_tree.specs.Heads.{HeadIs}
use Rattle.term_tree.specs.declared.Head.TheVariants.{Integer, Letter, Negative, Power}
use Rattle.refusal.specs.declared.Flaw.{Flaw}
use Rattle.term_measure.specs.Found.{Coded, weight_in, flaw_in, integer_m, letter_m, judged, judged_power, Finds, MeasuredAs}
use Rattle.term_measure.specs.laws.Judged.{code-weight, few, own-finds, meets-self}

-- an exponent past the limit is refused first
first-8 : (b d w k : Bool) → b ≡ false →
    ◌≡◌ {A = ℕ} (elim (b && d) [ true ↦ elim w [ true ↦ elim k [ true ↦ 0 | false ↦ 10 ] | false ↦ 9 ] | false ↦ 8 ]) 8
first-8 false d w k e = refl
first-8 true d w k e = absurd (true≢false e)

module _ (w : List ℕ) where
  -- ---- leaves
  -- an integer
  pub finds-int :
      {n : ℕ} → HeadIs (head_of w) (Integer n) → (m : Measures) → m ≡ integer_m n → (r : Result Measures Flaw) → r ≡ judged m (span_in w) →
      MeasuredAs w r
  finds-int h m em r er =
      subst (MeasuredAs w) (sym (er ∙ ap (λ y. judged y (span_in w)) (em ∙ ap integer_m (sym h.0))))
      (record { finds = λ row t C. by row t C (num_of C h.1) })
    where
      by : (row : List ℕ) (t : Tree) → Codes row t w → IsNum w t → Finds row t (judged (integer_m (head_of w)) (span_in w))
      by row t C (is-num p u z a b) =
          own-finds row C.four (num p u z) C.known refl (integer_m (head_of w))
          (meets-num row C.four p u z (weight_in (head_of w)) (ap weight_in a ∙ code-weight z)) (span_in w) b C.short
          (measured-num row p u z)

  -- a letter
  pub finds-letter :
      {i : ℕ} → HeadIs (head_of w) (Letter i) → (m : Measures) → m ≡ letter_m i → (r : Result Measures Flaw) → r ≡ judged m (span_in w) →
      MeasuredAs w r
  finds-letter h m em r er =
      subst (MeasuredAs w) (sym (er ∙ ap (λ y. judged y (span_in w)) (em ∙ ap letter_m (sym h.1.1))))
      (record { finds = λ row t C. by row t C (letter-of h.0 C h.1.0) })
    where
      by : (row : List ℕ) (t : Tree) → Codes row t w → IsLetter row w t → Finds row t (judged (letter_m (number_of w)) (span_in w))
      by row t C (is-letter p b a c) =
          own-finds row C.four (letter p b) C.known refl (letter_m (number_of w))
          (meets-letter row C.four p b (number_of w) a) (span_in w) c C.short (measured-letter row p b)

  -- the tag of a power, by its head
  pub power-head : {k : ℕ} → HeadIs (head_of w) (Power k) → Coded w → OneTag w
  power-head h K = tag-power (power-tag K.codes h.0 h.1.0)

  module _ (node : 2147483648 ≤ head_of w) where
    -- ---- one operand
    -- the operand is coded behind the two words
    pub one-coded : OneTag w → Coded w → Coded (operand w)
    one-coded T K = by K.tree (one_of node K.tree K.codes T)
      where
        by : (t : Tree) → IsOne K.row w t → Coded (operand w)
        by t (one-neg p o c x C) = record { row = K.row; tree = x; codes = C }
        by t (one_power p o c x q n C) = record { row = K.row; tree = x; codes = C }

    module _ (T : OneTag w) (x : Result Measures Flaw) (X : MeasuredAs (operand w) x) where
      -- its refusal is the node's
      pub one-off : (f : Flaw) → x ≡ Err f → MeasuredAs w x
      one-off f E = subst (MeasuredAs w) (sym E) (record { finds = λ row t C. by row t (one_of node t C T) })
        where
          X' : MeasuredAs (operand w) (Err f)
          X' = subst (MeasuredAs (operand w)) E X

          by : (row : List ℕ) (t : Tree) → IsOne row w t → measured row t ≡ refused f.number f.place f.end
          by row t (one-neg p o c y C) =
              measured-neg row p o c y ∙ ap (λ (z : Reading Tree). and_then z (own row (neg p o c y))) (X'.finds row y C)
          by row t (one_power p o c y q n C) =
              measured-power row p o c y q n ∙ ap (λ (z : Reading Tree). and_then z (own row (power p o c y q n))) (X'.finds row y C)

    module _ (x : Result Measures Flaw) (X : MeasuredAs (operand w) x) (a : Measures) (E : x ≡ Ok a) where
      part-fits : MeasuredAs (operand w) (Ok a)
      part-fits = subst (MeasuredAs (operand w)) E X

      -- its measures are within the limits
      pub one-small : Coded (operand w) → Small a
      one-small K = (part-fits.finds K.row K.tree K.codes).1.1

      -- `(- x)`
      pub finds-neg : HeadIs (head_of w) Negative → (r : Result Measures Flaw) → r ≡ judged a (span_in w) → MeasuredAs w r
      finds-neg h r er = subst (MeasuredAs w) (sym er) (record { finds = λ row t C. by row t C (neg_of node C h.1) })
        where
          by : (row : List ℕ) (t : Tree) → Codes row t w → IsNeg row w t → Finds row t (judged a (span_in w))
          by row t C (is-neg p o c y d K) =
              let F = part-fits.finds row y K in
              own-finds row C.four (neg p o c y) C.known refl a
              (meets-neg row C.four p o c y a (meets-self row C.four y a F.1.0)) (span_in w) d C.short.0
              (measured-neg row p o c y ∙ ap (λ (z : Reading Tree). and_then z (own row (neg p o c y))) F.0)

      module _ (tag : tag_of w ≡ 5) where
        finds-high : 63 < number_of w → MeasuredAs w (Err (flaw_in 8 (span_in w)))
        finds-high k = record { finds = λ row t C. by row t C (power-of node C tag) }
          where
            p' : ℕ
            p' = span_in w % 65536

            e' : ℕ
            e' = span_in w / 65536

            by : (row : List ℕ) (t : Tree) → Codes row t w → IsPower row w t → measured row t ≡ refused 8 p' e'
            by row t C (is-power p o c y q n b d K) =
                let u = power p o c y q n in
                let F = part-fits.finds row y K in
                let g : over_limit row u ≡ 8 = first-8 (leb n 63)
                (all (λ j. leb j 63) (degrees_of (length row) (term_of row u))) (weight_fits row u)
                (terms_fit row u) (lt-leb n 63 (omega (arith, b, k))) in
                let i : p ≡ p' = omega (arith, d, C.short.0) in
                let j : c + 1 ≡ e' = omega (arith, d, C.short.0) in
                measured-power row p o c y q n ∙ ap (λ (z : Reading Tree). and_then z (own row u)) F.0
                ∙ ap (λ m. fine m p (c + 1) (λ _. read u)) g ∙ (λ t. refused 8 (i t) (j t))

        finds-power :
            number_of w ≤ 63 → (m : Measures) → m ≡ pow_m a (number_of w) → (r : Result Measures Flaw) → r ≡ judged m (span_in w) → MeasuredAs w r
        finds-power k m em r er =
            subst (MeasuredAs w) (sym (er ∙ ap (λ y. judged y (span_in w)) em))
            (record { finds = λ row t C. by row t C (power-of node C tag) })
          where
            by : (row : List ℕ) (t : Tree) → Codes row t w → IsPower row w t → Finds row t (judged (pow_m a (number_of w)) (span_in w))
            by row t C (is-power p o c y q n b d K) =
                let u = power p o c y q n in
                let F = part-fits.finds row y K in
                let f : n ≡ number_of w = omega (arith, b, k) in
                let M : Meets row u (pow_m a (number_of w)) = subst (λ j. Meets row u (pow_m a j)) f
                (subst (λ j. Meets row u (pow_m j n)) (sym F.1.0)
                (meets-power row C.four p o c y q n (few row C.four u C.known))) in
                own-finds row C.four u C.known (le-leb n 63 (omega (arith, f, k))) (pow_m a (number_of w)) M (span_in w) d C.short.0
                (measured-power row p o c y q n ∙ ap (λ (z : Reading Tree). and_then z (own row u)) F.0)

        pub raised-by : (r : Result Measures Flaw) → r ≡ judged_power a (number_of w) (span_in w) → MeasuredAs w r
        raised-by r er = by (lt-or-ge 63 (number_of w))
          where
            by : (63 < number_of w) ⊎ (number_of w ≤ 63) → MeasuredAs w r
            by (inl l) = subst (MeasuredAs w) (sym (er ∙ pick_yes _ _ (lt-ltb 63 (number_of w) l))) (finds-high l)
            by (inr l) = finds-power l _ refl r (er ∙ pick_no _ _ (le-ltb 63 (number_of w) l))

      -- a power, whatever its exponent
      pub finds-raised :
          {k : ℕ} → HeadIs (head_of w) (Power k) → Coded w → (r : Result Measures Flaw) → r ≡ judged_power a k (span_in w) → MeasuredAs w r
      finds-raised h K r er = raised-by (power-tag K.codes h.0 h.1.0) r (er ∙ ap (λ j. judged_power a j (span_in w)) (sym h.1.1))

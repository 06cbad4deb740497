-- Behind the first operand: a `)`, or the second operand.
use Rattle.std.specs.Prelude.{◌≡◌, false, List, [], ◌∷◌, ◌++◌, ℕ, ◌+◌, ◌*◌, ◌-◌, ◌≤◌, ◌<◌, take, drop}
use Rattle.std.proofs.Math.Path.{refl, ap}
use Rattle.std.proofs.Common.{sym, ◌∙◌, subst, arith}
use Rattle.std.proofs.Math.ListN.{length, length-append}
use borrow.Rule.Slice.PartMut.{put_mid}
use Rattle.text.specs.definitions.Bytes.{Token, closing}
use Rattle.text.specs.definitions.Tree.{sub, Tree, neg, two}
use Rattle.text_laws.specs.laws.Bytes.{and_i}
use Rattle.term_token.specs.Views.{from}
use Rattle.std.specs.Prelude.{Some}
use Rattle.term_leaf.specs.declared.Kind.{Kind}
use Rattle.term_leaf.specs.declared.Kind.TheVariants as K
use Rattle.text_word.specs.declared.Operator.{Operator}
use Rattle.text_word.specs.declared.Operator.TheVariants.{Minus, Power}
use Rattle.text_word.specs.Words.{operator_of}
use Rattle.dialect.specs.declared.Dialect.{Dialect}
use Rattle.text.specs.definitions.Answer.{refused}
use Rattle.term_tree.specs.Coding.{span_of, sign_code, enc}
use Rattle.text.specs.definitions.Reading.{Frame, first, second, operand, ending, after_first, deliver, run_in}
use Rattle.term_leaf.specs.Leaf.{Part, On, Off}
use Rattle.term_leaf.specs.Leaf.{part, TokenAt}
use Rattle.term_parse.specs.Found.{TermSays, go_on, Shut, TermAt, ListAt, code_of, sign_of, closes_only, SecondAt, NoClosing, ClosedAt}
use Rattle.term_parse.specs.laws.Steps.{close-two, close-minus, ending-stops, second-on}
use Rattle.term_parse.specs.laws.Parts.{no-closing, says-as, first_made, sign-run, ok}
use Rattle.term_parse.specs.laws.Operands.{not-only, taken-le, behind-first, node-words, sign-two, sign-head}
use Rattle.term_parse.specs.laws.Operands.{Only, only, stopped-row, made-operand}

module _ (D : Dialect) (row s : List ℕ) where
  -- ---- behind the first operand
  module _ (p at depth : ℕ) (kind : Kind) (a e : ℕ) (t : TokenAt s at kind a e) (h : kind ≡ K.Word) (g : Operator)
      (op : operator_of (part s a e) ≡ Some g) (f : g ≡ Power → ⊥)
      (outx : List ℕ) (x : Part) (X : TermAt D row s e (depth + 1) outx x) (k nx : ℕ) (E : x ≡ On k nx) where
    pub made : TermSays D row s e (depth + 1) outx (On k nx)
    made = first_made D row s p at depth kind a e t h g op f outx x X k nx E

    -- it is there, and what is answered of what follows it
    pub list-second : (w : List ℕ) → 2 ≤ length w → (out : List ℕ) (r : Part) →
        SecondAt D row s p g k nx depth (put_mid 2 (length w - 2) w outx) out r → ListAt D row s p at depth out r
    list-second w l out r S = record {
      says = says-as D row s p out (deliver D) r
          (λ fs o. (
            o,
            sign-run D row s p at depth kind a e t h g op f fs
                ∙ made.leads (first p a (sign_of D row g) ∷ fs) (ok D row s p at depth kind a e t h g op f outx x X fs o),
          ))
          (S.says a made.tree (made-operand D row s made w l));
    }

  -- ---- behind the first operand: a `)`, or the second
  module _ (p : ℕ) (g : Operator) (k at depth : ℕ) (kind : Kind) (a e : ℕ) (t : TokenAt s at kind a e) (before : List ℕ) (short : length s ≤ 65535) (below : p ≤ at)
      (bound : 2 * k + 5 ≤ 3 * (at - p)) where
    -- `(- x)`
    pub second-neg : kind ≡ K.Close → g ≡ Minus → (out : List ℕ) → out ≡ 2147483649 ∷ ((p + 65536 * e) ∷ drop 2 before) →
        SecondAt D row s p g k at depth before out (On (2 + k) e)
    unfolding enc
    second-neg h q out w = record {
      says = λ o x X.
          let c : e ≡ a + 1 = omega (arith, (t.closes h).1) in
          let l : a < e = t.more (λ z. cc) in
          record {
            tree = neg p o a x;
            size = omega (arith, X.size);
            is =
                ap (take (2 + k)) w ∙ node-words 2147483649 (p + 65536 * e) k (2 + k) (drop 2 before) (enc row x) refl X.is
                ∙ ap (λ n. 2147483649 ∷ ((p + 65536 * n) ∷ enc row x)) c;
            more = omega (arith, l, t.later);
            inside = t.inside;
            bound = omega (arith, l, t.later, bound);
            known = X.known;
            short = (omega (arith, l, t.later, t.inside, short), X.short);
            leads =
                λ fs z. (λ i. go_on D row (length s) (after_first D.panel p o (sign-two D g q i) x fs) ((t.closes h).0 i))
                ∙ close-minus D row p o a x fs (length s) (from s e);
          };
    }

    -- the second operand
    module _ (n : kind ≡ K.Close → ⊥) (c : closes_only D [] g ≡ false) (outy : List ℕ) (y : Part) (Y : TermAt D row s at (depth + 1) outy y) where
      may : sign_of D [] g ≡ sub → D.panel ≡ false
      may = by (only D g false c)
        where
          by : Only D g false → sign_of D [] g ≡ sub → D.panel ≡ false
          by (not-only q) = q

      not-close : (c : ℕ) (ks : List Token) → from s at ≡ closing c ∷ ks → ⊥
      not-close c ks q = subst NoClosing q (no-closing D row s at kind a e t n)

      ok₂ : (o : ℕ) (x : Tree) (fs : List Frame) → length fs ≡ depth →
          (length (second p o (sign_of D row g) x ∷ fs) ≡ depth + 1) × Shut D row s at (second p o (sign_of D row g) x ∷ fs)
      ok₂ o x fs z = (omega (arith, z), λ c ks q. absurd (not-close c ks q))

      starts : (o : ℕ) (x : Tree) (fs : List Frame) → go_on D row (length s) (after_first D.panel p o (sign_of D row g) x fs) (from s at)
          ≡ run_in D row (length s) operand (second p o (sign_of D row g) x ∷ fs) (from s at)
      starts o x fs = ap (λ z. go_on D row (length s) z (from s at)) (second-on D row p o (sign_of D row g) x fs may)

      -- it is refused
      pub second-off : (m q q' : ℕ) → y ≡ Off m q q' → (out : List ℕ) → SecondAt D row s p g k at depth before out y
      second-off m q q' E out =
          let F : (fs : List Frame) → (length fs ≡ depth + 1) × Shut D row s at fs → run_in D row (length s) operand fs (from s at)
          ≡ refused m q q' = subst (TermSays D row s at (depth + 1) outy) E Y.says in
          subst (SecondAt D row s p g k at depth before out) (sym E)
          (record { says = λ o x X fs z. starts o x fs ∙ F (second p o (sign_of D row g) x ∷ fs) (ok₂ o x fs z) })

      module _ (j nx : ℕ) (E : y ≡ On j nx) where
        pub made₂ : TermSays D row s at (depth + 1) outy (On j nx)
        made₂ =
            subst (TermSays D row s at (depth + 1) outy) E Y.says

        -- it is there, and what is answered of the `)`
        pub second-both : 2 + k ≤ length before → (g ≡ Power → ⊥) → (out : List ℕ) (r : Part) →
            ClosedAt D s p (code_of g + 8 * k) (2 + k + j) nx (put_mid (2 + k) (length before - (2 + k)) before outy) out r
            → SecondAt D row s p g k at depth before out r
        unfolding enc
        second-both l n₄ out (Off m q q') C = record {
          says = λ o x X fs z.
              starts o x fs ∙ made₂.leads (second p o (sign_of D row g) x ∷ fs) (ok₂ o x fs z)
              ∙ ending-stops D row p o (sign_of D row g) x made₂.tree fs (length s) (from s nx) C.case.0
              ∙ stopped-row D row (length s) (from s nx) ∙ C.case.1;
        }
        second-both l n₄ out (On k' nx') C = record {
          says = λ o x X.
              let cl = C.case in
              let y' = made₂.tree in
              let head : code_of g + 8 * k ≡ sign_code (sign_of D row g) + 8 * length (enc row x) = omega
              (arith, sign-head D g n₄, X.size) in
              record {
                tree = two p o cl.c (sign_of D row g) x y';
                size = omega (arith, cl.is-size, X.size, made₂.size, length-append (enc row x) (enc row y'));
                is = ap (take k') cl.words
                    ∙ node-words (code_of g + 8 * k) (span_of p (cl.c + 1)) (k + j) k'
                    (drop 2 (put_mid (2 + k) (length before - (2 + k)) before outy)) (enc row x ++ enc row y') (omega (arith, cl.is-size))
                    (behind-first k j before outy (enc row x) (enc row y') _ l X.is X.size made₂.is
                    (taken-le j outy (enc row y') made₂.is made₂.size))
                    ∙ ap (λ m. m ∷ (span_of p (cl.c + 1) ∷ (enc row x ++ enc row y'))) head;
                more = omega (arith, below, made₂.more, cl.later);
                inside = cl.inside;
                bound = omega (arith, cl.is-size, bound, made₂.bound, made₂.more, cl.later, below);
                known = and_i X.known made₂.known;
                short = (omega (arith, below, made₂.more, made₂.inside, short), (X.short, made₂.short));
                leads = λ fs z.
                    starts o x fs ∙ made₂.leads (second p o (sign_of D row g) x ∷ fs) (ok₂ o x fs z)
                    ∙ ap (run_in D row (length s) (ending p o (sign_of D row g) x y') fs) cl.first
                    ∙ close-two D row p o cl.c (sign_of D row g) x y' fs (length s) (from s nx');
              };
        }

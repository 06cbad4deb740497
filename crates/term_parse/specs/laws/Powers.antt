-- Behind `(EXPT`: the base, the exponent.
use Rattle.std.specs.Prelude.{◌≡◌, refl, true, false, List, ◌∷◌, ℕ, ◌+◌, ◌*◌, ◌-◌, ◌≤◌, min, length, take, drop}
use Rattle.std.proofs.Common.{sym, ◌∙◌, subst, arith}
use Rattle.std.proofs.Math.Path.{ap}
use borrow.Rule.Slice.PartMut.{put_mid}
use Rattle.text.specs.definitions.Bytes.{canonical, value_from}
use Rattle.term_token.specs.Views.{from}
use Rattle.dialect.specs.declared.Dialect.{Dialect}
use Rattle.text.specs.definitions.Answer.{refused}
use Rattle.term_tree.specs.Coding.{span_of, enc}
use Rattle.text.specs.definitions.Reading.{Frame, base, operand, exponent, raised, a_letter, on, after_expt, deliver}
use Rattle.text.specs.definitions.Reading.{run_in}
use Rattle.text.specs.definitions.Tree.{Tree, power}
use Rattle.term_leaf.specs.declared.Kind.{Kind}
use Rattle.term_leaf.specs.declared.Kind.TheVariants as K
use Rattle.term_leaf.specs.Leaf.{Part, On, Off}
use Rattle.term_leaf.specs.Leaf.{part, TokenAt}
use Rattle.term_parse.specs.Found.{TermSays, go_on, Made, Says, Shut, TermAt, PowerAt, LetterAt, ExponentAt, ClosedAt}
use Rattle.term_parse.specs.laws.Steps.{close-power, raised-stops, exponent-good, exponent-bad}
use Rattle.term_parse.specs.laws.Parts.{says-as}
use Rattle.term_parse.specs.laws.Operands.{node-words, stopped-row, made-operand}

module _ (D : Dialect) (row s : List ℕ) where
  -- ---- an exponent
  module _ (p k at : ℕ) (kind : Kind) (a e : ℕ) (t : TokenAt s at kind a e) (before : List ℕ) where
    -- no exponent
    pub exp-bad : kind ≡ K.Word → canonical (part s a e) ≡ false → (out : List ℕ) → ExponentAt D row s p k at before out (Off D.wrong a e)
    exp-bad h b out = record {
      says = λ o x X fs z.
          ap (run_in D row (length s) (exponent p o x) fs) (t.worded h).0
          ∙ exponent-bad D row p o x a (part s a e) fs (length s) (from s e) b ∙ ap (refused D.wrong a) (sym (t.worded h).1);
    }

    module _ (h : kind ≡ K.Word) (b : canonical (part s a e) ≡ true) (short : length s ≤ 65535) (below : p ≤ at)
        (bound : 2 * k + 5 ≤ 3 * (at - p)) where
      starts₃ : (o : ℕ) (x : Tree) (fs : List Frame) → run_in D row (length s) (exponent p o x) fs (from s at)
          ≡ run_in D row (length s) (raised p o x a (value_from 0 (part s a e))) fs (from s e)
      starts₃ o x fs =
          ap (run_in D row (length s) (exponent p o x) fs) (t.worded h).0
          ∙ exponent-good D row p o x a (part s a e) fs (length s) (from s e) b

      -- the exponent, and what is answered of the `)`
      pub exp-good : (n : ℕ) → n ≡ min (value_from 0 (part s a e)) 64 → (out : List ℕ) (r : Part) →
          ClosedAt D s p (2147483653 + 8 * n) (2 + k) e before out r → ExponentAt D row s p k at before out r
      unfolding enc
      exp-good n q out (Off m a' e') C = record {
        says = λ o x X fs z.
            starts₃ o x fs ∙ raised-stops D row p o x a (value_from 0 (part s a e)) fs (length s) (from s e) C.case.0
            ∙ stopped-row D row (length s) (from s e) ∙ C.case.1;
      }
      exp-good n q out (On k' nx) C = record {
        says = λ o x X.
            let cl = C.case in
            let m = value_from 0 (part s a e) in
            record {
              tree = power p o cl.c x a m;
              size = omega (arith, cl.is-size, X.size);
              is =
                  ap (take k') cl.words ∙ node-words (2147483653 + 8 * n) (span_of p (cl.c + 1)) k k' (drop 2 before) (enc row x)
                  cl.is-size X.is ∙ ap (λ z. (2147483653 + 8 * z) ∷ (span_of p (cl.c + 1) ∷ enc row x)) q;
              more = omega (arith, below, t.later, t.more (λ z. cc), cl.later);
              inside = cl.inside;
              bound = omega (arith, cl.is-size, bound, below, t.later, t.more (λ z. cc), cl.later);
              known = X.known;
              short = (omega (arith, below, t.later, t.more (λ z. cc), t.inside, short), X.short);
              leads =
                  λ fs z. starts₃ o x fs ∙ ap (run_in D row (length s) (raised p o x a m) fs) cl.first
                  ∙ close-power D row p o cl.c x a m fs (length s) (from s nx);
            };
      }

  -- ---- behind `(EXPT`
  module _ (p at depth : ℕ) where
    -- a letter
    module _ (d : D.panel ≡ true) (outb : List ℕ) (b : Part) (B : LetterAt D row s at outb b) where
      -- it is refused
      pub base-off : (m q q' : ℕ) → b ≡ Off m q q' → (out : List ℕ) → PowerAt D row s p at depth out b
      base-off m q q' E out =
          subst (PowerAt D row s p at depth out) (sym E) (record {
            says = λ o fs z.
                ap (λ c. go_on D row (length s) (after_expt c p o fs) (from s at)) d
                ∙ subst (λ r. Says D row s at outb (λ fs. Unit {0}) (λ fs. run_in D row (length s) (a_letter p o) fs (from s at))
                (λ t fs. on (exponent p o t) fs) r) E (B.says p o) fs tt;
          })

      module _ (k nx : ℕ) (E : b ≡ On k nx) where
        pub base-made : (o : ℕ) → Made D row s at outb k nx (λ fs. Unit {0}) (λ fs. run_in D row (length s) (a_letter p o) fs (from s at))
            (λ t fs. on (exponent p o t) fs)
        base-made o =
            subst (λ r. Says D row s at outb (λ fs. Unit {0}) (λ fs. run_in D row (length s) (a_letter p o) fs (from s at))
            (λ t fs. on (exponent p o t) fs) r) E (B.says p o)

        -- it is there, and what is answered of the exponent
        pub base-power : (w : List ℕ) → 2 ≤ length w → (out : List ℕ) (r : Part) →
            ExponentAt D row s p k nx (put_mid 2 (length w - 2) w outb) out r → PowerAt D row s p at depth out r
        base-power w l out r X = record {
          says = λ o.
              says-as D row s p out (deliver D) r (λ fs z.
              (tt, ap (λ c. go_on D row (length s) (after_expt c p o fs) (from s at)) d ∙ (base-made o).leads fs tt))
              (X.says o (base-made o).tree (made-operand D row s (base-made o) w l));
        }

    -- any term
    module _ (d : D.panel ≡ false) (outx : List ℕ) (x : Part) (X : TermAt D row s at (depth + 1) outx x) where
      ok₄ : (o : ℕ) (fs : List Frame) → length fs ≡ depth → (length (base p o ∷ fs) ≡ depth + 1) × Shut D row s at (base p o ∷ fs)
      ok₄ o fs z = (omega (arith, z), λ c ks q. refl)

      -- it is refused
      pub term-off : (m q q' : ℕ) → x ≡ Off m q q' → (out : List ℕ) → PowerAt D row s p at depth out x
      term-off m q q' E out =
          let F : (fs : List Frame) → (length fs ≡ depth + 1) × Shut D row s at fs → run_in D row (length s) operand fs (from s at)
          ≡ refused m q q' = subst (TermSays D row s at (depth + 1) outx) E X.says in
          subst (PowerAt D row s p at depth out) (sym E)
          (record { says = λ o fs z. ap (λ c. go_on D row (length s) (after_expt c p o fs) (from s at)) d ∙ F (base p o ∷ fs) (ok₄ o fs z) })

      module _ (k nx : ℕ) (E : x ≡ On k nx) where
        pub term_made : TermSays D row s at (depth + 1) outx (On k nx)
        term_made =
            subst (TermSays D row s at (depth + 1) outx) E X.says

        -- it is there, and what is answered of the exponent
        pub term-power : (w : List ℕ) → 2 ≤ length w → (out : List ℕ) (r : Part) →
            ExponentAt D row s p k nx (put_mid 2 (length w - 2) w outx) out r → PowerAt D row s p at depth out r
        term-power w l out r P = record {
          says = λ o.
              says-as D row s p out (deliver D) r (λ fs z.
              (tt, ap (λ c. go_on D row (length s) (after_expt c p o fs) (from s at)) d ∙ term_made.leads (base p o ∷ fs) (ok₄ o fs z)))
              (P.says o term_made.tree (made-operand D row s term_made w l));
        }

-- The whole text; and the `)` of a node.
use Rattle.std.specs.Prelude.{◌≡◌, refl, ℕ, ◌≤◌, ◌<◌, length}
use Rattle.std.proofs.Common.{sym, ◌∙◌, subst, arith, le-leb}
use Rattle.std.proofs.Math.Path.{ap}
use Rattle.std.proofs.Math.Bool.{true, false}
use mathlib.Core.List.{List, [], ◌∷◌}
use Rattle.std.proofs.lemmas.Bool.{lt-leb}
use Rattle.text.specs.definitions.Bytes.{Token, opening, closing, word, tokens}
use Rattle.term_token.specs.Views.{from}
use Rattle.dialect.specs.declared.Dialect.{Dialect}
use Rattle.text.specs.definitions.Answer.{refused}
use Rattle.text.specs.definitions.Reading.{operand, only_end, read_term, run_in}
use Rattle.text.specs.definitions.Tree.{Tree}
use Rattle.term_leaf.specs.Leaf.{Part, On, Off}
use Rattle.std.specs.Prelude.{Ok, Err}
use Rattle.refusal.specs.declared.Flaw.{Flaw}
use Rattle.term_leaf.specs.declared.Kind.{Kind}
use Rattle.term_leaf.specs.declared.Kind.TheVariants as K
use Rattle.term_leaf.specs.Leaf.{part, TokenAt}
use Rattle.term_parse.specs.Found.{TermSays, stopped, TermAt, ParsedAs}
use Rattle.term_parse.specs.laws.Parts.{stopped-is}

module _ (D : Dialect) (row s : List ℕ) where
  -- ---- the whole text
  -- a text that is too long
  pub parse-long : D.bytes < length s → (out : List ℕ) → ParsedAs D row s out (Err (record { number = 3; place = 0; end = 0 }))
  unfolding read_term
  parse-long h out =
      ap (λ b. elim b [ true ↦ run_in D row (length s) operand [] (tokens 0 s) | false ↦ refused 3 0 0 ]) (lt-leb (length s) D.bytes h)

  module _ (l : length s ≤ D.bytes) (out : List ℕ) (x : Part) (X : TermAt D row s 0 0 out x) where
    whole_run : read_term D row s ≡ run_in D row (length s) operand [] (from s 0)
    unfolding read_term
    whole_run =
        ap (λ b. elim b [ true ↦ run_in D row (length s) operand [] (tokens 0 s) | false ↦ refused 3 0 0 ]) (le-leb (length s) D.bytes l)

    -- the term is refused
    pub parse-off : (f : Flaw) → x ≡ Off f.number f.place f.end → ParsedAs D row s out (Err f)
    parse-off f E =
        whole_run
        ∙ subst (TermSays D row s 0 0 out) E X.says [] (refl, λ c ks q. refl)

    module _ (k nx : ℕ) (E : x ≡ On k nx) where
      pub whole-made : TermSays D row s 0 0 out (On k nx)
      whole-made =
          subst (TermSays D row s 0 0 out) E X.says

      module _ (kind : Kind) (a e : ℕ) (t : TokenAt s nx kind a e) where
        -- nothing stands behind the term
        pub parse-on : kind ≡ K.End → ParsedAs D row s out (Ok k)
        parse-on h = record {
          tree = whole-made.tree;
          reads = whole_run ∙ whole-made.leads [] (refl, λ c ks q. refl) ∙ ap (only_end D whole-made.tree) (t.none_left h).0;
          size = whole-made.size;
          is = whole-made.is;
          bound = omega (arith, whole-made.bound, whole-made.inside);
          known = whole-made.known;
          short = whole-made.short;
        }

        only-stops : (y : Tree) (ts : List Token) → (ts ≡ [] → ⊥) → only_end D y ts ≡ stopped D row (length s) ts
        only-stops y [] n = absurd (n refl)
        only-stops y (c ∷ ts) n = refl

        not-nil : (c : Token) (ts : List Token) → c ∷ ts ≡ [] → ⊥
        not-nil c ts q = cc

        some_left : (kind ≡ K.End → ⊥) → from s nx ≡ [] → ⊥
        some_left n q = by kind refl
          where
            by : (m : Kind) → kind ≡ m → ⊥
            by K.End h = n h
            by K.Open h = not-nil (opening a) (from s e) (sym (t.opens h).0 ∙ q)
            by K.Close h = not-nil (closing a) (from s e) (sym (t.closes h).0 ∙ q)
            by K.Word h = not-nil (word a (part s a e)) (from s e) (sym (t.worded h).0 ∙ q)

        -- something stands behind it
        pub parse-more : (kind ≡ K.End → ⊥) → ParsedAs D row s out (Err (record { number = D.wrong; place = a; end = e }))
        parse-more n =
            whole_run ∙ whole-made.leads [] (refl, λ c ks q. refl) ∙ only-stops whole-made.tree (from s nx) (some_left n)
            ∙ stopped-is D row s nx kind a e t

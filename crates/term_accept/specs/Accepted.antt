-- What is answered of a term's text: the words of its tree, which is within the limits, or the refusal.
use Rattle.std.specs.Prelude.{◌≡◌, true, Result, Ok, Err, List, ℕ, ◌+◌, ◌*◌, ◌≤◌, length, take}
use Rattle.std.proofs.Common.{sym, ◌∙◌}
use Rattle.std.proofs.Math.Path.{ap, subst}
use Rattle.text.specs.definitions.Tree.{letters, Tree}
use Rattle.measure.specs.declared.Measures.{Measures}
use Rattle.dialect.specs.declared.Dialect.{Dialect}
use Rattle.text.specs.definitions.Answer.{Reading, read, refused, onward}
use Rattle.term_tree.specs.Coding.{enc, Short}
use Rattle.term_tree.specs.Shapes.{Codes}
use Rattle.text.specs.definitions.Limits.{measured, accept}
use Rattle.refusal.specs.declared.Flaw.{Flaw}
use Rattle.term_parse.specs.Found.{Parse, ParsedAs}
use Rattle.term_measure.specs.Found.{Finds, MeasuredAs}
use Rattle.text.specs.definitions.Bytes.{is_in_row}

-- the text is accepted as a tree of k words, at the front of out
pub record Accepted (D : Dialect) (row s out : List ℕ) (k : ℕ) : Type 0 where
  pub tree : Tree
  pub accepts : accept D row s ≡ read tree
  pub size : k ≡ length (enc row tree)
  pub is : take k out ≡ enc row tree
  pub bound : 2 * k ≤ 3 * length s + 1
  pub known : letters (is_in_row row) tree ≡ true
  pub short : Short tree

-- what is answered of a term's text
abbrev pub AcceptedAs : Dialect → List ℕ → List ℕ → List ℕ → Result ℕ Flaw → Type 0
AcceptedAs D row s out (Ok k) = Accepted D row s out k
AcceptedAs D row s out (Err f) = accept D row s ≡ refused f.number f.place f.end

module _ (D : Dialect) (row s out : List ℕ) (r : Result ℕ Flaw) (A : ParsedAs D row s out r) where
  -- it is refused before it is measured
  pub refused-first : (f : Flaw) → r ≡ Err f → AcceptedAs D row s out r
  unfolding accept
  refused-first f q =
      subst (AcceptedAs D row s out) (sym q)
      (ap (λ (x : Reading Tree). onward x (measured row)) (subst (ParsedAs D row s out) q A))

  module _ (k : ℕ) (q : r ≡ Ok k) where
    -- it is read
    pub parsed : Parse D row s out k
    parsed = subst (ParsedAs D row s out) q A

    module _ (four : length row ≤ 4) where
      -- they are the code of the tree
      pub codes : Codes row parsed.tree (take k out)
      codes = record { is = parsed.is; four = four; known = parsed.known; short = parsed.short }

      module _ (m : Result Measures Flaw) (M : MeasuredAs (take k out) m) where
        found : (m' : Result Measures Flaw) → m ≡ m' → Finds row parsed.tree m'
        found m' e = subst (Finds row parsed.tree) e (M.finds row parsed.tree codes)

        -- it is within the limits
        pub fits : (a : Measures) → m ≡ Ok a → AcceptedAs D row s out (Ok k)
        unfolding accept
        fits a e = record {
          tree = parsed.tree;
          accepts = ap (λ (x : Reading Tree). onward x (measured row)) parsed.reads ∙ (found (Ok a) e).0;
          size = parsed.size;
          is = parsed.is;
          bound = parsed.bound;
          known = parsed.known;
          short = parsed.short;
        }

        -- it passes one
        pub over : (f : Flaw) → m ≡ Err f → AcceptedAs D row s out (Err f)
        unfolding accept
        over f q' = ap (λ (x : Reading Tree). onward x (measured row)) parsed.reads ∙ found (Err f) q'

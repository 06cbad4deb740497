-- From the words of an accepted tree to its run, and from the run to the form.
use Rattle.std.specs.Prelude.{true, Result, Ok, Err, List, ◌++◌, ◌≡◌, refl, ℕ, ◌+◌, ◌≤◌, length, take}
use Rattle.std.proofs.Common.{sym, ap, ◌∙◌, subst, arith}
use Rattle.dialect.specs.Dialects.{ordinary}
use Rattle.dialect.specs.declared.Dialect.{Dialect}
use Rattle.horner.specs.definitions.Term.{norm_p}
use Rattle.code.specs.Coding.{Made, enc}
use Rattle.run_code.specs.Decoding.{form_at, Placed, Even}
use Rattle.run_form.proofs.laws.Code.{run-even, run-placed, run-form}
use Rattle.run_merge.specs.Words.{pairs}
use Rattle.text.specs.definitions.Bytes.{is_row}
use Rattle.text.specs.definitions.Tree.{term_of}
use Rattle.text_laws.specs.laws.Rows.{row-length}
use Rattle.refusal.specs.Refusal.{fault_of}
use Rattle.refusal.specs.declared.Flaw.{Flaw}
use Rattle.term_accept.specs.Accepted.{Accepted, AcceptedAs}
use Rattle.term_accept.specs.Ordinary.{accepted-ordinary, refused-ordinary}
use Rattle.term_build.specs.Build.{Plain, PlainBuilt}
use Rattle.term_build.specs.laws.Sized.{sized-dialect, shallow-dialect}
use Rattle.term_tree.specs.Shapes.{Codes}
use Rattle.term_read.specs.Read.{IsRun, RunRead, TermRead, refusal, words}
use Rattle.term_read.specs.laws.Reading.{begins-front}
use Rattle.term_read.specs.laws.Terms.{accepted-low, accepted-words}

-- ---- what is accepted
module _ (row s out : List ℕ) (q : Result ℕ Flaw) (d : Dialect) (e : d ≡ ordinary) (B : AcceptedAs d row s out q) where
  A : AcceptedAs ordinary row s out q
  A = subst (λ D. AcceptedAs D row s out q) e B

  -- refused while parsing or measuring
  pub run-refused : {f : Flaw} (l : List ℕ) → q ≡ Err f → RunRead row s (Err (fault_of f)) l
  run-refused {f} l h = refusal (fault_of f) (refused-ordinary row s out f (subst (AcceptedAs ordinary row s out) h A)) refl

  module _ {k : ℕ} (h : q ≡ Ok k) where
    pub found : Accepted ordinary row s out k
    found = subst (AcceptedAs ordinary row s out) h A

    module _ (r : is_row row ≡ true) where
      codes : Codes row found.tree (take k out)
      codes = record { is = found.is; four = (row-length row r).1; known = found.known; short = found.short }

      -- building is given what it asks
      pub tree_plain : {S O T : ℕ} → 8704 ≤ S → 1024 ≤ T → T ≤ O → Plain (length row) (take k out) S O T
      tree_plain a b c =
          record {
            row = row;
            tree = found.tree;
            letters = refl;
            some = (row-length row r).0;
            codes = codes;
            sized = sized-dialect ordinary row s found.tree found.accepts;
            room = omega (arith, a, shallow-dialect ordinary row s found.tree found.accepts);
            more = b;
            most = c;
          }

      -- and leaves the run
      pub run-built : {n : ℕ} {l : List ℕ} → PlainBuilt (length row) (take k out) n l → RunRead row s (Ok n) l
      run-built {n} {l} B =
          words n
          record {
            t = found.tree;
            accepted = accepted-ordinary row s out k found;
            made = B.is row found.tree refl codes (sized-dialect ordinary row s found.tree found.accepts);
          }
          refl

-- ---- the form
module _ {row s l : List ℕ} {n : ℕ} (r : is_row row ≡ true) (R : IsRun row s n l) where
  -- the run's keys are such that a code can be made of it
  pub code-placed : Placed (length row) 0 (pairs (take n l))
  code-placed = subst (λ w. Placed (length row) 0 (pairs w)) (sym R.made.is) (run-placed (accepted-low row s r R.t R.accepted))

  -- it is whole
  pub code-even : Even (length (take n l))
  code-even = subst (λ w. Even (length w)) (sym R.made.is) (run-even (length row) (norm_p (term_of row R.t)))

  form-is : form_at (length row) 0 (take n l) ≡ norm_p (term_of row R.t)
  form-is = ap (form_at (length row) 0) R.made.is ∙ run-form (accepted-low row s r R.t R.accepted)

  -- there is room for the code
  pub code-room : (m : ℕ) → 16384 ≤ m → length (enc 0 (form_at (length row) 0 (take n l))) + length row ≤ m
  code-room m h =
      omega (arith, h, ap (λ x. length (enc 0 x)) form-is, accepted-words row s r R.t R.accepted, (row-length row r).1)

  -- and it is the form's
  pub form-built : {m : ℕ} (a k : List ℕ) → Made 0 (form_at (length row) 0 (take n l)) m a → TermRead row s (Ok m) (a ++ k)
  form-built {m} a k M =
      words m
      record {
        t = R.t;
        accepted = R.accepted;
        made = begins-front a k (subst (λ x. Made 0 x m a) form-is M);
      }
      refl

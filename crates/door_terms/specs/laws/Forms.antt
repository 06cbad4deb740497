-- From the runs of two terms to their forms, side by side.
use Rattle.std.specs.Prelude.{true, List, ◌++◌, ◌≡◌, ℕ, ◌+◌, ◌-◌, ◌≤◌, length, take, drop}
use Rattle.std.proofs.Common.{sym, ap, ◌∙◌, subst, arith, length-drop, length-take-le}
use Rattle.std.proofs.lemmas.List.{drop-append-le}
use Rattle.horner.specs.definitions.Measures.{degrees_of}
use Rattle.horner.specs.definitions.Term.{norm_p}
use Rattle.code.proofs.Lists.{begins-le}
use Rattle.code.proofs.Regions.{region-sub}
use Rattle.code.specs.Coding.{Made, enc, Good}
use Rattle.code.specs.laws.Codes.{tail-part}
use Rattle.run_code.specs.Decoding.{form_at}
use Rattle.run_form.specs.Forms.{run_words, Low}
use Rattle.run_form.proofs.laws.Code.{run-even, run-placed, run-form, low-good}
use Rattle.text.specs.definitions.Bytes.{is_row}
use Rattle.text.specs.definitions.Tree.{term_of}
use Rattle.text_laws.specs.laws.Rows.{row-length}
use Rattle.term_read.specs.laws.Reading.{begins-front}
use Rattle.term_read.specs.laws.Terms.{accepted-low, accepted-words}
use Rattle.door_terms.specs.Terms.{IsPair, Codable, Coding, CodedSides, Paired}

-- the same where more follows
pub sides-front : {n k x y : ℕ} {l : List ℕ} (d e : List ℕ) → CodedSides n k l x y d → CodedSides n k l x y (d ++ e)
sides-front {n} {k} {x} {y} {l} d e C =
    record {
      left = begins-front d e C.left;
      right =
          subst (λ z. Made 0 (form_at n 0 (drop k l)) y z) (sym (drop-append-le x d e (begins-le C.left)))
          (begins-front (drop x d) e C.right);
    }

-- ---- of two terms that were read
module _ {row s t d : List ℕ} {k m : ℕ} (r : is_row row ≡ true) (Q : IsPair row s t k m d) where
  pub runs-inside : k + m ≤ length d
  runs-inside = omega (arith, begins-le Q.left-made, begins-le Q.right-made, length-drop k d)

  abbrev pub l : List ℕ
  l = take (k + m) d

  length-l : length l ≡ k + m
  length-l = length-take-le (k + m) d runs-inside

  at_left : take k l ≡ run_words (length row) (norm_p (term_of row Q.f))
  at_left = region-sub 0 (k + m) 0 k d (omega arith) ∙ Q.left-made.is

  at_right : drop k l ≡ run_words (length row) (norm_p (term_of row Q.g))
  at_right =
      let e : length l - k ≡ m = omega (arith, length-l) in
      let z : 0 + k ≡ k = omega arith in
      sym (tail-part k l) ∙ ap (λ n. take n (drop k l)) e ∙ region-sub 0 (k + m) k m d (omega arith)
      ∙ ap (λ i. take m (drop i d)) z ∙ Q.right-made.is

  low-left : Low (length row) (degrees_of (length row) (term_of row Q.f)) (norm_p (term_of row Q.f))
  low-left = accepted-low row s r Q.f Q.left-accepted

  low-right : Low (length row) (degrees_of (length row) (term_of row Q.g)) (norm_p (term_of row Q.g))
  low-right = accepted-low row t r Q.g Q.right-accepted

  pub left-form : form_at (length row) 0 (take k l) ≡ norm_p (term_of row Q.f)
  left-form = ap (form_at (length row) 0) at_left ∙ run-form low-left

  pub right-form : form_at (length row) 0 (drop k l) ≡ norm_p (term_of row Q.g)
  right-form = ap (form_at (length row) 0) at_right ∙ run-form low-right

  -- what making their forms asks
  runs-coding : {n : ℕ} → 6154 ≤ n → n ≤ 33554432 → Coding (length row) k l n
  runs-coding a b =
      record {
        four = (row-length row r).1;
        inside = omega (arith, length-l);
        left =
            subst (Codable (length row)) (sym at_left)
            record {
              placed = run-placed low-left;
              even = run-even (length row) (norm_p (term_of row Q.f));
              words = omega (arith, ap (λ x. length (enc 0 x)) (run-form low-left), accepted-words row s r Q.f Q.left-accepted);
            };
        right =
            subst (Codable (length row)) (sym at_right)
            record {
              placed = run-placed low-right;
              even = run-even (length row) (norm_p (term_of row Q.g));
              words = omega (arith, ap (λ x. length (enc 0 x)) (run-form low-right), accepted-words row t r Q.g Q.right-accepted);
            };
        room = a;
        small = b;
      }

  pub runs-paired : Paired (length row) k (k + m) d
  runs-paired =
      record {
        inside = runs-inside;
        coding = runs-coding (omega arith) (omega arith);
        left-good = subst (Good 0) (sym left-form) (low-good low-left);
        right-good = subst (Good 0) (sym right-form) (low-good low-right);
      }

  -- ---- one run, one form
  pub same_runs : take k l ≡ drop k l → norm_p (term_of row Q.f) ≡ norm_p (term_of row Q.g)
  same_runs e = sym left-form ∙ ap (form_at (length row) 0) e ∙ right-form

  pub same-forms : norm_p (term_of row Q.f) ≡ norm_p (term_of row Q.g) → take k l ≡ drop k l
  same-forms e = at_left ∙ ap (run_words (length row)) e ∙ sym at_right

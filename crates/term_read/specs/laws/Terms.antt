-- What an accepted term is: within the limits, its form low, with a code in at most 3,073 words.
use Rattle.std.specs.Prelude.{true, List, ◌≡◌, ℕ, ◌≤◌, length, take}
use Rattle.std.proofs.Common.{arith}
use Rattle.horner.specs.definitions.Measures.{degrees_of, count}
use Rattle.horner.specs.definitions.Rings.{p_ring}
use Rattle.horner.specs.definitions.Term.{norm_p}
use Rattle.code.proofs.Making.{front-codes}
use Rattle.code.specs.Coding.{Codes, enc}
use Rattle.run_form.specs.Forms.{Low}
use Rattle.run_form.proofs.laws.Code.{low-good, low-words}
use Rattle.run_form.proofs.laws.Under.{run_length}
use Rattle.text.specs.definitions.Bytes.{is_row, read}
use Rattle.text.specs.definitions.Limits.{accept_term}
use Rattle.text.specs.definitions.Tree.{Tree, term_of}
use Rattle.text_laws.specs.laws.Rows.{row-length}
use Rattle.term_build.specs.Terms.{AllSized}
use Rattle.term_build.specs.laws.Sized.{sized-low, sized-count, sized-accepted}
use Rattle.term_read.specs.Read.{IsTerm, IsRun}

module _ (row s : List ℕ) (r : is_row row ≡ true) (t : Tree) (e : accept_term row s ≡ read t) where
  sized : AllSized (length row) (term_of row t)
  sized = sized-accepted row s t e

  -- its form is low
  pub accepted-low : Low (length row) (degrees_of (length row) (term_of row t)) (norm_p (term_of row t))
  accepted-low = sized-low (length row) (term_of row t) sized (row-length row r).1

  -- it has at most 256 coefficients
  accepted-few : count p_ring (norm_p (term_of row t)) ≤ 256
  accepted-few = sized-count (length row) (term_of row t) sized

  -- and its code at most 3,073 words
  pub accepted-words : length (enc 0 (norm_p (term_of row t))) ≤ 3073
  accepted-words = low-words accepted-low accepted-few

module _ {row s l : List ℕ} {n : ℕ} (r : is_row row ≡ true) where
  -- what was read is its code
  pub term-codes : (T : IsTerm row s n l) → Codes 0 (norm_p (term_of row T.t)) (take n l)
  term-codes T = front-codes T.made (low-good (accepted-low row s r T.t T.accepted))

  -- of at most 3,073 words
  pub term_words : IsTerm row s n l → n ≤ 3073
  term_words T = omega (arith, T.made.size, accepted-words row s r T.t T.accepted)

  -- 512 are enough for a run
  pub run-words : IsRun row s n l → n ≤ 512
  run-words T =
      omega (arith, T.made.size, run_length (length row) (norm_p (term_of row T.t)), accepted-few row s r T.t T.accepted)

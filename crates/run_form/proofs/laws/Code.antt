-- From the words of a form's run to its code: what `to_code` asks holds of them, and what it writes is the form's.
use Rattle.std.specs.Prelude.{List, ◌≡◌, ℕ, ◌≤◌, length}
use Rattle.std.proofs.Common.{◌∙◌, arith}
use Rattle.code.specs.Coding.{enc, limits, Good}
use Rattle.code.specs.laws.Good.{good-at}
use Rattle.code.specs.laws.Sizes.{size-enc}
use Rattle.code_room.proofs.laws.Lists.{below-limits}
use Rattle.horner.specs.definitions.Form.{Form}
use Rattle.horner.specs.definitions.Measures.{count}
use Rattle.horner.specs.definitions.Rings.{Res, prime, p_ring}
use Rattle.horner.proofs.laws.Degree.{bounded-mono}
use Rattle.horner.proofs.laws.Room.{words-3073}
use Rattle.run.specs.Runs.{to_run}
use Rattle.run.proofs.laws.Forms.{form-of-run}
use Rattle.run_code.specs.Decoding.{form_at, Placed, Even}
use Rattle.run_code.specs.laws.Whole.{form-code, even-code, placed-code}
use Rattle.run_merge.specs.Words.{code_of, pairs}
use Rattle.run_form.specs.Forms.{run_words, Low}
use Rattle.run_form.proofs.laws.Under.{sorted, small}

-- a run takes two words for each monomial
pub run-even : (n : ℕ) (x : Form (Res prime)) → Even (length (run_words n x))
unfolding run_words
run-even n x = even-code (code_of (to_run p_ring n x))

module _ {n : ℕ} {ds : List ℕ} {x : Form (Res prime)} (L : Low n ds x) where
  -- its keys fall, below the number that stands for four exponents of 64
  pub run-placed : Placed n 0 (pairs (run_words n x))
  unfolding run_words
  run-placed = placed-code n (to_run p_ring n x) L.four (sorted L) (small L)

  -- the form that is made of it is the form
  pub run-form : form_at n 0 (run_words n x) ≡ x
  unfolding run_words
  run-form = form-code n (to_run p_ring n x) (small L) ∙ form-of-run p_ring n x L.normal

  -- which has a code
  pub low-good : Good 0 x
  low-good = good-at 0 n x L.four L.normal (bounded-mono x ds (limits n) (below-limits n ds L.long L.degrees) L.bounded)

  -- 3,073 words are enough for the code
  pub low-words : count p_ring x ≤ 256 → length (enc 0 x) ≤ 3073
  low-words c = omega (arith, size-enc 0 x, words-3073 p_ring n x L.four L.normal c)

-- What stands besides: theorems of this crate that no other proof leans on.
use Rattle.std.proofs.Common.{List, length, sym, ap, subst, length-take-le, ℕ, ◌+◌}
use Rattle.std.specs.Prelude.{take, drop}
use Rattle.std.proofs.Math.Path.{◌≡◌, ◌∙◌}
use Rattle.code.specs.Coding.{enc, dec, Coded}
use Rattle.code.specs.Operations.{sum_of}
use Rattle.code.proofs.Lists.{front_of, behind}
use Rattle.code_room.specs.Fit.{prod_of}
use Rattle.code_room.specs.Tables.{Space}
use Rattle.code_pair.specs.Pair.{left, right, Pair}

-- two forms in one slice, the front of a longer one
module _ {a b : ℕ} {d : List ℕ} (p : Pair a b d) where
  pub both-length : length (take (a + b) d) ≡ a + b
  both-length = length-take-le (a + b) d p.fits

  pub both_coded : Coded 0 (take a (take (a + b) d)) × Coded 0 (drop a (take (a + b) d))
  both_coded = (subst (Coded 0) (sym (front_of a b d)) p.coded-left, subst (Coded 0) (sym (behind a b d)) p.coded-right)

module _ (a b : ℕ) (d : List ℕ) where
  pub both-sum :
      enc 0 (sum_of 0 (dec 0 (take a (take (a + b) d))) (dec 0 (drop a (take (a + b) d)))) ≡ enc 0 (sum_of 0 (left a d) (right a b d))
  both-sum =
      ap (λ l. enc 0 (sum_of 0 (dec 0 l) (dec 0 (drop a (take (a + b) d))))) (front_of a b d)
      ∙ ap (λ l. enc 0 (sum_of 0 (left a d) (dec 0 l))) (behind a b d)

  pub both-product :
      enc 0 (prod_of 0 (dec 0 (take a (take (a + b) d))) (dec 0 (drop a (take (a + b) d)))) ≡ enc 0 (prod_of 0 (left a d) (right a b d))
  both-product =
      ap (λ l. enc 0 (prod_of 0 (dec 0 l) (dec 0 (drop a (take (a + b) d))))) (front_of a b d)
      ∙ ap (λ l. enc 0 (prod_of 0 (left a d) (dec 0 l))) (behind a b d)

  pub both-space :
      {o t u : ℕ} → Space 0 (left a d) (right a b d) o t u →
      Space 0 (dec 0 (take a (take (a + b) d))) (dec 0 (drop a (take (a + b) d))) o t u
  both-space {o} {t} {u} h =
      subst (λ l. Space 0 (dec 0 l) (dec 0 (drop a (take (a + b) d))) o t u) (sym (front_of a b d))
      (subst (λ l. Space 0 (left a d) (dec 0 l) o t u) (sym (behind a b d)) h)

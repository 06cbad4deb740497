-- What the laws of proofs/laws/Grid speak of.
use Rattle.std.specs.Prelude.{List, [], ◌∷◌}
use Rattle.horner.specs.definitions.Form.{Form}

module _ {A : Type 0} where
  abbrev pub All : (Form A → Type 0) → List (Form A) → Type 0
  All P [] = Unit {0}
  All P (p ∷ ps) = P p × All P ps

-- What the laws of proofs/laws/Keys speak of.
use Rattle.std.specs.Prelude.{List, [], ◌∷◌, ℕ}

-- a key of one exponent or more
abbrev pub Some : List ℕ → Type 0
Some [] = ⊥
Some (k ∷ ks) = Unit {0}

-- What the laws of proofs/laws/Lists speak of.
use Rattle.std.specs.Prelude.{List, [], ◌∷◌, ℕ, ◌-◌}

-- ---- the first bound less i: what the p of a (POW i p q) has
abbrev pub cut : ℕ → List ℕ → List ℕ
cut i [] = []
cut i (d ∷ ds) = (d - i) ∷ ds

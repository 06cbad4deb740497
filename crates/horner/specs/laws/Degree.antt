-- What the laws of proofs/laws/Degree speak of.
use Rattle.std.specs.Prelude.{List, [], ◌∷◌, ℕ, ◌+◌, ◌-◌, ◌≤◌}
use Rattle.horner.specs.definitions.Form.{Form, int, pop, pow, after}

module _ {A : Type 0} where
  -- no power is above ds, variable by variable
  abbrev pub Bounded : List ℕ → Form A → Type 0
  Bounded ds (int c) = Unit {0}
  Bounded ds (pop i p) = Bounded (after i ds) p
  Bounded [] (pow i p q) = ⊥
  Bounded (d ∷ ds) (pow i p q) = (i ≤ d) × Bounded ((d - i) ∷ ds) p × Bounded ds q

-- ---- longer bounds
abbrev pub Below : List ℕ → List ℕ → Type 0
Below [] es = Unit {0}
Below (d ∷ ds) [] = ⊥
Below (d ∷ ds) (e ∷ es) = (d ≤ e) × Below ds es

-- ---- all at most one number: their sum is one
abbrev pub total : List ℕ → ℕ
total [] = 0
total (d ∷ ds) = d + total ds

-- The first point, in the row's order, at which a form that is not 0 has a value that is not 0: what it is. That it is that, and that no
-- earlier point serves, stands in proofs/laws/First.
use Rattle.std.specs.Prelude.{Bool, true, false, List, [], ◌∷◌, ℕ, zero, suc, ◌≤◌, ◌<◌, ◌≡◌}
use Rattle.horner.specs.definitions.Form.{Form, int, pop, pow, lower, is_zero, sum, scale}
use Rattle.horner.specs.definitions.Rings.{Ring, power, nat}

-- ---- the point, variable by variable
-- the least number from a up that fails a test, in at most f tries
abbrev pub least : ℕ → (ℕ → Bool) → ℕ → ℕ
least zero t a = a
least (suc f) t a = elim (t a) [ true ↦ least f t (suc a) | false ↦ a ]

module _ {A : Type 0} (R : Ring A) where
  -- the form with a put for its first variable
  abbrev pub at_first : Form A → A → Form A
  at_first (int c) a = int c
  at_first (pop zero p) a = p
  at_first (pop (suc i) p) a = lower i p
  at_first (pow i p q) a = sum R (scale R (power R a i) (at_first p a)) q

  -- in each variable, within its bound, the least number that leaves a form that is not 0
  abbrev pub first_point : List ℕ → Form A → List ℕ
  first_point [] x = []
  first_point (d ∷ ds) x =
      let a = least (suc d) (λ b. is_zero R (at_first x (nat R b))) 0 in
      a ∷ first_point ds (at_first x (nat R a))

-- ---- the least number that fails a test
-- what it finds: a number below the end, that fails, and before which all pass
pub record Least (t : ℕ → Bool) (a e r : ℕ) : Type 0 where
  pub low : a ≤ r
  pub high : r < e
  pub fails : t r ≡ false
  pub before : (b : ℕ) → a ≤ b → b < r → t b ≡ true

-- Measures put together field by field.
use Rattle.std.specs.Prelude.{◌≡◌, ℕ}
use Rattle.std.proofs.Common.{ap, ◌∙◌}
use Rattle.measure.specs.declared.Measures.{Measures}
use Rattle.measure.specs.Measure.{box_m}

abbrev pub of : ℕ → ℕ → ℕ → ℕ → ℕ → ℕ → Measures
of w t a b c d = record { weight = w; terms = t; d0 = a; d1 = b; d2 = c; d3 = d }

-- the box is worked out from the degrees that were worked out before
module _ (f : ℕ → ℕ) {w w' bx t a a' b b' c c' d d' : ℕ} where
  pub made :
      w ≡ w' → a ≡ a' → b ≡ b' → c ≡ c' → d ≡ d' → bx ≡ box_m a b c d → t ≡ f bx →
      of w t a b c d ≡ of w' (f (box_m a' b' c' d')) a' b' c' d'
  made ew ea eb ec ed ex et =
      ap (λ t. of w t a b c d) (et ∙ ap f ex) ∙ (λ i. of (ew i) (f (box_m (ea i) (eb i) (ec i) (ed i))) (ea i) (eb i) (ec i) (ed i))

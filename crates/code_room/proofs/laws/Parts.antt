-- The parts of a form with bounds: what is known of a form that stands i variables further down.
use Rattle.std.specs.Prelude.{List, [], ◌∷◌, ◌≡◌, ℕ, zero, suc, ◌+◌, ◌-◌, ◌≤◌}
use Rattle.std.proofs.Common.{◌∙◌, ap, subst, arith}
use Rattle.horner.specs.definitions.Form.{Form, pop, pow, lower, Normal, after}
use Rattle.horner.specs.laws.Degree.{Bounded}
use Rattle.horner.specs.definitions.Measures.{first_or0}
use Rattle.horner.proofs.laws.Value.{after-add}
use Rattle.code.specs.Widths.{Leaf, ring_of}
use Rattle.code_room.specs.Fit.{Within}
use Rattle.code_room.specs.laws.Lists.{cut}

module _ {w n c : ℕ} {ds : List ℕ} where
  -- the p of a POP
  pub under-pop : (i : ℕ) (p : Form (Leaf w)) → Within w n c ds (pop i p) → Within w (n - i) c (after i ds) p
  under-pop i p h = record { normal = h.normal.2; bounded = h.bounded; few = h.few }

  -- what is left of a POP j variables down: (POP i-j p), or p where i is j
  below : (i j d : ℕ) (p : Form (Leaf w)) → i ≡ j + d → Within w n c ds (pop i p) → Within w (n - j) c (after j ds) (lower d p)
  below i j zero p e h =
      let k : i ≡ j = omega arith in
      subst (λ z. Within w (n - z) c (after z ds) p) k (under-pop i p h)
  below i j (suc d) p e h =
      let m : n - i ≡ n - j - suc d = omega arith in
      record {
        normal = (omega arith, h.normal.1, subst (λ z. Normal (ring_of w) z p) m h.normal.2);
        bounded = subst (λ z. Bounded z p) (ap (λ z. after z ds) e ∙ after-add j (suc d) ds) h.bounded;
        few = h.few;
      }

  pub under-lower : (i j : ℕ) (p : Form (Leaf w)) → j ≤ i → Within w n c ds (pop i p) → Within w (n - j) c (after j ds) (lower (i - j) p)
  under-lower i j p l = below i j (i - j) p (omega arith)

-- the q of a POW
pub under_pow : {w n c : ℕ} (ds : List ℕ) (i : ℕ) (p q : Form (Leaf w)) → Within w n c ds (pow i p q) → Within w (n - 1) c (after 1 ds) q
under_pow [] i p q h = absurd h.bounded
under_pow (d ∷ ds) i p q h = record { normal = h.normal.4; bounded = h.bounded.2; few = omega (arith, h.few) }

-- the p of a POW
pub within-cut : {w n c : ℕ} (ds : List ℕ) (i : ℕ) (p q : Form (Leaf w)) → Within w n c ds (pow i p q) → Within w n c (cut i ds) p
within-cut [] i p q h = absurd h.bounded
within-cut (d ∷ ds) i p q h = record { normal = h.normal.2; bounded = h.bounded.1; few = omega (arith, h.few) }

pub exponent-le : {w n c : ℕ} (ds : List ℕ) (i : ℕ) (p q : Form (Leaf w)) → Within w n c ds (pow i p q) → i ≤ first_or0 ds
exponent-le [] i p q h = absurd h.bounded
exponent-le (d ∷ ds) i p q h = h.bounded.0

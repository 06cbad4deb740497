-- The numbers of the limits, of measures as code has them and of a subterm as document 01 has it: they are the same.
use Rattle.std.specs.Prelude.{◌≡◌, ◌⊎◌, true, List, [], ◌∷◌, ℕ, zero, suc, ◌≤◌, ◌<◌, min, length, get_or}
use Rattle.std.proofs.Common.{sym, ◌∙◌, subst, inl, inr, arith, lt-ltb, le-ltb}
use Rattle.horner.specs.definitions.Measures.{weight_of, degrees_of, terms_of, AllLe}
use Rattle.horner.proofs.laws.Compare.{lt-or-ge}
use Rattle.text.specs.definitions.Limits.{exponent_fits, over_limit}
use Rattle.text.specs.definitions.Tree.{Tree, term_of}
use Rattle.text_laws.specs.laws.Measured.{Measure, within, power-over, weight-over, terms-over, measure}
use Rattle.text_laws.specs.laws.Picks.{pick_yes, pick_no}
use Rattle.measure.specs.declared.Measures.{Measures}
use Rattle.measure.specs.Measure.{measures_of, Small, limit_m}
use Rattle.measure.specs.Made.{of}

-- ---- which limit is passed
pub data Limited (m : Measures) : Type 0 where
  fits : limit_m m ≡ 0 → Small m → Limited m
  degree-over : limit_m m ≡ 8 → (m.d0 ≤ 63 → m.d1 ≤ 63 → m.d2 ≤ 63 → m.d3 ≤ 63 → ⊥) → Limited m
  weight-passed : limit_m m ≡ 9 → (m.d0 ≤ 63) × ((m.d1 ≤ 63) × ((m.d2 ≤ 63) × (m.d3 ≤ 63))) → 1073741823 < m.weight → Limited m
  terms-passed :
      limit_m m ≡ 10 → (m.d0 ≤ 63) × ((m.d1 ≤ 63) × ((m.d2 ≤ 63) × (m.d3 ≤ 63))) → m.weight ≤ 1073741823 → 256 < m.terms → Limited m

pub limited : (m : Measures) → Limited m
limited m = at-0 (lt-or-ge 63 m.d0)
  where
    at-t : m.d0 ≤ 63 → m.d1 ≤ 63 → m.d2 ≤ 63 → m.d3 ≤ 63 → m.weight ≤ 1073741823 → (256 < m.terms) ⊎ (m.terms ≤ 256) → Limited m
    at-t a b c d w (inl h) =
        terms-passed (pick_no _ _ (le-ltb _ _ a) ∙ pick_no _ _ (le-ltb _ _ b) ∙ pick_no _ _ (le-ltb _ _ c) ∙ pick_no _ _ (le-ltb _ _ d)
        ∙ pick_no _ _ (le-ltb _ _ w) ∙ pick_yes _ _ (lt-ltb _ _ h)) (a, (b, (c, d))) w h
    at-t a b c d w (inr h) =
        fits (pick_no _ _ (le-ltb _ _ a) ∙ pick_no _ _ (le-ltb _ _ b) ∙ pick_no _ _ (le-ltb _ _ c) ∙ pick_no _ _ (le-ltb _ _ d)
        ∙ pick_no _ _ (le-ltb _ _ w) ∙ pick_no _ _ (le-ltb _ _ h))
        (record { weight-small = w; terms-small = h; small-0 = a; small-1 = b; small-2 = c; small-3 = d })

    at-w : m.d0 ≤ 63 → m.d1 ≤ 63 → m.d2 ≤ 63 → m.d3 ≤ 63 → (1073741823 < m.weight) ⊎ (m.weight ≤ 1073741823) → Limited m
    at-w a b c d (inl h) =
        weight-passed (pick_no _ _ (le-ltb _ _ a) ∙ pick_no _ _ (le-ltb _ _ b) ∙ pick_no _ _ (le-ltb _ _ c) ∙ pick_no _ _ (le-ltb _ _ d)
        ∙ pick_yes _ _ (lt-ltb _ _ h)) (a, (b, (c, d))) h
    at-w a b c d (inr h) = at-t a b c d h (lt-or-ge 256 m.terms)

    at-3 : m.d0 ≤ 63 → m.d1 ≤ 63 → m.d2 ≤ 63 → (63 < m.d3) ⊎ (m.d3 ≤ 63) → Limited m
    at-3 a b c (inl h) =
        degree-over (pick_no _ _ (le-ltb _ _ a) ∙ pick_no _ _ (le-ltb _ _ b) ∙ pick_no _ _ (le-ltb _ _ c) ∙ pick_yes _ _ (lt-ltb _ _ h))
        (λ p q r s. omega arith)
    at-3 a b c (inr h) = at-w a b c h (lt-or-ge 1073741823 m.weight)

    at-2 : m.d0 ≤ 63 → m.d1 ≤ 63 → (63 < m.d2) ⊎ (m.d2 ≤ 63) → Limited m
    at-2 a b (inl h) =
        degree-over (pick_no _ _ (le-ltb _ _ a) ∙ pick_no _ _ (le-ltb _ _ b) ∙ pick_yes _ _ (lt-ltb _ _ h)) (λ p q r s. omega arith)
    at-2 a b (inr h) = at-3 a b h (lt-or-ge 63 m.d3)

    at_1 : m.d0 ≤ 63 → (63 < m.d1) ⊎ (m.d1 ≤ 63) → Limited m
    at_1 a (inl h) = degree-over (pick_no _ _ (le-ltb _ _ a) ∙ pick_yes _ _ (lt-ltb _ _ h)) (λ p q r s. omega arith)
    at_1 a (inr h) = at-2 a h (lt-or-ge 63 m.d2)

    at-0 : (63 < m.d0) ⊎ (m.d0 ≤ 63) → Limited m
    at-0 (inl h) = degree-over (pick_yes _ _ (lt-ltb _ _ h)) (λ p q r s. omega arith)
    at-0 (inr h) = at_1 h (lt-or-ge 63 m.d1)

small : (m : Measures) → Limited m → limit_m m ≡ 0 → Small m
small m (fits z s) z' = s
small m (degree-over z n) z' = absurd (omega arith)
small m (weight-passed z a l) z' = absurd (omega arith)
small m (terms-passed z a w l) z' = absurd (omega arith)

-- no limit is passed
pub is-small : (m : Measures) → limit_m m ≡ 0 → Small m
is-small m z = small m (limited m) z

-- ---- degrees as a list and as four numbers
pub degree-63 : (ds : List ℕ) (i : ℕ) → AllLe 63 ds → get_or ds i 0 ≤ 63
degree-63 [] i h = omega arith
degree-63 (d ∷ ds) zero h = h.0
degree-63 (d ∷ ds) (suc i) h = degree-63 ds i h.1

pub all-63 : (ds : List ℕ) → length ds ≤ 4 → get_or ds 0 0 ≤ 63 → get_or ds 1 0 ≤ 63 → get_or ds 2 0 ≤ 63 → get_or ds 3 0 ≤ 63 → AllLe 63 ds
all-63 [] l p q r s = tt
all-63 (a ∷ []) l p q r s = (p, tt)
all-63 (a ∷ b ∷ []) l p q r s = (p, (q, tt))
all-63 (a ∷ b ∷ c ∷ []) l p q r s = (p, (q, (r, tt)))
all-63 (a ∷ b ∷ c ∷ d ∷ []) l p q r s = (p, (q, (r, (s, tt))))
all-63 (a ∷ b ∷ c ∷ d ∷ e ∷ ds) l p q r s = absurd (omega arith)

-- ---- measures that stand for a subterm's, what may be large being cut down
pub record Meets (row : List ℕ) (t : Tree) (m : Measures) : Type 0 where
  pub at-0 : m.d0 ≡ get_or (degrees_of (length row) (term_of row t)) 0 0
  pub at_1 : m.d1 ≡ get_or (degrees_of (length row) (term_of row t)) 1 0
  pub at-2 : m.d2 ≡ get_or (degrees_of (length row) (term_of row t)) 2 0
  pub at-3 : m.d3 ≡ get_or (degrees_of (length row) (term_of row t)) 3 0
  pub of-weight : min m.weight 1073741824 ≡ min (weight_of (term_of row t)) 1073741824
  pub of-terms : AllLe 63 (degrees_of (length row) (term_of row t)) → m.terms ≡ terms_of (length row) (term_of row t)

module _ (row : List ℕ) (t : Tree) (short : length (degrees_of (length row) (term_of row t)) ≤ 4) (e : exponent_fits t ≡ true)
    (m : Measures) (M : Meets row t m) where
  all_of : m.d0 ≤ 63 → m.d1 ≤ 63 → m.d2 ≤ 63 → m.d3 ≤ 63 → AllLe 63 (degrees_of (length row) (term_of row t))
  all_of p q r s =
      all-63 (degrees_of (length row) (term_of row t)) short (subst (λ z. z ≤ 63) M.at-0 p) (subst (λ z. z ≤ 63) M.at_1 q)
      (subst (λ z. z ≤ 63) M.at-2 r) (subst (λ z. z ≤ 63) M.at-3 s)

  each : AllLe 63 (degrees_of (length row) (term_of row t)) → (m.d0 ≤ 63) × ((m.d1 ≤ 63) × ((m.d2 ≤ 63) × (m.d3 ≤ 63)))
  each a = (
    subst (λ z. z ≤ 63) (sym M.at-0) (degree-63 (degrees_of (length row) (term_of row t)) 0 a),
    (
      subst (λ z. z ≤ 63) (sym M.at_1) (degree-63 (degrees_of (length row) (term_of row t)) 1 a),
      (
        subst (λ z. z ≤ 63) (sym M.at-2) (degree-63 (degrees_of (length row) (term_of row t)) 2 a),
        subst (λ z. z ≤ 63)
            (sym M.at-3) (degree-63 (degrees_of (length row) (term_of row t)) 3 a),
      ),
    ),
  )

  exact : Small m → m ≡ measures_of (length row) (term_of row t)
  exact s =
      let w : m.weight ≡ weight_of (term_of row t) = omega (arith, M.of-weight, s.weight-small) in
      let k : m.terms ≡ terms_of (length row) (term_of row t) = M.of-terms (all_of s.small-0 s.small-1 s.small-2 s.small-3) in
      λ i. of (w i) (k i) (M.at-0 i) (M.at_1 i) (M.at-2 i) (M.at-3 i)

  number : Measure row t (over_limit row t) → Limited m → over_limit row t ≡ limit_m m
  number (within z h) (fits z' s) = z ∙ sym z'
  number (within z h) (degree-over z' n) = let a = each h.degrees in absurd (n a.0 a.1.0 a.1.1.0 a.1.1.1)
  number (within z h) (weight-passed z' a l) = absurd (omega (arith, h.weight, M.of-weight))
  number (within z h) (terms-passed z' a w l) = absurd (omega (arith, h.terms, M.of-terms h.degrees))
  number (power-over z n) (fits z' s) = absurd (n (e, all_of s.small-0 s.small-1 s.small-2 s.small-3))
  number (power-over z n) (degree-over z' k) = z ∙ sym z'
  number (power-over z n) (weight-passed z' a l) = absurd (n (e, all_of a.0 a.1.0 a.1.1.0 a.1.1.1))
  number (power-over z n) (terms-passed z' a w l) = absurd (n (e, all_of a.0 a.1.0 a.1.1.0 a.1.1.1))
  number (weight-over z x d l) (fits z' s) = absurd (omega (arith, s.weight-small, M.of-weight))
  number (weight-over z x d l) (degree-over z' n) = let a = each d in absurd (n a.0 a.1.0 a.1.1.0 a.1.1.1)
  number (weight-over z x d l) (weight-passed z' a k) = z ∙ sym z'
  number (weight-over z x d l) (terms-passed z' a w k) = absurd (omega (arith, M.of-weight))
  number (terms-over z x d w l) (fits z' s) = absurd (omega (arith, s.terms-small, M.of-terms d))
  number (terms-over z x d w l) (degree-over z' n) = let a = each d in absurd (n a.0 a.1.0 a.1.1.0 a.1.1.1)
  number (terms-over z x d w l) (weight-passed z' a k) = absurd (omega (arith, M.of-weight))
  number (terms-over z x d w l) (terms-passed z' a v k) = z ∙ sym z'

  pub same_number : over_limit row t ≡ limit_m m
  same_number = number (measure row t) (limited m)

  -- within the limits nothing was cut
  pub is-exact : limit_m m ≡ 0 → m ≡ measures_of (length row) (term_of row t)
  is-exact z = exact (is-small m z)

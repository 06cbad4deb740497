-- "degree the highest power": each of a form's degrees is the highest power of its variable among the monomials whose coefficient is not
-- 0.
use Rattle.std.specs.Prelude.{false, List, [], ◌∷◌, ◌⊎◌, ◌≡◌, refl, ℕ, zero, suc, ◌+◌, ◌-◌, ◌≤◌, ◌<◌, max, length, get_or}
use Rattle.std.proofs.Common.{true≢false, inl, inr, sym, ◌∙◌, ap, arith}
use Rattle.std.proofs.Math.Nat as NatL
use Rattle.std.proofs.Math.ListN.{get_or-eq_default}
use Rattle.horner.specs.definitions.Measures.{shift, coefs, coef_of, coef_at, zeros, first_or0, maxs, degrees}
use Rattle.horner.specs.definitions.Form.{Form, int, pop, pow, is_zero, zero_form, Normal, tl}
use Rattle.horner.proofs.laws.Degree.{length-zeros, length-tl, length-degrees}
use Rattle.horner.specs.laws.Degree.{Bounded}
use Rattle.horner.specs.definitions.Points.{InBox}
use Rattle.horner.specs.definitions.Rings.{Ring}
use Rattle.horner.proofs.laws.Coefficients.{coef_at-zero, bounded-coef_of}
use Rattle.horner.proofs.laws.Compare.{lt-or-ge}
use Rattle.horner.proofs.laws.Grid.{length-coefs}
use Rattle.horner.proofs.laws.Normal.{lead-not-zero, pow-not-zero, pow-level}

-- ---- lists
zeros-at : (i j : ℕ) (ks ls : List ℕ) → get_or ks (j - i) 0 ≡ get_or ls (j - i) 0 → get_or (zeros i ks) j 0 ≡ get_or (zeros i ls) j 0
zeros-at zero j ks ls e = ap (λ m. get_or ks m 0) same_place ∙ e ∙ ap (λ m. get_or ls m 0) (sym same_place)
  where
    same_place : j ≡ j - 0
    same_place = omega arith
zeros-at (suc i) zero ks ls e = refl
zeros-at (suc i) (suc j) ks ls e = zeros-at i j ks ls (ap (λ m. get_or ks m 0) one_less ∙ e ∙ ap (λ m. get_or ls m 0) (sym one_less))
  where
    one_less : j - i ≡ suc j - suc i
    one_less = omega arith

pub zeros-zero : (n j : ℕ) → get_or (zeros n []) j 0 ≡ 0
zeros-zero zero j = refl
zeros-zero (suc n) zero = refl
zeros-zero (suc n) (suc j) = zeros-zero n j

pub first-get_d : (ds : List ℕ) → first_or0 ds ≡ get_or ds 0 0
first-get_d [] = refl
first-get_d (d ∷ ds) = refl

pub tl-get_d : (ds : List ℕ) (j : ℕ) → get_or (tl ds) j 0 ≡ get_or ds (suc j) 0
tl-get_d [] j = refl
tl-get_d (d ∷ ds) j = refl

pub maxs-get_d : (ds es : List ℕ) (j : ℕ) → length es ≡ length ds → get_or (maxs ds es) j 0 ≡ max (get_or ds j 0) (get_or es j 0)
maxs-get_d [] [] j h = omega arith
maxs-get_d [] (e ∷ es) j h = absurd (omega arith)
maxs-get_d (d ∷ ds) [] j h = absurd (omega arith)
maxs-get_d (d ∷ ds) (e ∷ es) zero h = refl
maxs-get_d (d ∷ ds) (e ∷ es) (suc j) h = maxs-get_d ds es j (omega arith)

module _ {A : Type 0} (R : Ring A) where
  open R use {nil, is_nil, is_nil-nil}

  -- ---- no power above the bounds
  none_above : (k d : ℕ) (ds : List ℕ) (x : Form A) → Bounded (d ∷ ds) x → d < k → coef_of R k x ≡ zero_form R
  none_above k d ds x b l = get_or-eq_default (coefs R x) (zero_form R) {n = k} (omega (arith, length-coefs R d ds x b))

  pub in_bounds : (ds ks : List ℕ) (x : Form A) → Bounded ds x → length ks ≡ length ds → (coef_at R ks x ≡ nil → ⊥) → InBox ds ks
  in_bounds [] [] x b l c = tt
  in_bounds [] (k ∷ ks) x b l c = absurd (omega arith)
  in_bounds (d ∷ ds) [] x b l c = absurd (omega arith)
  in_bounds (d ∷ ds) (k ∷ ks) x b l c = (at (lt-or-ge d k), in_bounds ds ks (coef_of R k x) (bounded-coef_of R k d ds x b) (omega arith) c)
    where
      at : (d < k) ⊎ (k ≤ d) → k ≤ d
      at (inl m) = absurd (c (ap (coef_at R ks) (none_above k d ds x b m) ∙ coef_at-zero R ks))
      at (inr m) = m

  -- ---- coefficients of a node
  get_d-shift : (i k : ℕ) (ps : List (Form A)) → get_or (shift R i ps) (i + k) (zero_form R) ≡ get_or ps k (zero_form R)
  get_d-shift zero k ps = rw NatL.zero-add
  get_d-shift (suc i) k ps = rw NatL.suc-add (get_d-shift i k ps)

  coef_at-int : (n : ℕ) (c : A) → coef_at R (zeros n []) (int c) ≡ c
  coef_at-int zero c = refl
  coef_at-int (suc n) c = coef_at-int n c

  coef_at-pop : (i : ℕ) (ks : List ℕ) (p : Form A) → coef_at R (zeros (suc i) ks) (pop (suc i) p) ≡ coef_at R ks p
  coef_at-pop zero ks p = refl
  coef_at-pop (suc i) ks p = coef_at-pop i ks p

  coef_at-pow : (i k : ℕ) (ks : List ℕ) (p q : Form A) → coef_at R ((suc i + k) ∷ ks) (pow (suc i) p q) ≡ coef_at R (k ∷ ks) p
  coef_at-pow i k ks p q = rw NatL.suc-add (ap (coef_at R ks) (get_d-shift i k (coefs R p)))

  -- ---- a monomial that has the highest power of the variable j
  pub record Reaches (n j : ℕ) (x : Form A) : Type 0 where
    pub powers : List ℕ
    pub long : length powers ≡ n
    pub highest : get_or powers j 0 ≡ get_or (degrees n x) j 0
    pub counts : coef_at R powers x ≡ nil → ⊥

  not-nil : (c : A) → is_nil c ≡ false → c ≡ nil → ⊥
  not-nil c h e = true≢false (sym is_nil-nil ∙ ap is_nil (sym e) ∙ h)

  in-pop : (n i j : ℕ) (p : Form A) → suc i ≤ n → Reaches (n - suc i) (j - suc i) p → Reaches n j (pop (suc i) p)
  in-pop n i j p l r =
      record {
        powers = zeros (suc i) r.powers;
        long = length-zeros (suc i) r.powers ∙ omega (arith, r.long);
        highest = zeros-at (suc i) j r.powers (degrees (n - suc i) p) r.highest;
        counts = λ e. r.counts (sym (coef_at-pop i r.powers p) ∙ e);
      }

  -- from the p: its power of the first variable, and i more
  in-lead : (n i j : ℕ) (p q : Form A) → 1 ≤ n → (r : Reaches n j p)
      → ((k : ℕ) (ks : List ℕ) → r.powers ≡ k ∷ ks → get_or ((suc i + k) ∷ ks) j 0 ≡ get_or (degrees n (pow (suc i) p q)) j 0)
      → Reaches n j (pow (suc i) p q)
  in-lead n i j p q l r top = at r.powers refl
    where
      at : (ps : List ℕ) → r.powers ≡ ps → Reaches n j (pow (suc i) p q)
      at [] e = absurd (omega (arith, r.long, ap length e))
      at (k ∷ ks) e =
          record {
            powers = (suc i + k) ∷ ks;
            long = sym (ap length e) ∙ r.long;
            highest = top k ks e;
            counts = λ z. r.counts (ap (λ w. coef_at R w p) e ∙ sym (coef_at-pow i k ks p q) ∙ z);
          }

  -- from the q: the first variable is not in it
  in-rest : (n i j : ℕ) (p q : Form A) → 1 ≤ n → Reaches (n - 1) j q
      → get_or (degrees (n - 1) q) j 0 ≡ get_or (degrees n (pow (suc i) p q)) (suc j) 0
      → Reaches n (suc j) (pow (suc i) p q)
  in-rest n i j p q l r top =
      record { powers = 0 ∷ r.powers; long = omega (arith, r.long); highest = r.highest ∙ top; counts = r.counts }

  -- what a power above 0 says of a form
  not-zero : (n j : ℕ) (q : Form A) → 0 < get_or (degrees n q) j 0 → is_zero R q ≡ false
  not-zero n j (int c) h = absurd (omega (arith, zeros-zero n j))
  not-zero n j (pop i p) h = refl
  not-zero n j (pow i p q) h = refl

  -- a variable after the first: the larger power of the two parts
  in_either : (n i j : ℕ) (p q : Form A) → Normal R n (pow (suc i) p q) → Reaches n (suc j) p → (is_zero R q ≡ false → Reaches (n - 1) j q)
      → Reaches n (suc j) (pow (suc i) p q)
  in_either n i j p q h r s = at (lt-or-ge (get_or (tl (degrees n p)) j 0) (get_or (degrees (n - 1) q) j 0))
    where
      lengths : length (degrees (n - 1) q) ≡ length (tl (degrees n p))
      lengths = length-degrees R (n - 1) q h.4 ∙ sym (length-tl (degrees n p) ∙ ap (λ m. m - 1) (length-degrees R n p h.2))

      larger : get_or (maxs (tl (degrees n p)) (degrees (n - 1) q)) j 0 ≡ max (get_or (tl (degrees n p)) j 0) (get_or (degrees (n - 1) q) j 0)
      larger = maxs-get_d (tl (degrees n p)) (degrees (n - 1) q) j lengths

      at : (get_or (tl (degrees n p)) j 0 < get_or (degrees (n - 1) q) j 0) ⊎ (get_or (degrees (n - 1) q) j 0 ≤ get_or (tl (degrees n p)) j 0)
          → Reaches n (suc j) (pow (suc i) p q)
      at (inl m) = in-rest n i j p q h.1 (s (not-zero (n - 1) j q (omega arith))) (sym (larger ∙ omega arith))
      at (inr m) =
          in-lead n i (suc j) p q h.1 r
          (λ k ks e. sym (ap (λ ps. get_or ps (suc j) 0) e) ∙ r.highest ∙ sym (tl-get_d (degrees n p) j) ∙ sym (larger ∙ omega arith))

  pub reaches : (n j : ℕ) (x : Form A) → j < n → Normal R n x → is_zero R x ≡ false → Reaches n j x
  reaches n j (int c) l h z =
      record {
        powers = zeros n [];
        long = length-zeros n [] ∙ omega arith;
        highest = refl;
        counts = λ e. not-nil c z (sym (coef_at-int n c) ∙ e);
      }
  reaches n j (pop zero p) l h z = absurd (omega (arith, h.0))
  reaches n j (pop (suc i) p) l h z =
      let lev : 1 ≤ n - suc i = pow-level R (n - suc i) p h.1 h.2 in
      in-pop n i j p (omega arith) (reaches (n - suc i) (j - suc i) p (omega arith) h.2 (pow-not-zero R p h.1))
  reaches n j (pow zero p q) l h z = absurd (omega (arith, h.0))
  reaches n zero (pow (suc i) p q) l h z =
      let r = reaches n zero p l h.2 (lead-not-zero R p h.3) in
      in-lead n i zero p q h.1 r
      (λ k ks e. ap (λ m. suc i + m) (sym (ap (λ ps. get_or ps 0 0) e) ∙ r.highest ∙ sym (first-get_d (degrees n p))))
  reaches n (suc j) (pow (suc i) p q) l h z =
      in_either n i j p q h (reaches n (suc j) p l h.2 (lead-not-zero R p h.3)) (λ e. reaches (n - 1) j q (omega arith) h.4 e)

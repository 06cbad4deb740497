-- The measures of a form from those of its parts.
use Rattle.std.specs.Prelude.{false, cond, List, [], ◌∷◌, ◌⊎◌, ◌≡◌, refl, ℕ, zero, suc, ◌+◌, ◌-◌, ◌≤◌, ◌<◌, min, max, eqb, ℤ, pos, negsuc, nat_abs, length, get_or}
use Rattle.std.proofs.Common.{inl, inr, sym, ap, ◌∙◌, arith, eq-eqb, ne_eqb}
use Rattle.horner.specs.definitions.Form.{Form, int, pop, pow, Normal, tl}
use Rattle.horner.specs.definitions.Rings.{ℤ_ring, is_zero_ℤ}
use Rattle.horner.specs.definitions.Measures.{zeros, first_or0, maxs, weight, count, degrees}
use Rattle.horner.proofs.laws.Compare.{lt-or-ge}
use Rattle.horner.proofs.laws.Degree.{length-degrees, length-tl}
use Rattle.text_laws.specs.laws.Picks.{pick}
use Rattle.measure.specs.declared.Measures.{Measures}
use Rattle.form_head.specs.declared.Kind.{Kind}
use Rattle.form_head.specs.declared.Kind.TheVariants.{Pop, Pow}
use Rattle.form_head.specs.Heads.{is_node, Stands, Headed}
use Rattle.form_head.specs.laws.Parts.{pop-part, pow_left, pow_right, ends-int, ends-pop, ends-pow}
use Rattle.form_build.specs.Measure.{behind, degree_at, cut_of, leaf_m, later_m, pop_m, pow_m, MeasuredAt}

-- ---- the degrees of the definitions
zeros-at : (n k : ℕ) → get_or (zeros n []) k 0 ≡ 0
zeros-at zero k = refl
zeros-at (suc n) zero = refl
zeros-at (suc n) (suc k) = zeros-at n k

behind-at : (i : ℕ) (ds : List ℕ) (d : ℕ → ℕ) → ((k : ℕ) → get_or ds k 0 ≡ d k) → (k : ℕ) → get_or (zeros i ds) k 0 ≡ behind i d k
behind-at zero ds d h k = h k
behind-at (suc i) ds d h zero = refl
behind-at (suc i) ds d h (suc k) = behind-at i ds d h k

first-at : (ds : List ℕ) → first_or0 ds ≡ get_or ds 0 0
first-at [] = refl
first-at (d ∷ ds) = refl

tail_at : (ds : List ℕ) (k : ℕ) → get_or (tl ds) k 0 ≡ get_or ds (suc k) 0
tail_at [] k = refl
tail_at (d ∷ ds) k = refl

maxs-at : (ds es : List ℕ) (k : ℕ) → length es ≡ length ds → get_or (maxs ds es) k 0 ≡ max (get_or ds k 0) (get_or es k 0)
maxs-at [] [] k h = refl
maxs-at [] (e ∷ es) k h = absurd (omega arith)
maxs-at (d ∷ ds) [] k h = absurd (omega arith)
maxs-at (d ∷ ds) (e ∷ es) zero h = refl
maxs-at (d ∷ ds) (e ∷ es) (suc k) h = maxs-at ds es k (omega arith)

pub degree-at : (n : ℕ) (g : Form ℤ) → Normal ℤ_ring n g → (k : ℕ) → get_or (degrees n g) k 0 ≡ degree_at g k
degree-at n (int z) h k = zeros-at n k
degree-at n (pop i p) h k = behind-at i (degrees (n - i) p) (degree_at p) (degree-at (n - i) p h.2) k
degree-at n (pow i p q) h zero = ap (λ d. i + d) (first-at (degrees n p) ∙ degree-at n p h.2 0)
degree-at n (pow i p q) h (suc k) =
    let e = length-degrees ℤ_ring (n - 1) q h.4 in
    maxs-at (tl (degrees n p)) (degrees (n - 1) q) k (omega (arith, e, length-tl (degrees n p), length-degrees ℤ_ring n p h.2))
    ∙ ap (λ d. max d (get_or (degrees (n - 1) q) k 0)) (tail_at (degrees n p) k ∙ degree-at n p h.2 (suc k))
    ∙ ap (max (degree_at p (suc k))) (degree-at (n - 1) q h.4 k)

-- ---- a leaf
leaf-count : (z : ℤ) (number : ℕ) → number ≡ min (nat_abs z) 1073741824 → pick (eqb number 0) 0 1 ≡ min (cond (is_zero_ℤ z) 0 1) 257
unfolding pick
leaf-count (pos zero) number e = ap (λ b. pick b 0 1) (eq-eqb number 0 (omega (arith, e)))
leaf-count (pos (suc n)) number e = ap (λ b. pick b 0 1) (ne_eqb number 0 (λ f. omega (arith, e, f)))
leaf-count (negsuc n) number e = ap (λ b. pick b 0 1) (ne_eqb number 0 (λ f. omega (arith, e, f)))

leaf-cut : (z : ℤ) (number : ℕ) → number ≡ min (nat_abs z) 1073741824 → leaf_m number ≡ cut_of (int z)
leaf-cut z number e = λ i. record { weight = e i; terms = leaf-count z number e i; d0 = 0; d1 = 0; d2 = 0; d3 = 0 }

-- ---- a POP
pop-cut : (i : ℕ) (p : Form ℤ) → pop_m i (cut_of p) ≡ cut_of (pop i p)
pop-cut zero p = refl
pop-cut (suc i) p = ap later_m (pop-cut i p)

-- more than 3 variables are as many as 64
behind-far : (i : ℕ) (d : ℕ → ℕ) (k : ℕ) → k < i → behind i d k ≡ 0
behind-far zero d k h = absurd (omega arith)
behind-far (suc i) d zero h = refl
behind-far (suc i) d (suc k) h = behind-far i d k (omega arith)

behind-64 : (i : ℕ) (d : ℕ → ℕ) (k : ℕ) → k ≤ 3 → behind (min i 64) d k ≡ behind i d k
behind-64 i d k h = go (lt-or-ge 64 i)
  where
    go : (64 < i) ⊎ (i ≤ 64) → behind (min i 64) d k ≡ behind i d k
    go (inl f) = behind-far (min i 64) d k (omega arith) ∙ sym (behind-far i d k (omega arith))
    go (inr f) = ap (λ j. behind j d k) (let z : min i 64 ≡ i = omega arith in z)

far-cut : (i : ℕ) (p : Form ℤ) → cut_of (pop (min i 64) p) ≡ cut_of (pop i p)
far-cut i p =
    let d = degree_at p in
    λ j.
    record {
      weight = min (weight p) 1073741824;
      terms = min (count ℤ_ring p) 257;
      d0 = min (behind-64 i d 0 (omega arith) j) 64;
      d1 = min (behind-64 i d 1 (omega arith) j) 64;
      d2 = min (behind-64 i d 2 (omega arith) j) 64;
      d3 = min (behind-64 i d 3 (omega arith) j) 64;
    }

-- ---- a POW
cut_sum : (a b K : ℕ) → min (min a K + min b K) K ≡ min (a + b) K
cut_sum a b K = omega arith

cut-max : (a b K : ℕ) → max (min a K) (min b K) ≡ min (max a b) K
cut-max a b K = omega arith

pow-cut : (i : ℕ) (p q : Form ℤ) → pow_m (min i 64) (cut_of p) (cut_of q) ≡ cut_of (pow i p q)
pow-cut i p q =
    λ j.
    record {
      weight = cut_sum (weight p) (weight q) 1073741824 j;
      terms = cut_sum (count ℤ_ring p) (count ℤ_ring q) 257 j;
      d0 = cut_sum i (degree_at p 0) 64 j;
      d1 = cut-max (degree_at p 1) (degree_at q 0) 64 j;
      d2 = cut-max (degree_at p 2) (degree_at q 1) 64 j;
      d3 = cut-max (degree_at p 3) (degree_at q 2) 64 j;
    }

-- ---- node by node
module _ {s : List ℕ} {at : ℕ} {kind : Kind} {number first : ℕ} (H : Headed s at kind number first) where
  pub int-measured : is_node kind ≡ false → (r : Measures) → r ≡ leaf_m number → MeasuredAt s at r first
  int-measured k r e = record { ends = ends-int H k; is = go }
    where
      go : (g : Form ℤ) (rest : List ℕ) → Stands s at g rest → r ≡ cut_of g
      go (int z) rest h = e ∙ leaf-cut z number (H _ _ h).is_number
      go (pop i p) rest h = absurd (cc (k, ap is_node (H _ _ h).is-kind))
      go (pow i p q) rest h = absurd (cc (k, ap is_node (H _ _ h).is-kind))

  module _ {a : Measures} {mid : ℕ} (A : MeasuredAt s first a mid) where
    pub pop-measured : kind ≡ Pop → (r : Measures) → r ≡ pop_m number a → MeasuredAt s at r (mid + 1)
    pop-measured k r e = record { ends = ends-pop H mid k A.ends; is = go }
      where
        go : (g : Form ℤ) (rest : List ℕ) → Stands s at g rest → r ≡ cut_of g
        go (int (pos n)) rest h = absurd (cc (k, (H _ _ h).is-kind))
        go (int (negsuc n)) rest h = absurd (cc (k, (H _ _ h).is-kind))
        go (pop i p) rest h =
            e ∙ ap (pop_m number) (A.is p _ (pop-part H h)) ∙ pop-cut number p ∙ ap (λ z. cut_of (pop z p)) (H _ _ h).is_number
            ∙ far-cut i p
        go (pow i p q) rest h = absurd (cc (k, (H _ _ h).is-kind))

    pub pow-measured :
        kind ≡ Pow → {b : Measures} {next : ℕ} → MeasuredAt s (mid + 1) b next → (r : Measures) → r ≡ pow_m number a b →
        MeasuredAt s at r (next + 1)
    pow-measured k {b} {next} B r e = record { ends = ends-pow H mid A.ends next k B.ends; is = go }
      where
        go : (g : Form ℤ) (rest : List ℕ) → Stands s at g rest → r ≡ cut_of g
        go (int (pos n)) rest h = absurd (cc (k, (H _ _ h).is-kind))
        go (int (negsuc n)) rest h = absurd (cc (k, (H _ _ h).is-kind))
        go (pop i p) rest h = absurd (cc (k, (H _ _ h).is-kind))
        go (pow i p q) rest h =
            e ∙ ap (λ z. pow_m z a b) (H _ _ h).is_number
            ∙ ap (λ z. pow_m (min i 64) z b) (A.is p _ (pow_left H h))
            ∙ ap (pow_m (min i 64) (cut_of p)) (B.is q _ (pow_right H mid A.ends h))
            ∙ pow-cut i p q

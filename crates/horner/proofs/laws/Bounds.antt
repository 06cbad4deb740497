-- Degrees under the operations: a sum stays within the bounds of both summands, a product within the sums of its factors' bounds.
use Rattle.std.specs.Prelude.{List, [], ◌∷◌, ◌≡◌, refl, ℕ, zero, suc, ◌+◌, ◌-◌, ◌≤◌, length}
use Rattle.std.proofs.Common.{sym, ◌∙◌, ap, ap₂, subst, arith}
use Rattle.std.proofs.Math.Nat as NatL
use Rattle.horner.specs.definitions.Form.{Form, int, pop, pow, size, mkpop, lower, is_zero, zero_form, mkpow, add_int, sum_f, sum}
use Rattle.horner.specs.definitions.Form.{negate, scale, prod_f, prod, raise, tl, after}
use Rattle.horner.proofs.laws.Degree.{below-refl, bounded-mono}
use Rattle.horner.specs.laws.Degree.{Bounded, Below}
use Rattle.horner.specs.definitions.Measures.{first_or0, sums, multiples}
use Rattle.horner.specs.definitions.Rings.{Ring}
use Rattle.horner.proofs.laws.Compare.{cmp-cases}
use Rattle.horner.proofs.laws.Grid.{bounded-lower}
use Rattle.horner.proofs.laws.Tests.{cond_cases}
use Rattle.horner.proofs.laws.Value.{size-pos, after-add, lower-fits, lower-fits', size-mkpop}

module _ {A : Type 0} where
  -- bounds written another way
  within : {ds es : List ℕ} (p : Form A) → ds ≡ es → Bounded ds p → Bounded es p
  within p e h = subst (λ z. Bounded z p) e h

  -- the first bound written another way
  first : {d e : ℕ} (ds : List ℕ) (p : Form A) → d ≡ e → Bounded (d ∷ ds) p → Bounded (e ∷ ds) p
  first ds p e h = subst (λ z. Bounded (z ∷ ds) p) e h

  pub bounded-mkpop : (ds : List ℕ) (i : ℕ) (p : Form A) → Bounded (after i ds) p → Bounded ds (mkpop i p)
  bounded-mkpop ds zero p h = h
  bounded-mkpop ds (suc i) (int c) h = tt
  bounded-mkpop ds (suc i) (pop j q) h = within q (sym (after-add (suc i) j ds)) h
  bounded-mkpop ds (suc i) (pow j q r) h = h

module _ {A : Type 0} (R : Ring A) where
  open R use {is_nil}

  pub bounded-mkpow : (d : ℕ) (ds : List ℕ) (i : ℕ) (p q : Form A) → i ≤ d → Bounded ((d - i) ∷ ds) p → Bounded ds q
      → Bounded (d ∷ ds) (mkpow R i p q)
  bounded-mkpow d ds i (int c) q hi hp hq =
      cond_cases (is_nil c) (Bounded (d ∷ ds)) _ _ (λ e. bounded-mkpop (d ∷ ds) 1 q hq) (λ e. (hi, tt, hq))
  bounded-mkpow d ds i (pop j p) q hi hp hq = (hi, hp, hq)
  bounded-mkpow d ds i (pow j r s) q hi hp hq =
      cond_cases (is_zero R s) (Bounded (d ∷ ds)) _ _ (λ e. (omega (arith, hp.0), first ds r (omega arith) hp.1, hq))
      (λ e. (hi, hp, hq))

  -- ---- the sum
  pub bounded-add_int : (ds : List ℕ) (a : A) (y : Form A) → Bounded ds y → Bounded ds (add_int R a y)
  bounded-add_int ds a (int b) h = tt
  bounded-add_int ds a (pop i p) h = bounded-add_int (after i ds) a p h
  bounded-add_int [] a (pow i p q) h = absurd h
  bounded-add_int (d ∷ ds) a (pow i p q) h = (h.0, h.1, bounded-add_int ds a q h.2)

  pub bounded-sum_f : (k : ℕ) (ds : List ℕ) (x y : Form A) → size x + size y ≤ k → Bounded ds x → Bounded ds y → Bounded ds (sum_f R k x y)
  bounded-sum_f zero ds x y h hx hy = hx
  bounded-sum_f (suc k) ds (int a) y h hx hy = bounded-add_int ds a y hy
  bounded-sum_f (suc k) ds (pop i p) (int b) h hx hy = bounded-add_int ds b (pop i p) hx
  bounded-sum_f (suc k) ds (pop i p) (pop j q) h hx hy =
      cmp-cases i j (Bounded ds) _ _ _
      (λ e. bounded-mkpop ds i (sum_f R k p q)
      (bounded-sum_f k (after i ds) p q (omega arith) hx (within q (ap (λ z. after z ds) (sym e)) hy)))
      (λ d e. bounded-mkpop ds j (sum_f R k (pop (suc d) p) q)
      (bounded-sum_f k (after j ds) (pop (suc d) p) q (omega arith) (within p (ap (λ z. after z ds) e ∙ after-add j (suc d) ds) hx) hy))
      (λ d e. bounded-mkpop ds i (sum_f R k (pop (suc d) q) p)
      (bounded-sum_f k (after i ds) (pop (suc d) q) p (omega arith) (within q (ap (λ z. after z ds) e ∙ after-add i (suc d) ds) hy) hx))
  bounded-sum_f (suc k) ds (pop zero p) (pow j q r) h hx hy = bounded-sum_f k ds p (pow j q r) (omega arith) hx hy
  bounded-sum_f (suc k) [] (pop (suc i) p) (pow j q r) h hx hy = absurd hy
  bounded-sum_f (suc k) (d ∷ ds) (pop (suc i) p) (pow j q r) h hx hy =
      (hy.0, hy.1, bounded-sum_f k ds r (lower i p) (lower-fits R i p r k (omega arith)) hy.2 (bounded-lower R i p ds hx))
  bounded-sum_f (suc k) ds (pow j q r) (int b) h hx hy = bounded-add_int ds b (pow j q r) hx
  bounded-sum_f (suc k) ds (pow j q r) (pop zero p) h hx hy = bounded-sum_f k ds p (pow j q r) (omega arith) hy hx
  bounded-sum_f (suc k) [] (pow j q r) (pop (suc i) p) h hx hy = absurd hx
  bounded-sum_f (suc k) (d ∷ ds) (pow j q r) (pop (suc i) p) h hx hy =
      (hx.0, hx.1, bounded-sum_f k ds r (lower i p) (lower-fits R i p r k (omega arith)) hx.2 (bounded-lower R i p ds hy))
  bounded-sum_f (suc k) [] (pow i p q) (pow j r s) h hx hy = absurd hx
  bounded-sum_f (suc k) (d ∷ ds) (pow i p q) (pow j r s) h hx hy =
      cmp-cases i j (Bounded (d ∷ ds)) _ _ _
      (λ e. bounded-mkpow d ds i (sum_f R k p r) (sum_f R k q s) hx.0
      (bounded-sum_f k ((d - i) ∷ ds) p r (omega arith) hx.1 (first ds r (omega arith) hy.1))
      (bounded-sum_f k ds q s (omega arith) hx.2 hy.2))
      (λ m e. bounded-mkpow d ds j (sum_f R k (pow (suc m) p (zero_form R)) r) (sum_f R k q s) hy.0
      (bounded-sum_f k ((d - j) ∷ ds) (pow (suc m) p (zero_form R)) r (omega (arith, size-pos q))
      (omega (arith, hx.0), first ds p (omega arith) hx.1, tt) hy.1)
      (bounded-sum_f k ds q s (omega arith) hx.2 hy.2))
      (λ m e. bounded-mkpow d ds i (sum_f R k (pow (suc m) r (zero_form R)) p) (sum_f R k s q) hx.0
      (bounded-sum_f k ((d - i) ∷ ds) (pow (suc m) r (zero_form R)) p (omega (arith, size-pos s))
      (omega (arith, hy.0), first ds r (omega arith) hy.1, tt) hx.1)
      (bounded-sum_f k ds s q (omega arith) hy.2 hx.2))

  pub bounded-sum : (ds : List ℕ) (x y : Form A) → Bounded ds x → Bounded ds y → Bounded ds (sum R x y)
  bounded-sum ds x y hx hy = bounded-sum_f (size x + size y) ds x y (omega arith) hx hy

  pub bounded-negate : (ds : List ℕ) (x : Form A) → Bounded ds x → Bounded ds (negate R x)
  bounded-negate ds (int a) h = tt
  bounded-negate ds (pop i p) h = bounded-negate (after i ds) p h
  bounded-negate [] (pow i p q) h = absurd h
  bounded-negate (d ∷ ds) (pow i p q) h = (h.0, bounded-negate ((d - i) ∷ ds) p h.1, bounded-negate ds q h.2)

  pub bounded-scale : (ds : List ℕ) (a : A) (y : Form A) → Bounded ds y → Bounded ds (scale R a y)
  bounded-scale ds a (int b) h = tt
  bounded-scale ds a (pop i p) h = bounded-mkpop ds i (scale R a p) (bounded-scale (after i ds) a p h)
  bounded-scale [] a (pow i p q) h = absurd h
  bounded-scale (d ∷ ds) a (pow i p q) h =
      bounded-mkpow d ds i (scale R a p) (scale R a q) h.0 (bounded-scale ((d - i) ∷ ds) a p h.1) (bounded-scale ds a q h.2)

-- ---- the product: bounds added up, a missing one as 0

sums-nil : (es : List ℕ) → sums [] es ≡ es
sums-nil [] = refl
sums-nil (e ∷ es) = ap₂ ◌∷◌ (omega arith) (sums-nil es)

pub sums-comm : (ds es : List ℕ) → sums ds es ≡ sums es ds
sums-comm [] es = sums-nil es
sums-comm (d ∷ ds) [] = ap₂ ◌∷◌ (omega arith) (sym (sums-nil ds))
sums-comm (d ∷ ds) (e ∷ es) = ap₂ ◌∷◌ (omega arith) (sums-comm ds es)

tl-sums : (ds es : List ℕ) → tl (sums ds es) ≡ sums (tl ds) (tl es)
tl-sums ds [] = refl
tl-sums ds (e ∷ es) = refl

-- behind the first i
pub after-sums : (i : ℕ) (ds es : List ℕ) → after i (sums ds es) ≡ sums (after i ds) (after i es)
after-sums zero ds es = refl
after-sums (suc i) ds es = ap (after i) (tl-sums ds es) ∙ after-sums i (tl ds) (tl es)

pub length-sums : (ds es : List ℕ) → length ds ≡ length es → length (sums ds es) ≡ length es
length-sums ds [] h = h
length-sums [] (e ∷ es) h = absurd (omega arith)
length-sums (d ∷ ds) (e ∷ es) h = ap suc (length-sums ds es (omega arith))

-- once and k times
pub sums-multiples : (k : ℕ) (ds : List ℕ) → sums ds (multiples k ds) ≡ multiples (suc k) ds
sums-multiples k [] = refl
sums-multiples k (d ∷ ds) = ap₂ ◌∷◌ (omega (arith, NatL.suc-mul k d)) (sums-multiples k ds)

-- neither is lower than its part
pub sums-right : (ds es : List ℕ) → Below es (sums ds es)
sums-right ds [] = tt
sums-right ds (e ∷ es) = (omega arith, sums-right (tl ds) es)

module _ {A : Type 0} (R : Ring A) where
  -- Definition 11 (4)
  bounded-tail : (ds : List ℕ) (e : ℕ) (es : List ℕ) (j : ℕ) (t u : Form A) → j ≤ e → Bounded (sums ds ((e - j) ∷ es)) t
      → Bounded (sums (tl ds) es) u
      → Bounded (sums ds (e ∷ es)) (mkpow R j t u)
  bounded-tail ds e es j t u h ht hu =
      bounded-mkpow R (first_or0 ds + e) (sums (tl ds) es) j t u (omega arith) (first (sums (tl ds) es) t (omega arith) ht) hu

  pub bounded-prod_f : (k : ℕ) (ds es : List ℕ) (x y : Form A) → size x + size y ≤ k → Bounded ds x → Bounded es y
      → Bounded (sums ds es) (prod_f R k x y)
  bounded-prod_f zero ds es x y h hx hy = bounded-mono x ds (sums ds es) (subst (Below ds) (sums-comm es ds) (sums-right es ds)) hx
  bounded-prod_f (suc k) ds es (int a) y h hx hy = bounded-mono (scale R a y) es (sums ds es) (sums-right ds es) (bounded-scale R es a y hy)
  bounded-prod_f (suc k) ds es (pop i p) (int b) h hx hy =
      bounded-mono (scale R b (pop i p)) ds (sums ds es) (subst (Below ds) (sums-comm es ds) (sums-right es ds))
      (bounded-scale R ds b (pop i p) hx)
  bounded-prod_f (suc k) ds es (pop i p) (pop j q) h hx hy =
      cmp-cases i j (Bounded (sums ds es)) _ _ _
      (λ e. bounded-mkpop (sums ds es) i (prod_f R k p q) (within (prod_f R k p q) (sym (after-sums i ds es))
      (bounded-prod_f k (after i ds) (after i es) p q (omega arith) hx (within q (ap (λ z. after z es) (sym e)) hy))))
      (λ d e. bounded-mkpop (sums ds es) j (prod_f R k (pop (suc d) p) q) (within (prod_f R k (pop (suc d) p) q) (sym (after-sums j ds es))
      (bounded-prod_f k (after j ds) (after j es) (pop (suc d) p) q (omega arith)
      (within p (ap (λ z. after z ds) e ∙ after-add j (suc d) ds) hx) hy)))
      (λ d e. bounded-mkpop (sums ds es) i (prod_f R k (pop (suc d) q) p)
      (within (prod_f R k (pop (suc d) q) p) (sums-comm (after i es) (after i ds) ∙ sym (after-sums i ds es))
      (bounded-prod_f k (after i es) (after i ds) (pop (suc d) q) p (omega arith)
      (within q (ap (λ z. after z es) e ∙ after-add i (suc d) es) hy) hx)))
  bounded-prod_f (suc k) ds es (pop zero p) (pow j q r) h hx hy = bounded-prod_f k ds es p (pow j q r) (omega arith) hx hy
  bounded-prod_f (suc k) ds [] (pop (suc i) p) (pow j q r) h hx hy = absurd hy
  bounded-prod_f (suc k) ds (e ∷ es) (pop (suc i) p) (pow j q r) h hx hy =
      bounded-tail ds e es j (prod_f R k (pop (suc i) p) q) (prod_f R k (lower i p) r) hy.0
      (bounded-prod_f k ds ((e - j) ∷ es) (pop (suc i) p) q (omega arith) hx hy.1)
      (bounded-prod_f k (tl ds) es (lower i p) r (lower-fits' R i p r k (omega arith)) (bounded-lower R i p (tl ds) hx) hy.2)
  bounded-prod_f (suc k) ds es (pow j q r) (int b) h hx hy =
      bounded-mono (scale R b (pow j q r)) ds (sums ds es) (subst (Below ds) (sums-comm es ds) (sums-right es ds))
      (bounded-scale R ds b (pow j q r) hx)
  bounded-prod_f (suc k) ds es (pow j q r) (pop zero p) h hx hy =
      within (prod_f R k p (pow j q r)) (sums-comm es ds) (bounded-prod_f k es ds p (pow j q r) (omega arith) hy hx)
  bounded-prod_f (suc k) [] es (pow j q r) (pop (suc i) p) h hx hy = absurd hx
  bounded-prod_f (suc k) (d ∷ ds) es (pow j q r) (pop (suc i) p) h hx hy =
      within (mkpow R j (prod_f R k (pop (suc i) p) q) (prod_f R k (lower i p) r)) (sums-comm es (d ∷ ds))
      (bounded-tail es d ds j (prod_f R k (pop (suc i) p) q) (prod_f R k (lower i p) r) hx.0
      (bounded-prod_f k es ((d - j) ∷ ds) (pop (suc i) p) q (omega arith) hy hx.1)
      (bounded-prod_f k (tl es) ds (lower i p) r (lower-fits' R i p r k (omega arith)) (bounded-lower R i p (tl es) hy) hx.2))
  bounded-prod_f (suc k) [] es (pow i p q) (pow j r s) h hx hy = absurd hx
  bounded-prod_f (suc k) (d ∷ ds) [] (pow i p q) (pow j r s) h hx hy = absurd hy
  bounded-prod_f (suc k) (d ∷ ds) (e ∷ es) (pow i p q) (pow j r s) h hx hy =
      bounded-sum R ((d + e) ∷ sums ds es) (sum R one two) three (bounded-sum R ((d + e) ∷ sums ds es) one two
      (bounded-mkpow R (d + e) (sums ds es) (i + j) pr qs (omega (arith, hx.0, hy.0))
      (first (sums ds es) pr (added hx.0 hy.0) (bounded-prod_f k ((d - i) ∷ ds) ((e - j) ∷ es) p r (omega arith) hx.1 hy.1))
      (bounded-prod_f k ds es q s (omega arith) hx.2 hy.2))
      (bounded-mkpow R (d + e) (sums ds es) i ps (zero_form R) (omega (arith, hx.0))
      (bounded-mono ps ((d - i + 0) ∷ sums ds es) ((d + e - i) ∷ sums ds es) (omega (arith, hx.0), below-refl (sums ds es))
      (bounded-prod_f k ((d - i) ∷ ds) (0 ∷ es) p (mkpop 1 s) (omega (arith, size-mkpop R s)) hx.1
      (bounded-mkpop (0 ∷ es) 1 s hy.2))) tt))
      (bounded-mkpow R (d + e) (sums ds es) j rq (zero_form R) (omega (arith, hy.0))
      (bounded-mono rq ((e - j + 0) ∷ sums es ds) ((d + e - j) ∷ sums ds es)
      (omega (arith, hy.0), subst (Below (sums es ds)) (sums-comm es ds) (below-refl (sums es ds)))
      (bounded-prod_f k ((e - j) ∷ es) (0 ∷ ds) r (mkpop 1 q) (omega (arith, size-mkpop R q)) hy.1
      (bounded-mkpop (0 ∷ ds) 1 q hx.2))) tt)
    where
      pr : Form A
      pr = prod_f R k p r

      qs : Form A
      qs = prod_f R k q s

      ps : Form A
      ps = prod_f R k p (mkpop 1 s)

      rq : Form A
      rq = prod_f R k r (mkpop 1 q)

      one : Form A
      one = mkpow R (i + j) pr qs

      two : Form A
      two = mkpow R i ps (zero_form R)

      three : Form A
      three = mkpow R j rq (zero_form R)

      added : i ≤ d → j ≤ e → (d - i) + (e - j) ≡ d + e - (i + j)
      added f g = omega arith

  pub bounded-prod : (ds es : List ℕ) (x y : Form A) → Bounded ds x → Bounded es y → Bounded (sums ds es) (prod R x y)
  bounded-prod ds es x y hx hy = bounded-prod_f (size x + size y) ds es x y (omega arith) hx hy

  pub bounded-raise : (ds : List ℕ) (x : Form A) → Bounded ds x → (k : ℕ) → Bounded (multiples k ds) (raise R x k)
  bounded-raise ds x h zero = tt
  bounded-raise ds x h (suc k) =
      subst (λ z. Bounded z (raise R x (suc k))) (sums-multiples k ds)
      (bounded-prod ds (multiples k ds) x (raise R x k) h (bounded-raise ds x h k))

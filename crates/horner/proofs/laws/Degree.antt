-- The degrees of a form, variable by variable: a normal form is bounded by them.
use Rattle.std.specs.Prelude.{List, [], ◌∷◌, ◌≡◌, refl, ℕ, zero, suc, ◌+◌, ◌-◌, ◌≤◌, length}
use Rattle.std.proofs.Common.{sym, ◌∙◌, ap, subst, arith}
use Rattle.horner.specs.definitions.Form.{Form, int, pop, pow, Normal, tl, after}
use Rattle.horner.specs.definitions.Measures.{zeros, first_or0, maxs, AllLe, degrees}
use Rattle.horner.specs.definitions.Rings.{Ring}
use Rattle.horner.proofs.laws.Normal.{pow-level}
use Rattle.horner.specs.laws.Degree.{Bounded, Below, total}

pub below-refl : (ds : List ℕ) → Below ds ds
below-refl [] = tt
below-refl (d ∷ ds) = (omega arith, below-refl ds)

below-tl : (ds es : List ℕ) → Below ds es → Below (tl ds) (tl es)
below-tl [] es h = tt
below-tl (d ∷ ds) [] h = absurd h
below-tl (d ∷ ds) (e ∷ es) h = h.1

below-after : (i : ℕ) (ds es : List ℕ) → Below ds es → Below (after i ds) (after i es)
below-after zero ds es h = h
below-after (suc i) ds es h = below-after i (tl ds) (tl es) (below-tl ds es h)

module _ {A : Type 0} where
  pub bounded-mono : (x : Form A) (ds es : List ℕ) → Below ds es → Bounded ds x → Bounded es x
  bounded-mono (int c) ds es h b = tt
  bounded-mono (pop i p) ds es h b = bounded-mono p (after i ds) (after i es) (below-after i ds es h) b
  bounded-mono (pow i p q) [] es h b = absurd b
  bounded-mono (pow i p q) (d ∷ ds) [] h b = absurd h
  bounded-mono (pow i p q) (d ∷ ds) (e ∷ es) h b = (
    omega (arith, h.0, b.0),
    bounded-mono p ((d - i) ∷ ds) ((e - i) ∷ es) (omega (arith, h.0), h.1) b.1,
    bounded-mono q ds es h.1 b.2,
  )

pub length-zeros : (i : ℕ) (ds : List ℕ) → length (zeros i ds) ≡ i + length ds
length-zeros zero ds = omega arith
length-zeros (suc i) ds = ap suc (length-zeros i ds) ∙ omega arith

pub after-zeros : (i : ℕ) (ds : List ℕ) → after i (zeros i ds) ≡ ds
after-zeros zero ds = refl
after-zeros (suc i) ds = after-zeros i ds

pub length-maxs : (ds es : List ℕ) → length (maxs ds es) ≡ length ds
length-maxs [] es = refl
length-maxs (d ∷ ds) [] = refl
length-maxs (d ∷ ds) (e ∷ es) = ap suc (length-maxs ds es)

pub maxs-left : (ds es : List ℕ) → Below ds (maxs ds es)
maxs-left [] es = tt
maxs-left (d ∷ ds) [] = (omega arith, below-refl ds)
maxs-left (d ∷ ds) (e ∷ es) = (omega arith, maxs-left ds es)

pub maxs-right : (ds es : List ℕ) → length es ≡ length ds → Below es (maxs ds es)
maxs-right [] [] h = tt
maxs-right [] (e ∷ es) h = absurd (omega arith)
maxs-right (d ∷ ds) [] h = tt
maxs-right (d ∷ ds) (e ∷ es) h = (omega arith, maxs-right ds es (omega arith))

pub length-tl : (ds : List ℕ) → length (tl ds) ≡ length ds - 1
length-tl [] = omega arith
length-tl (d ∷ ds) = omega arith

-- a list with a first number is that number and the rest
from_parts : (ds : List ℕ) → 1 ≤ length ds → first_or0 ds ∷ tl ds ≡ ds
from_parts [] h = absurd (omega arith)
from_parts (d ∷ ds) h = refl

module _ {A : Type 0} (R : Ring A) where
  pub length-degrees : (n : ℕ) (x : Form A) → Normal R n x → length (degrees n x) ≡ n
  length-degrees n (int c) h = length-zeros n [] ∙ omega arith
  length-degrees n (pop i (int c)) h = absurd h.1
  length-degrees n (pop i (pop j p)) h = absurd h.1
  length-degrees n (pop i (pow j p q)) h =
      let m : ℕ = n - i in
      let e : length (degrees (n - i) (pow j p q)) ≡ n - i = length-degrees (n - i) (pow j p q) h.2 in
      length-zeros i (degrees (n - i) (pow j p q)) ∙ omega (arith, h.2.1)
  length-degrees n (pow i p q) h =
      let e : length (degrees n p) ≡ n = length-degrees n p h.2 in
      ap suc (length-maxs (tl (degrees n p)) (degrees (n - 1) q) ∙ length-tl (degrees n p)) ∙ omega (arith, h.1)

  pub bounded-degrees : (n : ℕ) (x : Form A) → Normal R n x → Bounded (degrees n x) x
  bounded-degrees n (int c) h = tt
  bounded-degrees n (pop i p) h = subst (λ z. Bounded z p) (sym (after-zeros i (degrees (n - i) p))) (bounded-degrees (n - i) p h.2)
  bounded-degrees n (pow i p q) h =
      let lp : length (degrees n p) ≡ n = length-degrees n p h.2 in
      let lq : length (degrees (n - 1) q) ≡ n - 1 = length-degrees (n - 1) q h.4 in
      let lt : length (tl (degrees n p)) ≡ n - 1 = length-tl (degrees n p) ∙ ap (λ z. z - 1) lp in
      let bp : Bounded (first_or0 (degrees n p) ∷ tl (degrees n p)) p =
      subst (λ z. Bounded z p) (sym (from_parts (degrees n p) (omega (arith, h.1)))) (bounded-degrees n p h.2) in (
        omega arith,
        bounded-mono p (first_or0 (degrees n p) ∷ tl (degrees n p)) _ (omega arith, maxs-left (tl (degrees n p)) (degrees (n - 1) q)) bp,
        bounded-mono q (degrees (n - 1) q) _ (maxs-right (tl (degrees n p)) (degrees (n - 1) q) (lq ∙ sym lt))
            (bounded-degrees (n - 1) q h.4),
      )

-- ---- no bounds are lower
-- 0 for each variable
pub below-zeros : (n : ℕ) (ds : List ℕ) → length ds ≡ n → Below (zeros n []) ds
below-zeros zero ds l = tt
below-zeros (suc n) [] l = absurd (omega arith)
below-zeros (suc n) (d ∷ ds) l = (omega arith, below-zeros n ds (omega arith))

-- 0 for i of them, and bounds behind these
pub below-behind : (i : ℕ) (es ds : List ℕ) → 1 ≤ length es → length es ≡ length ds - i → Below es (after i ds) → Below (zeros i es) ds
below-behind zero es ds p l h = h
below-behind (suc i) es [] p l h = absurd (omega arith)
below-behind (suc i) es (d ∷ ds) p l h = (omega arith, below-behind i es ds p (omega arith) h)

below-maxs : (ds es fs : List ℕ) → Below ds fs → Below es fs → Below (maxs ds es) fs
below-maxs [] es fs h g = tt
below-maxs (d ∷ ds) [] fs h g = h
below-maxs (d ∷ ds) (e ∷ es) [] h g = absurd h
below-maxs (d ∷ ds) (e ∷ es) (f ∷ fs) h g = (omega (arith, h.0, g.0), below-maxs ds es fs h.1 g.1)

below_parts : (es : List ℕ) (f : ℕ) (fs : List ℕ) → Below es (f ∷ fs) → (first_or0 es ≤ f) × Below (tl es) fs
below_parts [] f fs h = (omega arith, tt)
below_parts (e ∷ es) f fs h = h

-- those behind the first i
pub length-after : (i : ℕ) (ds : List ℕ) → length (after i ds) ≡ length ds - i
length-after zero ds = omega arith
length-after (suc i) [] = length-after i [] ∙ omega arith
length-after (suc i) (d ∷ ds) = length-after i ds ∙ omega arith

module _ {A : Type 0} (R : Ring A) where
  pub degrees-least : (n : ℕ) (ds : List ℕ) (x : Form A) → Normal R n x → length ds ≡ n → Bounded ds x → Below (degrees n x) ds
  degrees-least n ds (int c) h l b = below-zeros n ds l
  degrees-least n ds (pop i p) h l b =
      let e : length (degrees (n - i) p) ≡ n - i = length-degrees R (n - i) p h.2 in
      below-behind i (degrees (n - i) p) ds (omega (arith, pow-level R (n - i) p h.1 h.2)) (omega arith)
      (degrees-least (n - i) (after i ds) p h.2 (length-after i ds ∙ ap (λ m. m - i) l) b)
  degrees-least n [] (pow i p q) h l b = absurd b
  degrees-least n (d ∷ ds) (pow i p q) h l b =
      let r = below_parts (degrees n p) (d - i) ds (degrees-least n ((d - i) ∷ ds) p h.2 l b.1) in (
        omega (arith, r.0, b.0),
        below-maxs (tl (degrees n p)) (degrees (n - 1) q) ds r.1 (degrees-least (n - 1) ds q h.4 (omega arith) b.2),
      )

pub all-le-mono : (K L : ℕ) (ds : List ℕ) → K ≤ L → AllLe K ds → AllLe L ds
all-le-mono K L [] h a = tt
all-le-mono K L (d ∷ ds) h a = (omega (arith, a.0), all-le-mono K L ds h a.1)

pub all-le-total : (ds : List ℕ) → AllLe (total ds) ds
all-le-total [] = tt
all-le-total (d ∷ ds) = (omega arith, all-le-mono (total ds) (d + total ds) ds (omega arith) (all-le-total ds))

pub all-le-below : (K : ℕ) (ds es : List ℕ) → Below ds es → AllLe K es → AllLe K ds
all-le-below K [] es h a = tt
all-le-below K (d ∷ ds) [] h a = absurd h
all-le-below K (d ∷ ds) (e ∷ es) h a = (omega (arith, h.0, a.0), all-le-below K ds es h.1 a.1)

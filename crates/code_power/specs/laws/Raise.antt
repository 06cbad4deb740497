-- A form fits with each of its powers below one that fits.
use Rattle.std.specs.Prelude.{List, [], ◌∷◌, ◌≡◌, refl, ℕ, zero, suc, ◌+◌, ◌-◌, ◌^◌, ◌<◌, ◌≤◌, length}
use Rattle.std.proofs.Common.{sym, ◌∙◌, ap, subst, arith}
use Rattle.std.proofs.Math.Nat as NatL
use Rattle.horner.specs.definitions.Form.{Form, raise}
use Rattle.horner.specs.definitions.Measures.{sums, multiples, box, AllLe, one_if}
use Rattle.horner.proofs.laws.Bounds.{bounded-raise, sums-multiples}
use Rattle.horner.proofs.laws.Count.{count-size, one-if-le}
use Rattle.horner.proofs.laws.Degree.{all-le-below}
use Rattle.horner.specs.laws.Degree.{Below}
use Rattle.horner.proofs.laws.Measure.{meas-raise}
use Rattle.horner.proofs.laws.Normal.{normal-raise}
use Rattle.code.specs.Widths.{Leaf, ring_of}
use Rattle.code.specs.laws.Sizes.{enc-pos}
use Rattle.code_room.specs.Fit.{prod_of, Within, Fit}
use Rattle.code_room.specs.Tables.{Space}
use Rattle.code_room.proofs.laws.Lists.{first-le, box-below}
use Rattle.code_power.specs.Raise.{raise_of, Raising}

-- ---- multiples of degrees
length-multiples : (k : ℕ) (ds : List ℕ) → length (multiples k ds) ≡ length ds
length-multiples k [] = refl
length-multiples k (d ∷ ds) = ap suc (length-multiples k ds)

pub below-multiples : (j k : ℕ) (ds : List ℕ) → j ≤ k → Below (multiples j ds) (multiples k ds)
below-multiples j k [] l = tt
below-multiples j k (d ∷ ds) l = (NatL.mul-le-mul_right d l, below-multiples j k ds l)

-- ---- powers of a number that is not 0
pub power_pos : (c k : ℕ) → 1 ≤ c → 1 ≤ c ^ k
power_pos c zero l = omega (arith, NatL.pow-zero c)
power_pos c (suc k) l = omega (arith, NatL.pow-succ' c k, NatL.mul-le-mul l (power_pos c k l))

power-more : (c j d : ℕ) → 1 ≤ c → c ^ j ≤ c ^ (d + j)
power-more c j zero l =
    let e : 0 + j ≡ j = omega arith in
    omega (arith, ap (λ z. c ^ z) e)
power-more c j (suc d) l =
    let e : suc d + j ≡ suc (d + j) = omega arith in
    omega (arith, ap (λ z. c ^ z) e, NatL.pow-succ' c (d + j), power-more c j d l, NatL.mul-le-mul_right (c ^ (d + j)) l)

pub power-mono : (c j k : ℕ) → 1 ≤ c → j ≤ k → c ^ j ≤ c ^ k
power-mono c j k l h =
    let e : k - j + j ≡ k = omega arith in
    omega (arith, ap (λ z. c ^ z) e, power-more c j (k - j) l)

-- ---- the powers of a form
pub raise-more : (w : ℕ) (x : Form (Leaf w)) (k : ℕ) → prod_of w x (raise_of w x k) ≡ raise_of w x (k + 1)
unfolding raise_of prod_of
raise-more w x k =
    let e : suc k ≡ k + 1 = omega arith in
    ap (λ z. raise (ring_of w) x z) e

module _ {w k n s o t u : ℕ} {x : Form (Leaf w)} (r : Raising w x k n s o t u) where
  raise-within : (j : ℕ) → Within w r.vars (r.c ^ j) (multiples j r.ds) (raise_of w x j)
  unfolding raise_of
  raise-within j =
      let R = ring_of w in
      record {
        normal = normal-raise R r.vars x j r.of-x.normal;
        bounded = bounded-raise R r.ds x r.of-x.bounded j;
        few = meas-raise R (one_if R) (count-size R) (one-if-le R R.unit) x r.c r.of-x.few j;
      }

  pub raise-fit : (j : ℕ) → j < k → Fit w r.vars 63 x (raise_of w x j)
  raise-fit j l =
      let e = sums-multiples j r.ds in
      let b = below-multiples (suc j) k r.ds l in
      let a : AllLe 63 (sums r.ds (multiples j r.ds)) = subst (AllLe 63) (sym e)
      (all-le-below 63 (multiples (suc j) r.ds) (multiples k r.ds) b r.degrees) in
      record {
        dx = r.ds;
        dy = multiples j r.ds;
        cx = r.c;
        cy = r.c ^ j;
        vars = r.few-vars;
        len-x = r.len;
        len-y = length-multiples j r.ds ∙ r.len;
        of-x = r.of-x;
        of-y = raise-within j;
        pos-x = r.pos;
        pos-y = power_pos r.c j r.pos;
        degrees = a;
        first = first-le 63 (sums r.ds (multiples j r.ds)) a;
        few =
            omega (
              arith,
              ap box e,
              box-below (multiples (suc j) r.ds) (multiples k r.ds) b,
              NatL.pow-succ' r.c j,
              power-mono
                  r.c (suc j) k r.pos l,
              r.few,
            );
      }

  pub raise-space : (j : ℕ) → j < k → Space w x (raise_of w x j) o t u
  raise-space j l = record { n = r.vars; k = 63; fit = raise-fit j l; tables = r.tables }

  -- there is a word for 1, in the place of x and behind it
  pub raise-room : 0 < s
  raise-room = omega (arith, enc-pos w (raise_of w x k), r.whole)

  pub raise-behind : 0 < k → n < s
  raise-behind l = omega (arith, enc-pos w (raise_of w x 0), r.lower 0 l, r.fits)

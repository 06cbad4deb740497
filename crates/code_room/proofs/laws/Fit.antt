-- What fits stays so: the parts of two forms that fit, by which Definition 11 goes on, fit too, and the product is held.
use Rattle.std.specs.Prelude.{◌≡◌, ℕ, ◌+◌, ◌-◌, ◌*◌, ◌<◌, ◌≤◌, min, length}
use Rattle.std.proofs.Common.{sym, ◌∙◌, ap, subst}
use Rattle.std.proofs.Math.Nat as NatL
use native.Mathlib.Omega.{arith}
use Rattle.horner.specs.definitions.Form.{Form, pop, pow, lower, prod, after}
use Rattle.horner.specs.definitions.Measures.{first_or0, sums, box, AllLe, one_if, count}
use Rattle.horner.proofs.laws.Bounds.{sums-comm, length-sums, after-sums, bounded-mkpop, bounded-prod}
use Rattle.horner.proofs.laws.Count.{box-after, count-size, count-box}
use Rattle.horner.proofs.laws.Degree.{bounded-mono, all-le-below, length-after}
use Rattle.horner.proofs.laws.Measure.{meas-mkpop, meas-prod}
use Rattle.horner.proofs.laws.Normal.{normal-mkpop, normal-prod}
use Rattle.horner.proofs.laws.Room.{words-3073}
use Rattle.code.specs.Coding.{limits, enc}
use Rattle.code.specs.Operations.{pop_of}
use Rattle.code.specs.Widths.{Leaf, ring_of}
use Rattle.code.specs.laws.Good.{good-at}
use Rattle.code.specs.laws.Sizes.{size-enc}
use Rattle.code_room.specs.Fit.{prod_of, Within, Fit, Held}
use Rattle.code_room.proofs.laws.Lists.{sums-left, first-left, all_after, first-le, box-below, below-limits}
use Rattle.code_room.proofs.laws.Lists.{length_cut, below-cut, first-cut}
use Rattle.code_room.specs.laws.Lists.{cut}
use Rattle.code_room.proofs.laws.Parts.{under-pop, under-lower, under_pow, within-cut, exponent-le}

-- the terms, cut to the box, do not grow where the box does not
fewer : (c a b : ℕ) → a ≤ b → min c b ≤ 256 → min c a ≤ 256
fewer c a b l h = omega arith

pub fit-sym : {w n k : ℕ} {x y : Form (Leaf w)} → Fit w n k x y → Fit w n k y x
fit-sym f =
    let e = sums-comm f.dx f.dy in
    record {
      dx = f.dy;
      dy = f.dx;
      cx = f.cy;
      cy = f.cx;
      vars = f.vars;
      len-x = f.len-y;
      len-y = f.len-x;
      of-x = f.of-y;
      of-y = f.of-x;
      pos-x = f.pos-y;
      pos-y = f.pos-x;
      degrees = subst (AllLe 63) e f.degrees;
      first = omega (arith, ap first_or0 e, f.first);
      few = omega (arith, ap box e, NatL.mul_comm f.cx f.cy, f.few);
    }

module _ {w n k : ℕ} {x y : Form (Leaf w)} (f : Fit w n k x y) where
  -- what has the product's bounds is held
  pub held : (z : Form (Leaf w)) → Within w n (f.cx * f.cy) (sums f.dx f.dy) z → Held w z
  held z h =
      let ds = sums f.dx f.dy in
      let l : length ds ≡ n = length-sums f.dx f.dy (f.len-x ∙ sym f.len-y) ∙ f.len-y in
      let c : count (ring_of w) z ≤ 256 = omega (arith, count-box (ring_of w) n ds z h.normal h.bounded, h.few, f.few) in
      record {
        good = good-at w n z f.vars h.normal (bounded-mono z ds (limits n) (below-limits n ds l f.degrees) h.bounded);
        words = omega (arith, size-enc w z, words-3073 (ring_of w) n z f.vars h.normal c);
      }

  pub fit-x : Held w x
  fit-x =
      held x (record {
        normal = f.of-x.normal;
        bounded = bounded-mono x f.dx (sums f.dx f.dy) (sums-left f.dx f.dy) f.of-x.bounded;
        few = omega (arith, f.of-x.few, NatL.mul-le-mul_left f.cx f.pos-y);
      })

  pub fit-prod : Held w (prod_of w x y)
  unfolding prod_of
  fit-prod =
      held (prod (ring_of w) x y) (record {
        normal = normal-prod (ring_of w) n x y f.of-x.normal f.of-y.normal;
        bounded = bounded-prod (ring_of w) f.dx f.dy x y f.of-x.bounded f.of-y.bounded;
        few =
            omega (
              arith,
              meas-prod (ring_of w) (one_if (ring_of w)) (count-size (ring_of w)) x y,
              NatL.mul-le-mul f.of-x.few
                  f.of-y.few,
            );
      })

  -- two forms that stand i variables further down
  pub fit-under :
      (i : ℕ) {p q : Form (Leaf w)} → Within w (n - i) f.cx (after i f.dx) p → Within w (n - i) f.cy (after i f.dy) q →
      Fit w (n - i) 63 p q
  fit-under i hp hq =
      let e = after-sums i f.dx f.dy in
      let a : AllLe 63 (sums (after i f.dx) (after i f.dy)) = subst (AllLe 63) e
      (all_after 63 i (sums f.dx f.dy) f.degrees) in
      record {
        dx = after i f.dx;
        dy = after i f.dy;
        cx = f.cx;
        cy = f.cy;
        vars = omega (arith, f.vars);
        len-x = length-after i f.dx ∙ ap (λ m. m - i) f.len-x;
        len-y = length-after i f.dy ∙ ap (λ m. m - i) f.len-y;
        of-x = hp;
        of-y = hq;
        pos-x = f.pos-x;
        pos-y = f.pos-y;
        degrees = a;
        first = first-le 63 (sums (after i f.dx) (after i f.dy)) a;
        few =
            fewer (f.cx * f.cy) (box (sums (after i f.dx) (after i f.dy))) (box (sums f.dx f.dy))
            (omega (arith, ap box e, box-after i (sums f.dx f.dy))) f.few;
      }

-- a first factor with the same bounds
pub fit-as : {w n k : ℕ} {x y z : Form (Leaf w)} (f : Fit w n k x y) → Within w n f.cx f.dx z → Fit w n k z y
fit-as f h =
    record {
      dx = f.dx;
      dy = f.dy;
      cx = f.cx;
      cy = f.cy;
      vars = f.vars;
      len-x = f.len-x;
      len-y = f.len-y;
      of-x = h;
      of-y = f.of-y;
      pos-x = f.pos-x;
      pos-y = f.pos-y;
      degrees = f.degrees;
      first = f.first;
      few = f.few;
    }

pub fit-y : {w n k : ℕ} {x y : Form (Leaf w)} → Fit w n k x y → Held w y
fit-y f = fit-x (fit-sym f)

-- (POP i p) has a word more than p
pub fit-pop-words : {w n k : ℕ} {y : Form (Leaf w)} (i : ℕ) (p : Form (Leaf w)) → Fit w n k (pop i p) y → 1 + length (enc w p) ≤ 3073
unfolding enc
fit-pop-words i p f = omega (arith, (fit-x f).words)

-- ---- the parts of x; those of y go by fit-sym

-- the p of a POW: its exponent is off the first degree
module _ {w n k : ℕ} {y : Form (Leaf w)} (i : ℕ) (p q : Form (Leaf w)) (f : Fit w n k (pow i p q) y) where
  pub fit-exponent : i ≤ k
  fit-exponent = omega (arith, exponent-le f.dx i p q f.of-x, first-left f.dx f.dy, f.first)

  pub fit-pow : Fit w n (k - i) p y
  fit-pow =
      let b = below-cut i f.dx f.dy in
      record {
        dx = cut i f.dx;
        dy = f.dy;
        cx = f.cx;
        cy = f.cy;
        vars = f.vars;
        len-x = length_cut i f.dx ∙ f.len-x;
        len-y = f.len-y;
        of-x = within-cut f.dx i p q f.of-x;
        of-y = f.of-y;
        pos-x = f.pos-x;
        pos-y = f.pos-y;
        degrees = all-le-below 63 (sums (cut i f.dx) f.dy) (sums f.dx f.dy) b f.degrees;
        first = first-cut i k f.dx f.dy (exponent-le f.dx i p q f.of-x) f.first;
        few =
            fewer (f.cx * f.cy) (box (sums (cut i f.dx) f.dy)) (box (sums f.dx f.dy))
            (box-below (sums (cut i f.dx) f.dy) (sums f.dx f.dy) b) f.few;
      }

  -- pop(1, q)
  pub fit-up : Fit w n k (pop_of w 1 q) y
  unfolding pop_of
  fit-up =
      let h = under_pow f.dx i p q f.of-x in
      fit-as f (record {
        normal = normal-mkpop (ring_of w) n 1 q h.normal;
        bounded = bounded-mkpop f.dx 1 q h.bounded;
        few = omega (arith, meas-mkpop (one_if (ring_of w)) 1 q, h.few);
      })

-- ---- the parts of both

-- the two q, one variable down
pub fit-rests : {w n k : ℕ} (i j : ℕ) (p q r s : Form (Leaf w)) → Fit w n k (pow i p q) (pow j r s) → Fit w (n - 1) 63 q s
fit-rests i j p q r s f = fit-under f 1 (under_pow f.dx i p q f.of-x) (under_pow f.dy j r s f.of-y)

-- two POPs, of which the first goes down at least as far
pub fit-pops : {w n k : ℕ} (i j : ℕ) (p q : Form (Leaf w)) → j ≤ i → Fit w n k (pop i p) (pop j q) → Fit w (n - j) 63 (lower (i - j) p) q
fit-pops i j p q l f = fit-under f j (under-lower i j p l f.of-x) (under-pop j q f.of-y)

pub fit-lower :
    {w n k : ℕ} (i j : ℕ) (p q r : Form (Leaf w)) → 0 < i → Fit w n k (pop i p) (pow j q r) → Fit w (n - 1) 63 (lower (i - 1) p) r
fit-lower i j p q r l f = fit-under f 1 (under-lower i 1 p l f.of-x) (under_pow f.dy j q r f.of-y)

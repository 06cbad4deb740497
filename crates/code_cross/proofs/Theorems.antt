-- What stands besides: theorems of this crate that no other proof leans on.
use Rattle.std.proofs.Common.{sym, ap, arith, List, ℕ, suc, ◌+◌, ◌-◌, ◌/◌, ◌%◌, ◌≤◌, ◌<◌, length}
use Rattle.std.proofs.Math.Path.{◌≡◌, ◌∙◌}
use Rattle.std.proofs.Math.ListN.{get_or}
use Rattle.horner.specs.definitions.Form.{Form, pop, lower}
use Rattle.code.specs.Coding.{dec, Coded}
use Rattle.code.specs.Operations.{pow_of}
use Rattle.code.specs.Widths.{Leaf}
use Rattle.code.specs.laws.Parts.{inner, first, rest, PopAt, PowAt, pop-at, pow-at}
use Rattle.code_room.specs.Fit.{prod_of}
use Rattle.code_room.proofs.laws.Equations.{pop-pow, pow-pop}

-- a POP and a POW, by the head word as a number
module _ {w : ℕ} {l : List ℕ} (c : Coded w l) where
  pub pop-of-word : 2147483648 ≤ get_or l 0 0 → get_or l 0 0 < 2147483712 → PopAt w l
  pop-of-word a b = pop-at c a (omega (arith, a, b))

  pub pow-of-word : 2147483712 ≤ get_or l 0 0 → PowAt w l
  pow-of-word a = pow-at c (omega (arith, a)) (λ e. omega (arith, a, e))

-- the lengths of their parts
pub record PopSizes (l : List ℕ) : Type 0 where
  pub len : length l ≡ suc (length (inner l))
  pub some : 0 < length (inner l)

pub pop-sizes : {w : ℕ} {l : List ℕ} → PopAt w l → PopSizes l
pop-sizes v = record { len = v.len; some = v.some }

pub record PowSizes (l : List ℕ) : Type 0 where
  pub size : (get_or l 0 0 - 2147483648) / 64 ≡ length (first l)
  pub len : length l ≡ suc (length (first l) + length (rest l))
  pub some_left : 0 < length (first l)
  pub some_right : 0 < length (rest l)

pub pow-sizes : {w : ℕ} {l : List ℕ} → PowAt w l → PowSizes l
pow-sizes v = record { size = v.size; len = v.len; some_left = v.some_left; some_right = v.some_right }

-- (4) and (5)
module _ {w : ℕ} {l : List ℕ} (v : PowAt w l) (i : ℕ) (p : Form (Leaf w)) (pos : 0 < i) where
  pub pop-times :
      prod_of w (pop i p) (dec w l)
      ≡ pow_of w (get_or l 0 0 % 64) (prod_of w (pop i p) (dec w (first l))) (prod_of w (lower (i - 1) p) (dec w (rest l)))
  pop-times = ap (prod_of w (pop i p)) v.is ∙ pop-pow w i (get_or l 0 0 % 64) p (dec w (first l)) (dec w (rest l)) pos

  pub times-swap : prod_of w (pop i p) (dec w l) ≡ prod_of w (dec w l) (pop i p)
  times-swap =
      ap (prod_of w (pop i p)) v.is
      ∙ sym (pow-pop w i (get_or l 0 0 % 64) p (dec w (first l)) (dec w (rest l)) pos)
      ∙ ap (λ h. prod_of w h (pop i p)) (sym v.is)

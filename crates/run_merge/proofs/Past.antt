-- What is left of words when those in front of it are past: it stands alone.
-- Assumes nothing.
use Rattle.std.specs.Prelude.{List, ℕ, ◌-◌, length, take, drop}
use Rattle.std.proofs.Common.{sym, subst, arith, length-drop}
use Rattle.code.specs.laws.Codes.{tail-part}
use Rattle.run_merge.specs.laws.Steps.{Resting, Adding}

pub resting-past : {t : List ℕ} {k c : ℕ} {y : List ℕ} {j n : ℕ} {d : List ℕ} → Resting t k c y j n d
    → Resting t k c (take (length y - j) (drop j y)) 0 n d
resting-past {t} {k} {c} {y} {j} {n} {d} s = subst (λ z. Resting t k c z 0 n d) (sym (tail-part j y)) (record {
  within = omega arith;
  room = omega (arith, s.room, length-drop j y, s.within);
  fits = s.fits;
  going = s.going;
})

module _ {t : List ℕ} {k c : ℕ} {x y : List ℕ} {i j n : ℕ} {d : List ℕ} where
  pub adding-past-x : Adding t k c x y i j n d → Adding t k c (take (length x - i) (drop i x)) y 0 j n d
  adding-past-x s = subst (λ z. Adding t k c z y 0 j n d) (sym (tail-part i x)) (record {
    left = omega arith;
    right = s.right;
    room = omega (arith, s.room, length-drop i x, s.left);
    fits-x = s.fits-x;
    fits-y = s.fits-y;
    going = s.going;
  })

  pub adding-past-y : Adding t k c x y i j n d → Adding t k c x (take (length y - j) (drop j y)) i 0 n d
  adding-past-y s = subst (λ z. Adding t k c x z i 0 n d) (sym (tail-part j y)) (record {
    left = s.left;
    right = omega arith;
    room = omega (arith, s.room, length-drop j y, s.right);
    fits-x = s.fits-x;
    fits-y = s.fits-y;
    going = s.going;
  })

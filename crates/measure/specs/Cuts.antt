-- Products and powers cut down to a limit.
use Rattle.std.specs.Prelude.{◌≡◌, ◌⊎◌, ℕ, zero, suc, ◌+◌, ◌*◌, ◌^◌, ◌≤◌, ◌<◌, min}
use Rattle.std.proofs.Common.{sym, ap, ◌∙◌, inl, inr, add-one, arith}
use Rattle.std.proofs.Math.Nat as NatL
use Rattle.horner.proofs.laws.Compare.{lt-or-ge}

-- what was cut before may be cut again
pub cut-mul : (a b L : ℕ) → min (a * min b L) L ≡ min (a * b) L
cut-mul zero b L = omega (arith, NatL.zero-mul b, NatL.zero-mul (min b L))
cut-mul (suc a) b L = at (lt-or-ge L b)
  where
    at : (L < b) ⊎ (b ≤ L) → min (suc a * min b L) L ≡ min (suc a * b) L
    at (inl h) = omega (arith, NatL.suc-mul a b, NatL.suc-mul a (min b L))
    at (inr h) = ap (λ m. min (suc a * m) L) (omega arith)

pub cut-next : (a i L : ℕ) → min (a * min (a ^ i) L) L ≡ min (a ^ (i + 1)) L
cut-next a i L = cut-mul a (a ^ i) L ∙ ap (λ m. min m L) (sym (ap (λ n. a ^ n) (add-one i) ∙ NatL.pow-succ' a i))

-- an exponent times a degree
pub times-63 : {k d : ℕ} → k ≤ 63 → d ≤ 63 → k * d ≤ 3969
times-63 h g = NatL.mul-le-mul h g

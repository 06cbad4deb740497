-- What stands besides: theorems of this crate that no other proof leans on.
use Rattle.std.specs.Prelude.{[], ◌≡◌, ℕ, suc, ◌+◌, ◌-◌}
use Rattle.std.proofs.Common.{subst, arith}
use Rattle.std.proofs.Math.Nat as NatL
use Rattle.run_code.specs.Decoding.{Even}

-- even numbers
pub even-two : (e : ℕ) → Even e → Even (e + 2)
even-two e h =
    let q : suc (suc e) ≡ e + 2 = omega arith in
    subst Even q h

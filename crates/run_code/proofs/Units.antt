-- Shifts by 6 bits for each variable are powers of 64.
-- Assumes nothing.
use Rattle.std.proofs.Common.{refl, arith, ℕ, zero, suc, ◌*◌, ◌/◌, ◌%◌, ◌^◌, ◌≤◌}
use Rattle.std.proofs.Math.Path.{◌≡◌}

pub unit-shift : (m : ℕ) → m ≤ 3 → 1 * 2 ^ (6 * m) % 4294967296 ≡ 64 ^ m
unit-shift zero h = refl
unit-shift (suc zero) h = refl
unit-shift (suc (suc zero)) h = refl
unit-shift (suc (suc (suc zero))) h = refl
unit-shift (suc (suc (suc (suc m)))) h = absurd (omega arith)

pub key-shift : (key m : ℕ) → m ≤ 3 → key / 2 ^ (6 * m) ≡ key / 64 ^ m
key-shift key zero h = refl
key-shift key (suc zero) h = refl
key-shift key (suc (suc zero)) h = refl
key-shift key (suc (suc (suc zero))) h = refl
key-shift key (suc (suc (suc (suc m)))) h = absurd (omega arith)

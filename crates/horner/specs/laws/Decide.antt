-- What the laws of proofs/laws/Decide speak of.
use Rattle.std.specs.Prelude.{Bool, false, ℕ, eqb, ℤ, pos, negsuc}
use Rattle.horner.specs.definitions.Rings.{Res}

abbrev pub eq_ℤ : ℤ → ℤ → Bool
eq_ℤ (pos a) (pos b) = eqb a b
eq_ℤ (pos a) (negsuc b) = false
eq_ℤ (negsuc a) (pos b) = false
eq_ℤ (negsuc a) (negsuc b) = eqb a b

abbrev pub eq_res : (m : ℕ) → Res m → Res m → Bool
eq_res m a b = eqb a.0 b.0

-- What the laws of proofs/laws/Residues speak of.
use Rattle.std.specs.Prelude.{cond, ℕ, suc, ◌-◌, ◌<◌, ◌*◌, ltb, ℤ, pos, negsuc}
use Rattle.horner.specs.definitions.Rings.{Res}

module _ (m : ℕ) (m-pos : 0 < m) where
  -- a remainder read as an integer: itself below half of m, else what it lacks of m, negative
  abbrev pub lift : Res m → ℤ
  lift a = cond (ltb (a.0 * 2) m) (pos a.0) (negsuc (m - suc a.0))

-- What the laws of proofs/laws/Carry speak of.
use Rattle.std.specs.Prelude.{ℤ}
use Rattle.horner.specs.definitions.Form.{Form}
use Rattle.horner.specs.definitions.Rings.{Res, red_ℤ, prime, prime-pos}
use Rattle.horner.specs.laws.Hom.{map_form}

abbrev pub ρ : ℤ → Res prime
ρ z = red_ℤ prime prime-pos z

abbrev pub carry : Form ℤ → Form (Res prime)
carry x = map_form (red_ℤ prime prime-pos) x

-- Within the limits the text is that of the form over the integers.
use Rattle.std.specs.Prelude.{◌≡◌, ℕ, ◌≤◌, ℤ}
use Rattle.std.proofs.Common.{ap, arith}
use Rattle.horner.specs.definitions.Form.{Form}
use Rattle.horner.specs.definitions.Measures.{AllLe, weight_of, degrees_of, weight}
use Rattle.horner.specs.definitions.Rings.{red_ℤ, prime, prime-pos}
use Rattle.horner.specs.laws.Within.{Over}
use Rattle.horner.specs.definitions.Term.{Term, norm_ℤ, norm_p}
use Rattle.horner.specs.laws.Hom.{map_form}
use Rattle.horner.proofs.laws.Lifting.{lift-form, exact}
use Rattle.text.specs.definitions.FormReading.{text}
use Rattle.form_write.specs.Write.{text_of}

pub text-reduced : (f : Form ℤ) → weight f ≤ 1073741823 → text_of (map_form (red_ℤ prime prime-pos) f) ≡ text f
unfolding text_of
text-reduced f w = ap text (lift-form prime prime-pos f (omega arith))

pub text-norm_p : (n : ℕ) (t : Term) → Over n t → AllLe 63 (degrees_of n t) → weight_of t ≤ 1073741823 → text_of (norm_p t) ≡ text (norm_ℤ t)
unfolding text_of
text-norm_p n t over degrees w = ap text (exact n t over degrees w)

-- A text reads as a form exactly when it is the form's text, and the limits of length and nesting hold; two forms with one text are one
-- form.
use Rattle.std.specs.Prelude.{Bool, ◌&&◌, ◌↔◌, ◌≡◌, ℕ, suc, ◌+◌, ◌≤◌, ℤ, length}
use Rattle.std.proofs.Math.Bool.{true, false}
use mathlib.Core.List.{List, []}
use Rattle.std.proofs.Math.Path.{refl, sym}
use Rattle.std.proofs.Common.{ap, ◌∙◌, arith}
use borrow.Author.Tests.{ltb-true, lt-ltb, leb-true, le-leb}
use Rattle.std.proofs.Math.Dec.{leb, ltb}
use Rattle.horner.specs.definitions.Form.{Form, int, pop, pow}
use Rattle.horner.specs.definitions.Measures.{nest}
use Rattle.text.specs.definitions.Bytes.{read}
use Rattle.text.specs.definitions.FormMeaning.{IsFormText}
use Rattle.text.specs.definitions.FormReading.{before, run, read_form, text}
use Rattle.text_laws.specs.laws.Bytes.{and_l, and_r, and_i, no-refusal}
use Rattle.text_laws.specs.laws.FormSofar.{roomy, run_sound}
use Rattle.text_laws.specs.laws.FormThrough.{through-all}

module _ (L : ℕ) where
  abbrev room : ℕ → Bool
  room d = ltb d L

  pub roomy-nest : (f : Form ℤ) (d : ℕ) → d ≤ L → roomy room d f ≡ true → d + nest f ≤ L
  roomy-nest (int z) d h a = omega arith
  roomy-nest (pop i x) d h a =
      let r = ltb-true d L (and_l (ltb d L) (roomy room (suc d) x) a) in
      omega (arith, roomy-nest x (suc d) r (and_r (ltb d L) (roomy room (suc d) x) a))
  roomy-nest (pow i x y) d h a =
      let r = ltb-true d L (and_l (ltb d L) (roomy room (suc d) x && roomy room (suc d) y) a) in
      let b = and_r (ltb d L) (roomy room (suc d) x && roomy room (suc d) y) a in
      omega (
        arith,
        roomy-nest x (suc d) r (and_l (roomy room (suc d) x) (roomy room (suc d) y) b),
        roomy-nest y (suc d) r
            (and_r (roomy room (suc d) x) (roomy room (suc d) y) b),
      )

  pub nest-roomy : (f : Form ℤ) (d : ℕ) → d + nest f ≤ L → roomy room d f ≡ true
  nest-roomy (int z) d h = refl
  nest-roomy (pop i x) d h = and_i (lt-ltb d L (omega arith)) (nest-roomy x (suc d) (omega arith))
  nest-roomy (pow i x y) d h =
      and_i (lt-ltb d L (omega arith)) (and_i (nest-roomy x (suc d) (omega arith)) (nest-roomy y (suc d) (omega arith)))

pub roomy-yes : (f : Form ℤ) (d : ℕ) → roomy (λ d. true) d f ≡ true
roomy-yes (int z) d = refl
roomy-yes (pop i x) d = roomy-yes x (suc d)
roomy-yes (pow i x y) d = and_i (roomy-yes x (suc d)) (roomy-yes y (suc d))

-- two forms with one text are one form
pub text-injective : (f g : Form ℤ) → text f ≡ text g → f ≡ g
text-injective f g e =
    let i : read f ≡ read g = sym (through-all (λ d. true) f (roomy-yes f 0)) ∙ ap (run (λ d. true) 0 before []) e
    ∙ through-all (λ d. true) g (roomy-yes g 0) in
    let j : f ≡ g = cc in
    j

module _ (s : List ℕ) (f : Form ℤ) where
  is-text : read_form s ≡ read f → IsFormText s f
  unfolding read_form
  is-text e = go (leb (length s) 65535) refl
    where
      go : (b : Bool) → leb (length s) 65535 ≡ b → IsFormText s f
      go true k =
          let r = run_sound (λ d. ltb d 256) s f 0 before [] tt tt (rw (k, read_form) at e) in
          record { short = leb-true (length s) 65535 k; is = sym r.0; shallow = omega (arith, roomy-nest 256 f 0 (omega arith) r.1) }
      go false k = no-refusal (rw (k, read_form) at e)

  text-is : IsFormText s f → read_form s ≡ read f
  unfolding read_form
  text-is m =
      rw (le-leb (length s) 65535 m.short, read_form)
      (ap (run (λ d. ltb d 256) 0 before []) m.is ∙ through-all (λ d. ltb d 256) f (nest-roomy 256 f 0 (omega (arith, m.shallow))))

  pub reads : (read_form s ≡ read f) ↔ IsFormText s f
  reads = (is-text, text-is)

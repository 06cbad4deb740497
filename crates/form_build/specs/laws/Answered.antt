-- What a caller learns from the answer on a form's text.
use Rattle.std.specs.Prelude.{Ok, Err, List, ◌≡◌, refl, ℕ, ℤ}
use Rattle.std.proofs.Common.{ap, ◌∙◌, arith}
use Rattle.refusal.specs.declared.Fault.{Fault}
use Rattle.horner.specs.definitions.Form.{Form}
use Rattle.horner.specs.definitions.Measures.{degrees}
use Rattle.text.specs.definitions.Bytes.{Reading, read, refused}
use Rattle.text.specs.definitions.FormReading.{accept_form}
use Rattle.text_laws.specs.laws.FormAccepted.{accepts}
use Rattle.measure.specs.declared.Measures.{Measures}
use Rattle.measure.specs.Measure.{Small}
use Rattle.form_build.specs.Answer.{judged_of}
use Rattle.form_build.specs.Measure.{measures_of}
use Rattle.form_build.specs.laws.Answer.{all-at}

-- s is accepted as f, whose measures are a
pub record AcceptedAs (m : ℕ) (s : List ℕ) (a : Measures) : Type 0 where
  pub f : Form ℤ
  pub is : accept_form m s ≡ read f
  pub found : a ≡ measures_of m f

module _ (m : ℕ) (s : List ℕ) where
  pub form-accepted : (a : Measures) → Ok a ≡ judged_of m (accept_form m s) → AcceptedAs m s a
  form-accepted a e = go (accept_form m s) refl e
    where
      go : (x : Reading (Form ℤ)) → accept_form m s ≡ x → Ok a ≡ judged_of m x → AcceptedAs m s a
      go (read f) i q = record { f = f; is = i; found = (cc) }
      go (refused bad) i q = absurd (let z : ◌≡◌ {A = ℕ} 0 1 = cc in omega arith)

  pub form-refused : (bad : Fault) → Err bad ≡ judged_of m (accept_form m s) → accept_form m s ≡ refused bad
  form-refused bad q = go (accept_form m s) refl q
    where
      go : (x : Reading (Form ℤ)) → accept_form m s ≡ x → Err bad ≡ judged_of m x → accept_form m s ≡ refused bad
      go (read f) i q = absurd (let z : ◌≡◌ {A = ℕ} 0 1 = cc in omega arith)
      go (refused worse) i q = let same : worse ≡ bad = cc in i ∙ ap refused same

  -- its measures are within the limits
  pub accepted-small : (f : Form ℤ) → accept_form m s ≡ read f → Small (measures_of m f)
  accepted-small f e =
      let a = (accepts m s f).0 e in
      let d = all-at (degrees m f) a.degrees-fit in
      record { weight-small = a.weight-fits; terms-small = a.terms-fit; small-0 = d 0; small-1 = d 1; small-2 = d 2; small-3 = d 3 }

-- What stands besides: theorems of this crate that no other proof leans on.
use Rattle.std.specs.Prelude.{Ok, List, refl, ℕ, ℤ}
use Rattle.std.proofs.Math.Path.{◌≡◌}
use Rattle.std.proofs.Common.{sym, arith}
use Rattle.horner.specs.definitions.Form.{Form as HForm}
use Rattle.text.specs.definitions.Bytes.{Reading, read, refused}
use Rattle.text.specs.definitions.FormReading.{accept_form, read_form}
use Rattle.measure.specs.declared.Measures.{Measures}
use Rattle.form_syntax.specs.Answer.{form_syntax_of}
use Rattle.form_build.specs.Answer.{IsRead, judged_of}
use Rattle.form_build.specs.Build.{Accepted}
use Rattle.form_build.specs.laws.Answered.{form-accepted}

pub syntax-read : (s : List ℕ) → form_syntax_of (read_form s) ≡ Ok tt → IsRead s
syntax-read s = go (read_form s) refl
  where
    go : (x : Reading (HForm ℤ)) → read_form s ≡ x → form_syntax_of x ≡ Ok tt → IsRead s
    go (read f) e h = record { f = f; is = e }
    go (refused bad) e h = absurd (let z : ◌≡◌ {A = ℕ} 0 1 = cc in omega arith)

module _ (m : ℕ) (s : List ℕ) where
  pub judged-accepted : (a : Measures) → judged_of m (accept_form m s) ≡ Ok a → Accepted m s
  judged-accepted a h = let A = form-accepted m s a (sym h) in record { f = A.f; is = A.is }

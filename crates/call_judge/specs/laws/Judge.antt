-- What `judge` replies, by what is found of the text.
use Rattle.std.specs.Prelude.{Ok, Err, true, false, List, ◌≡◌, ℕ, ℤ, length}
use Rattle.std.proofs.Math.Path.{refl, ap}
use Rattle.std.proofs.Common.{sym, ◌∙◌}
use Rattle.horner.specs.definitions.Form.{Form as HForm}
use Rattle.refusal.specs.Refusal.{on_side, of_neither}
use Rattle.refusal.specs.declared.Fault.{Fault}
use Rattle.refusal.specs.declared.Side.TheVariants.{Left}
use Rattle.text.specs.definitions.Bytes.{Reading, is_row}
use Rattle.text.specs.definitions.FormReading.{accept_form}
use Rattle.reply.specs.definitions.Calls.{judge_reply}
use Rattle.reply.specs.definitions.Reply.{gives, refuses, read_as}
use Rattle.measure.specs.declared.Measures.{Measures}
use Rattle.form_build.specs.Answer.{judged_of}
use Rattle.form_build.specs.laws.Answered.{form-accepted, form-refused}

module _ (row s : List ℕ) where
  pub row-refused : is_row row ≡ false → refuses (of_neither 1) ≡ judge_reply row s
  unfolding judge_reply
  row-refused h = rw h refl

  goes_on : is_row row ≡ true → {x : Reading (HForm ℤ)} → accept_form (length row) s ≡ x → read_as Left x (λ f. gives tt) ≡ judge_reply row s
  unfolding judge_reply
  goes_on h e = ap (λ (z : Reading (HForm ℤ)). read_as Left z (λ f. gives tt)) (sym e) ∙ rw h refl

  pub text-refused :
      is_row row ≡ true → {bad : Fault} → judged_of (length row) (accept_form (length row) s) ≡ Err bad →
      refuses (on_side Left bad) ≡ judge_reply row s
  text-refused h {bad} k = goes_on h (form-refused (length row) s bad (sym k))

  pub text-stands :
      is_row row ≡ true → {a : Measures} → judged_of (length row) (accept_form (length row) s) ≡ Ok a → gives tt ≡ judge_reply row s
  text-stands h {a} k = goes_on h (form-accepted (length row) s a (sym k)).is

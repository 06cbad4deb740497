-- What stands besides: theorems of this crate that no other proof leans on.
use Rattle.std.specs.Prelude.{Result, Err, List, ◌≡◌, ℕ, ◌<◌, leb, ℤ, length}
use Rattle.std.proofs.Common.{◌∙◌}
use Rattle.std.proofs.Math.Path.{ap}
use Rattle.std.proofs.lemmas.Bool.{lt-leb}
use Rattle.refusal.specs.declared.Fault.{Fault}
use Rattle.refusal.specs.Refusal.{on_side, of_neither}
use Rattle.horner.specs.definitions.Form.{Form as HForm, raise}
use Rattle.horner.specs.definitions.Rings.{ℤ_ring}
use Rattle.code_power.specs.Raise as P
use Rattle.text.specs.definitions.Bytes.{Reading, read}
use Rattle.text.specs.definitions.FormReading.{accept_form, text}
use Rattle.reply.specs.definitions.Reply.{read_as, asked, fitted}
use Rattle.reply.specs.definitions.Calls.{of_power, limited, raise_of}
use Rattle.refusal.specs.declared.Side.TheVariants.{Left}
use Rattle.form_read.specs.Read.{FormRead}
use Rattle.form_read.specs.declared.FormCode.{FormCode}
use Rattle.form_read.specs.laws.Read.{read-refusal}
use Rattle.door_forms.specs.laws.Two.{Answers, answers}
use Rattle.call_raise.specs.laws.Raise.{accepted}

module _ (row s : List ℕ) (k n : ℕ) where
  pub raise-refused :
      {l : List ℕ} {bad : Fault} {r : Result FormCode Fault} (b : List ℕ) → r ≡ Err bad → FormRead (length row) s r l →
      Answers (raise_of row s k n) (Err (on_side Left bad)) b b
  raise-refused b h t =
      answers b
      (ap (λ (z : Reading (HForm ℤ)). read_as Left z
      (λ x. asked (leb k 63) 8 (λ v. limited (of_power (length row) x k) (λ w. fitted n (text (raise ℤ_ring x k))))))
      (read-refusal h t))

  -- the exponent passes its limit
  pub raise-high :
      {f : HForm ℤ} (b : List ℕ) → accept_form (length row) s ≡ read f → 63 < k → Answers (raise_of row s k n) (Err (of_neither 8)) b b
  raise-high {f} b e h =
      answers b
      (accepted row s k n e
      ∙ ap (λ t. asked t 8 (λ v. limited (of_power (length row) f k) (λ w. fitted n (text (raise ℤ_ring f k))))) (lt-leb k 63 h))

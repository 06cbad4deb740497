-- What stands besides: theorems of this crate that no other proof leans on.
use Rattle.std.specs.Prelude.{Result, Err, List, ◌≡◌, ℕ, ℤ, length}
use Rattle.std.proofs.Common.{ap, ◌∙◌, arith}
use Rattle.refusal.specs.Refusal.{on_side}
use Rattle.horner.specs.definitions.Form.{Form as HForm}
use Rattle.text.specs.definitions.Bytes.{Reading}
use Rattle.text.specs.definitions.FormReading.{accept_form, text}
use Rattle.reply.specs.definitions.Calls.{Measured, limited, two_of}
use Rattle.reply.specs.definitions.Reply.{refuses, read_as, fitted}
use Rattle.refusal.specs.declared.Refusal.{Refusal}
use Rattle.refusal.specs.declared.Side.TheVariants.{Left, Right}
use Rattle.door_forms.specs.Forms.{PairRead, left-refusal, right-refusal, forms}
use Rattle.door_forms.specs.declared.FormPair.{FormPair}
use Rattle.door_forms.specs.laws.Two.{Answers, answers}

module _ (measured : HForm ℤ → HForm ℤ → Measured) (op : HForm ℤ → HForm ℤ → HForm ℤ) (row s t : List ℕ) (n : ℕ) where
  -- a text is refused
  pub two-refused : {l : List ℕ} {r : Result FormPair Refusal} {bad : Refusal} (b : List ℕ) → r ≡ Err bad → PairRead (length row) s t r l
      → Answers (two_of measured op row s t n) (Err bad) b b
  two-refused {bad = bad} b h (left-refusal worse i j) =
      let k = ap (λ (z : Reading (HForm ℤ)). read_as Left z
      (λ x. read_as Right (accept_form (length row) t) (λ y. limited (measured x y) (λ v. fitted n (text (op x y)))))) i in
      let same : on_side Left worse ≡ bad = cc in
      answers b (k ∙ ap refuses same)
  two-refused {bad = bad} b h (right-refusal f worse i j g) =
      let k =
      ap (λ (z : Reading (HForm ℤ)). read_as Left z
      (λ x. read_as Right (accept_form (length row) t) (λ y. limited (measured x y) (λ v. fitted n (text (op x y)))))) i
      ∙ ap (λ (z : Reading (HForm ℤ)). read_as Right z (λ y. limited (measured f y) (λ v. fitted n (text (op f y))))) j in
      let same : on_side Right worse ≡ bad = cc in
      answers b (k ∙ ap refuses same)
  two-refused b h (forms p P g) = absurd (let z : ◌≡◌ {A = ℕ} 0 1 = cc in omega arith)

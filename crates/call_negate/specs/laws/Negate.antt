-- What `negate` answers, by what is read of the form.
use Rattle.std.specs.Prelude.{Err, false, List, ◌≡◌, ℕ, ◌≤◌, ℤ, length, take}
use Rattle.std.proofs.Math.Path.{sym, ap}
use Rattle.std.proofs.Common.{◌∙◌, arith}
use Rattle.refusal.specs.declared.Refusal.{Refusal}
use Rattle.horner.specs.definitions.Form.{Form as HForm, negate}
use Rattle.horner.specs.definitions.Rings.{ℤ_ring}
use Rattle.horner.specs.definitions.Measures.{degrees}
use Rattle.horner.proofs.laws.Carry.{carry-negate}
use Rattle.horner.proofs.laws.Normal.{normal-negate}
use Rattle.horner.proofs.laws.Table.{negate-fits}
use Rattle.code.specs.Coding.{Codes, Made, dec}
use Rattle.code.specs.Operations as C
use Rattle.text.specs.definitions.Bytes.{Reading}
use Rattle.text.specs.definitions.FormReading.{accept_form, text}
use Rattle.form_write.specs.Write.{text_of}
use Rattle.reply.specs.definitions.Reply.{untouched, refuses, read_as, fitted}
use Rattle.reply.specs.definitions.Calls.{negate_of, negate_reply}
use Rattle.measure.specs.declared.Measures.{Measures}
use Rattle.door.specs.Door.{ready_of}
use Rattle.refusal.specs.declared.Side.TheVariants.{Left}
use Rattle.door.specs.laws.Door.{Open, open-goes, not-open}
use Rattle.door.specs.laws.Ending.{read-clears, fitted-clears}
use Rattle.door.specs.laws.Numbers.{form-number}
use Rattle.form_build.specs.Build.{over_p}
use Rattle.form_read.specs.Read.{IsForm}
use Rattle.door_forms.specs.laws.Results.{Within, operand, result, decoded, codes, words, result-text}

-- ---- the negative is written
module _ {m : ℕ} {s l : List ℕ} {a : Measures} {n : ℕ} (few : m ≤ 4) (F : IsForm m s a n l) where
  within : Within m (degrees m F.f) (negate ℤ_ring F.f)
  within =
      let W = operand m s few F.f F.accepted in
      result (normal-negate ℤ_ring m F.f W.normal) W.sized W.low W.light (omega (arith, W.few))
      (negate-fits m F.f W.normal)

  is_negative : C.negate_of 0 (dec 0 (take n l)) ≡ over_p (negate ℤ_ring F.f)
  unfolding C.negate_of
  is_negative = ap (C.negate_of 0) (decoded few (operand m s few F.f F.accepted) F.made) ∙ sym (carry-negate F.f)

  module _ {k : ℕ} {d : List ℕ} (M : Made 0 (C.negate_of 0 (dec 0 (take n l))) k d) where
    pub negative-codes : Codes 0 (over_p (negate ℤ_ring F.f)) (take k d)
    negative-codes = codes few within is_negative M

    pub negative-words : k ≤ 3073
    negative-words = words few within is_negative M

    negative-text : text_of (dec 0 (take k d)) ≡ text (negate ℤ_ring F.f)
    negative-text = result-text few within negative-codes

pub negate-is : (row : List ℕ) {s l : List ℕ} {a : Measures} {n : ℕ} (few : length row ≤ 4) (F : IsForm (length row) s a n l)
    {k : ℕ} {d : List ℕ} (room : ℕ)
    → Made 0 (C.negate_of 0 (dec 0 (take n l))) k d → fitted room (text_of (dec 0 (take k d))) ≡ negate_of row s room
negate-is row few F room M =
    ap (fitted room) (negative-text few F M)
    ∙ ap (λ (x : Reading (HForm ℤ)). read_as Left x (λ x. fitted room (text (negate ℤ_ring x)))) (sym F.accepted)

-- ---- the whole call
module _ (row ts s : List ℕ) (n : ℕ) where
  pub negate-open : Open row ts → negate_reply row ts s n ≡ negate_of row s n
  unfolding negate_reply
  negate-open o = open-goes row ts (λ u. negate_of row s n) o

  pub negate-not-open : {bad : Refusal} → ready_of row ts ≡ Err bad → negate_reply row ts s n ≡ refuses bad
  unfolding negate_reply
  negate-not-open h = not-open row ts (λ u. negate_of row s n) h

  pub negate-clears : untouched (negate_of row s n) ≡ false
  negate-clears =
      read-clears Left (accept_form (length row) s) (λ x. fitted n (text (negate ℤ_ring x))) (form-number (length row) s)
      (λ x. fitted-clears n (text (negate ℤ_ring x)))

-- What `form_remainder` answers, by what is read of the form.
use Rattle.std.specs.Prelude.{Ok, false, List, ◌++◌, ◌≡◌, ℕ, ◌≤◌, ℤ, length, take}
use Rattle.std.proofs.Math.Path.{refl}
use Rattle.std.proofs.Common.{sym, ap, ◌∙◌}
use Rattle.refusal.specs.declared.Side.TheVariants.{Left}
use Rattle.horner.specs.definitions.Form.{Form, evalh}
use Rattle.horner.specs.definitions.Rings.{ℤ_ring}
use Rattle.code.proofs.Making.{front-codes}
use Rattle.code.specs.Coding.{dec}
use Rattle.code.specs.Operations.{value_of}
use Rattle.code.specs.laws.Codes.{dec-enc}
use Rattle.text.specs.definitions.Bytes.{Reading}
use Rattle.text.specs.definitions.FormReading.{accept_form}
use Rattle.measure.specs.declared.Measures.{Measures}
use Rattle.reply.specs.definitions.Reply.{untouched, Reply, gives, read_as}
use Rattle.reply.specs.definitions.Calls.{form_remainder_of, form_remainder_reply, remainder}
use Rattle.form_build.specs.laws.Accepted.{accepted-good}
use Rattle.form_read.specs.Read.{IsForm}
use Rattle.door.specs.laws.Ending.{read-clears}
use Rattle.door.specs.laws.Numbers.{form-number}
use Rattle.door_point.specs.Point.{remaindered_of, residues_of}
use Rattle.door_point.specs.laws.Residues.{residues-front}
use Rattle.door_point.specs.laws.Values.{value-form}
use Rattle.door_point.specs.laws.Whole.{pointed}

abbrev pub answer : List ℤ → Reading (Form ℤ) → Reply ℕ
answer N x = read_as Left x (λ f. gives (remainder (evalh ℤ_ring f N)))

module _ (row : List ℕ) {s l : List ℕ} (N : List ℤ) where
  pub remainder_is :
      {a : Measures} {k v : ℕ} (m : ℕ) (d : List ℕ) {b : List ℕ} → length row ≤ 4 → IsForm (length row) s a k l → m ≡ length N →
      b ≡ residues_of N ++ d
      → v ≡ value_of 0 (dec 0 (take k l)) (take m b) → Ok v ≡ remaindered_of (form_remainder_of row s N)
  remainder_is {k = k} m d few F i h e =
      let f = ap (λ b. take m b) h ∙ residues-front N m d (sym i) in
      let g = ap (λ x. value_of 0 x (residues_of N))
      (dec-enc (front-codes F.made (accepted-good (length row) s few F.f F.accepted))) ∙ value-form F.f N in
      ap Ok (e ∙ ap (value_of 0 (dec 0 (take k l))) f ∙ g) ∙ ap (λ x. remaindered_of (answer N x)) (sym F.accepted)

-- ---- the whole call
module _ (row ts s : List ℕ) (N : List ℤ) where
  pub remainder-pointed : form_remainder_reply row ts s N ≡ pointed row ts N (form_remainder_of row s N)
  unfolding form_remainder_reply
  remainder-pointed = refl

  pub remainder-clears : untouched (form_remainder_of row s N) ≡ false
  remainder-clears =
      read-clears Left (accept_form (length row) s) (λ f. gives (remainder (evalh ℤ_ring f N))) (form-number (length row) s) (λ t. refl)

-- What stands besides: theorems of this crate that no other proof leans on.
use Rattle.std.specs.Prelude.{Err, List, ◌≡◌, ℕ, ◌≤◌, length, take}
use Rattle.refusal.specs.declared.Refusal.{Refusal}
use Rattle.horner.specs.definitions.Form.{prod}
use Rattle.horner.specs.definitions.Rings.{ℤ_ring}
use Rattle.code.specs.Coding.{Codes, Made, dec}
use Rattle.code_room.specs.Fit.{prod_of}
use Rattle.text.specs.definitions.FormReading.{text}
use Rattle.form_write.specs.Write.{text_of}
use Rattle.reply.specs.definitions.Calls.{of_product, two_of, multiply_reply}
use Rattle.reply.specs.definitions.Reply.{refuses}
use Rattle.measure.specs.Measure.{mul_m, limit_m}
use Rattle.code_pair.specs.Pair.{left, right}
use Rattle.door.specs.Door.{ready_of}
use Rattle.door.specs.laws.Door.{Open, open-goes, not-open}
use Rattle.form_build.specs.Build.{over_p}
use Rattle.door_forms.specs.Forms.{IsPair}
use Rattle.door_forms.specs.declared.FormPair.{FormPair}
use Rattle.door_forms.specs.laws.Results.{codes, words, result-text}
use Rattle.call_multiply.specs.laws.Multiply.{within, is-product}

module _ {m : ℕ} {s t l : List ℕ} {p : FormPair} (few : m ≤ 4) (P : IsPair m s t p l) where
  module _ (z : limit_m (mul_m p.left.measures p.right.measures) ≡ 0) where
    module _ {r : ℕ} {d : List ℕ} (M : Made 0 (prod_of 0 (left p.left.words l) (right p.left.words p.right.words l)) r d) where
      pub product-codes : Codes 0 (over_p (prod ℤ_ring P.of_left.f P.of_right.f)) (take r d)
      product-codes = codes few (within few P z) (is-product few P z) M

      pub product-words : r ≤ 3073
      product-words = words few (within few P z) (is-product few P z) M

      pub product-text : text_of (dec 0 (take r d)) ≡ text (prod ℤ_ring P.of_left.f P.of_right.f)
      product-text = result-text few (within few P z) product-codes

module _ (row ts s t : List ℕ) (n : ℕ) where
  pub multiply-open : Open row ts → multiply_reply row ts s t n ≡ two_of (of_product (length row)) (prod ℤ_ring) row s t n
  unfolding multiply_reply
  multiply-open o = open-goes row ts (λ u. two_of (of_product (length row)) (prod ℤ_ring) row s t n) o

  pub multiply-not-open : {bad : Refusal} → ready_of row ts ≡ Err bad → multiply_reply row ts s t n ≡ refuses bad
  unfolding multiply_reply
  multiply-not-open h = not-open row ts (λ u. two_of (of_product (length row)) (prod ℤ_ring) row s t n) h

-- What stands besides: theorems of this crate that no other proof leans on.
use Rattle.std.specs.Prelude.{Err, List, ◌≡◌, ℕ, ◌≤◌, length, take}
use Rattle.refusal.specs.declared.Refusal.{Refusal}
use Rattle.horner.specs.definitions.Form.{sum}
use Rattle.horner.specs.definitions.Rings.{ℤ_ring}
use Rattle.code.specs.Coding.{Codes, Made, dec}
use Rattle.code.specs.Operations.{sum_of}
use Rattle.text.specs.definitions.FormReading.{text}
use Rattle.form_write.specs.Write.{text_of}
use Rattle.reply.specs.definitions.Calls.{of_sum, two_of, add_reply}
use Rattle.reply.specs.definitions.Reply.{refuses}
use Rattle.measure.specs.Measure.{add_m, limit_m}
use Rattle.code_pair.specs.Pair.{left, right}
use Rattle.door.specs.Door.{ready_of}
use Rattle.door.specs.laws.Door.{Open, open-goes, not-open}
use Rattle.form_build.specs.Build.{over_p}
use Rattle.door_forms.specs.Forms.{IsPair}
use Rattle.door_forms.specs.declared.FormPair.{FormPair}
use Rattle.door_forms.specs.laws.Results.{codes, words, result-text}
use Rattle.call_add.specs.laws.Add.{within, is_sum}

module _ {m : ℕ} {s t l : List ℕ} {p : FormPair} (few : m ≤ 4) (P : IsPair m s t p l) where
  module _ (z : limit_m (add_m p.left.measures p.right.measures) ≡ 0) where
    module _ {r : ℕ} {d : List ℕ} (M : Made 0 (sum_of 0 (left p.left.words l) (right p.left.words p.right.words l)) r d) where
      pub sum_codes : Codes 0 (over_p (sum ℤ_ring P.of_left.f P.of_right.f)) (take r d)
      sum_codes = codes few (within few P z) (is_sum few P z) M

      pub sum-words : r ≤ 3073
      sum-words = words few (within few P z) (is_sum few P z) M

      pub sum-text : text_of (dec 0 (take r d)) ≡ text (sum ℤ_ring P.of_left.f P.of_right.f)
      sum-text = result-text few (within few P z) sum_codes

module _ (row ts s t : List ℕ) (n : ℕ) where
  pub add_open : Open row ts → add_reply row ts s t n ≡ two_of (of_sum (length row)) (sum ℤ_ring) row s t n
  unfolding add_reply
  add_open o = open-goes row ts (λ u. two_of (of_sum (length row)) (sum ℤ_ring) row s t n) o

  pub add-not-open : {bad : Refusal} → ready_of row ts ≡ Err bad → add_reply row ts s t n ≡ refuses bad
  unfolding add_reply
  add-not-open h = not-open row ts (λ u. two_of (of_sum (length row)) (sum ℤ_ring) row s t n) h

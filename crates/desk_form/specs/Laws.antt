-- The result texts of `negate` and `raise` are within what was lent, and the answers by the tests that the code makes.
use Rattle.std.specs.Prelude.{Option, Some, List, ◌≡◌, refl, ℕ, ◌≤◌, min, leb, length}
use Rattle.std.proofs.Common.{ap, ◌∙◌}
use Rattle.refusal.specs.declared.Side.TheVariants.{Left}
use Rattle.horner.specs.definitions.Form.{negate, raise}
use Rattle.horner.specs.definitions.Rings.{ℤ_ring}
use Rattle.text.specs.definitions.FormReading.{accept_form, text}
use Rattle.reply.specs.definitions.Calls.{of_power, judge_reply, negate_reply, raise_reply}
use Rattle.reply.specs.definitions.Reply.{Judged, Reply, gives, refuses}
use Rattle.desk_field.specs.Fields.{field_of, count_of, natural_of}
use Rattle.desk_reply.specs.Reply.{wrong_text, result_text}
use Rattle.desk_reply.specs.laws.Replies.{Within, within-asked, within-read, within-fitted}
use Rattle.desk_serve.specs.Laws.{counted-not, two_fields, numbered_is}
use Rattle.desk_serve.specs.Texts.{within-opened, within-limited}
use Rattle.call_judge.specs.Judge.{judged_of}
use Rattle.desk_form.specs.Form.{judged_text, judged_line, judge_line, raise_by, raise_line}

-- ---- result texts
module _ (tables row s : List ℕ) where
  pub within-negate : (n : ℕ) → Within n (negate_reply row tables s n)
  unfolding negate_reply
  within-negate n =
      within-opened row tables n _ (λ u. within-read n Left (accept_form (length row) s) _ (λ x. within-fitted n (text (negate ℤ_ring x))))

  pub within-raise : (k n : ℕ) → Within n (raise_reply row tables s k n)
  unfolding raise_reply
  within-raise k n =
      within-opened row tables n _
      (λ u. within-read n Left (accept_form (length row) s) _
      (λ x. within-asked n (leb k 63) 8 _
      (λ v. within-limited n (of_power (length row) x k) _ (λ w. within-fitted n (text (raise ℤ_ring x k))))))

-- ---- a judgement
judged-is : (x : Reply (Unit {0})) → judged_line (judged_of x) ≡ judged_text x
judged-is (gives u) = refl
judged-is (refuses bad) = refl

pub judge-fields :
    (line : List ℕ) {n : ℕ} {row s : List ℕ} {x : Judged} → n ≡ count_of line → n ≡ 3 → row ≡ field_of line 1 → s ≡ field_of line 2 →
    x ≡ judged_of (judge_reply row s) → judged_line x ≡ judge_line line
judge-fields line {n} {row} {s} e h r t a =
    ap judged_line a ∙ judged-is (judge_reply row s) ∙ two_fields 3 line e h r t (λ u v. judged_text (judge_reply u v))

-- ---- raising, where field 3 is the number k
module _ (tables line : List ℕ) {n k : ℕ} {field : List ℕ} {x : Option ℕ} (is : n ≡ count_of line) (there : 4 ≤ n)
    (read : x ≡ natural_of field) (at : field ≡ field_of line 3) (known : x ≡ Some k) where
  raise-is : raise_by tables line k ≡ raise_line tables line
  raise-is = numbered_is 3 line (raise_by tables line) is there read at known

  pub raise-miscounted : (n ≡ 4 → ⊥) → wrong_text (min n 4) ≡ raise_line tables line
  raise-miscounted h = counted-not 4 line (result_text (raise_reply (field_of line 1) tables (field_of line 2) k 65535)) is h ∙ raise-is

  pub raise-fields :
      {row s : List ℕ} → n ≡ 4 → row ≡ field_of line 1 → s ≡ field_of line 2 →
      result_text (raise_reply row tables s k 65535) ≡ raise_line tables line
  raise-fields h r t = two_fields 4 line is h r t (λ u v. result_text (raise_reply u tables v k 65535)) ∙ raise-is

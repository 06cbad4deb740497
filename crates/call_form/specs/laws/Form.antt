-- What `form` answers, by what is read of the term.
use Rattle.std.specs.Prelude.{Err, true, false, List, ◌≡◌, ℕ, length, take}
use Rattle.std.proofs.Common.{sym, ap, ◌∙◌}
use Rattle.refusal.specs.declared.Refusal.{Refusal}
use Rattle.horner.specs.definitions.Term.{norm_ℤ}
use Rattle.code.specs.Coding.{dec}
use Rattle.code.specs.laws.Codes.{dec-enc}
use Rattle.text.specs.definitions.Bytes.{Reading, is_row}
use Rattle.text.specs.definitions.Limits.{accept_term}
use Rattle.text.specs.definitions.FormReading.{text}
use Rattle.text.specs.definitions.Tree.{Tree, term_of}
use Rattle.text_laws.specs.laws.Rows.{accepted-within}
use Rattle.form_write.specs.Write.{text_of}
use Rattle.form_write.specs.laws.Integers.{text-norm_p}
use Rattle.reply.specs.definitions.Reply.{refuses, read_as, fitted, untouched}
use Rattle.reply.specs.definitions.Calls.{form_of, form_reply}
use Rattle.door.specs.Door.{ready_of}
use Rattle.term_read.specs.Read.{IsTerm}
use Rattle.refusal.specs.declared.Side.TheVariants.{Left}
use Rattle.door.specs.laws.Door.{Open, open-goes, not-open}
use Rattle.door.specs.laws.Ending.{read-clears, fitted-clears}
use Rattle.door.specs.laws.Numbers.{term-number}
use Rattle.term_read.specs.laws.Terms.{term-codes}

module _ {row s l : List ℕ} where
  -- the form is written
  pub form-is : (n : ℕ) {k : ℕ} → is_row row ≡ true → IsTerm row s k l → fitted n (text_of (dec 0 (take k l))) ≡ form_of row s n
  form-is n {k} r T =
      let w = accepted-within row s T.t T.accepted in
      let e = ap text_of (dec-enc (term-codes r T)) ∙ text-norm_p (length row) (term_of row T.t) w.over w.degrees w.weight in
      ap (fitted n) e ∙ ap (λ (x : Reading Tree). read_as Left x (λ t. fitted n (text (norm_ℤ (term_of row t))))) (sym T.accepted)

-- ---- the whole call
module _ (row ts s : List ℕ) (n : ℕ) where
  pub form-open : Open row ts → form_reply row ts s n ≡ form_of row s n
  unfolding form_reply
  form-open o = open-goes row ts (λ u. form_of row s n) o

  pub form-not-open : {bad : Refusal} → ready_of row ts ≡ Err bad → form_reply row ts s n ≡ refuses bad
  unfolding form_reply
  form-not-open h = not-open row ts (λ u. form_of row s n) h

  pub form-clears : untouched (form_of row s n) ≡ false
  form-clears =
      read-clears Left (accept_term row s) (λ t. fitted n (text (norm_ℤ (term_of row t)))) (term-number row s)
      (λ t. fitted-clears n (text (norm_ℤ (term_of row t))))

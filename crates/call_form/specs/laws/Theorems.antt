-- What stands besides: theorems of this crate that no other proof leans on.
use Rattle.std.specs.Prelude.{Result, Err, List, ◌≡◌, ℕ}
use Rattle.std.proofs.Common.{ap}
use Rattle.refusal.specs.Refusal.{on_side}
use Rattle.refusal.specs.declared.Fault.{Fault}
use Rattle.horner.specs.definitions.Term.{norm_ℤ}
use Rattle.text.specs.definitions.Bytes.{Reading}
use Rattle.text.specs.definitions.FormReading.{text}
use Rattle.text.specs.definitions.Tree.{Tree, term_of}
use Rattle.reply.specs.definitions.Reply.{refuses, read_as, fitted}
use Rattle.reply.specs.definitions.Calls.{form_of}
use Rattle.term_read.specs.Read.{TermRead}
use Rattle.refusal.specs.declared.Side.TheVariants.{Left}
use Rattle.term_read.specs.laws.Reading.{read-refusal}

module _ {row s l : List ℕ} where
  -- the text is refused
  pub form-refused :
      {bad : Fault} {r : Result ℕ Fault} (n : ℕ) → r ≡ Err bad → TermRead row s r l → form_of row s n ≡ refuses (on_side Left bad)
  form-refused n h t = ap (λ (x : Reading Tree). read_as Left x (λ t. fitted n (text (norm_ℤ (term_of row t))))) (read-refusal h t)

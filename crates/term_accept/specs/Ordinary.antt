-- Of document 01's own terms the answer is what the calls reply with: the tree, or the refusal's number and place.
use Rattle.std.specs.Prelude.{List, ◌≡◌, Ok, Err, ℕ}
use Rattle.std.proofs.Math.Path.{ap}
use Rattle.dialect.specs.Dialects.{ordinary}
use Rattle.text.specs.definitions.Answer.{told}
use Rattle.text.specs.definitions.Bytes.{read, refused}
use Rattle.text.specs.definitions.Limits.{accept_term}
use Rattle.refusal.specs.Refusal.{fault_of}
use Rattle.refusal.specs.declared.Flaw.{Flaw}
use Rattle.term_accept.specs.Accepted.{AcceptedAs}

module _ (row s out : List ℕ) where
  -- the words of a tree are answered: the text is accepted as that tree
  pub accepted-ordinary : (k : ℕ) (a : AcceptedAs ordinary row s out (Ok k)) → accept_term row s ≡ read a.tree
  unfolding accept_term
  accepted-ordinary k a = ap told a.accepts

  -- a refusal is answered: the text is refused with that number at that place
  pub refused-ordinary : (f : Flaw) → AcceptedAs ordinary row s out (Err f) → accept_term row s ≡ refused (fault_of f)
  unfolding accept_term
  refused-ordinary f a = ap told a

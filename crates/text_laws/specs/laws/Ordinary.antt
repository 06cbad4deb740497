-- Document 01's own terms, by number and place: accepted and refused exactly as is described.
use Rattle.std.specs.Prelude.{List, ◌↔◌, ◌≡◌, ℕ}
use Rattle.std.proofs.Math.Path.{ap}
use Rattle.dialect.specs.Dialects.{ordinary}
use Rattle.text.specs.definitions.Answer as A
use Rattle.text.specs.definitions.Answer.{told}
use Rattle.text.specs.definitions.Bytes.{read, refused_at}
use Rattle.text.specs.definitions.Limits.{accept, accept_term}
use Rattle.text.specs.definitions.Meaning.{IsTerm, Part, Fits, OrdinaryRefused}
use Rattle.text.specs.definitions.Tree.{Tree}
use Rattle.text_laws.specs.laws.Accepted as D
use Rattle.text_laws.specs.laws.Answer.{told-read, told-refused}

module _ (row s : List ℕ) where
  -- what is told as read was read
  pub accepted : (t : Tree) → accept_term row s ≡ read t → accept ordinary row s ≡ A.read t
  unfolding accept_term
  accepted t h = told-read (accept ordinary row s) t h

  -- "a term inside the limits is accepted", and nothing else
  pub accepts : (t : Tree) → (accept_term row s ≡ read t) ↔ (IsTerm ordinary row s t × ((y : Tree) → Part y t → Fits row y))
  unfolding accept_term
  accepts t = (λ h. (D.accepts ordinary row s t).0 (accepted t h), λ h. ap told ((D.accepts ordinary row s t).1 h))

  refused-so : (c p : ℕ) → accept_term row s ≡ refused_at c p → OrdinaryRefused row s c p
  unfolding accept_term
  refused-so c p h =
      let r = told-refused (accept ordinary row s) c p h in
      record { end = r.end; why = (D.refuses ordinary row s c p r.end).0 r.is }

  -- no refusal but those described, each exactly when its line of the table says so
  pub refuses : (c p : ℕ) → (accept_term row s ≡ refused_at c p) ↔ OrdinaryRefused row s c p
  unfolding accept_term
  refuses c p = (refused-so c p, λ r. ap told ((D.refuses ordinary row s c p r.end).1 r.why))

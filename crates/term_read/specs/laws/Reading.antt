-- What was read, by the result; and what stands at the front of a table.
use Rattle.std.specs.Prelude.{List, ◌++◌, ◌≡◌, Result, Ok, Err, ℕ}
use Rattle.std.proofs.Common.{sym, ap, ◌∙◌}
use Rattle.std.proofs.lemmas.List.{take-append-le}
use Rattle.refusal.specs.declared.Fault.{Fault}
use Rattle.text.specs.definitions.Bytes.{refused}
use Rattle.text.specs.definitions.Limits.{accept_term}
use Rattle.code.specs.Coding.{Begins}
use Rattle.code.proofs.Lists.{begins-le}
use Rattle.term_read.specs.Read.{ReadAs, refusal, words}

-- it is one or the other
no_words : {P : Type 0} {n : ℕ} {bad : Fault} → ◌≡◌ {A = Result ℕ Fault} (Ok n) (Err bad) → P
no_words h = cc

module _ {Is : ℕ → List ℕ → Type 0} {row s l : List ℕ} {r : Result ℕ Fault} where
  -- words are answered
  pub read-words : {n : ℕ} → r ≡ Ok n → ReadAs Is row s r l → Is n l
  read-words h (refusal bad a i) = no_words (sym h ∙ i)
  read-words {n} h (words m t i) = let e : m ≡ n = cc in rw e at t

  -- a refusal is
  pub read-refusal : {bad : Fault} → r ≡ Err bad → ReadAs Is row s r l → accept_term row s ≡ refused bad
  read-refusal h (words n t i) = no_words (sym i ∙ h)
  read-refusal {bad} h (refusal worse a i) = let j : worse ≡ bad = cc in a ∙ ap refused j

-- a refusal says nothing of the tables, nor of what would have been made
pub refused-any :
    {Is : ℕ → List ℕ → Type 0} (If : ℕ → List ℕ → Type 0) {row s l : List ℕ} {r : Result ℕ Fault} {bad : Fault} (k : List ℕ) →
    r ≡ Err bad → ReadAs Is row s r l → ReadAs If row s r k
refused-any If {bad = bad} k h t = refusal bad (read-refusal h t) h

-- what stands at the front of a table stands there also where more follows
pub begins-front : {r : ℕ} {w : List ℕ} (l k : List ℕ) → Begins r w l → Begins r w (l ++ k)
begins-front {r} l k b = record { size = b.size; is = take-append-le r l k (begins-le b) ∙ b.is }

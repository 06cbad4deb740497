-- What `remainder` answers, by what is read of the term.
use Rattle.std.specs.Prelude.{Ok, true, false, List, ◌++◌, ◌≡◌, ℕ, ℤ, length, take}
use Rattle.std.proofs.Math.Path.{refl}
use Rattle.std.proofs.Common.{sym, ap, ◌∙◌}
use Rattle.refusal.specs.declared.Side.TheVariants.{Left}
use Rattle.horner.specs.definitions.Term.{eval_ℤ}
use Rattle.code.specs.Coding.{dec}
use Rattle.code.specs.Operations.{value_of}
use Rattle.code.specs.laws.Codes.{dec-enc}
use Rattle.text.specs.definitions.Bytes.{Reading, is_row}
use Rattle.text.specs.definitions.Limits.{accept_term}
use Rattle.text.specs.definitions.Tree.{Tree, term_of}
use Rattle.text_laws.specs.laws.Rows.{accepted-within}
use Rattle.reply.specs.definitions.Reply.{untouched, Reply, gives, read_as}
use Rattle.reply.specs.definitions.Calls.{remainder, remainder_of, remainder_reply}
use Rattle.term_read.specs.Read.{IsTerm}
use Rattle.door.specs.laws.Ending.{read-clears}
use Rattle.door.specs.laws.Numbers.{term-number}
use Rattle.term_read.specs.laws.Terms.{term-codes}
use Rattle.door_point.specs.Point.{remaindered_of, residues_of}
use Rattle.door_point.specs.laws.Residues.{residues-front}
use Rattle.door_point.specs.laws.Values.{value-term}
use Rattle.door_point.specs.laws.Whole.{pointed}

abbrev pub answer : List ℕ → List ℤ → Reading Tree → Reply ℕ
answer row N x = read_as Left x (λ t. gives (remainder (eval_ℤ (term_of row t) N)))

module _ {row s l : List ℕ} (N : List ℤ) where
  -- the value is worked out, at the remainders in front of a table
  pub remainder_is :
      {k v : ℕ} (m : ℕ) (d : List ℕ) {b : List ℕ} → is_row row ≡ true → IsTerm row s k l → length N ≡ length row → m ≡ length N →
      b ≡ residues_of N ++ d
      → v ≡ value_of 0 (dec 0 (take k l)) (take m b) → Ok v ≡ remaindered_of (remainder_of row s N)
  remainder_is {k} m d r T len i h e =
      let w = accepted-within row s T.t T.accepted in
      let f = ap (λ b. take m b) h ∙ residues-front N m d (sym i) in
      let g = ap (λ x. value_of 0 x (residues_of N)) (dec-enc (term-codes r T)) ∙ value-term (length row) (term_of row T.t) N w len in
      ap Ok (e ∙ ap (value_of 0 (dec 0 (take k l))) f ∙ g) ∙ ap (λ x. remaindered_of (answer row N x)) (sym T.accepted)

-- ---- the whole call
module _ (row ts s : List ℕ) (N : List ℤ) where
  pub remainder-pointed : remainder_reply row ts s N ≡ pointed row ts N (remainder_of row s N)
  unfolding remainder_reply
  remainder-pointed = refl

  pub remainder-clears : untouched (remainder_of row s N) ≡ false
  remainder-clears = read-clears Left (accept_term row s) (λ t. gives (remainder (eval_ℤ (term_of row t) N))) (term-number row s) (λ t. refl)

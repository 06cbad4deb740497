-- The whole of a call that gives a remainder at a point: refused 1 or 2 at the door, refused 12, or answered; the tables cleared but for 1
-- and 2.
use Rattle.std.specs.Prelude.{Err, Bool, false, List, ◌≡◌, refl, ℕ, eqb, ℤ, length}
use Rattle.std.proofs.Common.{sym, ap, ◌∙◌, eq-eqb, ne_eqb}
use Rattle.refusal.specs.Refusal.{of_neither}
use Rattle.refusal.specs.declared.Refusal.{Refusal}
use Rattle.reply.specs.definitions.Reply.{Remaindered, Reply, refuses, asked, opened, work, untouched, told, Remainders}
use Rattle.door.specs.Door.{ready_of}
use Rattle.door.specs.laws.Door.{Open, open-goes, not-open, ready-small}
use Rattle.door.specs.laws.Ending.{tables-kept, Zeros, tables-cleared}
use Rattle.door_point.specs.Point.{remaindered_of, tells-remainder}

-- y, unless the row, the tables or the point's length is refused
abbrev pub pointed : (row ts : List ℕ) (N : List ℤ) → Reply ℕ → Reply ℕ
pointed row ts N y = opened row ts (λ u. asked (eqb (length N) (length row)) 12 (λ v. y))

cleared-whole :
    (x y : Reply ℕ) {r : Remaindered} (a b c d : List ℕ) {a' b' c' d' : List ℕ} → x ≡ y → untouched y ≡ false → r ≡ remaindered_of y
    → Zeros a b c d a' b' c' d' → Remainders x r (work a b c d) (work a' b' c' d')
cleared-whole x y a b c d h u i z =
    record { answer = ap told i ∙ tells-remainder y ∙ sym h; tables = tables-cleared x a b c d (ap untouched h ∙ u) z }

module _ (row ts : List ℕ) (N : List ℤ) (x y : Reply ℕ) (is : x ≡ pointed row ts N y) where
  abbrev rest : Bool → Reply ℕ
  rest b = asked b 12 (λ v. y)

  pub refused-whole :
      {bad : Refusal} (a b c d : List ℕ) → ready_of row ts ≡ Err bad → Remainders x (Err bad) (work a b c d) (work a b c d)
  refused-whole a b c d h =
      let k = is ∙ not-open row ts (λ u. rest (eqb (length N) (length row))) h in
      record { answer = sym k; tables = tables-kept x (work a b c d) k (ready-small row ts h) }

  -- the point has another length than the row
  pub other_length : (a b c d : List ℕ) {a' b' c' d' : List ℕ} → Open row ts → (length N ≡ length row → ⊥) → Zeros a b c d a' b' c' d'
      → Remainders x (Err (of_neither 12)) (work a b c d) (work a' b' c' d')
  other_length a b c d o n z =
      cleared-whole x (refuses (of_neither 12)) a b c d
      (is ∙ open-goes row ts (λ u. rest (eqb (length N) (length row))) o ∙ ap rest (ne_eqb (length N) (length row) n)) refl refl z

  pub answered-whole :
      {r : Remaindered} (a b c d : List ℕ) {a' b' c' d' : List ℕ} → Open row ts → length N ≡ length row → untouched y ≡ false →
      r ≡ remaindered_of y
      → Zeros a b c d a' b' c' d' → Remainders x r (work a b c d) (work a' b' c' d')
  answered-whole a b c d o l u i z =
      cleared-whole x y a b c d
      (is ∙ open-goes row ts (λ u. rest (eqb (length N) (length row))) o ∙ ap rest (eq-eqb (length N) (length row) l)) u i z

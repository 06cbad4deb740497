-- What the functions answer for each reading.
use Rattle.std.specs.Prelude.{Result, Ok, Err, List, ℕ, ◌+◌, ◌≤◌}
use Rattle.refusal.specs.declared.Fault.{Fault}
use Rattle.text.specs.definitions.Bytes.{onward, Reading, read, refused}
use Rattle.book.specs.definitions.Book.{body}

-- document 01's number and place, for each case of the enum
abbrev pub head_of : {A : Type 0} → Reading A → Result (Unit {0}) Fault
head_of (read a) = Ok tt
head_of (refused bad) = Err bad

abbrev pub body_of : Reading ℕ → Result ℕ Fault
body_of (read n) = Ok n
body_of (refused bad) = Err bad

-- the length of the two bodies of an entry together
abbrev pub both_of : List ℕ → ℕ → ℕ → Reading ℕ
both_of book p at = onward (body book p at) (λ m. onward (body book (p + 4) (at + m)) (λ n. read (m + n)))

-- places that stay small
pub record Near (p at : ℕ) : Type 0 where
  pub field : p ≤ 1000
  pub start : at ≤ 140000

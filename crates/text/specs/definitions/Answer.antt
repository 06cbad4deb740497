-- What the reading of a term answers. Request 102: "Every refusal shall carry an end beside its place".
use Rattle.std.specs.Prelude.{ℕ, zero, suc, ◌+◌, length}
use Rattle.text.specs.definitions.Bytes as B
use Rattle.text.specs.definitions.Bytes.{Token, opening, closing, word}

-- what was read, or the refusal
pub data Reading (A : Type 0) : Type 0 where
  read : A → Reading A
  refused : (number place end : ℕ) → Reading A

-- what was read is handed on; the first refusal stays
abbrev pub onward : {A B : Type 0} → Reading A → (A → Reading B) → Reading B
onward (read a) r = r a
onward (refused c p e) r = refused c p e

-- a check's number, 0 where nothing is refused, at the place p up to the end e; the rest is a function, so that it is computed only where
-- it counts
abbrev pub fine : {A : Type 0} → ℕ → ℕ → ℕ → (Unit {0} → Reading A) → Reading A
fine zero p e r = r tt
fine (suc c) p e r = refused (suc c) p e

-- "the byte after the offending token"
abbrev pub past_of : Token → ℕ
past_of (opening p) = suc p
past_of (closing p) = suc p
past_of (word p w) = p + length w

-- the answer by number and place alone
abbrev pub told : {A : Type 0} → Reading A → B.Reading A
told (read a) = B.read a
told (refused c p e) = B.refused_at c p

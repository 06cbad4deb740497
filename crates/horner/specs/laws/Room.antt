-- What the laws of proofs/laws/Room speak of.
use Rattle.std.specs.Prelude.{ℕ, suc, ◌+◌}
use Rattle.horner.specs.definitions.Form.{Form, int, pop, pow}

module _ {A : Type 0} where
  -- how many POW
  abbrev pub pows : Form A → ℕ
  pows (int c) = 0
  pows (pop i p) = pows p
  pows (pow i p q) = suc (pows p + pows q)

module _ {A : Type 0} where
  -- how many POP
  abbrev pub pops : Form A → ℕ
  pops (int c) = 0
  pops (pop i p) = suc (pops p)
  pops (pow i p q) = pops p + pops q

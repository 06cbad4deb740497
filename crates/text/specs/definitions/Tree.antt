-- A term as it stands in a text, in any dialect: each of its tokens with its place. An integer is kept as it is spelled, with its value.
use Rattle.std.specs.Prelude.{Bool, true, false, ◌&&◌, List, [], ◌∷◌, ◌++◌, ◌≡◌, ℕ, suc, ◌+◌, max, ℤ, length}
use Rattle.std.proofs.Math.Option.{some}
use Rattle.dialect.specs.declared.Dialect.{Dialect}
use Rattle.horner.specs.definitions.Term.{Term, num as number, var, minus, plus, diff, times, expt}
use Rattle.text.specs.definitions.Bytes.{bytes, capital, index_in, decimal, Token, opening, closing, word}
use Rattle.text.specs.definitions.Integers.{integer_of}

-- the operators of two operands
pub data Sign : Type 0 where
  add : Sign
  sub : Sign
  mul : Sign

-- as they are written
abbrev pub sign_text : Sign → List ℕ
sign_text add = bytes "+"
sign_text sub = bytes "-"
sign_text mul = bytes "*"

-- "A term is an integer, a row letter, `(- x)`, `(+ x y)`, `(- x y)`, `(* x y)` or `(EXPT x n)`, n an integer token not below zero." A
-- letter is its own byte, so that it is known whether or not it is in the row. The numbers are places: p of an integer, a letter or a `(`,
-- then o of the operator and c of the `)`; in `power` the exponent n stands at q, which comes before it. The word of an integer stands
-- before its value.
pub data Tree : Type 0 where
  num : (p : ℕ) (w : List ℕ) → ℤ → Tree
  letter : (p : ℕ) → ℕ → Tree
  neg : (p o c : ℕ) → Tree → Tree
  two : (p o c : ℕ) → Sign → Tree → Tree → Tree
  power : (p o c : ℕ) → Tree → (q n : ℕ) → Tree

-- the first byte
abbrev pub start_of : Tree → ℕ
start_of (num p w z) = p
start_of (letter p b) = p
start_of (neg p o c x) = p
start_of (two p o c g x y) = p
start_of (power p o c x q n) = p

-- the byte after the last
abbrev pub end_of : Tree → ℕ
end_of (num p w z) = p + length w
end_of (letter p b) = p + 1
end_of (neg p o c x) = c + 1
end_of (two p o c g x y) = c + 1
end_of (power p o c x q n) = c + 1

-- the tokens of a term, by writing it out: the same in every dialect
abbrev pub placed : Tree → List Token
placed (num p w z) = word p w ∷ []
placed (letter p b) = word p (b ∷ []) ∷ []
placed (neg p o c x) = opening p ∷ word o (sign_text sub) ∷ placed x ++ (closing c ∷ [])
placed (two p o c g x y) = opening p ∷ word o (sign_text g) ∷ placed x ++ (placed y ++ (closing c ∷ []))
placed (power p o c x q n) = opening p ∷ word o (bytes "EXPT") ∷ placed x ++ (word q (decimal n) ∷ closing c ∷ [])

-- ---- what a dialect allows
-- in panel terms "no binary minus"
abbrev pub Joins : Bool → Sign → Type 0
Joins true add = Unit {0}
Joins true sub = ⊥
Joins true mul = Unit {0}
Joins false g = Unit {0}

-- and "no EXPT of anything but a letter"
abbrev pub Raises : Bool → Tree → Type 0
Raises true (num p w z) = ⊥
Raises true (letter p b) = Unit {0}
Raises true (neg p o c x) = ⊥
Raises true (two p o c g x y) = ⊥
Raises true (power p o c x q n) = ⊥
Raises false x = Unit {0}

-- every integer is one of the dialect with its value, every letter a capital, and every operator allowed
abbrev pub Proper : Dialect → Tree → Type 0
Proper D (num p w z) = integer_of D.hex w ≡ some z
Proper D (letter p b) = capital b ≡ true
Proper D (neg p o c x) = Proper D x
Proper D (two p o c g x y) = Joins D.panel g × (Proper D x × Proper D y)
Proper D (power p o c x q n) = Raises D.panel x × Proper D x

-- ---- the term itself, over a row
abbrev pub signed : Sign → Term → Term → Term
signed add x y = plus x y
signed sub x y = diff x y
signed mul x y = times x y

-- the letters are known by their index in the row
abbrev pub term_of : List ℕ → Tree → Term
term_of row (num p w z) = number z
term_of row (letter p b) = var (index_in row b)
term_of row (neg p o c x) = minus (term_of row x)
term_of row (two p o c g x y) = signed g (term_of row x) (term_of row y)
term_of row (power p o c x q n) = expt (term_of row x) n

-- every letter passes the test
abbrev pub letters : (ℕ → Bool) → Tree → Bool
letters k (num p w z) = true
letters k (letter p b) = k b
letters k (neg p o c x) = letters k x
letters k (two p o c g x y) = letters k x && letters k y
letters k (power p o c x q n) = letters k x

-- how many parentheses are open at once
abbrev pub nesting : Tree → ℕ
nesting (num p w z) = 0
nesting (letter p b) = 0
nesting (neg p o c x) = suc (nesting x)
nesting (two p o c g x y) = suc (max (nesting x) (nesting y))
nesting (power p o c x q n) = suc (nesting x)

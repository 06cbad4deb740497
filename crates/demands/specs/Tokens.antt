-- "A token is `(`, `)`, or a longest run of bytes that are neither blank nor parenthesis. Blanks may stand round any token."
use Rattle.std.specs.Prelude.{List, [], ◌∷◌, ◌↔◌, ◌≡◌, refl, ℕ}
use Rattle.std.proofs.Common.{arith}
use Rattle.dialect.specs.Dialects.{ordinary}
use Rattle.text.specs.definitions.Bytes.{bytes, Token, opening, closing, word, tokens, Parted}
use Rattle.text.specs.definitions.Meaning.{IsTerm}
use Rattle.text.specs.definitions.Tree.{Tree, placed}
use Rattle.text_laws.specs.laws.Tokens as Tokens

-- the tokens that the readings go by are those that the text is parted into, and no others
pub tokens-are : (s : List ℕ) (ts : List Token) → (tokens 0 s ≡ ts) ↔ Parted 0 s ts
tokens-are = Tokens.tokens-are 0

-- the text of a term is parted into the term's tokens, each at its place
pub term-parted : (row s : List ℕ) (t : Tree) → IsTerm ordinary row s t → Parted 0 s (placed t)
term-parted row s t is = (tokens-are s (placed t)).0 is.tokens-are

-- document 01's `(+X Y)`, with blanks: `+X` is one token
pub one_word : Parted 0 (bytes " (+X  Y) ") (opening 1 ∷ word 2 (bytes "+X") ∷ word 6 (bytes "Y") ∷ closing 7 ∷ [])
unfolding tokens
one_word = (tokens-are _ _).0 refl

-- and it is not parted into two
pub not-two-words : Parted 0 (bytes "+X") (word 0 (bytes "+") ∷ word 1 (bytes "X") ∷ []) → ⊥
unfolding tokens
not-two-words h =
    let e : word 0 (bytes "+X") ∷ [] ≡ word 0 (bytes "+") ∷ word 1 (bytes "X") ∷ [] = (tokens-are _ _).1 h in
    let z : ◌≡◌ {A = ℕ} 0 1 = cc in
    omega arith

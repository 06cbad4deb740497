-- What the token reader hands on: the first of the tokens that stand from a place on, with the reader past it.
use Rattle.std.specs.Prelude.{Bool, true, false, List, [], ◌∷◌, ℕ, suc, ◌+◌, length}
use Rattle.text.specs.definitions.Bytes.{Token, opening, closing, word}
use Rattle.term_token.specs.declared.Step.{Step}
use Rattle.term_token.specs.declared.Step.TheVariants.{Open, Close, Word, End}

abbrev pub more : Bool → ℕ → ℕ
more true n = suc n
more false n = 0

-- how many bytes at the front pass the test
unfoldable pub lead : (ℕ → Bool) → List ℕ → ℕ
lead p [] = 0
lead p (x ∷ xs) = more (p x) (lead p xs)

abbrev pub step_of : List Token → Step
step_of [] = End
step_of (opening p ∷ ks) = Open p (record { at = p + 1 })
step_of (closing p ∷ ks) = Close p (record { at = p + 1 })
step_of (word p w ∷ ks) = Word p (record { at = p + length w })

-- A word as the reader counts it: the bytes at the front that are neither blank nor parenthesis are a longest run.
use Rattle.std.specs.Prelude.{◌≡◌, refl, Bool, true, false, List, [], ◌∷◌, ℕ, suc, ◌+◌, ◌≤◌, length, take, drop}
use Rattle.std.proofs.Common.{sym, ap, ◌∙◌, subst, arith, take-append-drop, length-take}
use Rattle.text.specs.definitions.Bytes.{all, word, tokens, in_word, Ends}
use Rattle.text_laws.specs.laws.Bytes.{and_i}
use Rattle.text_laws.specs.laws.Tokens.{tokens-word}
use Rattle.term_token.specs.Steps.{more, lead}

-- as many bytes as there are
pub lead-le : (t : ℕ → Bool) (xs : List ℕ) → lead t xs ≤ length xs
unfolding lead
lead-le t [] = omega arith
lead-le t (x ∷ xs) = at (t x) (lead-le t xs)
  where
    at : (b : Bool) → lead t xs ≤ length xs → more b (lead t xs) ≤ suc (length xs)
    at true h = omega arith
    at false h = omega arith

front : (xs : List ℕ) → all in_word (take (lead in_word xs) xs) ≡ true
unfolding lead
front [] = refl
front (x ∷ xs) = at (in_word x) refl (front xs)
  where
    at :
        (b : Bool) → in_word x ≡ b → all in_word (take (lead in_word xs) xs) ≡ true →
        all in_word (take (more b (lead in_word xs)) (x ∷ xs)) ≡ true
    at true e h = and_i e h
    at false e h = refl

behind : (xs : List ℕ) → Ends (drop (lead in_word xs) xs)
unfolding lead
behind [] = tt
behind (x ∷ xs) = at (in_word x) refl (behind xs)
  where
    at : (b : Bool) → in_word x ≡ b → Ends (drop (lead in_word xs) xs) → Ends (drop (more b (lead in_word xs)) (x ∷ xs))
    at true e h = h
    at false e h = e

pub tokens-run :
    (p : ℕ) (xs : List ℕ) (n : ℕ) → lead in_word xs ≡ suc n →
    tokens p xs ≡ word p (take (suc n) xs) ∷ tokens (p + suc n) (drop (suc n) xs)
tokens-run p xs n e = subst (λ k. tokens p xs ≡ word p (take k xs) ∷ tokens (p + k) (drop k xs)) e at
  where
    long : length (take (lead in_word xs) xs) ≡ lead in_word xs
    long = length-take (lead in_word xs) xs ∙ omega (arith, lead-le in_word xs)

    at : tokens p xs ≡ word p (take (lead in_word xs) xs) ∷ tokens (p + lead in_word xs) (drop (lead in_word xs) xs)
    at =
        ap (tokens p) (sym (take-append-drop (lead in_word xs) xs))
        ∙ tokens-word p (take (lead in_word xs) xs) (drop (lead in_word xs) xs) (λ z. omega (arith, long, ap length z, e))
        (front xs) (behind xs)
        ∙ ap (λ k. word p (take (lead in_word xs) xs) ∷ tokens (p + k) (drop (lead in_word xs) xs)) long

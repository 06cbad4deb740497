-- Where the first byte stands that doesn't pass a test, as the library's `position` gives it, and as `lead` counts it.
use Rattle.std.proofs.Common.{◌≡◌, ◌∙◌, refl, sym, ap, Bool, true, false, List, ℕ, ◌+◌, ◌-◌, length, Option, Some, None, arith}
use Rattle.std.specs.Prelude.{cond, not, ltb, take, drop, ◌∷◌}
use Rattle.std.specs.List.{position_or_len}
use Rattle.std.proofs.lemmas.List.Recursion.{is_position_or_len}
use Rattle.std.proofs.Common.{take_all, length-drop, ltb-false}
use Rattle.term_token.specs.Steps.{more, lead}
use Rattle.term_token.specs.Tokens.{lead-le}

-- the bytes from a place on
pub rest-part : (s : List ℕ) (at : ℕ) → take (length s - at) (drop at s) ≡ drop at s
rest-part s at = take_all (length s - at) (drop at s) (omega (arith, length-drop at s))

lead-position : (t : ℕ → Bool) (l : List ℕ) → position_or_len (λ x. not (t x)) l ≡ lead t l
unfolding lead
lead-position t l = sym (is_position_or_len (lead t) (λ x. not (t x)) refl steps l)
  where
    steps : (x : ℕ) (xs : List ℕ) → lead t (x ∷ xs) ≡ cond (not (t x)) 0 (1 + lead t xs)
    steps x xs = by (t x)
      where
        by : (b : Bool) → more b (lead t xs) ≡ cond (not b) 0 (1 + lead t xs)
        by true = omega arith
        by false = refl

module _ (t : ℕ → Bool) (l : List ℕ) (r : Option ℕ)
    (e : r ≡ cond (ltb (position_or_len (λ x. not (t x)) l) (length l)) (Some (position_or_len (λ x. not (t x)) l)) None) where
  as-lead : r ≡ cond (ltb (lead t l) (length l)) (Some (lead t l)) None
  as-lead = e ∙ ap (λ p. cond (ltb p (length l)) (Some p) None) (lead-position t l)

  -- there is one
  pub lead-some : (n : ℕ) → r ≡ Some n → n ≡ lead t l
  lead-some n q = by (ltb (lead t l) (length l)) (sym as-lead ∙ q)
    where
      by : (b : Bool) → cond b (Some (lead t l)) None ≡ Some n → n ≡ lead t l
      by true h = cc
      by false h = cc

  -- there is none
  pub lead-none : r ≡ None → length l ≡ lead t l
  lead-none q = by (ltb (lead t l) (length l)) refl (sym as-lead ∙ q)
    where
      by : (b : Bool) → ltb (lead t l) (length l) ≡ b → cond b (Some (lead t l)) None ≡ None → length l ≡ lead t l
      by true g h = cc
      by false g h = omega (arith, lead-le t l, ltb-false (lead t l) (length l) g)

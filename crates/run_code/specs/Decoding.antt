-- The run that words stand for: each key less a base is the exponents, 6 bits each, in a row of n variables.
use Rattle.std.specs.Prelude.{List, [], ◌∷◌, map, ℕ, zero, suc, ◌+◌, ◌-◌, ◌^◌, ◌/◌, ◌%◌, ◌≤◌, ◌<◌, length, take, drop}
use Rattle.code.specs.Widths.{Leaf, ring_of, leaf}
use Rattle.horner.specs.definitions.Form.{Form}
use Rattle.run.specs.Merging.{cmpℕ, Each, Falls, Solid}
use Rattle.run.specs.Runs.{Run, to_form}
use Rattle.run_merge.specs.Words.{pairs, is_no, Fits}

-- the n digits of a key, 6 bits each
abbrev pub digits : ℕ → ℕ → List ℕ
digits zero k = []
digits (suc n) k = k / 64 ^ n ∷ digits n (k % 64 ^ n)

-- the run of pairs, in n variables, with the base taken off each key
abbrev pub run_at : ℕ → ℕ → List (ℕ × ℕ) → Run (Leaf 0)
run_at n base l = map (λ m. (digits n (m.0 - base), leaf 0 m.1)) l

-- its form, by P
unfoldable pub form_at : ℕ → ℕ → List ℕ → Form (Leaf 0)
form_at n base x = to_form (ring_of 0) (run_at n base (pairs x))

-- keys that fall, from base on and below what n variables can say; coefficients by P and not 0
pub record Placed (n base : ℕ) (l : List (ℕ × ℕ)) : Type 0 where
  pub falls : Falls cmpℕ l
  pub solid : Solid is_no l
  pub fits : Fits 0 l
  pub from : Each (λ k. base ≤ k) l
  pub to : Each (λ k. k < base + 64 ^ n) l
  pub small : Each (λ k. k < 16777216) l

-- the length of words two by two
abbrev pub Even : ℕ → Type 0
Even zero = Unit {0}
Even (suc zero) = ⊥
Even (suc (suc n)) = Even n

-- the keys of the first e words are from limit on, those behind them below
pub record Cut (limit : ℕ) (x : List ℕ) (e : ℕ) : Type 0 where
  pub even : Even e
  pub inside : e ≤ length x
  pub before : Each (λ k. limit ≤ k) (pairs (take e x))
  pub behind : Each (λ k. k < limit) (pairs (drop e x))

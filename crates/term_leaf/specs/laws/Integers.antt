-- Decimal integers: their digits, and their code.
use Rattle.std.specs.Prelude.{◌≡◌, refl, Bool, true, false, cond, List, [], ◌∷◌, ℕ, zero, suc, ◌-◌, ◌≤◌, ◌<◌, min, eqb, ℤ, pos, negsuc, nat_abs, length, get_or, drop}
use Rattle.std.proofs.Common.{sym, ap, ◌∙◌, true≢false, arith, lt-ltb, le-ltb, eq-eqb, ne_eqb}
use Rattle.std.proofs.Math.Option.{Option, none, some}
use Rattle.text.specs.definitions.Bytes.{all, digit, canonical, read_nat, read_int, value_from, below0, from0}
use Rattle.text_laws.specs.laws.Prefixes.{canonical-digits}
use Rattle.text_word.specs.Words.{is_positive, is_integer, integer-below, integer-natural}
use Rattle.term_tree.specs.Coding.{int_code}
use Rattle.term_leaf.specs.Leaf.{CodeOf}

-- ---- the digits of an integer
-- an integer has a digit
pub integer-long : (w : List ℕ) → is_integer w ≡ true → 0 < length w
integer-long [] h = absurd (true≢false (sym h))
integer-long (x ∷ w) h = omega arith

positive-all : (w : List ℕ) → is_positive w ≡ true → all digit w ≡ true
positive-all [] h = refl
positive-all (x ∷ w) h = at (eqb x 48) h
  where
    at : (b : Bool) → elim b [ true ↦ false | false ↦ all digit (x ∷ w) ] ≡ true → all digit (x ∷ w) ≡ true
    at true e = absurd (true≢false (sym e))
    at false e = e

-- behind its sign, or in all of it, there are digits alone
pub digits-below : (w : List ℕ) → is_integer w ≡ true → get_or w 0 0 ≡ 45 → all digit (drop 1 w) ≡ true
digits-below w h e = positive-all (drop 1 w) (sym (integer-below w (integer-long w h) e) ∙ h)

pub digits-plain : (w : List ℕ) → is_integer w ≡ true → (get_or w 0 0 ≡ 45 → ⊥) → all digit w ≡ true
digits-plain w h n = canonical-digits w (sym (integer-natural w (integer-long w h) n) ∙ h)

-- ---- its code
some_same : {A : Type 0} (a b : A) → ◌≡◌ {A = Option A} (some a) (some b) → a ≡ b
some_same a b e = cc

-- nothing was read, and yet something
pub none-some : {A : Type 0} {P : Type 0} (b : A) → ◌≡◌ {A = Option A} none (some b) → P
none-some b e = absurd (let z : ◌≡◌ {A = ℕ} 0 1 = cc in omega arith)

-- an integer below zero
data Below (v : ℕ) (z : ℤ) : Type 0 where
  is_below : (k : ℕ) → z ≡ negsuc k → v ≡ suc k → Below v z

of-below : (xs : List ℕ) (z : ℤ) → below0 (read_nat xs) ≡ some z → Below (value_from 0 xs) z
unfolding read_nat
of-below xs z = at (canonical xs) (value_from 0 xs)
  where
    at : (b : Bool) (v : ℕ) → below0 (cond b (some v) none) ≡ some z → Below v z
    at true zero e = none-some z e
    at true (suc v) e = is_below v (sym (some_same (negsuc v) z e)) refl
    at false v e = none-some z e

of_plain : (w : List ℕ) (z : ℤ) → from0 (read_nat w) ≡ some z → z ≡ pos (value_from 0 w)
unfolding read_nat
of_plain w z = at (canonical w) (value_from 0 w)
  where
    at : (b : Bool) (v : ℕ) → from0 (cond b (some v) none) ≡ some z → z ≡ pos v
    at true v e = sym (some_same (pos v) z e)
    at false v e = none-some z e

read_below : (w : List ℕ) → get_or w 0 0 ≡ 45 → (z : ℤ) → read_int w ≡ some z → Below (value_from 0 (drop 1 w)) z
unfolding read_int
read_below [] e z r = none-some z r
read_below (x ∷ xs) e z r =
    of-below xs z (sym (ap (λ b. elim b [ true ↦ below0 (read_nat xs) | false ↦ from0 (read_nat (x ∷ xs)) ]) (eq-eqb x 45 e)) ∙ r)

read_plain : (w : List ℕ) → (get_or w 0 0 ≡ 45 → ⊥) → (z : ℤ) → read_int w ≡ some z → z ≡ pos (value_from 0 w)
unfolding read_int
read_plain [] e z r = none-some z r
read_plain (x ∷ xs) e z r =
    of_plain (x ∷ xs) z (sym (ap (λ b. elim b [ true ↦ below0 (read_nat xs) | false ↦ from0 (read_nat (x ∷ xs)) ]) (ne_eqb x 45 e)) ∙ r)

code-large : (z : ℤ) → 1073741823 < nat_abs z → int_code z ≡ 2147483647
unfolding int_code
code-large z h = rw (lt-ltb 1073741823 (nat_abs z) h)

code-negsuc : (k : ℕ) → suc k ≤ 1073741823 → int_code (negsuc k) ≡ 2147483647 - suc k
unfolding int_code
code-negsuc k h = rw (le-ltb 1073741823 (suc k) h)

code-pos : (n : ℕ) → n ≤ 1073741823 → int_code (pos n) ≡ n
unfolding int_code
code-pos n h = rw (le-ltb 1073741823 n h)

module _ (w : List ℕ) (m : ℕ) where
  -- the code, by the value cut down to the limit: below zero
  pub below-cut : get_or w 0 0 ≡ 45 → m ≡ min (value_from 0 (drop 1 w)) 1073741824 → m ≡ 1073741824 → CodeOf w 2147483647
  below-cut e f c z r = at (read_below w e z r)
    where
      at : Below (value_from 0 (drop 1 w)) z → 2147483647 ≡ int_code z
      at (is_below k q v) = sym (ap int_code q ∙ code-large (negsuc k) (omega (arith, f, c, v)))

  pub below_code : get_or w 0 0 ≡ 45 → m ≡ min (value_from 0 (drop 1 w)) 1073741824 → (m ≡ 1073741824 → ⊥) → CodeOf w (2147483647 - m)
  below_code e f c z r = at (read_below w e z r)
    where
      at : Below (value_from 0 (drop 1 w)) z → 2147483647 - m ≡ int_code z
      at (is_below k q v) =
          let l : suc k ≤ 1073741823 = omega (arith, f, c, v) in
          let g : 2147483647 - m ≡ 2147483647 - suc k = omega (arith, f, c, v) in
          g ∙ sym (ap int_code q ∙ code-negsuc k l)

  -- and not below zero
  pub plain-cut : (get_or w 0 0 ≡ 45 → ⊥) → m ≡ min (value_from 0 w) 1073741824 → m ≡ 1073741824 → CodeOf w 2147483647
  plain-cut e f c z r = sym (ap int_code (read_plain w e z r) ∙ code-large (pos (value_from 0 w)) (omega (arith, f, c)))

  pub plain_code : (get_or w 0 0 ≡ 45 → ⊥) → m ≡ min (value_from 0 w) 1073741824 → (m ≡ 1073741824 → ⊥) → CodeOf w m
  plain_code e f c z r =
      let l : value_from 0 w ≤ 1073741823 = omega (arith, f, c) in
      let g : m ≡ value_from 0 w = omega (arith, f, c) in
      g ∙ sym (ap int_code (read_plain w e z r) ∙ code-pos (value_from 0 w) l)

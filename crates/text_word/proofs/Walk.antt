-- Laws for loops that walk over the bytes of a text: what is left from i on, and from i + 1 on.
use Rattle.std.proofs.Common.{sym, ap, inl, inr, arith, add-one, drop-cons, Bool, true, false, length, List, [], ◌∷◌, ℕ, suc, ◌+◌}
use Rattle.std.proofs.Common.{◌-◌, ◌*◌, ◌≤◌, ◌<◌, min}
use Rattle.std.proofs.Math.Path.{◌≡◌, ◌∙◌}
use Rattle.std.proofs.Math.Logic.{◌⊎◌}
use Rattle.std.specs.Prelude.{drop, refl, eqb, ltb, cond, Option, Some, None}
use Rattle.std.specs.Option.{unwrap_or}
use Rattle.std.proofs.lemmas.List.Recursion.{is_position_or_len}
use Rattle.std.specs.List.{list_all, position_or_len}
use Rattle.std.proofs.Math.Bool.{◌&&◌}
use Rattle.std.proofs.Math.ListN.{get_or}
use Rattle.std.proofs.Common.{lt-ltb, le-ltb}
use Rattle.horner.proofs.laws.Compare.{lt-or-ge}
use Rattle.text.specs.definitions.Bytes.{all, index_in, value_from}
use Rattle.text_laws.specs.laws.Bytes.{and_r}

-- the bytes from i on are the one at i and those from i + 1 on
pub one_on : (s : List ℕ) (i : ℕ) → i < length s → drop i s ≡ get_or s i 0 ∷ drop (i + 1) s
one_on s i h = drop-cons s i 0 h ∙ ap (λ k. get_or s i 0 ∷ drop k s) (sym (add-one i))

-- ---- a test that all bytes pass
module _ (t : ℕ → Bool) (s : List ℕ) (i : ℕ) where
  pub all_rest : i < length s → all t (drop i s) ≡ true → all t (drop (i + 1) s) ≡ true
  all_rest h e = and_r (t (get_or s i 0)) (all t (drop (i + 1) s)) (sym (ap (all t) (one_on s i h)) ∙ e)

-- what the library's `all` computes is the definitions' own
pub all-list : (t : ℕ → Bool) (s : List ℕ) → all t s ≡ list_all t s
all-list t [] = refl
all-list t (x ∷ s) = ap (λ b. t x && b) (all-list t s)

-- ---- the place of a letter, as the library's `position` gives it
-- the place, or else the length
or-length : (p n : ℕ) → p ≤ n → unwrap_or (cond (ltb p n) (Some p) None) n ≡ p
or-length p n h = by (lt-or-ge p n)
  where
    by : (p < n) ⊎ (n ≤ p) → unwrap_or (cond (ltb p n) (Some p) None) n ≡ p
    by (inl l) = ap (λ b. unwrap_or (cond b (Some p) None) n) (lt-ltb p n l)
    by (inr g) = ap (λ b. unwrap_or (cond b (Some p) None) n) (le-ltb p n g) ∙ omega arith

index-le : (row : List ℕ) (b : ℕ) → index_in row b ≤ length row
index-le [] b = omega arith
index-le (x ∷ row) b = by (eqb b x) (index-le row b)
  where
    by : (c : Bool) → index_in row b ≤ length row → elim c [ true ↦ 0 | false ↦ suc (index_in row b) ] ≤ suc (length row)
    by true h = omega arith
    by false h = omega arith

pub index-position : (row : List ℕ) (b : ℕ) (r : Option ℕ) →
    r ≡ cond (ltb (position_or_len (λ x. eqb b x) row) (length row)) (Some (position_or_len (λ x. eqb b x) row)) None
    → unwrap_or r (length row) ≡ index_in row b
index-position row b r e =
    ap (λ o. unwrap_or o (length row)) e
    ∙ ap (λ p. unwrap_or (cond (ltb p (length row)) (Some p) None) (length row))
    (sym (is_position_or_len (λ l. index_in l b) (λ x. eqb b x) refl steps row))
    ∙ or-length (index_in row b) (length row) (index-le row b)
  where
    steps : (x : ℕ) (xs : List ℕ) → index_in (x ∷ xs) b ≡ cond (eqb b x) 0 (1 + index_in xs b)
    steps x xs = by (eqb b x)
      where
        by : (c : Bool) → elim c [ true ↦ 0 | false ↦ suc (index_in xs b) ] ≡ cond c 0 (1 + index_in xs b)
        by true = refl
        by false = omega arith

-- ---- a value, cut down to a limit
value-le : (a : ℕ) (xs : List ℕ) → a ≤ value_from a xs
value-le a [] = omega arith
value-le a (x ∷ xs) = omega (arith, value-le (a * 10 + (x - 48)) xs)

pub value-cut : (a L : ℕ) (xs : List ℕ) → min (value_from (min a L) xs) L ≡ min (value_from a xs) L
value-cut a L xs = at (lt-or-ge L a)
  where
    at : (L < a) ⊎ (a ≤ L) → min (value_from (min a L) xs) L ≡ min (value_from a xs) L
    at (inl h) = omega (arith, value-le a xs, value-le (min a L) xs)
    at (inr h) = ap (λ m. min (value_from m xs) L) (omega arith)

-- one more digit
pub value_on :
    (w : List ℕ) (i a L : ℕ) → i < length w →
    min (value_from a (drop i w)) L ≡ min (value_from (min (a * 10 + (get_or w i 0 - 48)) L) (drop (i + 1) w)) L
value_on w i a L h = ap (λ l. min (value_from a l) L) (one_on w i h) ∙ sym (value-cut (a * 10 + (get_or w i 0 - 48)) L (drop (i + 1) w))

-- The product of two runs of words, monomial by monomial.
use mathlib.Core.List.{List, [], ◌∷◌, ◌++◌}
use Rattle.std.specs.Prelude.{◌≡◌, refl, ℕ, ◌+◌, ◌-◌, ◌≤◌, ◌<◌, drop}
use Rattle.std.proofs.Math.Path.{sym, ap, subst}
use Rattle.std.proofs.Common.{◌∙◌, arith, length-append, take_at, length-take-le}
use Rattle.std.proofs.Math.ListN.{length, take, get_or}
use Rattle.code.specs.Coding.{Begins}
use Rattle.code.specs.laws.Codes.{tail-part}
use Rattle.horner.specs.definitions.Rings.{Res, prime, p_ring}
use Rattle.run.specs.Merging.{cmp_l, Each}
use Rattle.run.specs.Runs.{Run, Long, sum_r, times_r, prod_into}
use Rattle.run.proofs.laws.Merging.{each-merge}
use Rattle.run_merge.specs.Words.{code_of, pairs, flat, summed, Fits, produced, Producing}
use Rattle.run_merge.specs.laws.Coding.{Small, summed-code}
use Rattle.run_merge.specs.laws.Steps.{pairs-drop, pairs_end}

-- ---- a product half way: out begins with what is added up so far, and with the products of x from i on it makes t
pub record Multiplying (t x y : List ℕ) (w i n : ℕ) (d : List ℕ) : Type 0 where
  pub inside : n ≤ length d
  pub producing : Producing (take n d) (pairs (drop i x)) y w
  pub is : produced (take n d) (pairs (drop i x)) y ≡ t

-- what the next sum asks, and what comes after it
pub record Next (k c i w : ℕ) (x y z : List ℕ) : Type 0 where
  pub below : c < prime
  pub fits-y : Fits k (pairs y)
  pub fits-z : Fits 0 (pairs z)
  pub room : length z + length y ≤ w
  pub producing : Producing (summed k c z y) (pairs (drop (i + 2) x)) y w

module _ {t x y : List ℕ} {w i n : ℕ} {d : List ℕ} where
  pub next : Multiplying t x y w i n d → i + 1 < length x → Next (get_or x i 0) (get_or x (i + 1) 0) i w x y (take n d)
  unfolding Producing
  next s h =
      let p : Producing (take n d) ((get_or x i 0, get_or x (i + 1) 0) ∷ pairs (drop (i + 2) x)) y w = subst (λ l. Producing (take n d) l y w)
      (pairs-drop x i h) s.producing in
      record { below = p.0; fits-y = p.1; fits-z = p.2; room = p.3; producing = p.4 }

  multiplying-on : (m : ℕ) (e : List ℕ) → Multiplying t x y w i n d → (h : i + 1 < length x) → m ≤ length e
      → take m e ≡ summed (get_or x i 0) (get_or x (i + 1) 0) (take n d) y
      → Multiplying t x y w (i + 2) m e
  unfolding produced
  multiplying-on m e s h l q = record {
    inside = l;
    producing = subst (λ z. Producing z (pairs (drop (i + 2) x)) y w) (sym q) (next s h).producing;
    is = ap (λ z. produced z (pairs (drop (i + 2) x)) y) q ∙ ap (λ l. produced (take n d) l y) (sym (pairs-drop x i h)) ∙ s.is;
  }

  -- at the end of x the product is there
  pub multiplying-end : Multiplying t x y w i n d → length x ≤ i + 1 → Begins n t d
  unfolding produced
  multiplying-end s h = record { size = sym (length-take-le n d s.inside) ∙ ap length done; is = done }
    where
      done : take n d ≡ t
      done = ap (λ l. produced (take n d) l y) (sym (pairs_end x i h)) ∙ s.is

  -- the words before i are past: what is left of x stands alone
  pub multiplying-past : Multiplying t x y w i n d → Multiplying t (take (length x - i) (drop i x)) y w 0 n d
  multiplying-past s = subst (λ z. Multiplying t z y w 0 n d) (sym (tail-part i x))
      (record { inside = s.inside; producing = s.producing; is = s.is })

-- the sum is written to another table, and copied over
pub multiplying-copied : {t x y : List ℕ} {w i n : ℕ} {d : List ℕ} (m : ℕ) (a e : List ℕ) → Multiplying t x y w i n d → i + 1 < length x
    → Begins m (summed (get_or x i 0) (get_or x (i + 1) 0) (take n d) y) a → e ≡ take m a ++ drop (length (take m a)) d
    → Multiplying t x y w (i + 2) m e
multiplying-copied {t} {x} {y} {w} {i} {n} {d} m a e s h g q = multiplying-on m e s h inside (front ∙ g.is)
  where
    size : length (take m a) ≡ m
    size = ap length g.is ∙ sym g.size

    front : take m e ≡ take m a
    front = ap (take m) q ∙ take_at (take m a) (drop (length (take m a)) d) m size

    inside : m ≤ length e
    inside = omega (arith, ap length q, length-append (take m a) (drop (length (take m a)) d), size)

-- ---- the words of a product are those of the runs' product
-- each product of a monomial of r and of s has exponents of at most 63
abbrev pub Products : ℕ → Run (Res prime) → Run (Res prime) → Type 0
Products n [] s = Unit {0}
Products n (m ∷ r) s = Each (Small n) (times_r p_ring m.0 m.1 s) × Products n r s

-- what is produced from the words of runs is the words of their product
pub product-code : (n : ℕ) (z r s : Run (Res prime)) → Each (Small n) z → Each (Long n) r → Each (Small n) s → Products n r s
    → produced (flat (code_of z)) (code_of r) (flat (code_of s)) ≡ flat (code_of (prod_into p_ring z r s))
unfolding produced
product-code n z [] s hz lr hs h = refl
product-code n z (m ∷ r) s hz lr hs h =
    ap (λ w. produced w (code_of r) (flat (code_of s))) (summed-code n z m.0 m.1 s hz lr.0 hs h.0)
    ∙ product-code n (sum_r p_ring z (times_r p_ring m.0 m.1 s)) r s
    (each-merge p_ring.is_nil cmp_l p_ring.◌⊞◌ (Small n) z (times_r p_ring m.0 m.1 s) hz h.0) lr.1 hs h.1

-- The words of a run: keys stand in the order of the exponents, and sums and products of runs are those of their words.
use Rattle.std.specs.Prelude.{List, [], ◌∷◌, ◌≡◌, refl, ℕ, ◌+◌, ◌*◌, ◌^◌, ◌≤◌, ◌<◌, length}
use Rattle.std.proofs.Common.{sym, ◌∙◌, ap, ap₂, subst, arith}
use Rattle.std.proofs.Math.Nat as NatL
use Rattle.horner.specs.definitions.Measures.{sums, AllLe}
use Rattle.horner.specs.definitions.Rings.{Res, prime, p_ring, below, prime-pos}
use Rattle.code.specs.Widths.{add_by}
use Rattle.horner.proofs.laws.Bounds.{length-sums}
use Rattle.run.specs.Merging.{Order, over, level, under, cmpℕ, first, cmp_l, Each}
use Rattle.run.specs.Runs.{Run, Long, sum_r, times_r}
use Rattle.run.proofs.laws.Carrying.{carried-merge}
use Rattle.run.proofs.laws.Orders.{over-lt, lt-over, lt-under, sameℕ, cmp-add, orderedℕ}
use Rattle.run_merge.specs.Words.{key_of, code_of, pairs, flat, is_no, times_w, merge_w, summed, Fits}

-- pairs, made words, are those pairs
pub pairs-flat : (r : List (ℕ × ℕ)) → pairs (flat r) ≡ r
pairs-flat [] = refl
pairs-flat (m ∷ r) = ap (λ z. m ∷ z) (pairs-flat r)

-- ---- keys
-- exponents of at most 63, in a row of n
pub record Small (n : ℕ) (ks : List ℕ) : Type 0 where
  pub long : Long n ks
  pub each : AllLe 63 ks

-- a key of n exponents is below 64 to the n
pub key_below : (ks : List ℕ) → AllLe 63 ks → key_of ks < 64 ^ length ks
key_below [] h = omega arith
key_below (k ∷ ks) h =
    let b = 64 ^ length ks in
    omega (arith, key_below ks h.1, NatL.mul-le-mul_right b h.0, NatL.pow-suc 64 (length ks))

cmp-first : (b a c u v : ℕ) → u < b → v < b → cmpℕ (a * b + u) (c * b + v) ≡ first (cmpℕ a c) (cmpℕ u v)
cmp-first b a c u v hu hv = go (cmpℕ a c) refl
  where
    go : (o : Order) → cmpℕ a c ≡ o → cmpℕ (a * b + u) (c * b + v) ≡ first o (cmpℕ u v)
    go over e = lt-over (a * b + u) (c * b + v) (omega (arith, NatL.mul-le-mul_right b (over-lt a c e), NatL.suc-mul c b))
    go level e = ap (λ z. cmpℕ (z * b + u) (c * b + v)) (sameℕ a c e) ∙ cmp-add (c * b) u v
    go under e =
        lt-under (a * b + u) (c * b + v) (omega (arith, NatL.mul-le-mul_right b (over-lt c a (orderedℕ.flip a c e)), NatL.suc-mul a b))

-- keys stand in the order of the exponents
pub key-order : (ks es : List ℕ) → length ks ≡ length es → AllLe 63 ks → AllLe 63 es → cmpℕ (key_of ks) (key_of es) ≡ cmp_l ks es
key-order [] [] l hk he = refl
key-order [] (e ∷ es) l hk he = absurd (omega arith)
key-order (k ∷ ks) [] l hk he = absurd (omega arith)
key-order (k ∷ ks) (e ∷ es) l hk he =
    ap (λ n. cmpℕ (k * 64 ^ n + key_of ks) (e * 64 ^ length es + key_of es)) same
    ∙ cmp-first (64 ^ length es) k e (key_of ks) (key_of es) (subst (λ n. key_of ks < 64 ^ n) same (key_below ks hk.1))
    (key_below es he.1)
    ∙ ap (first (cmpℕ k e)) (key-order ks es same hk.1 he.1)
  where
    same : length ks ≡ length es
    same = omega arith

-- the key of the sums is the sum of the keys
pub key-sums : (ks es : List ℕ) → length ks ≡ length es → key_of (sums ks es) ≡ key_of ks + key_of es
key-sums [] [] l = refl
key-sums [] (e ∷ es) l = absurd (omega arith)
key-sums (k ∷ ks) [] l = absurd (omega arith)
key-sums (k ∷ ks) (e ∷ es) l =
    ap₂ (λ n m. (k + e) * 64 ^ n + m) (length-sums ks es same) (key-sums ks es same)
    ∙ ap (λ m. m + (key_of ks + key_of es)) (NatL.add-mul k e (64 ^ length es))
    ∙ regroup (k * 64 ^ length es) (e * 64 ^ length es) (key_of ks) (key_of es)
    ∙ ap (λ n. (k * 64 ^ n + key_of ks) + (e * 64 ^ length es + key_of es)) (sym same)
  where
    same : length ks ≡ length es
    same = omega arith

    regroup : (a b c d : ℕ) → a + b + (c + d) ≡ (a + c) + (b + d)
    regroup a b c d = omega arith

-- ---- sums and products with a monomial
code-times : (n : ℕ) (ks : List ℕ) (c : Res prime) (s : Run (Res prime)) → Long n ks → Each (Small n) s
    → code_of (times_r p_ring ks c s) ≡ times_w (key_of ks) c.0 (code_of s)
code-times n ks c [] l h = refl
code-times n ks c (u ∷ s) l h =
    λ t. (key-sums ks u.0 (l ∙ sym h.0.long) t, (p_ring.◌·◌ c u.1).0) ∷ code-times n ks c s l h.1 t

code_sum : (n : ℕ) (r s : Run (Res prime)) → Each (Small n) r → Each (Small n) s → merge_w (code_of r) (code_of s) ≡ code_of (sum_r p_ring r s)
code_sum n r s hr hs =
    carried-merge p_ring.is_nil cmp_l p_ring.◌⊞◌ is_no cmpℕ (add_by prime) key_of (λ a. a.0) (Small n)
    (λ a. refl) (λ a b. refl) (λ k l p q. key-order k l (p.long ∙ sym q.long) p.each q.each) r s hr hs

-- the words that `add_times` writes are the run's: x plus the monomial times y
pub summed-code : (n : ℕ) (r : Run (Res prime)) (ks : List ℕ) (c : Res prime) (s : Run (Res prime))
    → Each (Small n) r → Long n ks → Each (Small n) s → Each (Small n) (times_r p_ring ks c s)
    → summed (key_of ks) c.0 (flat (code_of r)) (flat (code_of s)) ≡ flat (code_of (sum_r p_ring r (times_r p_ring ks c s)))
unfolding summed
summed-code n r ks c s hr lk hs hm =
    ap₂ (λ x y. flat (merge_w x (times_w (key_of ks) c.0 y))) (pairs-flat (code_of r)) (pairs-flat (code_of s))
    ∙ ap (λ y. flat (merge_w (code_of r) y)) (sym (code-times n ks c s lk hs)) ∙ ap flat (code_sum n r (times_r p_ring ks c s) hr hm)

-- what `add_times` asks holds of such words
pub fits-code : (n : ℕ) (s : Run (Res prime)) → n ≤ 4 → Each (Small n) s → Fits 0 (pairs (flat (code_of s)))
fits-code n s l h = subst (Fits 0) (sym (pairs-flat (code_of s))) (go s h)
  where
    go : (s : Run (Res prime)) → Each (Small n) s → Fits 0 (code_of s)
    go [] h = tt
    go (u ∷ s) h = (omega (arith, key_below u.0 h.0.each, wide u.0 h.0.long), below prime prime-pos u.1, go s h.1)
      where
        wide : (ks : List ℕ) → Long n ks → 64 ^ length ks ≤ 64 ^ 4
        wide ks e =
            let g : length ks ≤ 4 = omega arith in
            NatL.pow-le-pow_right {n = 64} (omega arith) {i = length ks} {j = 4} g

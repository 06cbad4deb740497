-- The least number that fails a test.
use Rattle.std.specs.Prelude.{Bool, true, false, ◌≡◌, refl, ℕ, zero, suc, ◌+◌, ◌≤◌, ◌<◌, eqb, ltb}
use Rattle.std.proofs.Common.{true≢false, sym, subst, ◌∙◌, arith, ltb-true, ltb-false, eqb-true}
use Rattle.std.proofs.lemmas.Bool.{eqb-false}
use Rattle.horner.specs.laws.First.{least}
use Rattle.code_point.specs.Points.{IsLeast, Fails}

-- a test that passes at a passes at b, if it does where b is above a
step : (t : ℕ → Bool) (a b : ℕ) → a ≤ b → t a ≡ true → (suc a ≤ b → t b ≡ true) → t b ≡ true
step t a b l p f = by (eqb a b) refl
  where
    by : (c : Bool) → eqb a b ≡ c → t b ≡ true
    by true e = subst (λ (z : ℕ). t z ≡ true) (eqb-true a b e) p
    by false e = f (omega (arith, eqb-false a b e))

-- what the search has passed does not fail
pub least-before : (f : ℕ) (t : ℕ → Bool) (a b : ℕ) → a ≤ b → b < least f t a → t b ≡ true
least-before zero t a b l h = absurd (omega arith)
least-before (suc f) t a b l h = at (t a) refl h (λ g p. step t a b l p (λ k. least-before f t (suc a) b k g))
  where
    at :
        (c : Bool) → t a ≡ c → b < elim c [ true ↦ least f t (suc a) | false ↦ a ] → (b < least f t (suc a) → t a ≡ true → t b ≡ true) →
        t b ≡ true
    at true p g k = k g p
    at false p g k = absurd (omega arith)

-- there is one
pub least-one : {t : ℕ → Bool} {r s : ℕ} → IsLeast t r → IsLeast t s → r ≡ s
least-one {t} {r} {s} p q = by (ltb r s) (ltb s r) refl refl
  where
    by : (c d : Bool) → ltb r s ≡ c → ltb s r ≡ d → r ≡ s
    by true d e f = absurd (true≢false (sym (q.before r (ltb-true r s e)) ∙ p.fails))
    by false true e f = absurd (true≢false (sym (p.before s (ltb-true s r f)) ∙ q.fails))
    by false false e f = omega (arith, ltb-false r s e, ltb-false s r f)

-- a number before which the test passes is at most one that fails
pub fails-within : {t : ℕ → Bool} {a : ℕ} → Fails t → ((b : ℕ) → b < a → t b ≡ true) → a ≤ 63
fails-within {t} {a} f g = by (ltb f.value a) refl
  where
    by : (c : Bool) → ltb f.value a ≡ c → a ≤ 63
    by true e = absurd (true≢false (sym (g f.value (ltb-true f.value a e)) ∙ f.fails))
    by false e = omega (arith, f.small, ltb-false f.value a e)

-- one more that passes
pub pass-more : {t : ℕ → Bool} {a : ℕ} → ((b : ℕ) → b < a → t b ≡ true) → t a ≡ true → (b : ℕ) → b < a + 1 → t b ≡ true
pass-more {t} {a} g p b l = by (eqb a b) refl
  where
    by : (c : Bool) → eqb a b ≡ c → t b ≡ true
    by true e = subst (λ (z : ℕ). t z ≡ true) (eqb-true a b e) p
    by false e = g b (omega (arith, eqb-false a b e))

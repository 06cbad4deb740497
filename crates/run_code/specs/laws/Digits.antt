-- Keys and their digits.
use Rattle.std.specs.Prelude.{List, [], ◌∷◌, ◌≡◌, refl, ℕ, zero, suc, ◌+◌, ◌*◌, ◌^◌, ◌/◌, ◌%◌, ◌≤◌, ◌<◌, length}
use Rattle.std.proofs.Common.{sym, ◌∙◌, ap, ap₂, subst, arith}
use Rattle.std.proofs.Math.Nat as NatL
use Rattle.code.specs.Coding.{limits}
use Rattle.horner.specs.definitions.Measures.{zeros, AllLe}
use Rattle.horner.specs.laws.Degree.{Below}
use Rattle.run_merge.specs.Words.{key_of}
use Rattle.run_merge.specs.laws.Coding.{key-order}
use Rattle.run.specs.Merging.{cmpℕ, cmp_l}
use Rattle.run.specs.Runs.{raise_key}
use Rattle.run_code.specs.Decoding.{digits}

-- 64 to the n is above 0
pub unit-pos : (n : ℕ) → 0 < 64 ^ n
unit-pos zero = omega arith
unit-pos (suc n) = omega (arith, unit-pos n, NatL.pow-suc 64 n)

-- a key has n digits, each at most 63
pub digits_long : (n k : ℕ) → length (digits n k) ≡ n
digits_long zero k = refl
digits_long (suc n) k = ap suc (digits_long n (k % 64 ^ n))

pub digits-small : (n k : ℕ) → k < 64 ^ n → AllLe 63 (digits n k)
digits-small zero k h = tt
digits-small (suc n) k h = (top, digits-small n (k % 64 ^ n) (NatL.mod-lt k (unit-pos n)))
  where
    top : k / 64 ^ n ≤ 63
    top =
        let g : k < 64 * 64 ^ n = subst (λ z. k < z) (NatL.pow-succ' 64 n) h in
        omega (arith, (NatL.div-lt_iff_lt-mul {k = 64 ^ n} {x = k} {y = 64} (unit-pos n)).1 g)

-- the key of the digits is the number
pub key-digits : (n k : ℕ) → k < 64 ^ n → key_of (digits n k) ≡ k
key-digits zero k h = omega arith
key-digits (suc n) k h =
    ap₂ (λ l u. k / 64 ^ n * 64 ^ l + u) (digits_long n (k % 64 ^ n)) (key-digits n (k % 64 ^ n) (NatL.mod-lt k (unit-pos n)))
    ∙ NatL.div-add-mod' k (64 ^ n)

-- the digits stand in the order of the numbers
pub digits-order : (n a b : ℕ) → a < 64 ^ n → b < 64 ^ n → cmp_l (digits n a) (digits n b) ≡ cmpℕ a b
digits-order n a b ha hb =
    sym (key-order (digits n a) (digits n b) (digits_long n a ∙ sym (digits_long n b)) (digits-small n a ha) (digits-small n b hb))
    ∙ ap₂ cmpℕ (key-digits n a ha) (key-digits n b hb)

-- what i times 64 to the n adds
pub digits-raise : (n i k : ℕ) → digits (suc n) (k + i * 64 ^ n) ≡ raise_key i (digits (suc n) k)
digits-raise n i k =
    ap₂ (λ a b. a ∷ digits n b) (NatL.add-mul-div_right k i (unit-pos n) ∙ NatL.add_comm (k / 64 ^ n) i)
    (NatL.add-mul-mod_self_right k i (64 ^ n))

-- a number below 64 to the n has no first digit
pub digits-down : (n k : ℕ) → k < 64 ^ n → digits (suc n) k ≡ zeros 1 (digits n k)
digits-down n k h = ap₂ (λ a b. a ∷ digits n b) (NatL.div-eq_of_lt h) (NatL.mod-eq_of_lt h)

-- such digits are within the limits of a coded form
pub below-limits : (n : ℕ) (ks : List ℕ) → length ks ≡ n → AllLe 63 ks → Below ks (limits n)
below-limits n [] l h = tt
below-limits zero (k ∷ ks) l h = absurd (omega arith)
below-limits (suc n) (k ∷ ks) l h = (h.0, below-limits n ks (omega arith) h.1)

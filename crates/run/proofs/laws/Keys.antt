-- Keys with zeros in front, and with the first exponent raised.
use Rattle.std.specs.Prelude.{List, [], ◌∷◌, ◌≡◌, refl, ℕ, zero, suc, ◌+◌, ◌-◌, ◌≤◌}
use Rattle.std.proofs.Common.{ap, arith}
use Rattle.horner.specs.definitions.Measures.{zeros}
use Rattle.run.specs.Merging.{over, first, cmp_l}
use Rattle.run.specs.Runs.{Long, raise_key}
use Rattle.run.proofs.laws.Orders.{cmp-add, lt-over}
use Rattle.run.specs.laws.Keys.{Some}

pub one_less : (n : ℕ) → suc n - 1 ≡ n
one_less n = omega arith

-- a key of some variables has a first exponent
pub some-long : (n : ℕ) (ks : List ℕ) → 1 ≤ n → Long n ks → Some ks
some-long n [] h l = absurd (omega arith)
some-long n (k ∷ ks) h l = tt

-- a raised key is as long
pub long-raise : (i n : ℕ) (ks : List ℕ) → Long n ks → Long n (raise_key i ks)
long-raise i n [] l = l
long-raise i n (k ∷ ks) l = l

-- the order stays with zeros in front, and with the first exponent raised
pub cmp-zeros : (i : ℕ) (k l : List ℕ) → cmp_l (zeros i k) (zeros i l) ≡ cmp_l k l
cmp-zeros zero k l = refl
cmp-zeros (suc i) k l = cmp-zeros i k l

pub cmp-raise : (i : ℕ) (k l : List ℕ) → cmp_l (raise_key i k) (raise_key i l) ≡ cmp_l k l
cmp-raise i [] [] = refl
cmp-raise i [] (b ∷ l) = refl
cmp-raise i (a ∷ k) [] = refl
cmp-raise i (a ∷ k) (b ∷ l) = ap (λ o. first o (cmp_l k l)) (cmp-add i a b)

-- where it is raised, a key stands over those that begin with 0
pub raised-over : (i : ℕ) (k l : List ℕ) → 1 ≤ i → Some k → cmp_l (raise_key i k) (zeros 1 l) ≡ over
raised-over i [] l h s = absurd s
raised-over i (a ∷ k) l h s = ap (λ o. first o (cmp_l k l)) (lt-over (i + a) 0 (omega arith))

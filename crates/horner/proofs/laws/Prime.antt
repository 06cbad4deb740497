-- The prime 2,147,483,647: the numbers 1 to 63 have inverses, so the grid theorem holds for forms over its remainders with degrees up to
-- 63.
use Rattle.std.specs.Prelude.{Bool, List, [], ◌∷◌, ◌⊎◌, ◌≡◌, ℕ, zero, suc, ◌<◌, ◌*◌, ◌%◌, T, eqb, get_or}
use Rattle.std.proofs.Common.{inl, inr, sym, ◌∙◌, ap, subst, arith, eqb→eq}
use Rattle.std.proofs.Math.Nat as NatL
use Rattle.horner.specs.definitions.Rings.{mulᵐ, prime, prime-pos, p_ring}
use Rattle.horner.proofs.laws.Residues.{nat-red, unit-regular}
use Rattle.horner.proofs.laws.Roots.{Regular}
use Rattle.horner.proofs.laws.Tests.{and_both}
use Rattle.horner.specs.laws.Prime.{all_below}

-- the inverse of k, at place k
abbrev inverses : List ℕ
inverses =
    0 ∷ 1 ∷ 1073741824 ∷ 1431655765 ∷ 536870912 ∷ 858993459 ∷ 1789569706 ∷ 1840700269 ∷
    268435456 ∷ 1908874353 ∷ 1503238553 ∷ 1952257861 ∷ 894784853 ∷ 1486719448 ∷ 1994091958 ∷ 286331153 ∷
    134217728 ∷ 252645135 ∷ 2028179000 ∷ 1017229096 ∷ 1825361100 ∷ 2045222521 ∷ 2049870754 ∷ 840319688 ∷
    1521134250 ∷ 1460288880 ∷ 743359724 ∷ 636291451 ∷ 997045979 ∷ 296204641 ∷ 1216907400 ∷ 2078209981 ∷
    67108864 ∷ 2082408385 ∷ 1200064391 ∷ 1656630242 ∷ 1014089500 ∷ 406280690 ∷ 508614548 ∷ 1927228914 ∷
    912680550 ∷ 733287099 ∷ 2096353084 ∷ 299648881 ∷ 1024935377 ∷ 811271600 ∷ 420159844 ∷ 319837990 ∷
    760567125 ∷ 1796874072 ∷ 730144440 ∷ 84215045 ∷ 371679862 ∷ 1823335172 ∷ 1391887549 ∷ 1249445031 ∷
    1572264813 ∷ 1770732130 ∷ 1221844144 ∷ 436776335 ∷ 608453700 ∷ 1443390648 ∷ 2112846814 ∷ 2113396605 ∷ []

pub all-at : (n : ℕ) (t : ℕ → Bool) → T (all_below n t) → (k : ℕ) → k < n → T (t k)
all-at zero t h k g = absurd (omega arith)
all-at (suc n) t h k g = by-case (NatL.eq-or-lt_of_le g) (all-at n t (and_both (t n) (all_below n t) h).1 k)
  where
    by-case : (suc k ≡ suc n) ⊎ (suc k < suc n) → (k < n → T (t k)) → T (t k)
    by-case (inl e) r = subst (λ z. T (t z)) (n-is e) (and_both (t n) (all_below n t) h).0
      where
        n-is : suc k ≡ suc n → n ≡ k
        n-is e = omega arith
    by-case (inr l) r = r (omega arith)

inverses_right : T (all_below 63 (λ k. eqb ((suc k * get_or inverses (suc k) 0) % prime) 1))
inverses_right = tt

pub P-regular : Regular p_ring 63
P-regular zero lo hi r e = absurd (omega arith)
P-regular (suc k) lo hi r e =
    unit-regular prime prime-pos (suc k) (get_or inverses (suc k) 0)
    (eqb→eq ((suc k * get_or inverses (suc k) 0) % prime) 1
    (all-at 63 (λ k. eqb ((suc k * get_or inverses (suc k) 0) % prime) 1) inverses_right k (omega arith)))
    r (ap (λ z. mulᵐ prime prime-pos z r) (sym (nat-red prime prime-pos (suc k))) ∙ e)

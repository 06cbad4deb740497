-- How long the text of a form is.
use Rattle.std.specs.Prelude.{List, [], ◌∷◌, ◌++◌, ◌⊎◌, ℕ, zero, suc, ◌+◌, ◌-◌, ◌*◌, ◌/◌, ◌%◌, ◌^◌, ◌≤◌, ◌<◌, ℤ, pos, negsuc, nat_abs, length}
use Rattle.std.proofs.Common.{inl, inr, ap, ◌∙◌, mul-le-mul_right, arith, length-append}
use Rattle.horner.specs.definitions.Form.{Form, int, pop, pow, Normal, after}
use Rattle.horner.specs.definitions.Rings.{ℤ_ring}
use Rattle.horner.specs.laws.Degree.{Bounded}
use Rattle.horner.specs.definitions.Measures.{AllLe, weight, one_if, count}
use Rattle.horner.proofs.laws.Compare.{lt-or-ge}
use Rattle.horner.proofs.laws.Normal.{pow-level}
use Rattle.horner.proofs.laws.Room.{pows-count, pops-first}
use Rattle.horner.specs.laws.Room.{pows, pops}
use Rattle.text.specs.definitions.FormReading.{text, pop_head, pow_head}
use Rattle.text.specs.definitions.Bytes.{decimal, write_int}
use Rattle.text_laws.specs.laws.Numerals.{decimal-short, decimal-long, short-or-long}

-- n has at most k digits
pub decimal-length : (k n : ℕ) → n < 10 ^ suc k → length (decimal n) ≤ suc k
decimal-length zero n h = omega (arith, ap length (decimal-short n (omega arith)))
decimal-length (suc k) n h =
    short-or-long n (length (decimal n) ≤ suc (suc k))
    (λ s. omega (arith, ap length (decimal-short n s)))
    (λ l. omega (
      arith,
      ap length (decimal-long n l)
          ∙ length-append (decimal (n / 10)) ((48 + n % 10) ∷ []),
      decimal-length k (n / 10) (omega arith),
    ))

-- 7 digits for 1,000,000, and 1 more for each 9,000,000
digits : (n : ℕ) → n ≤ 1073741823 → 9000000 * length (decimal n) ≤ 62000000 + n
digits n h = at (lt-or-ge n 1000000) (lt-or-ge n 10000000) (lt-or-ge n 100000000)
  where
    at :
        (n < 1000000) ⊎ (1000000 ≤ n) → (n < 10000000) ⊎ (10000000 ≤ n) → (n < 100000000) ⊎ (100000000 ≤ n) →
        9000000 * length (decimal n) ≤ 62000000 + n
    at (inl s) l k = omega (arith, decimal-length 5 n s)
    at (inr s) (inl l) k = omega (arith, decimal-length 6 n l)
    at (inr s) (inr l) (inl k) = omega (arith, decimal-length 7 n k)
    at (inr s) (inr l) (inr k) = omega (arith, decimal-length 9 n (omega arith))

-- an integer within the weight limit: a 0 is 1 byte; a sign is 1 more than the digits
int-length : (z : ℤ) → nat_abs z ≤ 1073741823 → 9000000 * length (write_int z) ≤ 9000000 + 62000000 * one_if ℤ_ring z + nat_abs z
int-length (pos zero) h = omega (arith, decimal-length 0 0 (omega arith))
int-length (pos (suc n)) h = omega (arith, digits (suc n) h)
int-length (negsuc n) h = omega (arith, digits (suc n) h)

all_after : (K i : ℕ) (ds : List ℕ) → AllLe K ds → AllLe K (after i ds)
all_after K zero ds h = h
all_after K (suc i) [] h = all_after K i [] tt
all_after K (suc i) (d ∷ ds) h = all_after K i ds h.1

head-length : (i k : ℕ) → length (decimal i) ≤ k → (length (pop_head i) ≤ 6 + k) × (length (pow_head i) ≤ 6 + k)
head-length i k h = (omega (arith, length-append (decimal i) (32 ∷ [])), omega (arith, length-append (decimal i) (32 ∷ [])))

-- a POW brings 10 bytes and a leaf, a POP 8
text-length :
    (f : Form ℤ) (n : ℕ) (ds : List ℕ) → n ≤ 4 → Normal ℤ_ring n f → Bounded ds f → AllLe 63 ds → weight f ≤ 1073741823 →
    9000000 * length (text f) ≤ 9000000 * (11 * pows f + 8 * pops f + 1) + 62000000 * count ℤ_ring f + weight f
text-length (int z) n ds l h b a w = omega (arith, int-length z w)
text-length (pop i p) n ds l h b a w =
    let v = pow-level ℤ_ring (n - i) p h.1 h.2 in
    omega (
      arith,
      length-append (pop_head i) (text p ++ (41 ∷ [])),
      length-append (text p) (41 ∷ []),
      (head-length i 1 (decimal-length 0 i (omega (arith, v, h.0)))).0,
      text-length p (n - i) (after i ds) (omega arith) h.2 b (all_after 63 i ds a) w,
    )
text-length (pow i p q) n [] l h b a w = absurd b
text-length (pow i p q) n (d ∷ ds) l h b a w =
    omega (
      arith,
      length-append (pow_head i) (text p ++ (32 ∷ text q ++ (41 ∷ []))),
      length-append (text p) (32 ∷ text q ++ (41 ∷ [])),
      length-append (text q) (41 ∷ []),
      (head-length i 2 (decimal-length 1 i (omega (arith, b.0, a.0)))).1,
      text-length p n ((d - i) ∷ ds) l h.2 b.1 (omega (arith, a.0), a.1) (omega arith),
      text-length q (n - 1) ds (omega arith) h.4 b.2 a.1 (omega arith),
    )

-- in 3 variables: 3 POWs and 1 POP for each coefficient, and a POP
rest-length :
    (f : Form ℤ) (n : ℕ) (ds : List ℕ) → n ≤ 3 → Normal ℤ_ring n f → Bounded ds f → AllLe 63 ds → weight f ≤ 1073741823 →
    9000000 * length (text f) ≤ 81000000 + 431000000 * count ℤ_ring f + weight f
rest-length f n ds l h b a w =
    omega (
      arith,
      text-length f n ds (omega arith) h b a w,
      pows-count ℤ_ring n f h,
      pops-first ℤ_ring n f h,
      mul-le-mul_right (count ℤ_ring f) l,
      mul-le-mul_right (count ℤ_ring f) (let o : n - 2 ≤ 1 = omega arith in o),
    )

-- an exponent: 1 digit, and 1 more for each 9
exponent-length : (i : ℕ) → 1 ≤ i → i ≤ 63 → 9 * length (decimal i) ≤ 8 + i
exponent-length i p h = at (lt-or-ge i 10)
  where
    at : (i < 10) ⊎ (10 ≤ i) → 9 * length (decimal i) ≤ 8 + i
    at (inl s) = omega (arith, decimal-length 0 i s)
    at (inr s) = omega (arith, decimal-length 1 i (omega arith))

-- in 4 variables: each POW of the first brings 8 bytes, its exponent, and a form in the other 3; only the last p is such a form in a POP
pub first-length :
    (f : Form ℤ) (n d : ℕ) (ds : List ℕ) → n ≤ 4 → Normal ℤ_ring n f → Bounded (d ∷ ds) f → AllLe 63 (d ∷ ds) → weight f ≤ 1073741823 →
    9000000 * length (text f) ≤ 153000000 + 162000000 * d + 431000000 * count ℤ_ring f + weight f
first-length (int z) n d ds l h b a w = omega (arith, int-length z w)
first-length (pop i p) n d ds l h b a w =
    let v = pow-level ℤ_ring (n - i) p h.1 h.2 in
    omega (
      arith,
      length-append (pop_head i) (text p ++ (41 ∷ [])),
      length-append (text p) (41 ∷ []),
      (head-length i 1 (decimal-length 0 i (omega (arith, v, h.0)))).0,
      rest-length p (n - i) (after i (d ∷ ds)) (omega (arith, h.0)) h.2 b (all_after 63 i (d ∷ ds) a) w,
    )
first-length (pow i p q) n d ds l h b a w =
    omega (
      arith,
      length-append (pow_head i) (text p ++ (32 ∷ text q ++ (41 ∷ []))),
      length-append (text p) (32 ∷ text q ++ (41 ∷ [])),
      length-append (text q) (41 ∷ []),
      (head-length i (length (decimal i)) (omega arith)).1,
      exponent-length i h.0 (omega (arith, b.0, a.0)),
      first-length p n (d - i) ds l h.2 b.1 (omega (arith, a.0), a.1) (omega arith),
      rest-length q (n - 1) ds (omega arith) h.4 b.2 a.1 (omega arith),
      h.0,
      b.0,
    )

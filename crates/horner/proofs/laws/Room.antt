-- Room: how many words a coded form takes, and how deep it nests. A normal form has at most three nodes for each POW, and 1; its POWs are
-- at most n for each coefficient that is not 0, and fewer than the box; its POPs at most n - 1 for each, or n - 2 and 1.
use Rattle.std.specs.Prelude.{cond, List, [], ◌∷◌, ℕ, zero, suc, ◌+◌, ◌-◌, ◌≤◌, ◌*◌, length}
use Rattle.std.proofs.Common.{ap, arith}
use Rattle.std.proofs.Math.Nat as NatL
use Rattle.horner.specs.definitions.Form.{Form, int, pop, pow, size, Lead, Normal, after}
use Rattle.horner.specs.laws.Degree.{Bounded, total}
use Rattle.horner.specs.definitions.Measures.{box, AllLe, count, nest}
use Rattle.horner.specs.definitions.Rings.{Ring}
use Rattle.horner.proofs.laws.Count.{box-pos, box-after, count-pos}
use Rattle.horner.proofs.laws.Normal.{pow-not-zero, pow-level}
use Rattle.horner.specs.laws.Room.{pows, pops}

module _ {A : Type 0} (R : Ring A) where
  -- ---- nodes by POWs: a leaf more than POWs, and at most one POP for each POW
  pub size-pows : (n : ℕ) (x : Form A) → Normal R n x → size x ≤ 3 * pows x + 1
  size-pows n (int c) h = omega arith
  size-pows n (pop i (int c)) h = absurd h.1
  size-pows n (pop i (pop j p)) h = absurd h.1
  size-pows n (pop i (pow j p q)) h = omega (arith, size-pows (n - i) p h.2.2, size-pows (n - i - 1) q h.2.4)
  size-pows n (pow i p q) h = omega (arith, size-pows n p h.2, size-pows (n - 1) q h.4)

  -- ---- POWs by coefficients
  -- one variable less: m for each of c is, with c more, at most n for each
  one_less : (m n c : ℕ) → suc m ≤ n → m * c + c ≤ n * c
  one_less m n c h = omega (arith, NatL.mul-le-mul_right c h, NatL.suc-mul m c)

  -- a POP: its p is a POW further down
  pop-pows : (n i : ℕ) (p : Form A) → Normal R n (pop i p) → pows p ≤ (n - i) * count R p → pows p + 1 ≤ n * count R p
  pop-pows n i p h e =
      omega (
        arith,
        one_less (n - i) n (count R p) (deeper h.0 (pow-level R (n - i) p h.1 h.2)),
        count-pos R (n - i) p h.2 (pow-not-zero R p h.1),
      )
    where
      deeper : 1 ≤ i → 1 ≤ n - i → suc (n - i) ≤ n
      deeper f g = omega arith

  -- a POW, from what is known of its parts: the p leads
  pow-pows : (n i : ℕ) (p q : Form A) → Normal R n (pow i p q) → pows p + 1 ≤ n * count R p → pows q ≤ (n - 1) * count R q
      → pows (pow i p q) + count R q ≤ n * count R (pow i p q)
  pow-pows n i p q h e f = omega (arith, e, f, one_less (n - 1) n (count R q) (below h.1), NatL.mul-add n (count R p) (count R q))
    where
      below : 1 ≤ n → suc (n - 1) ≤ n
      below g = omega arith

  mutual
    pub pows-count : (n : ℕ) (x : Form A) → Normal R n x → pows x ≤ n * count R x
    pows-count n (int c) h = omega arith
    pows-count n (pop i p) h = omega (arith, pop-pows n i p h (pows-count (n - i) p h.2))
    pows-count n (pow i p q) h = omega (arith, pow-pows n i p q h (pows-count-lead n p h.1 h.2 h.3) (pows-count (n - 1) q h.4))

    -- one less where the form is neither 0 nor (POW i p 0)
    pub pows-count-lead : (n : ℕ) (x : Form A) → 1 ≤ n → Normal R n x → Lead R x → pows x + 1 ≤ n * count R x
    pows-count-lead n (int c) l h e = omega (arith, ap (λ b. n * cond b 0 1) e)
    pows-count-lead n (pop i p) l h e = pop-pows n i p h (pows-count (n - i) p h.2)
    pows-count-lead n (pow i p q) l h e =
        omega (
          arith,
          pow-pows n i p q h (pows-count-lead n p h.1 h.2 h.3) (pows-count (n - 1) q h.4),
          count-pos R (n - 1) q h.4 e,
        )

  -- ---- POPs by coefficients: each stands above a POW further down, so there is none for the last variable
  pub pops-count : (n : ℕ) (x : Form A) → Normal R n x → pops x ≤ (n - 1) * count R x
  pops-count n (int c) h = omega arith
  pops-count n (pop i p) h =
      omega (
        arith,
        one_less (n - i - 1) (n - 1) (count R p) (deeper h.0 (pow-level R (n - i) p h.1 h.2)),
        count-pos R (n - i) p h.2 (pow-not-zero R p h.1),
        pops-count (n - i) p h.2,
      )
    where
      deeper : 1 ≤ i → 1 ≤ n - i → suc (n - i - 1) ≤ n - 1
      deeper f g = omega arith
  pops-count n (pow i p q) h =
      omega (
        arith,
        pops-count n p h.2,
        pops-count (n - 1) q h.4,
        NatL.mul-le-mul_right (count R q) (let l : n - 1 - 1 ≤ n - 1 = omega arith in l),
        NatL.mul-add (n - 1) (count R p) (count R q),
      )

  -- a POW has no POP of its own level but the one in which its p may end
  pub pops-first : (n : ℕ) (x : Form A) → Normal R n x → pops x ≤ 1 + (n - 2) * count R x
  pops-first n (int c) h = omega arith
  pops-first n (pop i p) h = omega (arith, pops-count (n - i) p h.2, NatL.mul-le-mul_right (count R p) (lower h.0))
    where
      lower : 1 ≤ i → n - i - 1 ≤ n - 2
      lower f = omega arith
  pops-first n (pow i p q) h =
      omega (
        arith,
        pops-first n p h.2,
        pops-count (n - 1) q h.4,
        NatL.mul-le-mul_right (count R q) (let l : n - 1 - 1 ≤ n - 2 = omega arith in l),
        NatL.mul-add (n - 2) (count R p) (count R q),
      )

  -- ---- POWs by the box
  pub pows-box : (n : ℕ) (ds : List ℕ) (x : Form A) → Normal R n x → Bounded ds x → pows x + 1 ≤ box ds
  pows-box n ds (int c) h b = omega (arith, box-pos ds)
  pows-box n ds (pop i p) h b = omega (arith, pows-box (n - i) (after i ds) p h.2 b, box-after i ds)
  pows-box n [] (pow i p q) h b = absurd b
  pows-box n (d ∷ ds) (pow i p q) h b =
      omega (
        arith,
        pows-box n ((d - i) ∷ ds) p h.2 b.1,
        pows-box (n - 1) ds q h.4 b.2,
        NatL.suc-mul (suc (d - i)) (box ds),
        NatL.mul-le-mul_right (box ds) (fits h.0 b.0),
      )
    where
      fits : 1 ≤ i → i ≤ d → suc (suc (d - i)) ≤ suc d
      fits f g = omega arith

  -- ---- words
  pub words_count : (n : ℕ) (x : Form A) → Normal R n x → size x ≤ 3 * (n * count R x) + 1
  words_count n x h = omega (arith, size-pows n x h, pows-count n x h)

  -- 3,073 words in at most 4 variables, with at most 256 coefficients that are not 0
  pub words-3073 : (n : ℕ) (x : Form A) → n ≤ 4 → Normal R n x → count R x ≤ 256 → size x ≤ 3073
  words-3073 n x l h c = omega (arith, words_count n x h, NatL.mul-le-mul l c)

  -- ---- nesting: the degrees together, and one for each variable but one
  total-after : (i : ℕ) (ds : List ℕ) → total (after i ds) ≤ total ds
  total-after zero ds = omega arith
  total-after (suc i) [] = total-after i []
  total-after (suc i) (d ∷ ds) = omega (arith, total-after i ds)

  pub nest-total : (n : ℕ) (ds : List ℕ) (x : Form A) → Normal R n x → Bounded ds x → nest x ≤ total ds + (n - 1)
  nest-total n ds (int c) h b = omega arith
  nest-total n ds (pop i p) h b =
      omega (arith, nest-total (n - i) (after i ds) p h.2 b, total-after i ds, h.0, pow-level R (n - i) p h.1 h.2)
  nest-total n [] (pow i p q) h b = absurd b
  nest-total n (d ∷ ds) (pow i p q) h b =
      omega (arith, nest-total n ((d - i) ∷ ds) p h.2 b.1, nest-total (n - 1) ds q h.4 b.2, h.0, b.0, h.1)

  total-63 : (ds : List ℕ) → AllLe 63 ds → total ds ≤ 63 * length ds
  total-63 [] h = omega arith
  total-63 (d ∷ ds) h = omega (arith, total-63 ds h.1, h.0)

  -- 255 in at most 4 variables, of degree at most 63 in each
  pub nest-255 : (ds : List ℕ) (x : Form A) → length ds ≤ 4 → AllLe 63 ds → Normal R (length ds) x → Bounded ds x → nest x ≤ 255
  nest-255 ds x l a h b = omega (arith, nest-total (length ds) ds x h b, total-63 ds a)

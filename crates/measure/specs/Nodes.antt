-- What code works out for a subterm stands for its measures.
use Rattle.std.specs.Prelude.{◌≡◌, refl, Bool, true, false, List, [], ◌∷◌, ℕ, zero, suc, ◌+◌, ◌-◌, ◌*◌, ◌^◌, ◌≤◌, min, max, eqb, ℤ, nat_abs, length, get_or}
use Rattle.std.proofs.Common.{sym, ap, ap₂, ◌∙◌, subst, add-one, arith, eq-eqb, ne_eqb, eqb-true}
use Rattle.std.proofs.Math.Nat as NatL
use Rattle.std.proofs.lemmas.Bool.{eqb-false}
use Rattle.horner.specs.definitions.Measures.{degrees_of, terms_of, AllLe, box, sums, multiples, maxs, zeros}
use Rattle.horner.specs.laws.Within.{Over}
use Rattle.horner.specs.definitions.Term.{Term}
use Rattle.horner.specs.definitions.Form.{tl}
use Rattle.horner.proofs.laws.Highest.{tl-get_d, first-get_d, zeros-zero, maxs-get_d}
use Rattle.horner.proofs.laws.Limits.{length-degrees_of}
use Rattle.text.specs.definitions.Bytes.{index_in}
use Rattle.text.specs.definitions.Tree.{Sign, add, sub, mul, Tree, num, letter, neg, two, power, term_of}
use Rattle.text_laws.specs.laws.Picks.{pick, pick_yes, pick_no}
use Rattle.measure.specs.declared.Measures.{Measures}
use Rattle.measure.specs.Measure.{measures_of, box_m, add_m, mul_m, pow_m}
use Rattle.measure.specs.Made.{of}
use Rattle.measure.specs.Limits.{Meets, degree-63}

-- ---- degrees, one by one
pub sums-get_d : (ds es : List ℕ) (j : ℕ) → get_or (sums ds es) j 0 ≡ get_or ds j 0 + get_or es j 0
sums-get_d ds [] j = omega arith
sums-get_d ds (e ∷ es) zero = omega (arith, first-get_d ds)
sums-get_d ds (e ∷ es) (suc j) = sums-get_d (tl ds) es j ∙ ap (λ d. d + get_or es j 0) (tl-get_d ds j)

pub multiples-get_d : (k : ℕ) (ds : List ℕ) (j : ℕ) → get_or (multiples k ds) j 0 ≡ k * get_or ds j 0
multiples-get_d k [] j = omega (arith, NatL.mul-zero k)
multiples-get_d k (d ∷ ds) zero = refl
multiples-get_d k (d ∷ ds) (suc j) = multiples-get_d k ds j

letter-get_d : (i n j : ℕ) → get_or (zeros i (1 ∷ zeros n [])) j 0 ≡ pick (eqb i j) 1 0
letter-get_d zero n zero = sym (pick_yes _ _ refl)
letter-get_d zero n (suc j) = zeros-zero n j ∙ sym (pick_no _ _ (ne_eqb zero (suc j) (λ e. omega arith)))
letter-get_d (suc i) n zero = sym (pick_no _ _ (ne_eqb (suc i) zero (λ e. omega arith)))
letter-get_d (suc i) n (suc j) = letter-get_d i n j ∙ same (eqb i j) refl
  where
    same : (b : Bool) → eqb i j ≡ b → ◌≡◌ {A = ℕ} (pick (eqb i j) 1 0) (pick (eqb (suc i) (suc j)) 1 0)
    same true e = pick_yes _ _ e ∙ sym (pick_yes _ _ (eq-eqb (suc i) (suc j) (ap suc (eqb-true i j e))))
    same false e = pick_no _ _ e ∙ sym (pick_no _ _ (ne_eqb (suc i) (suc j) (λ f. eqb-false i j e (less f))))
      where
        less : suc i ≡ suc j → i ≡ j
        less f = omega arith

-- ---- the box
below_64 : {a b : ℕ} (p q : ℕ) → a ≤ p → b ≤ q → a * b ≤ p * q
below_64 p q h g = NatL.mul-le-mul h g

box-uncut : (a b c d : ℕ) → a ≤ 63 → b ≤ 63 → c ≤ 63 → d ≤ 63 → box_m a b c d ≡ (a + 1) * ((b + 1) * ((c + 1) * (d + 1)))
unfolding box_m
box-uncut a b c d ha hb hc hd =
    let z : (c + 1) * (d + 1) ≤ 64 * 64 = below_64 64 64 (omega arith) (omega arith) in
    let y : (b + 1) * ((c + 1) * (d + 1)) ≤ 64 * 4096 = below_64 64 4096 (omega arith) (omega arith) in
    let x : (a + 1) * ((b + 1) * ((c + 1) * (d + 1))) ≤ 64 * 262144 = below_64 64 262144 (omega arith) (omega arith) in
    let ez : min ((c + 1) * (d + 1)) 16777216 ≡ (c + 1) * (d + 1) = omega arith in
    let ey : min ((b + 1) * ((c + 1) * (d + 1))) 16777216 ≡ (b + 1) * ((c + 1) * (d + 1)) = omega arith in
    let ex : min ((a + 1) * ((b + 1) * ((c + 1) * (d + 1)))) 16777216 ≡ (a + 1) * ((b + 1) * ((c + 1) * (d + 1))) = omega arith in
    ap (λ m. min ((a + 1) * min ((b + 1) * m) 16777216) 16777216) ez ∙ ap (λ m. min ((a + 1) * m) 16777216) ey ∙ ex

box-four : (ds : List ℕ) → length ds ≤ 4 → (get_or ds 0 0 + 1) * ((get_or ds 1 0 + 1) * ((get_or ds 2 0 + 1) * (get_or ds 3 0 + 1))) ≡ box ds
box-four [] l = refl
box-four (a ∷ []) l = ap (λ m. m * 1) (add-one a)
box-four (a ∷ b ∷ []) l = ap₂ ◌*◌ (add-one a) (ap (λ m. m * 1) (add-one b))
box-four (a ∷ b ∷ c ∷ []) l = ap₂ ◌*◌ (add-one a) (ap₂ ◌*◌ (add-one b) (ap (λ m. m * 1) (add-one c)))
box-four (a ∷ b ∷ c ∷ d ∷ []) l = ap₂ ◌*◌ (add-one a) (ap₂ ◌*◌ (add-one b) (ap₂ ◌*◌ (add-one c) (add-one d ∙ sym (NatL.mul-one (suc d)))))
box-four (a ∷ b ∷ c ∷ d ∷ e ∷ ds) l = absurd (omega arith)

pub box-is :
    (ds : List ℕ) → length ds ≤ 4 → AllLe 63 ds → (a b c d : ℕ) → a ≡ get_or ds 0 0 → b ≡ get_or ds 1 0 → c ≡ get_or ds 2 0 → d ≡ get_or ds 3 0 →
    box_m a b c d ≡ box ds
box-is ds l h a b c d ea eb ec ed =
    (λ i. box_m (ea i) (eb i) (ec i) (ed i))
    ∙ box-uncut (get_or ds 0 0) (get_or ds 1 0) (get_or ds 2 0) (get_or ds 3 0) (degree-63 ds 0 h) (degree-63 ds 1 h) (degree-63 ds 2 h)
    (degree-63 ds 3 h) ∙ box-four ds l

pub box-le : (ds : List ℕ) → length ds ≤ 4 → AllLe 63 ds → box ds ≤ 16777216
unfolding box_m
box-le ds l h =
    subst (λ z. z ≤ 16777216) (box-is ds l h (get_or ds 0 0) (get_or ds 1 0) (get_or ds 2 0) (get_or ds 3 0) refl refl refl refl) (omega arith)

-- ---- the nodes
module _ (row : List ℕ) (four : length row ≤ 4) where
  pub meets-num : (p : ℕ) (w : List ℕ) (z : ℤ) (v : ℕ) → v ≡ min (nat_abs z) 1073741824 → Meets row (num p w z) (of v 1 0 0 0 0)
  meets-num p w z v e =
      record {
        at-0 = sym (zeros-zero (length row) 0);
        at_1 = sym (zeros-zero (length row) 1);
        at-2 = sym (zeros-zero (length row) 2);
        at-3 = sym (zeros-zero (length row) 3);
        of-weight = omega (arith, e);
        of-terms = λ h. refl;
      }

  pub meets-letter :
      (p b : ℕ) (i : ℕ) → i ≡ index_in row b →
      Meets row (letter p b) (of 1 1 (pick (eqb i 0) 1 0) (pick (eqb i 1) 1 0) (pick (eqb i 2) 1 0) (pick (eqb i 3) 1 0))
  meets-letter p b i e =
      record {
        at-0 = one 0;
        at_1 = one 1;
        at-2 = one 2;
        at-3 = one 3;
        of-weight = refl;
        of-terms = λ h. refl;
      }
    where
      one : (j : ℕ) → pick (eqb i j) 1 0 ≡ get_or (zeros (index_in row b) (1 ∷ zeros (length row - suc (index_in row b)) [])) j 0
      one j = ap (λ k. pick (eqb k j) 1 0) e ∙ sym (letter-get_d (index_in row b) (length row - suc (index_in row b)) j)

  pub meets-neg : (p o c : ℕ) (x : Tree) (m : Measures) → Meets row x m → Meets row (neg p o c x) m
  meets-neg p o c x m M =
      record { at-0 = M.at-0; at_1 = M.at_1; at-2 = M.at-2; at-3 = M.at-3; of-weight = M.of-weight; of-terms = M.of-terms }

  -- two subterms
  module _ (X Y : Term) (ox : Over (length row) X) (oy : Over (length row) Y) where
    lengths : length (degrees_of (length row) Y) ≡ length (degrees_of (length row) X)
    lengths = length-degrees_of (length row) Y oy ∙ sym (length-degrees_of (length row) X ox)

    larger :
        (j : ℕ) →
        max (get_or (degrees_of (length row) X) j 0) (get_or (degrees_of (length row) Y) j 0) ≡ get_or
        (maxs (degrees_of (length row) X) (degrees_of (length row) Y)) j 0
    larger j = sym (maxs-get_d (degrees_of (length row) X) (degrees_of (length row) Y) j lengths)

    summed :
        (j : ℕ) →
        get_or (degrees_of (length row) X) j 0 + get_or (degrees_of (length row) Y) j 0 ≡ get_or
        (sums (degrees_of (length row) X) (degrees_of (length row) Y)) j 0
    summed j = sym (sums-get_d (degrees_of (length row) X) (degrees_of (length row) Y) j)

  pub meets-add : (p o c : ℕ) (g : Sign) (x y : Tree) → (g ≡ mul → ⊥) → Over (length row) (term_of row x) → Over (length row) (term_of row y)
      → length (degrees_of (length row) (term_of row (two p o c g x y))) ≤ 4 → Meets row (two p o c g x y)
      (add_m (measures_of (length row) (term_of row x)) (measures_of (length row) (term_of row y)))
  meets-add p o c add x y k ox oy l =
      let L = larger (term_of row x) (term_of row y) ox oy in
      record {
        at-0 = L 0;
        at_1 = L 1;
        at-2 = L 2;
        at-3 = L 3;
        of-weight = refl;
        of-terms =
            λ h. ap (min (terms_of (length row) (term_of row x) + terms_of (length row) (term_of row y)))
            (box-is (degrees_of (length row) (term_of row (two p o c add x y))) l h _ _ _ _ (L 0) (L 1) (L 2) (L 3));
      }
  meets-add p o c sub x y k ox oy l =
      let L = larger (term_of row x) (term_of row y) ox oy in
      record {
        at-0 = L 0;
        at_1 = L 1;
        at-2 = L 2;
        at-3 = L 3;
        of-weight = refl;
        of-terms =
            λ h. ap (min (terms_of (length row) (term_of row x) + terms_of (length row) (term_of row y)))
            (box-is (degrees_of (length row) (term_of row (two p o c sub x y))) l h _ _ _ _ (L 0) (L 1) (L 2) (L 3));
      }
  meets-add p o c mul x y k ox oy l = absurd (k refl)

  pub meets-mul : (p o c : ℕ) (x y : Tree) → Over (length row) (term_of row x) → Over (length row) (term_of row y)
      → length (degrees_of (length row) (term_of row (two p o c mul x y))) ≤ 4 → Meets row (two p o c mul x y)
      (mul_m (measures_of (length row) (term_of row x)) (measures_of (length row) (term_of row y)))
  meets-mul p o c x y ox oy l =
      let L = summed (term_of row x) (term_of row y) ox oy in
      record {
        at-0 = L 0;
        at_1 = L 1;
        at-2 = L 2;
        at-3 = L 3;
        of-weight = omega arith;
        of-terms =
            λ h. ap (min (terms_of (length row) (term_of row x) * terms_of (length row) (term_of row y)))
            (box-is (degrees_of (length row) (term_of row (two p o c mul x y))) l h _ _ _ _ (L 0) (L 1) (L 2) (L 3));
      }

  pub meets-power : (p o c : ℕ) (x : Tree) (q k : ℕ) → length (degrees_of (length row) (term_of row (power p o c x q k))) ≤ 4
      → Meets row (power p o c x q k) (pow_m (measures_of (length row) (term_of row x)) k)
  meets-power p o c x q k l =
      let D = degrees_of (length row) (term_of row x) in
      let L : (j : ℕ) → k * get_or D j 0 ≡ get_or (multiples k D) j 0 = λ j. sym (multiples-get_d k D j) in
      record {
        at-0 = L 0;
        at_1 = L 1;
        at-2 = L 2;
        at-3 = L 3;
        of-weight = omega arith;
        of-terms =
            λ h. ap (min (min (terms_of (length row) (term_of row x) ^ k) 16777216))
            (box-is (multiples k D) l h _ _ _ _ (L 0) (L 1) (L 2) (L 3)) ∙ omega (arith, box-le (multiples k D) l h);
      }

-- The measures of a result: the number that code finds is the one that the reply is refused with.
use Rattle.std.specs.Prelude.{Result, Ok, Err, Bool, true, false, ◌≡◌, refl, ℕ, ◌+◌, ◌*◌, ◌^◌, ◌≤◌, ◌<◌, min, max, leb, ℤ, length, get_or}
use Rattle.std.proofs.Common.{sym, ap, ◌∙◌, subst, arith, le-leb}
use Rattle.std.proofs.lemmas.Bool.{lt-leb}
use Rattle.std.proofs.lemmas.List.{length-map}
use Rattle.refusal.specs.Refusal.{of_neither}
use Rattle.horner.specs.definitions.Form.{Form}
use Rattle.horner.specs.definitions.Rings.{ℤ_ring}
use Rattle.horner.specs.definitions.Measures.{AllLe, box, maxs, sums, multiples, degrees, terms}
use Rattle.horner.proofs.laws.Bounds.{length-sums}
use Rattle.horner.proofs.laws.Degree.{length-maxs}
use Rattle.horner.proofs.laws.Highest.{maxs-get_d}
use Rattle.text.specs.definitions.Bytes.{all}
use Rattle.text_laws.specs.laws.Bytes.{all-le, le-all}
use Rattle.reply.specs.definitions.Calls.{Measured, of_sum, of_product, of_power, limited}
use Rattle.reply.specs.definitions.Reply.{Reply, refuses}
use Rattle.measure.specs.declared.Measures.{Measures}
use Rattle.measure.specs.Limits.{Limited, fits, degree-over, weight-passed, terms-passed, limited as found, is-small, all-63, degree-63}
use Rattle.measure.specs.Measure.{add_m, mul_m, pow_m, limit_m, Within}
use Rattle.measure.specs.Nodes.{sums-get_d, multiples-get_d, box-is, box-le}
use Rattle.form_build.specs.Measure.{measures_of}

-- m stands for the measures M of a result; numbers above their limits may have been cut down
pub record Meets (M : Measured) (m : Measures) : Type 0 where
  pub short : length M.powers ≤ 4
  pub at-0 : m.d0 ≡ get_or M.powers 0 0
  pub at_1 : m.d1 ≡ get_or M.powers 1 0
  pub at-2 : m.d2 ≡ get_or M.powers 2 0
  pub at-3 : m.d3 ≡ get_or M.powers 3 0
  pub of-weight : min m.weight 1073741824 ≡ min M.heavy 1073741824
  pub of-terms : AllLe 63 M.powers → m.terms ≡ min M.many (box M.powers)

-- within the limits
pub record Inside (M : Measured) : Type 0 where
  pub low : AllLe 63 M.powers
  pub light : M.heavy ≤ 1073741823
  pub few : min M.many (box M.powers) ≤ 256

-- ---- the reply, by what is passed
module _ {A : Type 0} (M : Measured) (r : Unit {0} → Reply A) where
  goes_on : Inside M → limited M r ≡ r tt
  goes_on I =
      rw (le-all M.powers I.low)
      (rw (le-leb M.heavy 1073741823 I.light) (rw (le-leb (min M.many (box M.powers)) 256 I.few) refl))

  over-8 : (AllLe 63 M.powers → ⊥) → limited M r ≡ refuses (of_neither 8)
  over-8 n = go (all (λ d. leb d 63) M.powers) refl
    where
      go : (b : Bool) → all (λ d. leb d 63) M.powers ≡ b → limited M r ≡ refuses (of_neither 8)
      go true e = absurd (n (all-le M.powers e))
      go false e = rw e refl

  over-9 : AllLe 63 M.powers → 1073741823 < M.heavy → limited M r ≡ refuses (of_neither 9)
  over-9 a h = rw (le-all M.powers a) (rw (lt-leb M.heavy 1073741823 h) refl)

  over-10 : AllLe 63 M.powers → M.heavy ≤ 1073741823 → 256 < min M.many (box M.powers) → limited M r ≡ refuses (of_neither 10)
  over-10 a w h =
      rw (le-all M.powers a) (rw (le-leb M.heavy 1073741823 w) (rw (lt-leb (min M.many (box M.powers)) 256 h) refl))

module _ {M : Measured} {m : Measures} (T : Meets M m) where
  all_of : m.d0 ≤ 63 → m.d1 ≤ 63 → m.d2 ≤ 63 → m.d3 ≤ 63 → AllLe 63 M.powers
  all_of p q r s =
      all-63 M.powers T.short (subst (λ z. z ≤ 63) T.at-0 p) (subst (λ z. z ≤ 63) T.at_1 q)
      (subst (λ z. z ≤ 63) T.at-2 r) (subst (λ z. z ≤ 63) T.at-3 s)

  pub inside : limit_m m ≡ 0 → Inside M
  inside z =
      let s = is-small m z in
      let a = all_of s.small-0 s.small-1 s.small-2 s.small-3 in
      record { low = a; light = omega (arith, T.of-weight, s.weight-small); few = subst (λ k. k ≤ 256) (T.of-terms a) s.terms-small }

  -- no limit is passed
  pub passed : {A : Type 0} (r : Unit {0} → Reply A) → limit_m m ≡ 0 → limited M r ≡ r tt
  passed r z = goes_on M r (inside z)

  -- the lowest that is
  pub stopped : {A : Type 0} (r : Unit {0} → Reply A) → (limit_m m ≡ 0 → ⊥) → limited M r ≡ refuses (of_neither (limit_m m))
  stopped {A} r n = go (found m)
    where
      number : {k : ℕ} → limit_m m ≡ k → limited M r ≡ refuses (of_neither k) → limited M r ≡ refuses (of_neither (limit_m m))
      number e h = h ∙ ap (λ k. refuses (of_neither k)) (sym e)

      go : Limited m → limited M r ≡ refuses (of_neither (limit_m m))
      go (fits z s) = absurd (n z)
      go (degree-over z k) =
          number z
          (over-8 M r
          (λ a. k (subst (λ z. z ≤ 63) (sym T.at-0) (degree-63 M.powers 0 a))
          (subst (λ z. z ≤ 63) (sym T.at_1) (degree-63 M.powers 1 a))
          (subst (λ z. z ≤ 63) (sym T.at-2) (degree-63 M.powers 2 a))
          (subst (λ z. z ≤ 63) (sym T.at-3) (degree-63 M.powers 3 a))))
      go (weight-passed z a l) = number z (over-9 M r (all_of a.0 a.1.0 a.1.1.0 a.1.1.1) (omega (arith, T.of-weight, l)))
      go (terms-passed z a w l) =
          let b = all_of a.0 a.1.0 a.1.1.0 a.1.1.1 in
          number z (over-10 M r b (omega (arith, T.of-weight, w)) (subst (λ k. 256 < k) (T.of-terms b) l))

-- ---- what code found: that no limit is passed, or the lowest that is
module _ {a b : Measures} {r : Result (Unit {0}) ℕ} (same : a ≡ b) (W : Within a r) where
  pub within-ok : {u : Unit {0}} → r ≡ Ok u → limit_m b ≡ 0
  within-ok h = subst (λ m. limit_m m ≡ 0) same (subst (Within a) h W)

  pub within-err : {e : ℕ} → r ≡ Err e → (e ≡ limit_m b) × (e ≡ 0 → ⊥)
  within-err {e} h = let w = subst (λ m. Within m (Err e)) same (subst (Within a) h W) in (sym w.0, w.1)

-- ---- the operations' measures
module _ (m : ℕ) (few : m ≤ 4) (x y : Form ℤ) (lx : length (degrees m x) ≡ m) (ly : length (degrees m y) ≡ m) where
  sum-own : Meets (of_sum m x y) (add_m (measures_of m x) (measures_of m y))
  sum-own =
      let l : length (maxs (degrees m x) (degrees m y)) ≤ 4 = omega (arith, length-maxs (degrees m x) (degrees m y), lx, few) in
      let L : (j : ℕ) → max (get_or (degrees m x) j 0) (get_or (degrees m y) j 0) ≡ get_or (maxs (degrees m x) (degrees m y)) j 0 = λ j. sym
      (maxs-get_d (degrees m x) (degrees m y) j (ly ∙ sym lx)) in
      record {
        short = l;
        at-0 = L 0;
        at_1 = L 1;
        at-2 = L 2;
        at-3 = L 3;
        of-weight = refl;
        of-terms =
            λ h. ap (min (terms ℤ_ring x + terms ℤ_ring y))
            (box-is (maxs (degrees m x) (degrees m y)) l h _ _ _ _ (L 0) (L 1) (L 2) (L 3));
      }

  pub sum_meets : {a b : Measures} → a ≡ measures_of m x → b ≡ measures_of m y → Meets (of_sum m x y) (add_m a b)
  sum_meets {a} {b} ea eb =
      subst (λ u. Meets (of_sum m x y) (add_m u b)) (sym ea) (subst (λ v. Meets (of_sum m x y) (add_m (measures_of m x) v)) (sym eb) sum-own)

  product-own : Meets (of_product m x y) (mul_m (measures_of m x) (measures_of m y))
  product-own =
      let l : length (sums (degrees m x) (degrees m y)) ≤ 4 = omega (
        arith,
        length-sums (degrees m x) (degrees m y) (lx ∙ sym ly),
        ly,
        few,
      ) in
      let L : (j : ℕ) → get_or (degrees m x) j 0 + get_or (degrees m y) j 0 ≡ get_or (sums (degrees m x) (degrees m y)) j 0 = λ j. sym
      (sums-get_d (degrees m x) (degrees m y) j) in
      record {
        short = l;
        at-0 = L 0;
        at_1 = L 1;
        at-2 = L 2;
        at-3 = L 3;
        of-weight = omega arith;
        of-terms =
            λ h. ap (min (terms ℤ_ring x * terms ℤ_ring y))
            (box-is (sums (degrees m x) (degrees m y)) l h _ _ _ _ (L 0) (L 1) (L 2) (L 3));
      }

  pub product-meets : {a b : Measures} → a ≡ measures_of m x → b ≡ measures_of m y → Meets (of_product m x y) (mul_m a b)
  product-meets {a} {b} ea eb =
      subst (λ u. Meets (of_product m x y) (mul_m u b)) (sym ea)
      (subst (λ v. Meets (of_product m x y) (mul_m (measures_of m x) v)) (sym eb) product-own)

module _ (m : ℕ) (few : m ≤ 4) (x : Form ℤ) (lx : length (degrees m x) ≡ m) (k : ℕ) where
  power-own : Meets (of_power m x k) (pow_m (measures_of m x) k)
  power-own =
      let l : length (multiples k (degrees m x)) ≤ 4 = omega (arith, length-map (degrees m x) (λ d. k * d), lx, few) in
      let L : (j : ℕ) → k * get_or (degrees m x) j 0 ≡ get_or (multiples k (degrees m x)) j 0 = λ j. sym (multiples-get_d k (degrees m x) j) in
      record {
        short = l;
        at-0 = L 0;
        at_1 = L 1;
        at-2 = L 2;
        at-3 = L 3;
        of-weight = omega arith;
        of-terms =
            λ h. ap (min (min (terms ℤ_ring x ^ k) 16777216)) (box-is (multiples k (degrees m x)) l h _ _ _ _ (L 0) (L 1) (L 2) (L 3))
            ∙ omega (arith, box-le (multiples k (degrees m x)) l h);
      }

  pub power-meets : {a : Measures} → a ≡ measures_of m x → Meets (of_power m x k) (pow_m a k)
  power-meets {a} ea = subst (λ u. Meets (of_power m x k) (pow_m u k)) (sym ea) power-own

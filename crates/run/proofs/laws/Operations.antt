-- The operations on runs keep them sorted, and a run's form goes with them: the form of the sum is the sum of the forms, and so for the
-- negative and the product.
use Rattle.std.specs.Prelude.{cond, List, [], ◌∷◌, ◌≡◌, refl, ℕ, zero, suc, ◌-◌, length}
use Rattle.std.proofs.Common.{sym, ◌∙◌, ap, ap₂, subst, arith}
use Rattle.code_counters.specs.laws.Reading.{coef-sum, coef-negate}
use Rattle.horner.specs.definitions.Measures.{monomial}
use Rattle.horner.specs.definitions.Form.{int, mkpop, zero_form, sum, negate, prod, Normal, tl, hd, nats}
use Rattle.horner.specs.definitions.Rings.{Res, prime, p_ring, Ring, power}
use Rattle.horner.specs.definitions.Measures.{zeros, sums, AllLe}
use Rattle.horner.specs.laws.Degree.{Bounded, Below}
use Rattle.horner.proofs.laws.Value.{val}
use Rattle.horner.proofs.laws.Bounds.{bounded-mkpop, bounded-mkpow, bounded-sum, bounded-prod, sums-comm, length-sums}
use Rattle.horner.proofs.laws.Canonical.{canon-box}
use Rattle.horner.proofs.laws.Normal.{normal-sum, normal-negate, normal-prod, lead-negate}
use Rattle.horner.proofs.laws.Prime.{P-regular}
use Rattle.horner.proofs.laws.Ring.{nil-add, mul-nil, nil-mul, unit-mul, mul-neg, neg-nil, neg-of-add, mul_left_comm, power-add}
use Rattle.horner.proofs.laws.Roots.{Regular}
use Rattle.horner.proofs.laws.Product.{val-prod}
use Rattle.run.specs.Merging.{Order, over, level, under, is_level, cmp_l, Each, Falls, Solid}
use Rattle.run.specs.Runs.{Run, Long, Sorted, coef_r, val_r, single, to_form, sum_r, times_r, negate_r, prod_into, prod_r}
use Rattle.run.proofs.laws.Forms.{canon-coef, normal-to_form, val-to_form, coef-to_form, run-eq}
use Rattle.run.proofs.laws.Coefficients.{linear-hit}
use Rattle.run.proofs.laws.Merging.{each_map, each-merge, solid-merge, falls-merge, Linear, total-merge}
use Rattle.run.proofs.laws.Orders.{ordered_l, cmp-sums}

module _ {A : Type 0} (R : Ring A) where
  open R use {◌⊞◌, neg, ◌·◌, nil, unit, is_nil, add_assoc, add-nil, mul_assoc, mul_comm, mul-unit, mul-add}

  -- ---- the sum
  pub sorted-sum_r : (n : ℕ) (r s : Run A) → Each (Long n) r → Each (Long n) s → Falls cmp_l r → Falls cmp_l s → Sorted R n (sum_r R r s)
  sorted-sum_r n r s lr ls fr fs = record {
    long = each-merge is_nil cmp_l ◌⊞◌ (Long n) r s lr ls;
    falls = falls-merge is_nil cmp_l ◌⊞◌ ordered_l r s fr fs;
    solid = solid-merge is_nil cmp_l ◌⊞◌ r s;
  }

  -- the coefficients of a sum are the sums of coefficients
  pub coef-sum_r : (r s : Run A) (ks : List ℕ) → coef_r R ks (sum_r R r s) ≡ coef_r R ks r ⊞ coef_r R ks s
  coef-sum_r r s ks = total-merge R (λ es c. cond (is_level (cmp_l es ks)) c nil) (linear-hit R ks) cmp_l ordered_l r s

  -- the form of the sum is the sum of the forms
  pub form-sum : (n : ℕ) (r s : Run A) → Each (Long n) r → Each (Long n) s → to_form R (sum_r R r s) ≡ sum R (to_form R r) (to_form R s)
  form-sum n r s lr ls =
      canon-coef R n (to_form R (sum_r R r s)) (sum R (to_form R r) (to_form R s)) (normal-to_form R n (sum_r R r s) lm)
      (normal-sum R n (to_form R r) (to_form R s) (normal-to_form R n r lr) (normal-to_form R n s ls))
      (λ ks l. coef-to_form R n (sum_r R r s) lm ks l ∙ coef-sum_r r s ks
      ∙ sym (coef-sum R (to_form R r) (to_form R s) ks ∙ ap₂ ◌⊞◌ (coef-to_form R n r lr ks l) (coef-to_form R n s ls ks l)))
    where
      lm : Each (Long n) (sum_r R r s)
      lm = each-merge is_nil cmp_l ◌⊞◌ (Long n) r s lr ls

  -- ---- the negation
  each-negate : (P : List ℕ → Type 0) (r : Run A) → Each P r → Each P (negate_r R r)
  each-negate P [] h = tt
  each-negate P (m ∷ r) h = (h.0, each-negate P r h.1)

  falls-negate : (r : Run A) → Falls cmp_l r → Falls cmp_l (negate_r R r)
  falls-negate [] h = tt
  falls-negate (m ∷ r) h = (each-negate (λ l. cmp_l m.0 l ≡ over) r h.0, falls-negate r h.1)

  solid-negate : (r : Run A) → Solid is_nil r → Solid is_nil (negate_r R r)
  solid-negate [] h = tt
  solid-negate (m ∷ r) h = (lead-negate R (int m.1) h.0, solid-negate r h.1)

  -- the negative of a sorted run is sorted
  pub sorted-negate_r : (n : ℕ) (r : Run A) → Sorted R n r → Sorted R n (negate_r R r)
  sorted-negate_r n r h =
      record { long = each-negate (Long n) r h.long; falls = falls-negate r h.falls; solid = solid-negate r h.solid }

  coef-negate_r : (r : Run A) (ks : List ℕ) → coef_r R ks (negate_r R r) ≡ neg (coef_r R ks r)
  coef-negate_r [] ks = sym (neg-nil R)
  coef-negate_r (m ∷ r) ks =
      ap₂ ◌⊞◌ (turn (cmp_l m.0 ks)) (coef-negate_r r ks) ∙ sym (neg-of-add R (cond (is_level (cmp_l m.0 ks)) m.1 nil) (coef_r R ks r))
    where
      turn : (o : Order) → cond (is_level o) (neg m.1) nil ≡ neg (cond (is_level o) m.1 nil)
      turn over = sym (neg-nil R)
      turn level = refl
      turn under = sym (neg-nil R)

  -- the form of the negative is the negative of the form
  pub form-negate : (n : ℕ) (r : Run A) → Each (Long n) r → to_form R (negate_r R r) ≡ negate R (to_form R r)
  form-negate n r lr =
      canon-coef R n (to_form R (negate_r R r)) (negate R (to_form R r)) (normal-to_form R n (negate_r R r) (each-negate (Long n) r lr))
      (normal-negate R n (to_form R r) (normal-to_form R n r lr))
      (λ ks l. coef-to_form R n (negate_r R r) (each-negate (Long n) r lr) ks l ∙ coef-negate_r r ks
      ∙ sym (coef-negate R (to_form R r) ks ∙ ap neg (coef-to_form R n r lr ks l)))

  -- ---- the product
  each-times : (P : List ℕ → Type 0) (ks : List ℕ) (c : A) (s : Run A) → Each (λ k. P (sums ks k)) s → Each P (times_r R ks c s)
  each-times P ks c [] h = tt
  each-times P ks c (u ∷ s) h = (h.0, each-times P ks c s h.1)

  pub long-times : (n : ℕ) (ks : List ℕ) (c : A) (s : Run A) → Long n ks → Each (Long n) s → Each (Long n) (times_r R ks c s)
  long-times n ks c s l h =
      each-times (Long n) ks c s (each_map (Long n) (λ k. Long n (sums ks k)) (λ k g. length-sums ks k (l ∙ sym g) ∙ g) s h)

  -- a monomial times a falling list is falling
  pub falls-times : (n : ℕ) (ks : List ℕ) (c : A) (s : Run A) → Long n ks → Each (Long n) s → Falls cmp_l s → Falls cmp_l (times_r R ks c s)
  falls-times n ks c [] l h f = tt
  falls-times n ks c (u ∷ s) l h f =
      (each-times (λ k. cmp_l (sums ks u.0) k ≡ over) ks c s (above s h.1 f.0), falls-times n ks c s l h.1 f.1)
    where
      above : (s : Run A) → Each (Long n) s → Each (λ k. cmp_l u.0 k ≡ over) s → Each (λ k. cmp_l (sums ks u.0) (sums ks k) ≡ over) s
      above [] h f = tt
      above (v ∷ s) g f = (cmp-sums ks u.0 v.0 (h.0 ∙ sym l) (g.0 ∙ sym l) ∙ f.0, above s g.1 f.1)

  pub sorted-prod_into : (n : ℕ) (z r s : Run A) → Sorted R n z → Each (Long n) r → Each (Long n) s → Falls cmp_l s
      → Sorted R n (prod_into R z r s)
  sorted-prod_into n z [] s hz lr ls fs = hz
  sorted-prod_into n z (m ∷ r) s hz lr ls fs =
      sorted-prod_into n (sum_r R z (times_r R m.0 m.1 s)) r s
      (sorted-sum_r n z (times_r R m.0 m.1 s) hz.long (long-times n m.0 m.1 s lr.0 ls) hz.falls
      (falls-times n m.0 m.1 s lr.0 ls fs)) lr.1 ls fs

  -- the product of sorted runs is sorted
  pub sorted-prod_r : (n : ℕ) (r s : Run A) → Sorted R n r → Sorted R n s → Sorted R n (prod_r R r s)
  sorted-prod_r n r s hr hs = sorted-prod_into n [] r s (record { long = tt; falls = tt; solid = tt }) hr.long hs.long hs.falls

  -- its values
  monomial-sums : (ks es : List ℕ) (N : List A) → length ks ≡ length es → monomial R (sums ks es) N ≡ monomial R ks N · monomial R es N
  monomial-sums [] [] N h = sym (mul-unit unit)
  monomial-sums [] (e ∷ es) N h = absurd (omega arith)
  monomial-sums (k ∷ ks) [] N h = absurd (omega arith)
  monomial-sums (k ∷ ks) (e ∷ es) N h =
      ap₂ ◌·◌ (power-add R (hd R N) k e) (monomial-sums ks es (tl N) (omega arith))
      ∙ four (power R (hd R N) k) (power R (hd R N) e) (monomial R ks (tl N)) (monomial R es (tl N))
    where
      four : (a b c d : A) → a · b · (c · d) ≡ a · c · (b · d)
      four a b c d = simp (mul_assoc, mul_left_comm R)

  -- the value of a monomial keeps sums of coefficients
  pub linear-val : (N : List A) → Linear R (λ ks c. monomial R ks N · c)
  linear-val N = record { of_nil = λ k. mul-nil R (monomial R k N); of-add = λ k a b. mul-add (monomial R k N) a b }

  val-times : (n : ℕ) (ks : List ℕ) (c : A) (s : Run A) (N : List A) → Long n ks → Each (Long n) s
      → val_r R (times_r R ks c s) N ≡ monomial R ks N · c · val_r R s N
  val-times n ks c [] N l h = sym (mul-nil R (monomial R ks N · c))
  val-times n ks c (u ∷ s) N l h =
      ap₂ ◌⊞◌ (ap (λ z. z · (c · u.1)) (monomial-sums ks u.0 N (l ∙ sym h.0))
      ∙ four (monomial R ks N) (monomial R u.0 N) c u.1)
      (val-times n ks c s N l h.1)
      ∙ sym (mul-add (monomial R ks N · c) (monomial R u.0 N · u.1) (val_r R s N))
    where
      four : (a b c d : A) → a · b · (c · d) ≡ a · c · (b · d)
      four a b c d = simp (mul_assoc, mul_left_comm R)

  pub val-sum_r : (r s : Run A) (N : List A) → val_r R (sum_r R r s) N ≡ val_r R r N ⊞ val_r R s N
  val-sum_r r s N = total-merge R (λ ks c. monomial R ks N · c) (linear-val N) cmp_l ordered_l r s

  val-prod_into : (n : ℕ) (z r s : Run A) (N : List A) → Each (Long n) r → Each (Long n) s
      → val_r R (prod_into R z r s) N ≡ val_r R z N ⊞ val_r R r N · val_r R s N
  val-prod_into n z [] s N lr ls = sym (ap (◌⊞◌ (val_r R z N)) (nil-mul R (val_r R s N)) ∙ add-nil (val_r R z N))
  val-prod_into n z (m ∷ r) s N lr ls =
      val-prod_into n (sum_r R z (times_r R m.0 m.1 s)) r s N lr.1 ls
      ∙ ap (λ w. w ⊞ val_r R r N · val_r R s N)
      (val-sum_r z (times_r R m.0 m.1 s) N ∙ ap (◌⊞◌ (val_r R z N)) (val-times n m.0 m.1 s N lr.0 ls))
      ∙ add_assoc (val_r R z N) (monomial R m.0 N · m.1 · val_r R s N) (val_r R r N · val_r R s N)
      ∙ ap (◌⊞◌ (val_r R z N)) (gather (monomial R m.0 N · m.1) (val_r R r N) (val_r R s N))
    where
      gather : (a b c : A) → a · c ⊞ b · c ≡ (a ⊞ b) · c
      gather a b c = ap₂ ◌⊞◌ (mul_comm a c) (mul_comm b c) ∙ sym (mul-add c a b) ∙ mul_comm c (a ⊞ b)

  -- the value of the product is the product of the values
  pub val-prod_r : (n : ℕ) (r s : Run A) (N : List A) → Each (Long n) r → Each (Long n) s → val_r R (prod_r R r s) N ≡ val_r R r N · val_r R s N
  val-prod_r n r s N lr ls = val-prod_into n [] r s N lr ls ∙ nil-add R (val_r R r N · val_r R s N)

  val-both : (n : ℕ) (r s : Run A) (N : List A) → Each (Long n) r → Each (Long n) s
      → val R (to_form R (prod_r R r s)) N ≡ val R (prod R (to_form R r) (to_form R s)) N
  val-both n r s N lr ls =
      val-to_form R (prod_r R r s) N ∙ val-prod_r n r s N lr ls
      ∙ sym (val-prod R (to_form R r) (to_form R s) N ∙ ap₂ ◌·◌ (val-to_form R r N) (val-to_form R s N))

  -- ---- bounds
  abbrev Under : List ℕ → Run A → Type 0
  Under ds r = Each (λ k. Below k ds) r

  bounded-single : (ds ks : List ℕ) (c : A) → Below ks ds → Bounded ds (single R ks c)
  bounded-single ds [] c h = tt
  bounded-single [] (k ∷ ks) c h = absurd h
  bounded-single (d ∷ ds) (zero ∷ ks) c h = bounded-mkpop (d ∷ ds) 1 (single R ks c) (bounded-single ds ks c h.1)
  bounded-single (d ∷ ds) (suc k ∷ ks) c h =
      bounded-mkpow R d ds (suc k) (mkpop 1 (single R ks c)) (zero_form R) h.0
      (bounded-mkpop ((d - suc k) ∷ ds) 1 (single R ks c) (bounded-single ds ks c h.1)) tt

  -- the form of a run within degrees is within them
  pub bounded-to_form : (ds : List ℕ) (r : Run A) → Under ds r → Bounded ds (to_form R r)
  bounded-to_form ds [] h = tt
  bounded-to_form ds (m ∷ r) h =
      bounded-sum R ds (single R m.0 m.1) (to_form R r) (bounded-single ds m.0 m.1 h.0) (bounded-to_form ds r h.1)

  below-sums : (n : ℕ) (ks es ds fs : List ℕ) → Long n ks → Long n es → Below ks ds → Below es fs → Below (sums ks es) (sums ds fs)
  below-sums n ks [] ds fs lk le h g = go ks (lk ∙ sym le)
    where
      go : (ks : List ℕ) → length ks ≡ 0 → Below ks (sums ds fs)
      go [] l = tt
      go (k ∷ ks) l = absurd (omega arith)
  below-sums n ks (e ∷ es) ds [] lk le h g = absurd g
  below-sums n [] (e ∷ es) ds (f ∷ fs) lk le h g = absurd (omega arith)
  below-sums n (k ∷ ks) (e ∷ es) [] (f ∷ fs) lk le h g = absurd h
  below-sums n (k ∷ ks) (e ∷ es) (d ∷ ds) (f ∷ fs) lk le h g =
      (omega (arith, h.0, g.0), below-sums (length ks) ks es ds fs refl (omega arith) h.1 g.1)

  -- a monomial within ds times a run within es is within the sums of both
  pub under-times : (n : ℕ) (ds es ks : List ℕ) (c : A) (s : Run A) → Long n ks → Each (Long n) s → Below ks ds → Under es s
      → Under (sums ds es) (times_r R ks c s)
  under-times n ds es ks c [] l ls h g = tt
  under-times n ds es ks c (u ∷ s) l ls h g =
      (below-sums n ks u.0 ds es l ls.0 h g.0, under-times n ds es ks c s l ls.1 h g.1)

  under-prod_into : (n : ℕ) (ds es : List ℕ) (z r s : Run A) → Under (sums ds es) z → Each (Long n) r → Each (Long n) s → Under ds r
      → Under es s
      → Under (sums ds es) (prod_into R z r s)
  under-prod_into n ds es z [] s hz lr ls h g = hz
  under-prod_into n ds es z (m ∷ r) s hz lr ls h g =
      under-prod_into n ds es (sum_r R z (times_r R m.0 m.1 s)) r s
      (each-merge is_nil cmp_l ◌⊞◌ (λ k. Below k (sums ds es)) z (times_r R m.0 m.1 s) hz
      (under-times n ds es m.0 m.1 s lr.0 ls h.0 g))
      lr.1 ls h.1 g

  -- so is the product
  pub under-prod_r : (n : ℕ) (ds es : List ℕ) (r s : Run A) → Each (Long n) r → Each (Long n) s → Under ds r → Under es s
      → Under (sums ds es) (prod_r R r s)
  under-prod_r n ds es r s lr ls h g = under-prod_into n ds es [] r s tt lr ls h g

  -- ---- the form of the product, in a box of numbers that divide no zero
  module _ (K : ℕ) (regular : Regular R K) where
    -- the form of the product is the product of the forms
    pub form-prod-box : (n : ℕ) (ds es : List ℕ) (r s : Run A) → Long n ds → Long n es → AllLe K (sums ds es)
        → Sorted R n r → Sorted R n s → Under ds r → Under es s → to_form R (prod_r R r s) ≡ prod R (to_form R r) (to_form R s)
    form-prod-box n ds es r s ld le all hr hs h g =
        canon-box R K regular (sums ds es) all (to_form R (prod_r R r s)) (prod R (to_form R r) (to_form R s))
        (normal-to_form R (length (sums ds es)) (prod_r R r s)
        (subst (λ z. Each (Long z) (prod_r R r s)) (sym long) (sorted-prod_r n r s hr hs).long))
        (subst (λ z. Normal R z (prod R (to_form R r) (to_form R s))) (sym long)
        (normal-prod R n (to_form R r) (to_form R s) (normal-to_form R n r hr.long) (normal-to_form R n s hs.long)))
        (bounded-to_form (sums ds es) (prod_r R r s) (under-prod_r n ds es r s hr.long hs.long h g))
        (bounded-prod R ds es (to_form R r) (to_form R s) (bounded-to_form ds r h) (bounded-to_form es s g))
        (λ N m. val-both n r s (nats R N) hr.long hs.long)
      where
        long : length (sums ds es) ≡ n
        long = length-sums ds es (ld ∙ sym le) ∙ le

    -- the two runs may change places
    pub prod-swap-box : (n : ℕ) (ds es : List ℕ) (r s : Run A) → Long n ds → Long n es → AllLe K (sums ds es)
        → Sorted R n r → Sorted R n s → Under ds r → Under es s → prod_r R r s ≡ prod_r R s r
    prod-swap-box n ds es r s ld le all hr hs h g =
        run-eq R n (prod_r R r s) (prod_r R s r) (sorted-prod_r n r s hr hs) (sorted-prod_r n s r hs hr)
        (canon-box R K regular (sums ds es) all (to_form R (prod_r R r s)) (to_form R (prod_r R s r)) (normal r s hr hs) (normal s r hs hr)
        (bounded-to_form (sums ds es) (prod_r R r s) (under-prod_r n ds es r s hr.long hs.long h g))
        (subst (λ z. Bounded z (to_form R (prod_r R s r))) (sums-comm es ds)
        (bounded-to_form (sums es ds) (prod_r R s r) (under-prod_r n es ds s r hs.long hr.long g h)))
        (λ N m. val-to_form R (prod_r R r s) (nats R N) ∙ val-prod_r n r s (nats R N) hr.long hs.long
        ∙ mul_comm (val_r R r (nats R N)) (val_r R s (nats R N))
        ∙ sym (val-to_form R (prod_r R s r) (nats R N) ∙ val-prod_r n s r (nats R N) hs.long hr.long)))
      where
        long : length (sums ds es) ≡ n
        long = length-sums ds es (ld ∙ sym le) ∙ le

        normal : (r s : Run A) → Sorted R n r → Sorted R n s → Normal R (length (sums ds es)) (to_form R (prod_r R r s))
        normal r s hr hs =
            normal-to_form R (length (sums ds es)) (prod_r R r s)
            (subst (λ z. Each (Long z) (prod_r R r s)) (sym long) (sorted-prod_r n r s hr hs).long)

-- ---- by P, where the degrees of the product are at most 63
pub form-prod-P : (n : ℕ) (ds es : List ℕ) (r s : Run (Res prime)) → Long n ds → Long n es → AllLe 63 (sums ds es)
    → Sorted p_ring n r → Sorted p_ring n s → Each (λ k. Below k ds) r → Each (λ k. Below k es) s
    → to_form p_ring (prod_r p_ring r s) ≡ prod p_ring (to_form p_ring r) (to_form p_ring s)
form-prod-P = form-prod-box p_ring 63 P-regular

-- no exponents are added
pub sums-zeros : (n : ℕ) (ks : List ℕ) → Long n ks → sums (zeros n []) ks ≡ ks
sums-zeros zero [] l = refl
sums-zeros zero (k ∷ ks) l = absurd (omega arith)
sums-zeros (suc n) [] l = absurd (omega arith)
sums-zeros (suc n) (k ∷ ks) l = ap₂ ◌∷◌ (omega arith) (sums-zeros n ks (omega arith))

-- ---- a sum and a difference are x plus a monomial without letters times y
module _ {A : Type 0} (R : Ring A) where
  open R use {neg, ◌·◌, unit, mul-unit, mul_comm}

  -- times 1, and times -1
  pub times-one : (n : ℕ) (s : Run A) → Each (Long n) s → times_r R (zeros n []) unit s ≡ s
  times-one n [] h = refl
  times-one n (u ∷ s) h = λ t. (sums-zeros n u.0 h.0 t, unit-mul R u.1 t) ∷ times-one n s h.1 t

  pub times-minus : (n : ℕ) (s : Run A) → Each (Long n) s → times_r R (zeros n []) (neg unit) s ≡ negate_r R s
  times-minus n [] h = refl
  times-minus n (u ∷ s) h = λ t. (sums-zeros n u.0 h.0 t, minus t) ∷ times-minus n s h.1 t
    where
      minus : neg unit · u.1 ≡ neg u.1
      minus = mul_comm (neg unit) u.1 ∙ mul-neg R u.1 unit ∙ ap neg (mul-unit u.1)

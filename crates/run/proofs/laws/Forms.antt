-- A run's form and a form's run: the one is normal, the other sorted, with the same coefficients and values, so each undoes the other.
use Rattle.std.specs.Prelude.{Bool, true, false, cond, List, [], ◌∷◌, ◌++◌, ◌≡◌, refl, ℕ, zero, suc, ◌-◌, ◌≤◌, T, length}
use Rattle.std.proofs.Common.{sym, ◌∙◌, ap, ap₂, subst, arith}
use Rattle.code_counters.specs.laws.Reading.{down_at, plain-zero, spread, coef, coef-sum, coef-negate, coef-is, vanish}
use Rattle.code_counters.specs.laws.Spread.{ups, read-mkpop, read-mkpow}
use Rattle.horner.specs.definitions.Measures.{zeros}
use Rattle.horner.specs.definitions.Measures.{monomial}
use Rattle.horner.specs.definitions.Form.{Form, int, pop, pow, mkpop, mkpow, zero_form, sum, negate, Normal, is_pow, tl, hd}
use Rattle.horner.specs.definitions.Rings.{Ring, power}
use Rattle.horner.proofs.laws.Value.{val, val-mkpop, val-mkpow, val-sum}
use Rattle.horner.proofs.laws.Cancel.{difference}
use Rattle.horner.proofs.laws.Degree.{length-zeros}
use Rattle.horner.proofs.laws.Normal.{normal-mkpop, normal-mkpow, normal-sum, normal-negate, pow-level}
use Rattle.horner.proofs.laws.Ring.{unit-mul}
use Rattle.run.specs.Merging.{over, cmpℕ, cmp_l, rekey, Each, Falls, Solid}
use Rattle.run.specs.Runs.{Run, Long, raise_key, Sorted, coef_r, val_r, powered, single, to_form, to_run}
use Rattle.run.proofs.laws.Coefficients.{hit, hit-first, ups-at, down-zero, plain-at, downs-cong, ups-cong, zeros-at, raise-at}
use Rattle.run.proofs.laws.Coefficients.{linear-hit}
use Rattle.run.proofs.laws.Keys.{one_less, some-long, long-raise, cmp-zeros, cmp-raise, raised-over}
use Rattle.run.specs.laws.Keys.{Some}
use Rattle.run.proofs.laws.Merging.{each_map, each-push, solid-push, each_append, solid-append, falls-append}
use Rattle.run.proofs.laws.Merging.{each-rekey, solid-rekey, falls-rekey, total-append, total-rekey, total-push, canon-run}
use Rattle.run.proofs.laws.Orders.{ordered_l}

module _ {A : Type 0} (R : Ring A) where
  open R use {◌⊞◌, neg, ◌·◌, nil, unit, is_nil, add-nil, add-neg, mul_assoc, is_nil-nil}

  -- ---- normal forms with the same coefficients are one form, over every ring
  pub canon-coef : (n : ℕ) (x y : Form A) → Normal R n x → Normal R n y
      → ((ks : List ℕ) → Long n ks → coef R x ks ≡ coef R y ks) → x ≡ y
  canon-coef n x y hx hy e =
      difference R n x y hx hn
      (vanish R n (sum R x (negate R y)) hs
      (λ ks l. coef-is R ks (sum R x (negate R y)) (subst (λ z. Normal R z (sum R x (negate R y))) (sym l) hs)
      ∙ coef-sum R x (negate R y) ks ∙ ap₂ ◌⊞◌ (e ks l) (coef-negate R y ks) ∙ add-neg (coef R y ks)))
    where
      hn : Normal R n (negate R y)
      hn = normal-negate R n y hy

      hs : Normal R n (sum R x (negate R y))
      hs = normal-sum R n x (negate R y) hx hn

  -- ---- a run's form is normal
  normal-powered : (n k : ℕ) (p : Form A) → Normal R n p → Normal R (suc n) (powered R k p)
  normal-powered n zero p h = normal-mkpop R (suc n) 1 p (subst (λ z. Normal R z p) (sym (one_less n)) h)
  normal-powered n (suc k) p h =
      normal-mkpow R (suc n) (suc k) (mkpop 1 p) (zero_form R) (omega arith) (omega arith)
      (normal-mkpop R (suc n) 1 p (subst (λ z. Normal R z p) (sym (one_less n)) h)) tt

  pub normal-single : (ks : List ℕ) (c : A) → Normal R (length ks) (single R ks c)
  normal-single [] c = tt
  normal-single (k ∷ ks) c = normal-powered (length ks) k (single R ks c) (normal-single ks c)

  -- the form of a run is normal
  pub normal-to_form : (n : ℕ) (r : Run A) → Each (Long n) r → Normal R n (to_form R r)
  normal-to_form n [] h = tt
  normal-to_form n (m ∷ r) h =
      normal-sum R n (single R m.0 m.1) (to_form R r)
      (subst (λ z. Normal R z (single R m.0 m.1)) h.0 (normal-single m.0 m.1))
      (normal-to_form n r h.1)

  -- ---- with the run's values
  val-powered : (k : ℕ) (p : Form A) (N : List A) → val R (powered R k p) N ≡ power R (hd R N) k · val R p (tl N)
  val-powered zero p N = val-mkpop R 1 p N ∙ sym (unit-mul R (val R p (tl N)))
  val-powered (suc k) p N =
      val-mkpow R (suc k) (mkpop 1 p) (zero_form R) N ∙ add-nil (power R (hd R N) (suc k) · val R (mkpop 1 p) N)
      ∙ ap (◌·◌ (power R (hd R N) (suc k))) (val-mkpop R 1 p N)

  val-single : (ks : List ℕ) (c : A) (N : List A) → val R (single R ks c) N ≡ monomial R ks N · c
  val-single [] c N = sym (unit-mul R c)
  val-single (k ∷ ks) c N =
      val-powered k (single R ks c) N ∙ ap (◌·◌ (power R (hd R N) k)) (val-single ks c (tl N))
      ∙ sym (mul_assoc (power R (hd R N) k) (monomial R ks (tl N)) c)

  -- the form has the values of the run
  pub val-to_form : (r : Run A) (N : List A) → val R (to_form R r) N ≡ val_r R r N
  val-to_form [] N = refl
  val-to_form (m ∷ r) N = val-sum R (single R m.0 m.1) (to_form R r) N ∙ ap₂ ◌⊞◌ (val-single m.0 m.1 N) (val-to_form r N)

  -- ---- and the run's coefficients
  coef-mkpop-1 : (p : Form A) → coef R (mkpop 1 p) ≡ down_at R (coef R p)
  coef-mkpop-1 p = read-mkpop R (spread R) 1 p

  coef-powered : (k j : ℕ) (p : Form A) (ks : List ℕ) → coef R (powered R k p) (j ∷ ks) ≡ hit R (cmpℕ k j) (coef R p ks)
  coef-powered zero j p ks = ap (λ f. f (j ∷ ks)) (coef-mkpop-1 p) ∙ ups-at R zero j ks (coef R p)
  coef-powered (suc k) j p ks =
      ap (λ f. f (j ∷ ks)) (read-mkpow R (spread R) (suc k) (mkpop 1 p) (zero_form R))
      ∙ ap₂ ◌⊞◌ (ap (λ f. ups R (spread R) (suc k) f (j ∷ ks)) (coef-mkpop-1 p) ∙ ups-at R (suc k) j ks (coef R p)) (down-zero R j ks)
      ∙ add-nil (hit R (cmpℕ (suc k) j) (coef R p ks))

  coef-single : (es ks : List ℕ) (c : A) → length es ≡ length ks → coef R (single R es c) ks ≡ hit R (cmp_l es ks) c
  coef-single [] [] c h = refl
  coef-single [] (k ∷ ks) c h = absurd (omega arith)
  coef-single (e ∷ es) [] c h = absurd (omega arith)
  coef-single (e ∷ es) (k ∷ ks) c h =
      coef-powered e k (single R es c) ks ∙ ap (hit R (cmpℕ e k)) (coef-single es ks c (omega arith))
      ∙ sym (hit-first R (cmpℕ e k) (cmp_l es ks) c)

  -- the form has the coefficients of the run
  pub coef-to_form : (n : ℕ) (r : Run A) → Each (Long n) r → (ks : List ℕ) → Long n ks → coef R (to_form R r) ks ≡ coef_r R ks r
  coef-to_form n [] h ks l = plain-zero R ks
  coef-to_form n (m ∷ r) h ks l =
      coef-sum R (single R m.0 m.1) (to_form R r) ks
      ∙ ap₂ ◌⊞◌ (coef-single m.0 ks m.1 (h.0 ∙ sym l)) (coef-to_form n r h.1 ks l)

  -- ---- a form's run
  -- how many variables a POP leaves
  pop-fits : (n i : ℕ) (p : Form A) → T (is_pow p) → Normal R (n - i) p → i ≤ n
  pop-fits n i p g h = omega (arith, pow-level R (n - i) p g h)

  -- a form's run has keys of n exponents, no coefficient 0, and falling keys
  pub long-to_run : (n : ℕ) (x : Form A) → Normal R n x → Each (Long n) (to_run R n x)
  long-to_run n (int c) h = each-push is_nil (Long n) (zeros n []) c [] (length-zeros n [] ∙ omega arith) tt
  long-to_run n (pop i p) h =
      each-rekey (zeros i) (Long n) (to_run R (n - i) p)
      (each_map (Long (n - i)) (λ k. Long n (zeros i k)) (λ k l. omega (arith, length-zeros i k, pop-fits n i p h.1 h.2))
      (to_run R (n - i) p) (long-to_run (n - i) p h.2))
  long-to_run n (pow i p q) h =
      each_append (Long n) (rekey (raise_key i) (to_run R n p)) (rekey (zeros 1) (to_run R (n - 1) q))
      (each-rekey (raise_key i) (Long n) (to_run R n p)
      (each_map (Long n) (λ k. Long n (raise_key i k)) (long-raise i n) (to_run R n p) (long-to_run n p h.2)))
      (each-rekey (zeros 1) (Long n) (to_run R (n - 1) q)
      (each_map (Long (n - 1)) (λ k. Long n (zeros 1 k)) (λ k l. omega (arith, h.1)) (to_run R (n - 1) q) (long-to_run (n - 1) q h.4)))

  pub solid-to_run : (n : ℕ) (x : Form A) → Solid is_nil (to_run R n x)
  solid-to_run n (int c) = solid-push is_nil (zeros n []) c [] tt
  solid-to_run n (pop i p) = solid-rekey (zeros i) is_nil (to_run R (n - i) p) (solid-to_run (n - i) p)
  solid-to_run n (pow i p q) =
      solid-append is_nil (rekey (raise_key i) (to_run R n p)) (rekey (zeros 1) (to_run R (n - 1) q))
      (solid-rekey (raise_key i) is_nil (to_run R n p) (solid-to_run n p))
      (solid-rekey (zeros 1) is_nil (to_run R (n - 1) q) (solid-to_run (n - 1) q))

  pub falls-to_run : (n : ℕ) (x : Form A) → Normal R n x → Falls cmp_l (to_run R n x)
  falls-to_run n (int c) h = go (is_nil c)
    where
      go : (b : Bool) → Falls {A = A} cmp_l (cond b [] ((zeros n [], c) ∷ []))
      go true = tt
      go false = (tt, tt)
  falls-to_run n (pop i p) h =
      falls-rekey (zeros i) cmp_l cmp_l (λ k. Unit {0}) (λ k l a b. cmp-zeros i k l) (to_run R (n - i) p)
      (each_map (Long (n - i)) (λ k. Unit {0}) (λ k l. tt) (to_run R (n - i) p) (long-to_run (n - i) p h.2))
      (falls-to_run (n - i) p h.2)
  falls-to_run n (pow i p q) h =
      falls-append cmp_l (rekey (raise_key i) (to_run R n p)) (rekey (zeros 1) (to_run R (n - 1) q))
      (falls-rekey (raise_key i) cmp_l cmp_l (Long n) (λ k l a b. cmp-raise i k l) (to_run R n p) (long-to_run n p h.2)
      (falls-to_run n p h.2))
      (falls-rekey (zeros 1) cmp_l cmp_l (Long (n - 1)) (λ k l a b. cmp-zeros 1 k l) (to_run R (n - 1) q) (long-to_run (n - 1) q h.4)
      (falls-to_run (n - 1) q h.4))
      (each-rekey (raise_key i) (λ k. Each (λ l. cmp_l k l ≡ over) (rekey (zeros 1) (to_run R (n - 1) q))) (to_run R n p)
      (each_map (Long n) (λ k. Each (λ l. cmp_l (raise_key i k) l ≡ over) (rekey (zeros 1) (to_run R (n - 1) q)))
      (λ k a. each-rekey (zeros 1) (λ l. cmp_l (raise_key i k) l ≡ over) (to_run R (n - 1) q)
      (each_map (Long (n - 1)) (λ l. cmp_l (raise_key i k) (zeros 1 l) ≡ over) (λ l b. raised-over i k l h.0 (some-long n k h.1 a))
      (to_run R (n - 1) q) (long-to_run (n - 1) q h.4)))
      (to_run R n p) (long-to_run n p h.2)))

  -- a normal form's run is sorted
  pub sorted-to_run : (n : ℕ) (x : Form A) → Normal R n x → Sorted R n (to_run R n x)
  sorted-to_run n x h = record { long = long-to_run n x h; falls = falls-to_run n x h; solid = solid-to_run n x }

  -- ---- its coefficients
  pub coef-to_run : (n : ℕ) (x : Form A) → Normal R n x → (ks : List ℕ) → Long n ks → coef_r R ks (to_run R n x) ≡ coef R x ks
  coef-to_run n (int c) h ks l =
      total-push R (λ es c. hit R (cmp_l es ks) c) (linear-hit R ks) (zeros n []) c [] ∙ add-nil (hit R (cmp_l (zeros n []) ks) c)
      ∙ plain-at R n ks c l
  coef-to_run n (pop i p) h ks l =
      total-rekey R (zeros i) (λ es c. hit R (cmp_l es ks) c) (to_run R (n - i) p)
      ∙ zeros-at R i (to_run R (n - i) p) ks (omega (arith, pop-fits n i p h.1 h.2))
      ∙ downs-cong R i (n - i) (λ l. coef_r R l (to_run R (n - i) p)) (coef R p) (coef-to_run (n - i) p h.2) ks
      (omega (arith, pop-fits n i p h.1 h.2))
  coef-to_run n (pow i p q) h [] l = absurd (omega (arith, h.1))
  coef-to_run n (pow i p q) h (k ∷ ks) l =
      total-append R (λ es c. hit R (cmp_l es (k ∷ ks)) c) (rekey (raise_key i) (to_run R n p)) (rekey (zeros 1) (to_run R (n - 1) q))
      ∙ ap₂ ◌⊞◌
      (total-rekey R (raise_key i) (λ es c. hit R (cmp_l es (k ∷ ks)) c) (to_run R n p)
      ∙ raise-at R i k (to_run R n p) ks (each_map (Long n) Some (λ z. some-long n z h.1) (to_run R n p) (long-to_run n p h.2))
      ∙ ups-cong R i n (λ l. coef_r R l (to_run R n p)) (coef R p) (coef-to_run n p h.2) (k ∷ ks) l)
      (total-rekey R (zeros 1) (λ es c. hit R (cmp_l es (k ∷ ks)) c) (to_run R (n - 1) q)
      ∙ zeros-at R 1 (to_run R (n - 1) q) (k ∷ ks) (omega arith)
      ∙ downs-cong R 1 (n - 1) (λ l. coef_r R l (to_run R (n - 1) q)) (coef R q) (coef-to_run (n - 1) q h.4) (k ∷ ks)
      (omega (arith, h.1)))

  -- ---- each undoes the other
  pub form-of-run : (n : ℕ) (x : Form A) → Normal R n x → to_form R (to_run R n x) ≡ x
  form-of-run n x h =
      canon-coef n (to_form R (to_run R n x)) x (normal-to_form n (to_run R n x) (long-to_run n x h)) h
      (λ ks l. coef-to_form n (to_run R n x) (long-to_run n x h) ks l ∙ coef-to_run n x h ks l)

  -- the run of the form of a sorted run is that run
  pub run-of-form : (n : ℕ) (r : Run A) → Sorted R n r → to_run R n (to_form R r) ≡ r
  run-of-form n r h =
      canon-run R cmp_l ordered_l (Long n) (to_run R n (to_form R r)) r (falls-to_run n (to_form R r) hn) h.falls (solid-to_run n (to_form R r))
      h.solid
      (long-to_run n (to_form R r) hn) h.long (λ ks l. coef-to_run n (to_form R r) hn ks l ∙ coef-to_form n r h.long ks l)
    where
      hn : Normal R n (to_form R r)
      hn = normal-to_form n r h.long

  -- sorted runs with equal forms are equal
  pub run-eq : (n : ℕ) (r s : Run A) → Sorted R n r → Sorted R n s → to_form R r ≡ to_form R s → r ≡ s
  run-eq n r s hr hs e = sym (run-of-form n r hr) ∙ ap (to_run R n) e ∙ run-of-form n s hs

  -- ---- taken apart by the first variable: p times its i-th power, and q without it
  pub form-split : (n i : ℕ) (p q : Run A) → 1 ≤ i → Each (Long (suc n)) p → Each (Long n) q
      → to_form R (rekey (raise_key i) p ++ rekey (zeros 1) q) ≡ mkpow R i (to_form R p) (to_form R q)
  form-split n i p q hi hp hq =
      canon-coef (suc n) (to_form R s) (mkpow R i (to_form R p) (to_form R q)) (normal-to_form (suc n) s hs)
      (normal-mkpow R (suc n) i (to_form R p) (to_form R q) hi (omega arith) (normal-to_form (suc n) p hp)
      (subst (λ z. Normal R z (to_form R q)) (sym (one_less n)) (normal-to_form n q hq)))
      agree
    where
      s : Run A
      s = rekey (raise_key i) p ++ rekey (zeros 1) q

      hs : Each (Long (suc n)) s
      hs =
          each_append (Long (suc n)) (rekey (raise_key i) p) (rekey (zeros 1) q)
          (each-rekey (raise_key i) (Long (suc n)) p
          (each_map (Long (suc n)) (λ k. Long (suc n) (raise_key i k)) (long-raise i (suc n)) p hp))
          (each-rekey (zeros 1) (Long (suc n)) q (each_map (Long n) (λ k. Long (suc n) (zeros 1 k)) (λ k l. ap suc l) q hq))

      agree : (ks : List ℕ) → Long (suc n) ks → coef R (to_form R s) ks ≡ coef R (mkpow R i (to_form R p) (to_form R q)) ks
      agree [] l = absurd (omega arith)
      agree (k ∷ ks) l =
          coef-to_form (suc n) s hs (k ∷ ks) l
          ∙ total-append R (λ es c. hit R (cmp_l es (k ∷ ks)) c) (rekey (raise_key i) p) (rekey (zeros 1) q)
          ∙ ap₂ ◌⊞◌
          (total-rekey R (raise_key i) (λ es c. hit R (cmp_l es (k ∷ ks)) c) p
          ∙ raise-at R i k p ks (each_map (Long (suc n)) Some (λ z. some-long (suc n) z (omega arith)) p hp)
          ∙ ups-cong R i (suc n) (λ l. coef_r R l p) (coef R (to_form R p)) (λ z e. sym (coef-to_form (suc n) p hp z e)) (k ∷ ks) l)
          (total-rekey R (zeros 1) (λ es c. hit R (cmp_l es (k ∷ ks)) c) q ∙ zeros-at R 1 q (k ∷ ks) (omega arith)
          ∙ downs-cong R 1 n (λ l. coef_r R l q) (coef R (to_form R q)) (λ z e. sym (coef-to_form n q hq z e)) (k ∷ ks) (omega arith))
          ∙ sym (ap (λ f. f (k ∷ ks)) (read-mkpow R (spread R) i (to_form R p) (to_form R q)))

  -- where the first variable does not occur
  pub form-down : (n : ℕ) (q : Run A) → Each (Long n) q → to_form R (rekey (zeros 1) q) ≡ mkpop 1 (to_form R q)
  form-down n q hq =
      form-split n 1 [] q (omega arith) tt hq ∙ ap (λ b. cond b (mkpop 1 (to_form R q)) (pow 1 (zero_form R) (to_form R q))) is_nil-nil

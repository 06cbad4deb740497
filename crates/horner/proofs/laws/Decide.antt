-- Tests that run, and that they decide what they test: equality of forms, and normality.
use Rattle.std.specs.Prelude.{Bool, true, false, ◌&&◌, not, ◌↔◌, ◌≡◌, ℕ, ◌-◌, ◌<◌, T, eqb, leb, ℤ, pos, negsuc}
use Rattle.std.proofs.Common.{sym, ap, ap₂, subst, eqb→eq, leb→le, le→leb}
use Rattle.std.proofs.Math.Dec.{eqb_refl}
use Rattle.horner.specs.definitions.Form.{Form, int, pop, pow, is_zero, Lead, Normal, is_pow, leads}
use Rattle.horner.specs.definitions.Rings.{Res, res-ext, Ring}
use Rattle.horner.proofs.laws.Tests.{is_false, and_both, and_intro}
use Rattle.horner.specs.laws.Decide.{eq_ℤ, eq_res}

-- ---- equality, by a test of coefficients
module _ {A : Type 0} (eq : A → A → Bool) where
  abbrev pub eq_form : Form A → Form A → Bool
  eq_form (int a) (int b) = eq a b
  eq_form (int a) (pop j q) = false
  eq_form (int a) (pow j r s) = false
  eq_form (pop i p) (int b) = false
  eq_form (pop i p) (pop j q) = eqb i j && eq_form p q
  eq_form (pop i p) (pow j r s) = false
  eq_form (pow i p q) (int b) = false
  eq_form (pow i p q) (pop j r) = false
  eq_form (pow i p q) (pow j r s) = eqb i j && (eq_form p r && eq_form q s)

  pub eq_form-eq : ((a b : A) → T (eq a b) → a ≡ b) → (x y : Form A) → T (eq_form x y) → x ≡ y
  eq_form-eq sound (int a) (int b) t = ap int (sound a b t)
  eq_form-eq sound (int a) (pop j q) t = absurd t
  eq_form-eq sound (int a) (pow j r s) t = absurd t
  eq_form-eq sound (pop i p) (int b) t = absurd t
  eq_form-eq sound (pop i p) (pop j q) t =
      let b = and_both (eqb i j) (eq_form p q) t in
      ap₂ pop (eqb→eq i j b.0) (eq_form-eq sound p q b.1)
  eq_form-eq sound (pop i p) (pow j r s) t = absurd t
  eq_form-eq sound (pow i p q) (int b) t = absurd t
  eq_form-eq sound (pow i p q) (pop j r) t = absurd t
  eq_form-eq sound (pow i p q) (pow j r s) t =
      let b = and_both (eqb i j) (eq_form p r && eq_form q s) t in
      let c = and_both (eq_form p r) (eq_form q s) b.1 in
      let ei : i ≡ j = eqb→eq i j b.0 in
      let ep : p ≡ r = eq_form-eq sound p r c.0 in
      let es : q ≡ s = eq_form-eq sound q s c.1 in
      λ t. pow (ei t) (ep t) (es t)

  pub eq_form-refl : ((a : A) → T (eq a a)) → (x : Form A) → T (eq_form x x)
  eq_form-refl r (int a) = r a
  eq_form-refl r (pop i p) = and_intro (eqb i i) (eq_form p p) (eqb_refl i) (eq_form-refl r p)
  eq_form-refl r (pow i p q) =
      and_intro (eqb i i) (eq_form p p && eq_form q q) (eqb_refl i) (and_intro (eq_form p p) (eq_form q q) (eq_form-refl r p) (eq_form-refl r q))

pub eq_ℤ-eq : (a b : ℤ) → T (eq_ℤ a b) → a ≡ b
eq_ℤ-eq (pos a) (pos b) t = ap pos (eqb→eq a b t)
eq_ℤ-eq (pos a) (negsuc b) t = absurd t
eq_ℤ-eq (negsuc a) (pos b) t = absurd t
eq_ℤ-eq (negsuc a) (negsuc b) t = ap negsuc (eqb→eq a b t)

pub eq_ℤ-refl : (a : ℤ) → T (eq_ℤ a a)
eq_ℤ-refl (pos a) = eqb_refl a
eq_ℤ-refl (negsuc a) = eqb_refl a

-- forms over the integers, and over the remainders by m
pub equal-ℤ : (x y : Form ℤ) → T (eq_form eq_ℤ x y) ↔ (x ≡ y)
equal-ℤ x y = (eq_form-eq eq_ℤ eq_ℤ-eq x y, λ e. subst (λ z. T (eq_form eq_ℤ x z)) e (eq_form-refl eq_ℤ eq_ℤ-refl x))

pub equal-res : (m : ℕ) (m-pos : 0 < m) (x y : Form (Res m)) → T (eq_form (eq_res m) x y) ↔ (x ≡ y)
equal-res m m-pos x y = (
  eq_form-eq (eq_res m) (λ a b t. res-ext m m-pos a b (eqb→eq a.0 b.0 t)) x y,
  λ e. subst (λ z. T (eq_form (eq_res m) x z)) e (eq_form-refl (eq_res m) (λ a. eqb_refl a.0) x),
)

-- ---- normality
module _ {A : Type 0} (R : Ring A) where
  open R use {is_nil}

  not_is : (b : Bool) → T (not b) ↔ (b ≡ false)
  not_is b = (is_false b, λ e. subst (λ z. T (not z)) (sym e) tt)

  leads-is : (x : Form A) → T (leads R x) ↔ Lead R x
  leads-is (int c) = not_is (is_nil c)
  leads-is (pop i p) = (λ t. tt, λ h. tt)
  leads-is (pow i p q) = not_is (is_zero R q)

  abbrev pub is_normal : ℕ → Form A → Bool
  is_normal n (int c) = true
  is_normal n (pop i p) = leb 1 i && (is_pow p && is_normal (n - i) p)
  is_normal n (pow i p q) = leb 1 i && (leb 1 n && (is_normal n p && (leads R p && is_normal (n - 1) q)))

  pub is_normal-is : (n : ℕ) (x : Form A) → T (is_normal n x) ↔ Normal R n x
  is_normal-is n (int c) = (λ t. tt, λ h. tt)
  is_normal-is n (pop i p) = (
    λ t. let a = and_both (leb 1 i) (is_pow p && is_normal (n - i) p) t in
        let b = and_both (is_pow p) (is_normal (n - i) p) a.1 in
        (leb→le 1 i a.0, b.0, (is_normal-is (n - i) p).0 b.1),
    λ h. and_intro (leb 1 i) (is_pow p && is_normal (n - i) p) (le→leb 1 i h.0)
        (and_intro (is_pow p) (is_normal (n - i) p) h.1 ((is_normal-is (n - i) p).1 h.2)),
  )
  is_normal-is n (pow i p q) = (
    λ t. let a = and_both (leb 1 i) (leb 1 n && rest) t in
        let b = and_both (leb 1 n) rest a.1 in
        let c = and_both (is_normal n p) (leads R p && is_normal (n - 1) q) b.1 in
        let d = and_both (leads R p) (is_normal (n - 1) q) c.1 in
        (leb→le 1 i a.0, leb→le 1 n b.0, (is_normal-is n p).0 c.0, (leads-is p).0 d.0, (is_normal-is (n - 1) q).0 d.1),
    λ h. and_intro (leb 1 i) (leb 1 n && rest) (le→leb 1 i h.0) (and_intro (leb 1 n) rest (le→leb 1 n h.1)
        (and_intro (is_normal n p) (leads R p && is_normal (n - 1) q) ((is_normal-is n p).1 h.2)
        (and_intro (leads R p) (is_normal (n - 1) q) ((leads-is p).1 h.3) ((is_normal-is (n - 1) q).1 h.4)))),
  )
    where
      rest : Bool
      rest = is_normal n p && (leads R p && is_normal (n - 1) q)

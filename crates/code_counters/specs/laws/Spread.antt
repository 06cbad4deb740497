-- The coefficients of a form, read without asking that the form be normal: into any commutative group with two maps, `up` (times the first
-- variable) and `down` (each variable is the next one). Definition 9's sum is the group's, over every ring, also one with divisors of
-- zero.
use Rattle.std.specs.Prelude.{true, ◌≡◌, refl, ℕ, zero, suc, ◌+◌, ◌≤◌}
use Rattle.std.proofs.Common.{true≢false, sym, ◌∙◌, ap, ap₂, arith}
use Rattle.std.proofs.Math.Nat as NatL
use Rattle.horner.specs.definitions.Form.{Form, int, pop, pow, size, mkpop, lower, is_zero, zero_form, mkpow, add_int, sum_f, sum}
use Rattle.horner.specs.definitions.Rings.{Ring}
use Rattle.horner.proofs.laws.Compare.{cmp-cases}
use Rattle.horner.proofs.laws.Tests.{cond_cases}
use Rattle.horner.proofs.laws.Value.{size-pos, lower-fits}
use Rattle.code_walk.specs.Carrying.{map_normal}
use Rattle.horner.specs.laws.Hom.{map_form}

pub record Spread {A : Type 0} (R : Ring A) (G : Type 0) : Type 0 where
  pub plus : G → G → G
  pub none : G
  pub up : G → G
  pub down : G → G
  pub plain : A → G
  pub plus_assoc : (a b c : G) → plus (plus a b) c ≡ plus a (plus b c)
  pub plus_comm : (a b : G) → plus a b ≡ plus b a
  pub plus_none : (a : G) → plus a none ≡ a
  pub up-plus : (a b : G) → up (plus a b) ≡ plus (up a) (up b)
  pub up_none : up none ≡ none
  pub down-plus : (a b : G) → down (plus a b) ≡ plus (down a) (down b)
  pub down-plain : (c : A) → down (plain c) ≡ plain c
  pub plain-add : (a b : A) → plain (R.◌⊞◌ a b) ≡ plus (plain a) (plain b)
  pub plain-nil : plain R.nil ≡ none

module _ {A G : Type 0} (R : Ring A) (S : Spread R G) where
  open R use {◌⊞◌ as add, nil, is_nil, is_nil-true}
  open S use {plus, none, up, down, plain, plus_assoc, plus_comm, plus_none, up-plus, up_none, down-plus, down-plain, plain-add, plain-nil}

  abbrev pub ups : ℕ → G → G
  ups zero v = v
  ups (suc i) v = up (ups i v)

  abbrev pub downs : ℕ → G → G
  downs zero v = v
  downs (suc i) v = down (downs i v)

  abbrev pub read : Form A → G
  read (int c) = plain c
  read (pop i p) = downs i (read p)
  read (pow i p q) = plus (ups i (read p)) (down (read q))

  -- ---- the group
  none-plus : (a : G) → plus none a ≡ a
  none-plus a = plus_comm none a ∙ plus_none a

  plus-left-comm : (a b c : G) → plus a (plus b c) ≡ plus b (plus a c)
  plus-left-comm a b c = sym (plus_assoc a b c) ∙ ap (λ z. plus z c) (plus_comm a b) ∙ plus_assoc b a c

  ups-plus : (i : ℕ) (a b : G) → ups i (plus a b) ≡ plus (ups i a) (ups i b)
  ups-plus zero a b = refl
  ups-plus (suc i) a b = ap up (ups-plus i a b) ∙ up-plus (ups i a) (ups i b)

  ups-none : (i : ℕ) → ups i none ≡ none
  ups-none zero = refl
  ups-none (suc i) = ap up (ups-none i) ∙ up_none

  ups-add : (i j : ℕ) (v : G) → ups (i + j) v ≡ ups i (ups j v)
  ups-add zero j v = rw NatL.zero-add
  ups-add (suc i) j v = rw NatL.suc-add (ap up (ups-add i j v))

  downs-plus : (i : ℕ) (a b : G) → downs i (plus a b) ≡ plus (downs i a) (downs i b)
  downs-plus zero a b = refl
  downs-plus (suc i) a b = ap down (downs-plus i a b) ∙ down-plus (downs i a) (downs i b)

  downs-plain : (i : ℕ) (c : A) → downs i (plain c) ≡ plain c
  downs-plain zero c = refl
  downs-plain (suc i) c = ap down (downs-plain i c) ∙ down-plain c

  downs-add : (i j : ℕ) (v : G) → downs (i + j) v ≡ downs i (downs j v)
  downs-add zero j v = rw NatL.zero-add
  downs-add (suc i) j v = rw NatL.suc-add (ap down (downs-add i j v))

  -- ---- Definitions 7 and 8
  pub read-mkpop : (i : ℕ) (p : Form A) → read (mkpop i p) ≡ downs i (read p)
  read-mkpop zero p = refl
  read-mkpop (suc i) (int c) = sym (downs-plain (suc i) c)
  read-mkpop (suc i) (pop j q) = downs-add (suc i) j (read q)
  read-mkpop (suc i) (pow j q r) = refl

  pub read_lower : (i : ℕ) (p : Form A) → read (lower i p) ≡ downs i (read p)
  read_lower zero p = refl
  read_lower (suc i) p = refl

  pub read-zero : (p : Form A) → is_zero R p ≡ true → read p ≡ none
  read-zero (int c) h = ap plain (is_nil-true c h) ∙ plain-nil
  read-zero (pop i p) h = absurd (true≢false (sym h))
  read-zero (pow i p q) h = absurd (true≢false (sym h))

  pub read-mkpow : (i : ℕ) (p q : Form A) → read (mkpow R i p q) ≡ plus (ups i (read p)) (down (read q))
  read-mkpow i (int c) q =
      cond_cases (is_nil c) (λ z. read z ≡ plus (ups i (plain c)) (down (read q))) _ _
      (λ h. read-mkpop 1 q ∙ sym (none-plus (down (read q)))
      ∙ ap (λ z. plus z (down (read q))) (sym (ap (ups i) (read-zero (int c) h) ∙ ups-none i)))
      (λ h. refl)
  read-mkpow i (pop j p) q = refl
  read-mkpow i (pow j r s) q =
      cond_cases (is_zero R s) (λ z. read z ≡ plus (ups i (read (pow j r s))) (down (read q))) _ _
      (λ h. ap (λ z. plus z (down (read q))) (merge h))
      (λ h. refl)
    where
      merge : is_zero R s ≡ true → ups (i + j) (read r) ≡ ups i (plus (ups j (read r)) (down (read s)))
      merge h =
          ups-add i j (read r)
          ∙ ap (ups i) (sym (plus_none (ups j (read r)))
          ∙ ap (plus (ups j (read r))) (sym (ap down (read-zero s h ∙ sym plain-nil) ∙ down-plain nil ∙ plain-nil)))

  read-mkpow-by : (i : ℕ) (p q : Form A) (a b : G) → read p ≡ a → read q ≡ b → read (mkpow R i p q) ≡ plus (ups i a) (down b)
  read-mkpow-by i p q a b e f = read-mkpow i p q ∙ ap₂ (λ z w. plus (ups i z) (down w)) e f

  -- ---- Definition 9
  read-add_int : (a : A) (y : Form A) → read (add_int R a y) ≡ plus (plain a) (read y)
  read-add_int a (int b) = plain-add a b
  read-add_int a (pop i p) =
      ap (downs i) (read-add_int a p) ∙ downs-plus i (plain a) (read p) ∙ ap (λ z. plus z (downs i (read p))) (downs-plain i a)
  read-add_int a (pow i p q) =
      ap (λ z. plus (ups i (read p)) (down z)) (read-add_int a q)
      ∙ ap (plus (ups i (read p))) (down-plus (plain a) (read q) ∙ ap (λ z. plus z (down (read q))) (down-plain a))
      ∙ plus-left-comm (ups i (read p)) (plain a) (down (read q))

  sum_same : (i : ℕ) (p q r s : G) → plus (ups i (plus p r)) (down (plus q s)) ≡ plus (plus (ups i p) (down q)) (plus (ups i r) (down s))
  sum_same i p q r s = ap₂ plus (ups-plus i p r) (down-plus q s) ∙ simp (plus_assoc, plus_comm, plus-left-comm)

  sum_more : (i j d : ℕ) → i ≡ j + suc d → (p q r s : G)
      → plus (ups j (plus (plus (ups (suc d) p) (down (plain nil))) r)) (down (plus q s)) ≡ plus (plus (ups i p) (down q))
      (plus (ups j r) (down s))
  sum_more i j d e p q r s =
      ap (λ z. plus (ups j (plus z r)) (down (plus q s)))
      (ap (plus (ups (suc d) p)) (down-plain nil ∙ plain-nil) ∙ plus_none (ups (suc d) p))
      ∙ sum_same j (ups (suc d) p) q r s
      ∙ ap (λ z. plus (plus z (down q)) (plus (ups j r) (down s))) (sym (ups-add j (suc d) p) ∙ ap (λ z. ups z p) (sym e))

  sum-pops : (i j d : ℕ) → i ≡ j + suc d → (p q : G) → downs j (plus (downs (suc d) p) q) ≡ plus (downs i p) (downs j q)
  sum-pops i j d e p q =
      downs-plus j (downs (suc d) p) q ∙ ap (λ z. plus z (downs j q)) (sym (downs-add j (suc d) p) ∙ ap (λ z. downs z p) (sym e))

  sum-tail : (j : ℕ) (q r : Form A) (i : ℕ) (p t : Form A) → read t ≡ plus (read r) (read (lower i p))
      → read (pow j q t) ≡ plus (read (pow j q r)) (read (pop (suc i) p))
  sum-tail j q r i p t h =
      ap (λ z. plus (ups j (read q)) (down z)) (h ∙ ap (plus (read r)) (read_lower i p))
      ∙ ap (plus (ups j (read q))) (down-plus (read r) (downs i (read p)))
      ∙ sym (plus_assoc (ups j (read q)) (down (read r)) (down (downs i (read p))))

  read-sum_f : (k : ℕ) (x y : Form A) → size x + size y ≤ k → read (sum_f R k x y) ≡ plus (read x) (read y)
  read-sum_f zero x y h = absurd (none_left (size-pos x))
    where
      none_left : 1 ≤ size x → ⊥
      none_left g = omega arith
  read-sum_f (suc k) (int a) y h = read-add_int a y
  read-sum_f (suc k) (pop i p) (int b) h = read-add_int b (pop i p) ∙ plus_comm (plain b) (read (pop i p))
  read-sum_f (suc k) (pop i p) (pop j q) h =
      cmp-cases i j (λ z. read z ≡ plus (downs i (read p)) (downs j (read q))) _ _ _
      (λ e. read-mkpop i (sum_f R k p q) ∙ ap (downs i) (read-sum_f k p q (omega arith)) ∙ downs-plus i (read p) (read q)
      ∙ ap (λ z. plus (downs i (read p)) (downs z (read q))) e)
      (λ d e. read-mkpop j (sum_f R k (pop (suc d) p) q) ∙ ap (downs j) (read-sum_f k (pop (suc d) p) q (omega arith))
      ∙ sum-pops i j d e (read p) (read q))
      (λ d e. read-mkpop i (sum_f R k (pop (suc d) q) p) ∙ ap (downs i) (read-sum_f k (pop (suc d) q) p (omega arith))
      ∙ sum-pops j i d e (read q) (read p)
      ∙ plus_comm (downs j (read q)) (downs i (read p)))
  read-sum_f (suc k) (pop zero p) (pow j q r) h = read-sum_f k p (pow j q r) (omega arith)
  read-sum_f (suc k) (pop (suc i) p) (pow j q r) h =
      sum-tail j q r i p (sum_f R k r (lower i p)) (read-sum_f k r (lower i p) (lower-fits R i p r k (omega arith)))
      ∙ plus_comm (read (pow j q r)) (read (pop (suc i) p))
  read-sum_f (suc k) (pow j q r) (int b) h = read-add_int b (pow j q r) ∙ plus_comm (plain b) (read (pow j q r))
  read-sum_f (suc k) (pow j q r) (pop zero p) h = read-sum_f k p (pow j q r) (omega arith) ∙ plus_comm (read p) (read (pow j q r))
  read-sum_f (suc k) (pow j q r) (pop (suc i) p) h =
      sum-tail j q r i p (sum_f R k r (lower i p)) (read-sum_f k r (lower i p) (lower-fits R i p r k (omega arith)))
  read-sum_f (suc k) (pow i p q) (pow j r s) h =
      cmp-cases i j (λ z. read z ≡ plus (read (pow i p q)) (read (pow j r s))) _ _ _
      (λ e. read-mkpow-by i (sum_f R k p r) (sum_f R k q s) _ _ (read-sum_f k p r (omega arith)) (read-sum_f k q s (omega arith))
      ∙ sum_same i (read p) (read q) (read r) (read s)
      ∙ ap (λ z. plus (read (pow i p q)) (plus (ups z (read r)) (down (read s)))) e)
      (λ d e. read-mkpow-by j (sum_f R k (pow (suc d) p (zero_form R)) r) (sum_f R k q s) _ _
      (read-sum_f k (pow (suc d) p (zero_form R)) r (omega (arith, size-pos q))) (read-sum_f k q s (omega arith))
      ∙ sum_more i j d e (read p) (read q) (read r) (read s))
      (λ d e. read-mkpow-by i (sum_f R k (pow (suc d) r (zero_form R)) p) (sum_f R k s q) _ _
      (read-sum_f k (pow (suc d) r (zero_form R)) p (omega (arith, size-pos s))) (read-sum_f k s q (omega arith))
      ∙ sum_more j i d e (read r) (read s) (read p) (read q)
      ∙ plus_comm (read (pow j r s)) (read (pow i p q)))

  pub read-sum : (x y : Form A) → read (sum R x y) ≡ plus (read x) (read y)
  read-sum x y = read-sum_f (size x + size y) x y (omega arith)

  -- a form changed leaf by leaf and made normal again reads the same as one only changed
  pub read-map_normal : {B : Type 0} (f : B → A) (x : Form B) → read (map_normal R f x) ≡ read (map_form f x)
  read-map_normal f (int c) = refl
  read-map_normal f (pop i p) = read-mkpop i (map_normal R f p) ∙ ap (downs i) (read-map_normal f p)
  read-map_normal f (pow i p q) = read-mkpow-by i (map_normal R f p) (map_normal R f q) _ _ (read-map_normal f p) (read-map_normal f q)

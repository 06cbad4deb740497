-- Coefficients as functions of the exponents: a `Spread`. On a normal form they are those of `coef_at`, and they say whether it is 0.
use Rattle.std.specs.Prelude.{List, [], ◌∷◌, ◌≡◌, refl, ℕ, zero, suc, length, get_or}
use Rattle.std.proofs.Common.{sym, ◌∙◌, ap, ap₂, arith}
use Rattle.std.proofs.Math.Path.{fun_ext}
use Rattle.horner.specs.definitions.Measures.{shift, coefs, coef_of, coef_at}
use Rattle.horner.specs.definitions.Form.{Form, int, pop, pow, is_zero, zero_form, sum, negate, Normal}
use Rattle.horner.specs.definitions.Rings.{Ring}
use Rattle.horner.proofs.laws.Cancel.{zero_is}
use Rattle.horner.proofs.laws.Coefficients.{coef_at-zero, normal-coef_of, constant-is}
use Rattle.horner.proofs.laws.Grid.{zero-coefs}
use Rattle.horner.specs.laws.Grid.{All}
use Rattle.horner.specs.laws.Hom.{map_form}
use Rattle.horner.proofs.laws.Ring.{nil-add, neg-nil, neg-of-add}
use Rattle.horner.proofs.laws.Value.{Zero}
use Rattle.code_walk.specs.Carrying.{map_normal}
use Rattle.code_counters.specs.laws.Spread.{Spread, ups, downs, read, read_lower, read-sum, read-map_normal}

module _ {A : Type 0} (R : Ring A) where
  open R use {◌⊞◌ as add, neg, nil, is_nil, add_assoc, add_comm, add-nil, is_nil-nil}

  -- ---- polynomials by their coefficients; an exponent that is not given is 0
  abbrev pub Poly : Type 0
  Poly = List ℕ → A

  -- times the first variable
  abbrev pub up_at : Poly → Poly
  up_at f [] = nil
  up_at f (zero ∷ ks) = nil
  up_at f (suc k ∷ ks) = f (k ∷ ks)

  -- in the variables from the second on
  abbrev pub down_at : Poly → Poly
  down_at f [] = f []
  down_at f (zero ∷ ks) = f ks
  down_at f (suc k ∷ ks) = nil

  abbrev pub plain_at : A → Poly
  plain_at c [] = c
  plain_at c (zero ∷ ks) = plain_at c ks
  plain_at c (suc k ∷ ks) = nil

  pub up-add : (f g : Poly) (ks : List ℕ) → up_at (λ l. add (f l) (g l)) ks ≡ add (up_at f ks) (up_at g ks)
  up-add f g [] = sym (add-nil nil)
  up-add f g (zero ∷ ks) = sym (add-nil nil)
  up-add f g (suc k ∷ ks) = refl

  pub up-nil : (ks : List ℕ) → up_at (λ l. nil) ks ≡ nil
  up-nil [] = refl
  up-nil (zero ∷ ks) = refl
  up-nil (suc k ∷ ks) = refl

  pub down-add : (f g : Poly) (ks : List ℕ) → down_at (λ l. add (f l) (g l)) ks ≡ add (down_at f ks) (down_at g ks)
  down-add f g [] = refl
  down-add f g (zero ∷ ks) = refl
  down-add f g (suc k ∷ ks) = sym (add-nil nil)

  pub down-same : (c : A) (ks : List ℕ) → down_at (plain_at c) ks ≡ plain_at c ks
  down-same c [] = refl
  down-same c (zero ∷ ks) = refl
  down-same c (suc k ∷ ks) = refl

  pub plain-sum : (a b : A) (ks : List ℕ) → plain_at (add a b) ks ≡ add (plain_at a ks) (plain_at b ks)
  plain-sum a b [] = refl
  plain-sum a b (zero ∷ ks) = plain-sum a b ks
  plain-sum a b (suc k ∷ ks) = sym (add-nil nil)

  pub plain-zero : (ks : List ℕ) → plain_at nil ks ≡ nil
  plain-zero [] = refl
  plain-zero (zero ∷ ks) = plain-zero ks
  plain-zero (suc k ∷ ks) = refl

  abbrev pub spread : Spread R (List ℕ → A)
  spread = record {
    plus = λ f g ks. add (f ks) (g ks);
    none = λ ks. nil;
    up = up_at;
    down = down_at;
    plain = plain_at;
    plus_assoc = λ f g h. fun_ext (λ ks. add_assoc (f ks) (g ks) (h ks));
    plus_comm = λ f g. fun_ext (λ ks. add_comm (f ks) (g ks));
    plus_none = λ f. fun_ext (λ ks. add-nil (f ks));
    up-plus = λ f g. fun_ext (up-add f g);
    up_none = fun_ext up-nil;
    down-plus = λ f g. fun_ext (down-add f g);
    down-plain = λ c. fun_ext (down-same c);
    plain-add = λ a b. fun_ext (plain-sum a b);
    plain-nil = fun_ext plain-zero;
  }

  -- the coefficient of v_0^k_0 v_1^k_1 .. in any form
  abbrev pub coef : Form A → List ℕ → A
  coef x = read R spread x

  pub coef-sum : (x y : Form A) (ks : List ℕ) → coef (sum R x y) ks ≡ add (coef x ks) (coef y ks)
  coef-sum x y ks = ap (λ f. f ks) (read-sum R spread x y)

  -- ---- on a normal form
  -- the coefficients of a polynomial times the i-th power of the first variable
  coef-shift : (i : ℕ) (ps : List (Form A)) (f : Poly) (ks : List ℕ) → ((k : ℕ) → coef (get_or ps k (zero_form R)) ks ≡ f (k ∷ ks))
      → (k : ℕ) → coef (get_or (shift R i ps) k (zero_form R)) ks ≡ ups R spread i f (k ∷ ks)
  coef-shift zero ps f ks e k = e k
  coef-shift (suc i) ps f ks e zero = plain-zero ks
  coef-shift (suc i) ps f ks e (suc k) = coef-shift i ps f ks e k

  coef-first : (n : ℕ) (x : Form A) → Normal R n x → (ks : List ℕ) (k : ℕ) → coef (coef_of R k x) ks ≡ coef x (k ∷ ks)
  coef-first n (int c) h ks zero = refl
  coef-first n (int c) h ks (suc k) = plain-zero ks
  coef-first n (pop zero p) h ks k = absurd (omega (arith, h.0))
  coef-first n (pop (suc i) p) h ks zero = ap (λ f. f ks) (read_lower R spread i p)
  coef-first n (pop (suc i) p) h ks (suc k) = plain-zero ks
  coef-first n (pow zero p q) h ks k = absurd (omega (arith, h.0))
  coef-first n (pow (suc i) p q) h ks zero = sym (nil-add R (coef q ks))
  coef-first n (pow (suc i) p q) h ks (suc k) =
      coef-shift i (coefs R p) (coef p) ks (coef-first n p h.2 ks) k ∙ sym (add-nil (ups R spread i (coef p) (k ∷ ks)))

  pub coef-is : (ks : List ℕ) (x : Form A) → Normal R (length ks) x → coef_at R ks x ≡ coef x ks
  coef-is [] x h = sym (ap (λ z. coef z []) (constant-is R x h))
  coef-is (k ∷ ks) x h = coef-is ks (coef_of R k x) (normal-coef_of R (length ks) k x h) ∙ coef-first (suc (length ks)) x h ks k

  -- ---- a normal form is 0 exactly where each coefficient is
  all_from : (P : Form A → Type 0) (ps : List (Form A)) → ((k : ℕ) → P (get_or ps k (zero_form R))) → All P ps
  all_from P [] h = tt
  all_from P (p ∷ ps) h = (h 0, all_from P ps (λ k. h (suc k)))

  pub vanish : (n : ℕ) (x : Form A) → Normal R n x → ((ks : List ℕ) → length ks ≡ n → coef_at R ks x ≡ nil) → Zero R x
  vanish zero x h e = ap (λ z. is_zero R z) (constant-is R x h) ∙ ap is_nil (e [] refl) ∙ is_nil-nil
  vanish (suc n) x h e =
      zero-coefs R (suc n) x h
      (all_from (Zero R) (coefs R x) (λ k. vanish n (coef_of R k x) (normal-coef_of R n k x h) (λ ks l. e (k ∷ ks) (ap suc l))))

  pub vanished : (ks : List ℕ) (x : Form A) → Zero R x → coef_at R ks x ≡ nil
  vanished ks x z = ap (coef_at R ks) (zero_is R x z) ∙ coef_at-zero R ks

-- ---- coefficients changed by a map that keeps sums and 0
module _ {A B : Type 0} (R : Ring A) (S : Ring B) (f : A → B) (keeps : (a b : A) → f (R.◌⊞◌ a b) ≡ S.◌⊞◌ (f a) (f b))
    (to-nil : f R.nil ≡ S.nil) where
  up-map : (g : List ℕ → A) (ks : List ℕ) → up_at S (λ l. f (g l)) ks ≡ f (up_at R g ks)
  up-map g [] = sym to-nil
  up-map g (zero ∷ ks) = sym to-nil
  up-map g (suc k ∷ ks) = refl

  down-map : (g : List ℕ → A) (ks : List ℕ) → down_at S (λ l. f (g l)) ks ≡ f (down_at R g ks)
  down-map g [] = refl
  down-map g (zero ∷ ks) = refl
  down-map g (suc k ∷ ks) = sym to-nil

  ups-map : (i : ℕ) (g : List ℕ → A) → ups S (spread S) i (λ l. f (g l)) ≡ λ l. f (ups R (spread R) i g l)
  ups-map zero g = refl
  ups-map (suc i) g = ap (up_at S) (ups-map i g) ∙ fun_ext (up-map (ups R (spread R) i g))

  downs-map : (i : ℕ) (g : List ℕ → A) → downs S (spread S) i (λ l. f (g l)) ≡ λ l. f (downs R (spread R) i g l)
  downs-map zero g = refl
  downs-map (suc i) g = ap (down_at S) (downs-map i g) ∙ fun_ext (down-map (downs R (spread R) i g))

  plain_map : (c : A) (ks : List ℕ) → plain_at S (f c) ks ≡ f (plain_at R c ks)
  plain_map c [] = refl
  plain_map c (zero ∷ ks) = plain_map c ks
  plain_map c (suc k ∷ ks) = sym to-nil

  coef-map : (x : Form A) → coef S (map_form f x) ≡ λ ks. f (coef R x ks)
  coef-map (int c) = fun_ext (plain_map c)
  coef-map (pop i p) = ap (downs S (spread S) i) (coef-map p) ∙ downs-map i (coef R p)
  coef-map (pow i p q) =
      fun_ext (λ ks. ap₂ S.◌⊞◌ (ap (λ g. ups S (spread S) i g ks) (coef-map p) ∙ ap (λ g. g ks) (ups-map i (coef R p)))
      (ap (λ g. down_at S g ks) (coef-map q) ∙ down-map (coef R q) ks)
      ∙ sym (keeps (ups R (spread R) i (coef R p) ks) (down_at R (coef R q) ks)))

  pub coef-map_normal : (x : Form A) (ks : List ℕ) → coef S (map_normal S f x) ks ≡ f (coef R x ks)
  coef-map_normal x ks = ap (λ g. g ks) (read-map_normal S (spread S) f x ∙ coef-map x)

module _ {A : Type 0} (R : Ring A) where
  negate-map : (x : Form A) → negate R x ≡ map_form R.neg x
  negate-map (int c) = refl
  negate-map (pop i p) = ap (pop i) (negate-map p)
  negate-map (pow i p q) = ap₂ (pow i) (negate-map p) (negate-map q)

  pub coef-negate : (x : Form A) (ks : List ℕ) → coef R (negate R x) ks ≡ R.neg (coef R x ks)
  coef-negate x ks = ap (λ z. coef R z ks) (negate-map x) ∙ ap (λ g. g ks) (coef-map R R R.neg (neg-of-add R) (neg-nil R) x)

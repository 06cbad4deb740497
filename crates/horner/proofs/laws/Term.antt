-- Terms (Definitions 1 to 3), their normal forms (Definition 13), and Theorem 1: over the integers two terms have one normal form
-- exactly when they have one value at every point.
use Rattle.std.specs.Prelude.{false, List, [], ◌∷◌, map, ◌↔◌, ◌≡◌, refl, ℕ, zero, suc, ◌≤◌, ◌<◌, ℤ, pos, neg_ℤ, length}
use Rattle.std.proofs.Common.{sym, ◌∙◌, ap, ap₂, arith}
use Rattle.std.proofs.Math.Path.{◌≡⟨◌⟩◌, ◌∎}
use Rattle.std.proofs.lemmas.List.{length-map}
use Rattle.horner.specs.definitions.Form.{Form, int, pow, zero_form, sum, negate, letter, Normal, after, evalh, hd, nats}
use Rattle.horner.specs.definitions.Rings.{ℤ_ring, Ring, power, nat}
use Rattle.horner.specs.laws.Degree.{Bounded}
use Rattle.horner.specs.definitions.Measures.{AllLe}
use Rattle.horner.specs.laws.Within.{Over}
use Rattle.horner.specs.definitions.Term.{Term, num, var, minus, plus, diff, times, expt, evalp, norm, norm_ℤ, eval_ℤ}
use Rattle.horner.proofs.laws.Canonical.{canon-box, canon-ℤ}
use Rattle.horner.proofs.laws.Evalh.{evalh-val}
use Rattle.horner.proofs.laws.Hom.{map-after, map-hd, map-power, val-map}
use Rattle.horner.specs.laws.Hom.{Hom, map_form}
use Rattle.horner.proofs.laws.Normal.{normal-mkpop, normal-sum, normal-negate, normal-prod, normal-raise}
use Rattle.horner.proofs.laws.Roots.{Regular}
use Rattle.horner.proofs.laws.Product.{val-prod, val-raise}
use Rattle.horner.proofs.laws.Value.{val-mkpop, val-sum, val-negate, val}

-- over a ring, with what stands there for an integer
module _ {A : Type 0} (R : Ring A) (ι : ℤ → A) where
  open R use {◌⊞◌, neg, ◌·◌, nil, unit, add-nil, mul-unit, is_nil}

  abbrev form : Term → Form A
  form t = norm R ι t

  -- Lemma 7
  pub val-norm : (t : Term) (N : List A) → val R (norm R ι t) N ≡ evalp R ι t N
  val-norm (num z) N = refl
  val-norm (var i) N =
      let a = hd R (after i N) in
      val R (letter R i) N ≡⟨ val-mkpop R i (pow 1 (int unit) (zero_form R)) N ⟩
      a · unit · unit ⊞ nil ≡⟨ add-nil (a · unit · unit) ⟩
      a · unit · unit ≡⟨ mul-unit (a · unit) ⟩
      a · unit ≡⟨ mul-unit a ⟩
      a ∎
  val-norm (minus s) N = val-negate R (form s) N ∙ ap neg (val-norm s N)
  val-norm (plus s t) N = val-sum R (form s) (form t) N ∙ ap₂ ◌⊞◌ (val-norm s N) (val-norm t N)
  val-norm (diff s t) N =
      let S = evalp R ι s N in
      let T = evalp R ι t N in
      val R (sum R (form s) (negate R (form t))) N ≡⟨ val-sum R (form s) (negate R (form t)) N ⟩
      val R (form s) N ⊞ val R (negate R (form t)) N ≡⟨ ap₂ ◌⊞◌ (val-norm s N) (val-negate R (form t) N) ⟩
      S ⊞ neg (val R (form t) N) ≡⟨ ap (λ z. S ⊞ neg z) (val-norm t N) ⟩
      S ⊞ neg T ∎
  val-norm (times s t) N = val-prod R (form s) (form t) N ∙ ap₂ ◌·◌ (val-norm s N) (val-norm t N)
  val-norm (expt s k) N = val-raise R (form s) k N ∙ ap (λ z. power R z k) (val-norm s N)

  pub normal-letter : is_nil unit ≡ false → (n i : ℕ) → i < n → Normal R n (letter R i)
  normal-letter u n i h = normal-mkpop R n i (pow 1 (int unit) (zero_form R)) (omega arith, omega arith, tt, u, tt)

  pub normal-norm : is_nil unit ≡ false → (n : ℕ) (t : Term) → Over n t → Normal R n (norm R ι t)
  normal-norm u n (num z) h = tt
  normal-norm u n (var i) h = normal-letter u n i h
  normal-norm u n (minus s) h = normal-negate R n (form s) (normal-norm u n s h)
  normal-norm u n (plus s t) h = normal-sum R n (form s) (form t) (normal-norm u n s h.0) (normal-norm u n t h.1)
  normal-norm u n (diff s t) h =
      normal-sum R n (form s) (negate R (form t)) (normal-norm u n s h.0) (normal-negate R n (form t) (normal-norm u n t h.1))
  normal-norm u n (times s t) h = normal-prod R n (form s) (form t) (normal-norm u n s h.0) (normal-norm u n t h.1)
  normal-norm u n (expt s k) h = normal-raise R n (form s) k (normal-norm u n s h)

-- Lemma 7: the normal form has the term's value
module _ {A : Type 0} (R : Ring A) (ι : ℤ → A) (u : R.is_nil R.unit ≡ false) where
  pub evalh-norm : (n : ℕ) (t : Term) (N : List A) → Over n t → n ≤ length N → evalh R (norm R ι t) N ≡ evalp R ι t N
  evalh-norm n t N o l = evalh-val R n (norm R ι t) N (normal-norm R ι u n t o) l ∙ val-norm R ι t N

-- ---- the integers
-- Theorem 1
pub theorem-1 : (n : ℕ) (f g : Term) → Over n f → Over n g
    → (norm_ℤ f ≡ norm_ℤ g) ↔ ((N : List ℤ) → length N ≡ n → eval_ℤ f N ≡ eval_ℤ g N)
theorem-1 n f g hf hg = (one_value, one_form)
  where
    normal : (t : Term) → Over n t → Normal ℤ_ring n (norm_ℤ t)
    normal = normal-norm ℤ_ring (λ z. z) refl n

    value : (t : Term) (N : List ℤ) → val ℤ_ring (norm_ℤ t) N ≡ eval_ℤ t N
    value = val-norm ℤ_ring (λ z. z)

    one_value : norm_ℤ f ≡ norm_ℤ g → (N : List ℤ) → length N ≡ n → eval_ℤ f N ≡ eval_ℤ g N
    one_value e N l =
        eval_ℤ f N ≡⟨ sym (value f N) ⟩
        val ℤ_ring (norm_ℤ f) N ≡⟨ ap (λ x. val ℤ_ring x N) e ⟩
        val ℤ_ring (norm_ℤ g) N ≡⟨ value g N ⟩
        eval_ℤ g N ∎

    one_form : ((N : List ℤ) → length N ≡ n → eval_ℤ f N ≡ eval_ℤ g N) → norm_ℤ f ≡ norm_ℤ g
    one_form agree = canon-ℤ n (norm_ℤ f) (norm_ℤ g) (normal f hf) (normal g hg) at
      where
        at : (N : List ℕ) → length N ≡ n → val ℤ_ring (norm_ℤ f) (nats ℤ_ring N) ≡ val ℤ_ring (norm_ℤ g) (nats ℤ_ring N)
        at N l =
            let M = nats ℤ_ring N in
            val ℤ_ring (norm_ℤ f) M ≡⟨ value f M ⟩
            eval_ℤ f M ≡⟨ agree M (length-map N (nat ℤ_ring) ∙ l) ⟩
            eval_ℤ g M ≡⟨ sym (value g M) ⟩
            val ℤ_ring (norm_ℤ g) M ∎

-- of all normal forms in the variables only the term's own has its values, be it at the points of natural numbers alone
pub only-form : (n : ℕ) (t : Term) → Over n t → (x : Form ℤ) → Normal ℤ_ring n x
    → ((N : List ℕ) → length N ≡ n → evalh ℤ_ring x (nats ℤ_ring N) ≡ eval_ℤ t (nats ℤ_ring N)) → x ≡ norm_ℤ t
only-form n t o x h agree = canon-ℤ n x (norm_ℤ t) h (normal-norm ℤ_ring (λ z. z) refl n t o) at
  where
    at : (N : List ℕ) → length N ≡ n → val ℤ_ring x (nats ℤ_ring N) ≡ val ℤ_ring (norm_ℤ t) (nats ℤ_ring N)
    at N l =
        let M = nats ℤ_ring N in
        let long : length M ≡ n = length-map N (nat ℤ_ring) ∙ l in
        val ℤ_ring x M ≡⟨ sym (evalh-val ℤ_ring n x M h (omega (arith, long))) ⟩
        evalh ℤ_ring x M ≡⟨ agree N l ⟩
        eval_ℤ t M ≡⟨ sym (val-norm ℤ_ring (λ z. z) t M) ⟩
        val ℤ_ring (norm_ℤ t) M ∎

-- ---- another ring: its normal form of a term is the integers' one, carried over, if that is normal there
module _ {A : Type 0} (R : Ring A) (ι : ℤ → A) (h : Hom ℤ_ring R ι) where
  pub eval-map : (t : Term) (N : List ℤ) → evalp R ι t (map ι N) ≡ ι (eval_ℤ t N)
  eval-map (num z) N = refl
  eval-map (var i) N = ap (hd R) (sym (map-after ι i N)) ∙ sym (map-hd ℤ_ring R ι h (after i N))
  eval-map (minus s) N = ap R.neg (eval-map s N) ∙ sym (h.keeps-neg (eval_ℤ s N))
  eval-map (plus s t) N = ap₂ R.◌⊞◌ (eval-map s N) (eval-map t N) ∙ sym (h.keeps-add (eval_ℤ s N) (eval_ℤ t N))
  eval-map (diff s t) N =
      ap₂ R.◌⊞◌ (eval-map s N) (ap R.neg (eval-map t N) ∙ sym (h.keeps-neg (eval_ℤ t N)))
      ∙ sym (h.keeps-add (eval_ℤ s N) (neg_ℤ (eval_ℤ t N)))
  eval-map (times s t) N = ap₂ R.◌·◌ (eval-map s N) (eval-map t N) ∙ sym (h.keeps-mul (eval_ℤ s N) (eval_ℤ t N))
  eval-map (expt s k) N = ap (λ z. power R z k) (eval-map s N) ∙ sym (map-power ℤ_ring R ι h (eval_ℤ s N) k)

  pub map-nats : (N : List ℕ) → map ι (nats ℤ_ring N) ≡ nats R N
  map-nats [] = refl
  map-nats (a ∷ N) = ap₂ ◌∷◌ (map-nat a) (map-nats N)
    where
      map-nat : (a : ℕ) → ι (nat ℤ_ring a) ≡ nat R a
      map-nat zero = h.keeps-nil
      map-nat (suc a) = h.keeps-add (pos 1) (nat ℤ_ring a) ∙ ap₂ R.◌⊞◌ h.keeps-unit (map-nat a)

  pub transfer : (K : ℕ) → Regular R K → R.is_nil R.unit ≡ false → (ds : List ℕ) → AllLe K ds → (t : Term) → Over (length ds) t
      → Normal R (length ds) (map_form ι (norm_ℤ t)) → Bounded ds (norm R ι t) → Bounded ds (map_form ι (norm_ℤ t))
      → norm R ι t ≡ map_form ι (norm_ℤ t)
  transfer K regular u ds le t o nm b₁ b₂ =
      canon-box R K regular ds le (norm R ι t) (map_form ι (norm_ℤ t)) (normal-norm R ι u (length ds) t o) nm b₁ b₂ (λ N m. agree N)
    where
      agree : (N : List ℕ) → val R (norm R ι t) (nats R N) ≡ val R (map_form ι (norm_ℤ t)) (nats R N)
      agree N =
          let M = nats ℤ_ring N in
          val R (norm R ι t) (nats R N) ≡⟨ val-norm R ι t (nats R N) ⟩
          evalp R ι t (nats R N) ≡⟨ ap (evalp R ι t) (sym (map-nats N)) ⟩
          evalp R ι t (map ι M) ≡⟨ eval-map t M ⟩
          ι (eval_ℤ t M) ≡⟨ ap ι (sym (val-norm ℤ_ring (λ z. z) t M)) ⟩
          ι (val ℤ_ring (norm_ℤ t) M) ≡⟨ sym (val-map ℤ_ring R ι h (norm_ℤ t) M) ⟩
          val R (map_form ι (norm_ℤ t)) (map ι M) ≡⟨ ap (val R (map_form ι (norm_ℤ t))) (map-nats N) ⟩
          val R (map_form ι (norm_ℤ t)) (nats R N) ∎

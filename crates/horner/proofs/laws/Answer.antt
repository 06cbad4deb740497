-- What a comparison of two terms answers, within the limits: 'same' exactly where the forms over the remainders are one, which is where
-- the terms have one value at every point of the integers; else the first point of natural numbers at which the remainders of the two
-- values differ.
use Rattle.std.specs.Prelude.{false, List, [], ◌∷◌, map, ◌↔◌, ◌≡◌, refl, ℕ, ◌+◌, ◌-◌, ℤ, pos, length}
use Rattle.std.proofs.Common.{sym, ◌∙◌, ap, ap₂, subst, arith}
use Rattle.std.proofs.Math.Path.{◌≡⟨◌⟩◌, ◌∎}
use Rattle.horner.specs.definitions.Form.{Form, int, pop, pow, is_zero, negate, Normal, tl, nats}
use Rattle.horner.specs.laws.Within.{Within}
use Rattle.horner.proofs.laws.Degree.{bounded-mono, length-maxs, maxs-left, maxs-right, length-degrees, bounded-degrees}
use Rattle.horner.specs.laws.Degree.{Bounded}
use Rattle.horner.proofs.laws.Degree.{degrees-least, all-le-below}
use Rattle.horner.specs.definitions.Measures.{zeros, first_or0, maxs, AllLe, degrees_of, weight, degrees}
use Rattle.horner.specs.definitions.Points.{InBox, leaves, highest, IsPoint, point_of}
use Rattle.horner.specs.definitions.Rings.{Res, red_ℤ, res-ext, prime, prime-pos, p_ring}
use Rattle.horner.specs.definitions.Term.{Term, diff, norm_ℤ, eval_ℤ, evalp, norm_p}
use Rattle.horner.proofs.laws.Bounds.{bounded-sum, bounded-negate}
use Rattle.horner.proofs.laws.Cancel.{difference}
use Rattle.horner.proofs.laws.Canonical.{length-box, val-difference}
use Rattle.horner.specs.laws.First.{first_point}
use Rattle.horner.proofs.laws.First.{first-is, IsFirst}
use Rattle.horner.proofs.laws.Grid.{grid}
use Rattle.horner.specs.laws.Hom.{map_form}
use Rattle.horner.proofs.laws.Lifting.{red-hom, residue, exact}
use Rattle.horner.proofs.laws.Limits.{length-degrees_of, bounded-norm}
use Rattle.horner.proofs.laws.Normal.{normal-sum, normal-negate}
use Rattle.horner.proofs.laws.Points.{point-found}
use Rattle.horner.proofs.laws.Prime.{P-regular}
use Rattle.horner.proofs.laws.Ring.{neg_unique, neg-neg}
use Rattle.horner.proofs.laws.Residues.{nat-red}
use Rattle.horner.specs.laws.Residues.{lift}
use Rattle.horner.proofs.laws.Term.{val-norm, normal-norm, theorem-1, eval-map}
use Rattle.horner.proofs.laws.Value.{Zero, val}
use Rattle.horner.specs.laws.Answer.{gap, sides, eval_p}

nats-P : (N : List ℕ) → nats p_ring N ≡ map (red_ℤ prime prime-pos) (map pos N)
nats-P [] = refl
nats-P (a ∷ N) = ap₂ ◌∷◌ (nat-red prime prime-pos a) (nats-P N)

pub eval-leaves : (t : Term) (N : List ℕ) → (eval_p t N).0 ≡ leaves prime t N
eval-leaves t N =
    let ρ = red_ℤ prime prime-pos in
    (eval_p t N).0 ≡⟨ ap (λ M. (evalp p_ring ρ t M).0) (nats-P N) ⟩
    (evalp p_ring ρ t (map ρ (map pos N))).0 ≡⟨ ap (λ r. r.0) (eval-map p_ring ρ (red-hom prime prime-pos) t (map pos N)) ⟩
    leaves prime t N ∎

-- they leave one remainder exactly where they have one value there
same-leaves : (f g : Term) (N : List ℕ) → (leaves prime f N ≡ leaves prime g N) ↔ (eval_p f N ≡ eval_p g N)
same-leaves f g N = (
  λ e. res-ext prime prime-pos (eval_p f N) (eval_p g N) (eval-leaves f N ∙ e ∙ sym (eval-leaves g N)),
  λ e. sym (eval-leaves f N) ∙ ap (λ r. r.0) e ∙ eval-leaves g N,
)

all-le-maxs : (K : ℕ) (ds es : List ℕ) → AllLe K ds → AllLe K es → AllLe K (maxs ds es)
all-le-maxs K [] es h g = tt
all-le-maxs K (d ∷ ds) [] h g = h
all-le-maxs K (d ∷ ds) (e ∷ es) h g = (omega (arith, h.0, g.0), all-le-maxs K ds es h.1 g.1)

-- a form's degrees are within its term's
degrees-63 : (n : ℕ) (t : Term) → Within n t → AllLe 63 (degrees n (norm_p t))
degrees-63 n t W =
    let ds = degrees_of n t in
    let normal : Normal p_ring n (norm_p t) = normal-norm p_ring (red_ℤ prime prime-pos) refl n t W.over in
    let bounded : Bounded ds (norm_p t) = bounded-norm p_ring (red_ℤ prime prime-pos) n t W.over in
    all-le-below 63 (degrees n (norm_p t)) ds (degrees-least p_ring n ds (norm_p t) normal (length-degrees_of n t W.over) bounded)
    W.degrees

-- and they are those of the form over the integers
degrees-map : {A B : Type 0} (h : A → B) (n : ℕ) (x : Form A) → degrees n (map_form h x) ≡ degrees n x
degrees-map h n (int c) = refl
degrees-map h n (pop i p) = ap (zeros i) (degrees-map h (n - i) p)
degrees-map h n (pow i p q) = ap₂ (λ ds es. (i + first_or0 ds) ∷ maxs (tl ds) es) (degrees-map h n p) (degrees-map h (n - 1) q)

pub degrees-norm_p : (n : ℕ) (t : Term) → Within n t → degrees n (norm_p t) ≡ degrees n (norm_ℤ t)
degrees-norm_p n t W =
    let ρ = red_ℤ prime prime-pos in
    degrees n (norm_p t) ≡⟨ ap (degrees n) (residue n t W.over W.degrees (omega (arith, W.weight))) ⟩
    degrees n (map_form ρ (norm_ℤ t)) ≡⟨ degrees-map ρ n (norm_ℤ t) ⟩
    degrees n (norm_ℤ t) ∎

-- a difference of 0 is one of equals
pub level : (a b : Res prime) → p_ring.◌⊞◌ a (p_ring.neg b) ≡ p_ring.nil → a ≡ b
level a b e =
    let neg = p_ring.neg in
    a ≡⟨ sym (neg-neg p_ring a) ⟩
    neg (neg a) ≡⟨ ap neg (sym (neg_unique p_ring a (neg b) e)) ⟩
    neg (neg b) ≡⟨ neg-neg p_ring b ⟩
    b ∎

module _ (n : ℕ) (f g : Term) (F : Within n f) (G : Within n g) where
  pub same-iff : (norm_p f ≡ norm_p g) ↔ ((N : List ℤ) → length N ≡ n → eval_ℤ f N ≡ eval_ℤ g N)
  same-iff = (λ e. one.0 (lifted e), λ same. reduced (one.1 same))
    where
      one : (norm_ℤ f ≡ norm_ℤ g) ↔ ((N : List ℤ) → length N ≡ n → eval_ℤ f N ≡ eval_ℤ g N)
      one = theorem-1 n f g F.over G.over

      lifted : norm_p f ≡ norm_p g → norm_ℤ f ≡ norm_ℤ g
      lifted e =
          let up = map_form (lift prime prime-pos) in
          norm_ℤ f ≡⟨ sym (exact n f F.over F.degrees F.weight) ⟩
          up (norm_p f) ≡⟨ ap up e ⟩
          up (norm_p g) ≡⟨ exact n g G.over G.degrees G.weight ⟩
          norm_ℤ g ∎

      reduced : norm_ℤ f ≡ norm_ℤ g → norm_p f ≡ norm_p g
      reduced e =
          let down = map_form (red_ℤ prime prime-pos) in
          norm_p f ≡⟨ residue n f F.over F.degrees (omega (arith, F.weight)) ⟩
          down (norm_ℤ f) ≡⟨ ap down e ⟩
          down (norm_ℤ g) ≡⟨ sym (residue n g G.over G.degrees (omega (arith, G.weight))) ⟩
          norm_p g ∎

  -- at a point the difference of the forms is that of the terms
  pub val-gap : (N : List ℕ) → val p_ring (gap f g) (nats p_ring N) ≡ p_ring.◌⊞◌ (eval_p f N) (p_ring.neg (eval_p g N))
  val-gap N = val-norm p_ring (red_ℤ prime prime-pos) (diff f g) (nats p_ring N)

  normal-F : Normal p_ring n (norm_p f)
  normal-F = normal-norm p_ring (red_ℤ prime prime-pos) refl n f F.over

  normal-G : Normal p_ring n (norm_p g)
  normal-G = normal-norm p_ring (red_ℤ prime prime-pos) refl n g G.over

  pub length-sides : length (sides n f g) ≡ n
  length-sides = length-maxs (degrees n (norm_p f)) (degrees n (norm_p g)) ∙ length-degrees p_ring n (norm_p f) normal-F

  sides-63 : AllLe 63 (sides n f g)
  sides-63 = all-le-maxs 63 (degrees n (norm_p f)) (degrees n (norm_p g)) (degrees-63 n f F) (degrees-63 n g G)

  normal-gap : Normal p_ring (length (sides n f g)) (gap f g)
  normal-gap =
      subst (λ z. Normal p_ring z (gap f g)) (sym length-sides)
      (normal-sum p_ring n (norm_p f) (negate p_ring (norm_p g)) normal-F (normal-negate p_ring n (norm_p g) normal-G))

  bounded-gap : Bounded (sides n f g) (gap f g)
  bounded-gap = bounded-sum p_ring ds (norm_p f) (negate p_ring (norm_p g)) bounded-F (bounded-negate p_ring ds (norm_p g) bounded-G)
    where
      ds : List ℕ
      ds = sides n f g

      fs : List ℕ
      fs = degrees n (norm_p f)

      gs : List ℕ
      gs = degrees n (norm_p g)

      one-length : length gs ≡ length fs
      one-length = length-degrees p_ring n (norm_p g) normal-G ∙ sym (length-degrees p_ring n (norm_p f) normal-F)

      bounded-F : Bounded ds (norm_p f)
      bounded-F = bounded-mono (norm_p f) fs ds (maxs-left fs gs) (bounded-degrees p_ring n (norm_p f) normal-F)

      bounded-G : Bounded ds (norm_p g)
      bounded-G = bounded-mono (norm_p g) gs ds (maxs-right fs gs one-length) (bounded-degrees p_ring n (norm_p g) normal-G)

  sides-highest : sides n f g ≡ highest n f g
  sides-highest = ap₂ maxs (degrees-norm_p n f F) (degrees-norm_p n g G)

  -- where their difference is 0, two values there are one, and the other way round
  pub gap-nil : (N : List ℕ) → (val p_ring (gap f g) (nats p_ring N) ≡ p_ring.nil) ↔ (leaves prime f N ≡ leaves prime g N)
  gap-nil N = (λ e. (same-leaves f g N).1 (level (eval_p f N) (eval_p g N) (sym (val-gap N) ∙ e)), λ e. nothing ((same-leaves f g N).0 e))
    where
      nothing : eval_p f N ≡ eval_p g N → val p_ring (gap f g) (nats p_ring N) ≡ p_ring.nil
      nothing e =
          let minus = p_ring.neg (eval_p g N) in
          val p_ring (gap f g) (nats p_ring N) ≡⟨ val-gap N ⟩
          p_ring.◌⊞◌ (eval_p f N) minus ≡⟨ ap (λ z. p_ring.◌⊞◌ z minus) e ⟩
          p_ring.◌⊞◌ (eval_p g N) minus ≡⟨ p_ring.add-neg (eval_p g N) ⟩
          p_ring.nil ∎

  first-of-two : is_zero p_ring (gap f g) ≡ false → IsPoint prime n f g (first_point p_ring (sides n f g) (gap f g))
  first-of-two nz =
      record {
        long = length-box (sides n f g) N first.inside ∙ length-sides;
        differs = λ e. first.counts ((gap-nil N).1 e);
        earlier = λ M l b. (gap-nil M).0 (first.earlier M b (l ∙ sym length-sides));
        inside = subst (λ ds. InBox ds N) sides-highest first.inside;
      }
    where
      N : List ℕ
      N = first_point p_ring (sides n f g) (gap f g)

      first : IsFirst p_ring (sides n f g) (gap f g) N
      first = first-is p_ring 63 P-regular (sides n f g) sides-63 (gap f g) normal-gap bounded-gap nz

  -- the point that the search through the box finds is demand 3's
  pub point-is : is_zero p_ring (gap f g) ≡ false → IsPoint prime n f g (point_of prime n f g)
  point-is nz =
      subst (IsPoint prime n f g) (sym (point-found prime n f g (first_point p_ring (sides n f g) (gap f g)) (first-of-two nz)))
      (first-of-two nz)

  -- and the difference is 0 exactly where the forms are one
  pub gap-zero : Zero p_ring (gap f g) ↔ (norm_p f ≡ norm_p g)
  gap-zero = (
    λ z. difference p_ring n (norm_p f) (norm_p g) normal-F (normal-negate p_ring n (norm_p g) normal-G) z,
    λ e. grid p_ring 63 P-regular (sides n f g) sides-63 (gap f g) normal-gap bounded-gap
        (λ N m. val-difference p_ring (norm_p f) (norm_p g) (nats p_ring N) (ap (λ x. val p_ring x (nats p_ring N)) e)),
  )

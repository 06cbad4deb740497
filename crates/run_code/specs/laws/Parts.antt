-- The form of words, taken apart: by the first exponents that are not 0, and by the rest.
use Rattle.std.specs.Prelude.{Bool, true, false, cond, List, [], ◌∷◌, ◌++◌, ◌≡◌, refl, ℕ, suc, ◌+◌, ◌-◌, ◌*◌, ◌^◌, ◌≤◌, ◌<◌, eqb, length}
use Rattle.std.proofs.Common.{true≢false, sym, ◌∙◌, ap, ap₂, subst, arith}
use Rattle.std.proofs.lemmas.List.{map-append}
use Rattle.std.proofs.Math.Nat as NatL
use Rattle.code.specs.Coding.{enc, limits, Good}
use Rattle.code.specs.Operations.{pop_of, pow_of, zero_of}
use Rattle.code.specs.Widths.{Leaf, ring_of, leaf}
use Rattle.code.specs.laws.Good.{good-at}
use Rattle.code.specs.laws.Sizes.{size-enc}
use Rattle.code.specs.laws.Widths.{leaf-number}
use Rattle.horner.specs.definitions.Form.{Form, int, pop, pow, size, mkpop, mkpow, is_zero, Lead, Normal}
use Rattle.horner.specs.definitions.Measures.{zeros}
use Rattle.horner.specs.laws.Degree.{Below}
use Rattle.run_merge.specs.Words.{pairs, is_no, Fits}
use Rattle.run.specs.Merging.{over, cmpℕ, cmp_l, rekey, Each, Falls, Solid}
use Rattle.run.specs.Runs.{Run, Long, raise_key, Sorted, to_form, to_run}
use Rattle.run.proofs.laws.Forms.{normal-to_form, form-split, form-down, run-of-form, long-to_run}
use Rattle.run.proofs.laws.Merging.{each_map, each_append}
use Rattle.run.proofs.laws.Operations.{bounded-to_form}
use Rattle.run.proofs.laws.Orders.{over-lt, lt-over}
use Rattle.run_code.specs.Decoding.{digits, run_at, form_at, Placed}
use Rattle.run_code.specs.laws.Digits.{unit-pos, digits_long, digits-small, digits-order, digits-raise, digits-down, below-limits}

-- keys and coefficients
abbrev pub Pairs : Type 0
Pairs = List (ℕ × ℕ)

-- ---- parts of a list
pub each-front : (P : ℕ → Type 0) (l r : Pairs) → Each P (l ++ r) → Each P l
each-front P [] r h = tt
each-front P (m ∷ l) r h = (h.0, each-front P l r h.1)

pub each_back : (P : ℕ → Type 0) (l r : Pairs) → Each P (l ++ r) → Each P r
each_back P [] r h = h
each_back P (m ∷ l) r h = each_back P l r h.1

each_both : (P Q T : ℕ → Type 0) → ((k : ℕ) → P k → Q k → T k) → (l : Pairs) → Each P l → Each Q l → Each T l
each_both P Q T f [] h g = tt
each_both P Q T f (m ∷ l) h g = (f m.0 h.0 g.0, each_both P Q T f l h.1 g.1)

pub falls-front : (l r : Pairs) → Falls cmpℕ (l ++ r) → Falls cmpℕ l
falls-front [] r h = tt
falls-front (m ∷ l) r h = (each-front (λ k. cmpℕ m.0 k ≡ over) l r h.0, falls-front l r h.1)

pub falls-back : (l r : Pairs) → Falls cmpℕ (l ++ r) → Falls cmpℕ r
falls-back [] r h = h
falls-back (m ∷ l) r h = falls-back l r h.1

solid-front : (l r : Pairs) → Solid is_no (l ++ r) → Solid is_no l
solid-front [] r h = tt
solid-front (m ∷ l) r h = (h.0, solid-front l r h.1)

solid-back : (l r : Pairs) → Solid is_no (l ++ r) → Solid is_no r
solid-back [] r h = h
solid-back (m ∷ l) r h = solid-back l r h.1

fits-front : (l r : Pairs) → Fits 0 (l ++ r) → Fits 0 l
fits-front [] r h = tt
fits-front (m ∷ l) r h = (h.0, h.1, fits-front l r h.2)

fits-back : (l r : Pairs) → Fits 0 (l ++ r) → Fits 0 r
fits-back [] r h = h
fits-back (m ∷ l) r h = fits-back l r h.2

-- the front of placed words, with a higher base, and the back of them, with a variable less
pub placed-front : (n base higher : ℕ) (l r : Pairs) → base ≤ higher → Placed n base (l ++ r) → Each (λ k. higher ≤ k) l
    → Placed n higher l
placed-front n base higher l r b h g = record {
  falls = falls-front l r h.falls;
  solid = solid-front l r h.solid;
  fits = fits-front l r h.fits;
  from = g;
  to =
      each_map (λ k. k < base + 64 ^ n) (λ k. k < higher + 64 ^ n) (λ k e. omega arith) l
      (each-front (λ k. k < base + 64 ^ n) l r h.to);
  small = each-front (λ k. k < 16777216) l r h.small;
}

pub placed-back : (n base : ℕ) (l r : Pairs) → Placed (suc n) base (l ++ r) → Each (λ k. k < base + 64 ^ n) r → Placed n base r
placed-back n base l r h g = record {
  falls = falls-back l r h.falls;
  solid = solid-back l r h.solid;
  fits = fits-back l r h.fits;
  from = each_back (λ k. base ≤ k) l r h.from;
  to = g;
  small = each_back (λ k. k < 16777216) l r h.small;
}

-- ---- the run of words is sorted, and its form good
abbrev Between : ℕ → ℕ → Pairs → Type 0
Between n base l = Each (λ k. k - base < 64 ^ n) l

between : (n base : ℕ) (l : Pairs) → Placed n base l → Between n base l
between n base l h = each_both (λ k. base ≤ k) (λ k. k < base + 64 ^ n) (λ k. k - base < 64 ^ n) (λ k a b. omega arith) l h.from h.to

-- the run of words has keys of n exponents
pub run_long : (n base : ℕ) (l : Pairs) → Each (Long n) (run_at n base l)
run_long n base [] = tt
run_long n base (m ∷ l) = (digits_long n (m.0 - base), run_long n base l)

run-above : (n base k : ℕ) (l : Pairs) → k - base < 64 ^ n → Each (λ e. cmpℕ k e ≡ over) l → Between n base l → Each (λ e. base ≤ e) l
    → Each (λ e. cmp_l (digits n (k - base)) e ≡ over) (run_at n base l)
run-above n base k [] h a b f = tt
run-above n base k (u ∷ l) h a b f =
    (digits-order n (k - base) (u.0 - base) h b.0 ∙ less (over-lt k u.0 a.0) f.0, run-above n base k l h a.1 b.1 f.1)
  where
    less : u.0 < k → base ≤ u.0 → cmpℕ (k - base) (u.0 - base) ≡ over
    less a f = lt-over (k - base) (u.0 - base) (omega arith)

placed-tail : (n base : ℕ) (m : ℕ × ℕ) (l : Pairs) → Placed n base (m ∷ l) → Placed n base l
placed-tail n base m l h =
    record { falls = h.falls.1; solid = h.solid.1; fits = h.fits.2; from = h.from.1; to = h.to.1; small = h.small.1 }

run-falls : (n base : ℕ) (l : Pairs) → Placed n base l → Falls cmp_l (run_at n base l)
run-falls n base [] h = tt
run-falls n base (m ∷ l) h =
    let b = between n base (m ∷ l) h in
    (run-above n base m.0 l b.0 h.falls.0 b.1 h.from.1, run-falls n base l (placed-tail n base m l h))

run-solid : (n base : ℕ) (l : Pairs) → Solid is_no l → Fits 0 l → Solid (ring_of 0).is_nil (run_at n base l)
run-solid n base [] h f = tt
run-solid n base (m ∷ l) h f = (ap (λ z. eqb z 0) (leaf-number 0 m.1 f.1) ∙ h.0, run-solid n base l h.1 f.2)

-- the run of placed words is sorted
pub run-sorted : (n base : ℕ) (l : Pairs) → Placed n base l → Sorted (ring_of 0) n (run_at n base l)
run-sorted n base l h = record { long = run_long n base l; falls = run-falls n base l h; solid = run-solid n base l h.solid h.fits }

-- its form is good
pub form-good : (n base : ℕ) (x : List ℕ) → n ≤ 4 → Placed n base (pairs x) → Good 0 (form_at n base x)
unfolding form_at
form-good n base x l h =
    good-at 0 n (to_form (ring_of 0) (run_at n base (pairs x))) l
    (normal-to_form (ring_of 0) n (run_at n base (pairs x)) (run_long n base (pairs x)))
    (bounded-to_form (ring_of 0) (limits n) (run_at n base (pairs x)) (go (pairs x) (between n base (pairs x) h)))
  where
    go : (l : Pairs) → Between n base l → Each (λ k. Below k (limits n)) (run_at n base l)
    go [] b = tt
    go (m ∷ l) b =
        (below-limits n (digits n (m.0 - base)) (digits_long n (m.0 - base)) (digits-small n (m.0 - base) b.0), go l b.1)

-- ---- by the first exponents
run-front : (n i base : ℕ) (l : Pairs) → Each (λ k. base + i * 64 ^ n ≤ k) l
    → run_at (suc n) base l ≡ rekey (raise_key i) (run_at (suc n) (base + i * 64 ^ n) l)
run-front n i base [] h = refl
run-front n i base (m ∷ l) h =
    ap₂ (λ k r. (k, leaf 0 m.1) ∷ r) (ap (digits (suc n)) (apart h.0) ∙ digits-raise n i (m.0 - (base + i * 64 ^ n)))
    (run-front n i base l h.1)
  where
    apart : base + i * 64 ^ n ≤ m.0 → m.0 - base ≡ m.0 - (base + i * 64 ^ n) + i * 64 ^ n
    apart h = omega arith

run-back : (n base : ℕ) (l : Pairs) → Between n base l → run_at (suc n) base l ≡ rekey (zeros 1) (run_at n base l)
run-back n base [] h = refl
run-back n base (m ∷ l) h = ap₂ (λ k r. (k, leaf 0 m.1) ∷ r) (digits-down n (m.0 - base) h.0) (run-back n base l h.1)

-- some first exponents are not 0: a POW
pub form-pow : (n i base : ℕ) (x y z : List ℕ) → 1 ≤ i → pairs x ≡ pairs y ++ pairs z → Each (λ k. base + i * 64 ^ n ≤ k) (pairs y)
    → Placed n base (pairs z)
    → form_at (suc n) base x ≡ pow_of 0 i (form_at (suc n) (base + i * 64 ^ n) y) (form_at n base z)
unfolding form_at pow_of
form-pow n i base x y z hi e hy hz =
    ap (λ l. to_form (ring_of 0) (run_at (suc n) base l)) e
    ∙ ap (to_form (ring_of 0)) (map-append (λ m. (digits (suc n) (m.0 - base), leaf 0 m.1)) (pairs y) (pairs z)
    ∙ ap₂ ◌++◌ (run-front n i base (pairs y) hy) (run-back n base (pairs z) (between n base (pairs z) hz)))
    ∙ form-split (ring_of 0) n i (run_at (suc n) (base + i * 64 ^ n) (pairs y)) (run_at n base (pairs z)) hi
    (run_long (suc n) (base + i * 64 ^ n) (pairs y)) (run_long n base (pairs z))

-- all first exponents are 0: a POP
pub form-pop : (n base : ℕ) (x : List ℕ) → Placed n base (pairs x) → form_at (suc n) base x ≡ pop_of 0 1 (form_at n base x)
unfolding form_at pop_of
form-pop n base x h =
    ap (to_form (ring_of 0)) (run-back n base (pairs x) (between n base (pairs x) h))
    ∙ form-down (ring_of 0) n (run_at n base (pairs x)) (run_long n base (pairs x))

-- no monomial: 0
pub form-none : (n base : ℕ) (x : List ℕ) → pairs x ≡ [] → form_at n base x ≡ zero_of 0
unfolding form_at zero_of
form-none n base x e = ap (λ l. to_form (ring_of 0) (run_at n base l)) e

-- no variable: the one coefficient
pub form-leaf : (base : ℕ) (x : List ℕ) (m : ℕ × ℕ) (l : Pairs) → pairs x ≡ (m ∷ l) → Placed 0 base (pairs x)
    → form_at 0 base x ≡ int (leaf 0 m.1)
unfolding form_at
form-leaf base x m l e h = ap (λ l. to_form (ring_of 0) (run_at 0 base l)) e ∙ one l (subst (Placed 0 base) e h)
  where
    one : (l : Pairs) → Placed 0 base (m ∷ l) → to_form (ring_of 0) (run_at 0 base (m ∷ l)) ≡ int (leaf 0 m.1)
    one [] h = ap int ((ring_of 0).add-nil (leaf 0 m.1))
    one (u ∷ l) h = absurd (omega (arith, over-lt m.0 u.0 h.falls.0.0, h.from.1.0, h.to.0))

-- ---- where a first exponent is 0, the form leads
abbrev Positive : List ℕ → Type 0
Positive [] = ⊥
Positive (k ∷ ks) = 1 ≤ k

all-positive : (n base : ℕ) (l : Pairs) → Each (λ k. base ≤ k) l → Each Positive (run_at (suc n) base l) → Each (λ k. base + 64 ^ n ≤ k) l
all-positive n base [] f h = tt
all-positive n base (m ∷ l) f h =
    (up f.0 ((NatL.le-div_iff_mul-le {k = 64 ^ n} {x = 1} {y = m.0 - base} (unit-pos n)).0 h.0), all-positive n base l f.1 h.1)
  where
    up : base ≤ m.0 → 1 * 64 ^ n ≤ m.0 - base → base + 64 ^ n ≤ m.0
    up f g = omega arith

raised-positive : (n i : ℕ) (r : Run (Leaf 0)) → 1 ≤ i → Each (Long (suc n)) r → Each Positive (rekey (raise_key i) r)
raised-positive n i [] h l = tt
raised-positive n i (m ∷ r) h l = (go m.0 l.0, raised-positive n i r h l.1)
  where
    go : (ks : List ℕ) → length ks ≡ suc n → Positive (raise_key i ks)
    go [] l = absurd (omega arith)
    go (k ∷ ks) l = omega arith

lead-of : (n : ℕ) (x : Form (Leaf 0)) → Normal (ring_of 0) (suc n) x → (Each Positive (to_run (ring_of 0) (suc n) x) → ⊥) → Lead (ring_of 0) x
lead-of n (int c) h g = decide ((ring_of 0).is_nil c) refl
  where
    decide : (b : Bool) → (ring_of 0).is_nil c ≡ b → b ≡ false
    decide false e = refl
    decide true e = absurd (g (subst (λ b. Each Positive (cond b [] ((zeros (suc n) [], c) ∷ []))) (sym e) tt))
lead-of n (pop i p) h g = tt
lead-of n (pow i p q) h g = decide (is_zero (ring_of 0) q) refl
  where
    none : (q : Form (Leaf 0)) → is_zero (ring_of 0) q ≡ true → Each Positive (rekey (zeros 1) (to_run (ring_of 0) (suc n - 1) q))
    none (int c) e = subst (λ b. Each Positive (rekey (zeros 1) (cond b [] ((zeros (suc n - 1) [], c) ∷ [])))) (sym e) tt
    none (pop i p) e = absurd (true≢false (sym e))
    none (pow i p q) e = absurd (true≢false (sym e))

    decide : (b : Bool) → is_zero (ring_of 0) q ≡ b → b ≡ false
    decide false e = refl
    decide true e =
        absurd (g (each_append Positive (rekey (raise_key i) (to_run (ring_of 0) (suc n) p))
        (rekey (zeros 1) (to_run (ring_of 0) (suc n - 1) q))
        (raised-positive n i (to_run (ring_of 0) (suc n) p) h.0 (long-to_run (ring_of 0) (suc n) p h.2)) (none q e)))

-- the form before a cut at the least exponent leads: it has a monomial without the first variable
pub form-leads : (n base : ℕ) (x : List ℕ) → Placed (suc n) base (pairs x) → (Each (λ k. base + 64 ^ n ≤ k) (pairs x) → ⊥)
    → Lead (ring_of 0) (form_at (suc n) base x)
unfolding form_at
form-leads n base x h g =
    lead-of n (to_form (ring_of 0) r) (normal-to_form (ring_of 0) (suc n) r (run_long (suc n) base (pairs x)))
    (λ p. g (all-positive n base (pairs x) h.from
    (subst (Each Positive) (run-of-form (ring_of 0) (suc n) r (run-sorted (suc n) base (pairs x) h)) p)))
  where
    r : Run (Leaf 0)
    r = run_at (suc n) base (pairs x)

-- ---- how many words
size-lead : (i : ℕ) (p q : Form (Leaf 0)) → Lead (ring_of 0) p → size (mkpow (ring_of 0) i p q) ≡ 1 + size p + size q
size-lead i (int c) q h = ap (λ b. size (cond b (mkpop 1 q) (pow i (int c) q))) h ∙ omega arith
size-lead i (pop j p) q h = omega arith
size-lead i (pow j r s) q h = ap (λ b. size (cond b (pow (i + j) r q) (pow i (pow j r s) q))) h ∙ omega arith

-- a POW of a leading form takes a word more than its parts
pub words-pow : (i : ℕ) (p q : Form (Leaf 0)) → Lead (ring_of 0) p
    → length (enc 0 (pow_of 0 i p q)) ≡ 1 + length (enc 0 p) + length (enc 0 q)
unfolding pow_of
words-pow i p q h = size-enc 0 (mkpow (ring_of 0) i p q) ∙ size-lead i p q h ∙ sym (ap₂ (λ a b. 1 + a + b) (size-enc 0 p) (size-enc 0 q))

size-pop : (p : Form (Leaf 0)) → size p ≤ size (mkpop 1 p)
size-pop (int c) = omega arith
size-pop (pop j q) = omega arith
size-pop (pow j r s) = omega arith

-- a POP takes no fewer words than its part
pub words-pop : (p : Form (Leaf 0)) → length (enc 0 p) ≤ length (enc 0 (pop_of 0 1 p))
unfolding pop_of
words-pop p = omega (arith, size-enc 0 p, size-enc 0 (mkpop 1 p), size-pop p)

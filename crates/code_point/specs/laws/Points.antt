-- The first point by one variable after the other.
use Rattle.std.specs.Prelude.{Bool, true, false, List, [], ◌∷◌, ◌≡◌, refl, ℕ, suc, ◌-◌, ◌≤◌, length}
use Rattle.std.proofs.Math.Path.{sym, ap}
use Rattle.std.proofs.Common.{subst, ◌∙◌, arith}
use Rattle.horner.specs.definitions.Form.{Form, is_zero, Normal, nats}
use Rattle.horner.specs.laws.Degree.{Bounded}
use Rattle.horner.specs.definitions.Measures.{AllLe}
use Rattle.horner.specs.laws.First.{least, at_first, first_point}
use Rattle.horner.specs.definitions.Rings.{Ring, nat}
use Rattle.horner.proofs.laws.First.{first-is, val-at_first, normal-at_first}
use Rattle.horner.proofs.laws.Prime.{P-regular}
use Rattle.horner.proofs.laws.Residues.{nat-red}
use Rattle.horner.proofs.laws.Roots.{Regular}
use Rattle.horner.proofs.laws.Value.{is_zero-val}
use Rattle.code.specs.Coding.{limits, Good}
use Rattle.code.specs.Widths.{Leaf, ring_of, leaf, modulus, modulus-pos}
use Rattle.code_first.specs.First.{at_first_of}
use Rattle.code_point.specs.Points.{point_of, Ready, vanishes, IsLeast, Fails}
use Rattle.code_point.specs.laws.Bounds.{bounded-good, length-limits, limits-63}
use Rattle.code_point.specs.laws.Least.{least-before, least-one}

module _ {A : Type 0} (R : Ring A) where
  abbrev test : Form A → ℕ → Bool
  test x b = is_zero R (at_first R x (nat R b))

  module _ (K : ℕ) (regular : Regular R K) (d : ℕ) (ds : List ℕ) (le : AllLe K (d ∷ ds)) (x : Form A)
      (hx : Normal R (suc (length ds)) x) (bx : Bounded (d ∷ ds) x) (nz : is_zero R x ≡ false) where
    -- the first number of the point
    abbrev value : ℕ
    value = least (suc d) (test x) 0

    value-small : value ≤ d
    value-small = (first-is R K regular (d ∷ ds) le x hx bx nz).inside.0

    value-fails : test x value ≡ false
    value-fails = by (test x value) refl
      where
        by : (c : Bool) → test x value ≡ c → test x value ≡ false
        by true e =
            absurd ((first-is R K regular (d ∷ ds) le x hx bx nz).counts
            (sym (val-at_first R (suc (length ds)) x hx (nat R value) (nats R (first_point R ds (at_first R x (nat R value)))))
            ∙ is_zero-val R (at_first R x (nat R value)) e (nats R (first_point R ds (at_first R x (nat R value))))))
        by false e = e

    value-least : IsLeast (test x) value
    value-least = record { fails = value-fails; before = λ b h. least-before (suc d) (test x) 0 b (omega arith) h }

  normal-next : (n : ℕ) (x : Form A) → Normal R (suc n) x → (a : A) → Normal R n (at_first R x a)
  normal-next n x h a =
      let e : suc n - 1 ≡ n = omega arith in
      subst (λ k. Normal R k (at_first R x a)) e (normal-at_first R (suc n) x h a)

-- ---- over the remainders by P

pub nat-leaf : (a : ℕ) → nat (ring_of 0) a ≡ leaf 0 a
nat-leaf a = nat-red (modulus 0) (modulus-pos 0) a

pub point-none : (h : Form (Leaf 0)) → point_of 0 h ≡ []
unfolding point_of
point-none h = refl

module _ (n : ℕ) (h : Form (Leaf 0)) (g : Good 0 h) (r : Ready (suc n) h) where
  found : IsLeast (test (ring_of 0) h) (least 64 (test (ring_of 0) h) 0) × (least 64 (test (ring_of 0) h) 0 ≤ 63)
  found =
      let hx : Normal (ring_of 0) (suc (length (limits n))) h = subst (λ z. Normal (ring_of 0) (suc z) h) (sym (length-limits n))
      r.normal in
      let b = bounded-good (suc n) h r.few g r.normal in (
        value-least (ring_of 0) 63 P-regular 63 (limits n) (limits-63 (suc n)) h hx b r.counts,
        value-small (ring_of 0) 63 P-regular
            63 (limits n) (limits-63 (suc n)) h hx b r.counts,
      )

  test-is : (a : ℕ) → vanishes h a ≡ test (ring_of 0) h a
  unfolding vanishes at_first_of
  test-is a = ap (λ z. is_zero (ring_of 0) (at_first (ring_of 0) h z)) (sym (nat-leaf a))

  pub ready-fails : Fails (vanishes h)
  ready-fails =
      record
      { value = least 64 (test (ring_of 0) h) 0; small = found.1; fails = test-is (least 64 (test (ring_of 0) h) 0) ∙ found.0.fails }

  -- the least number that leaves a form that is not 0 comes first, and then the point of that form
  pub point-next : (a : ℕ) → IsLeast (vanishes h) a → a ∷ point_of n (at_first_of 0 h a) ≡ point_of (suc n) h
  unfolding point_of at_first_of
  point-next a l =
      let m : IsLeast (test (ring_of 0) h) a = record
      { fails = sym (test-is a) ∙ l.fails; before = λ b k. sym (test-is b) ∙ l.before b k } in
      let e : a ≡ least 64 (test (ring_of 0) h) 0 = least-one m found.0 in
      ap (λ z. a ∷ first_point (ring_of 0) (limits n) (at_first (ring_of 0) h z)) (sym (nat-leaf a))
      ∙ ap (λ z. z ∷ first_point (ring_of 0) (limits n) (at_first (ring_of 0) h (nat (ring_of 0) z))) e

  pub ready-next : (a : ℕ) → IsLeast (vanishes h) a → Ready n (at_first_of 0 h a)
  unfolding vanishes at_first_of
  ready-next a l = record { few = omega (arith, r.few); normal = normal-next (ring_of 0) n h r.normal (leaf 0 a); counts = l.fails }

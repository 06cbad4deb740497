-- A form that is normal in n variables is bounded by its first n bounds.
use Rattle.std.specs.Prelude.{List, [], ◌∷◌, ◌≡◌, refl, ℕ, zero, suc, ◌-◌, ◌≤◌, length, take}
use Rattle.std.proofs.Common.{sym, ap, subst, ◌∙◌, arith}
use Rattle.std.proofs.Math.Seq.{take-nil}
use Rattle.horner.specs.definitions.Form.{Form, int, pop, pow, Normal, after}
use Rattle.horner.specs.laws.Degree.{Bounded}
use Rattle.horner.specs.definitions.Measures.{AllLe}
use Rattle.horner.specs.definitions.Rings.{Ring}
use Rattle.code.specs.Coding.{limits, Good}
use Rattle.code.specs.Widths.{Leaf, ring_of}

after_none : (i : ℕ) → after {A = ℕ} i [] ≡ []
after_none zero = refl
after_none (suc i) = after_none i

take_after : (i n : ℕ) (ds : List ℕ) → take (n - i) (after i ds) ≡ after i (take n ds)
take_after zero n ds =
    let e : n - 0 ≡ n = omega arith in
    ap (λ k. take k ds) e
take_after (suc i) zero ds =
    let e : 0 - suc i ≡ 0 = omega arith in
    ap (λ k. take k (after (suc i) ds)) e ∙ sym (after_none i)
take_after (suc i) (suc n) [] =
    let e : suc n - suc i ≡ n - i = omega arith in
    ap (λ k. take k (after {A = ℕ} i [])) e ∙ take_after i n [] ∙ ap (after i) (take-nil n)
take_after (suc i) (suc n) (d ∷ ds) =
    let e : suc n - suc i ≡ n - i = omega arith in
    ap (λ k. take k (after i ds)) e ∙ take_after i n ds

bounded-take : {A : Type 0} (R : Ring A) (n : ℕ) (ds : List ℕ) (x : Form A) → Normal R n x → Bounded ds x → Bounded (take n ds) x
bounded-take R n ds (int c) h b = tt
bounded-take R n ds (pop i p) h b = subst (λ z. Bounded z p) (take_after i n ds) (bounded-take R (n - i) (after i ds) p h.2 b)
bounded-take R n [] (pow i p q) h b = absurd b
bounded-take R zero (d ∷ ds) (pow i p q) h b = absurd (omega (arith, h.1))
bounded-take R (suc n) (d ∷ ds) (pow i p q) h b =
    let e : suc n - 1 ≡ n = omega arith in
    (b.0, bounded-take R (suc n) ((d - i) ∷ ds) p h.2 b.1, bounded-take R n ds q (subst (λ k. Normal R k q) e h.4) b.2)

take-limits : (n m : ℕ) → n ≤ m → take n (limits m) ≡ limits n
take-limits zero m l = refl
take-limits (suc n) zero l = absurd (omega arith)
take-limits (suc n) (suc m) l = ap (λ z. 63 ∷ z) (take-limits n m (omega arith))

pub bounded-good : (n : ℕ) (h : Form (Leaf 0)) → n ≤ 4 → Good 0 h → Normal (ring_of 0) n h → Bounded (limits n) h
bounded-good n h l g a = subst (λ z. Bounded z h) (take-limits n 4 l) (bounded-take (ring_of 0) n (limits 4) h a g.bounded)

pub length-limits : (n : ℕ) → length (limits n) ≡ n
length-limits zero = refl
length-limits (suc n) = ap suc (length-limits n)

pub limits-63 : (n : ℕ) → AllLe 63 (limits n)
limits-63 zero = tt
limits-63 (suc n) = (omega arith, limits-63 n)

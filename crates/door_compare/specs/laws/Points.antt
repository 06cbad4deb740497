-- A first point: as many numbers as variables, each below P; the difference of two codes.
use Rattle.std.specs.Prelude.{Bool, true, false, List, ◌++◌, ◌≡◌, refl, ℕ, zero, suc, ◌+◌, ◌-◌, ◌≤◌, length, take, drop, get_or}
use Rattle.std.proofs.Common.{sym, ◌∙◌}
use Rattle.std.proofs.Math.Path.{ap, subst}
use native.Mathlib.Omega.{arith}
use Rattle.std.proofs.Math.ListN.{length-drop}
use Rattle.std.proofs.Math.Seq.{length-take-le, take-append_seam}
use Rattle.code.proofs.Lists.{begins-le, length-tail-part}
use Rattle.horner.specs.definitions.Form.{Form, is_zero}
use Rattle.horner.specs.laws.First.{least, first_point, at_first}
use Rattle.horner.specs.definitions.Rings.{nat}
use Rattle.code.specs.Coding.{Good, Codes, Coded, Made, RoomUnder, limits, dec}
use Rattle.code.specs.Operations.{sum_of, negate_of}
use Rattle.code.specs.Widths.{Leaf, ring_of}
use Rattle.code.specs.laws.Codes.{coded, codes-length, dec-enc, tail-part}
use Rattle.code.specs.laws.Good.{sum-good, negate_good}
use Rattle.code.specs.laws.Sizes.{sum-length, negate-length}
use Rattle.code.proofs.Making.{front-codes}
use Rattle.code_point.specs.Points.{point_of, Ready}
use Rattle.code_walk.specs.Points.{Leaves}
use Rattle.door_compare.specs.Compare.{Sides, Rooms, gap_of}

least-le : (f : ℕ) (t : ℕ → Bool) (a : ℕ) → least f t a ≤ a + f
least-le zero t a = omega arith
least-le (suc f) t a = go (t a) refl (least-le f t (suc a))
  where
    go : (b : Bool) → t a ≡ b → least f t (suc a) ≤ suc a + f → least (suc f) t a ≤ a + suc f
    go true h l = rw (h, least) (omega (arith, l))
    go false h l = rw (h, least) (omega arith)

length-first : (n : ℕ) (h : Form (Leaf 0)) → length (first_point (ring_of 0) (limits n) h) ≡ n
length-first zero h = refl
length-first (suc n) h =
    ap suc (length-first n
    (at_first (ring_of 0) h (nat (ring_of 0) (least 64 (λ b. is_zero (ring_of 0) (at_first (ring_of 0) h (nat (ring_of 0) b))) 0))))

pub length-point : (n : ℕ) (h : Form (Leaf 0)) → length (point_of n h) ≡ n
unfolding point_of
length-point n h = length-first n h

first_small : (n : ℕ) (h : Form (Leaf 0)) (k : ℕ) → get_or (first_point (ring_of 0) (limits n) h) k 0 ≤ 64
first_small zero h k = omega arith
first_small (suc n) h zero = least-le 64 (λ b. is_zero (ring_of 0) (at_first (ring_of 0) h (nat (ring_of 0) b))) 0
first_small (suc n) h (suc k) =
    first_small n (at_first (ring_of 0) h (nat (ring_of 0) (least 64 (λ b. is_zero (ring_of 0) (at_first (ring_of 0) h (nat (ring_of 0) b))) 0))) k

pub point-small : (n : ℕ) (h : Form (Leaf 0)) (k : ℕ) → get_or (point_of n h) k 0 ≤ 64
unfolding point_of
point-small n h k = first_small n h k

module _ {k : ℕ} {l : List ℕ} (S : Sides k l) where
  pub gap-good : Good 0 (gap_of k l)
  unfolding gap_of
  gap-good = sum-good S.left.good (negate_good S.right.good)

  -- the part of the table behind the left form
  pub right-part : Coded 0 (take (length l - k) (drop k l))
  right-part = subst (Coded 0) (sym (tail-part k l)) S.right

  abbrev negated : List ℕ → ℕ → List ℕ → Type 0
  negated x m b = Made 0 (negate_of 0 (dec 0 x)) m b

  pub gap-negated : {m : ℕ} {b : List ℕ} → negated (take (length l - k) (drop k l)) m b → Coded 0 (take m b)
  gap-negated h = coded (front-codes h (negate_good right-part.good))

  negated_size : {m : ℕ} {b : List ℕ} → negated (take (length l - k) (drop k l)) m b → m ≡ length l - k
  negated_size h =
      h.size ∙ negate-length 0 (dec 0 (take (length l - k) (drop k l))) ∙ sym (codes-length right-part) ∙ length-tail-part k l

  pub gap-room :
      {m n : ℕ} {b : List ℕ} (c : List ℕ) → Rooms (length l) n (length c) → negated (take (length l - k) (drop k l)) m b →
      RoomUnder (length (take k l) + length (take m b)) c
  gap-room {m} {b = b} c R h =
      let i = length-take-le k l S.inside in
      let j = length-take-le m b (begins-le h) in
      let z = negated_size h in
      record { fits = omega (arith, i, j, z, S.inside, R.second); small = R.second-small }

  pub gap-made :
      {m r : ℕ} {b c : List ℕ} → negated (take (length l - k) (drop k l)) m b →
      Made 0 (sum_of 0 (dec 0 (take k l)) (dec 0 (take m b))) r c → Made 0 (gap_of k l) r c
  unfolding gap_of
  gap-made {m} {r} {b} {c} h n =
      let e = dec-enc (front-codes h (negate_good right-part.good)) ∙ ap (λ z. negate_of 0 (dec 0 z)) (tail-part k l) in
      subst (λ z. Made 0 (sum_of 0 (dec 0 (take k l)) z) r c) e n

  module _ {g : ℕ} {c : List ℕ} (h : Made 0 (gap_of k l) g c) where
    gap-codes : Codes 0 (gap_of k l) (take g c)
    gap-codes = front-codes h gap-good

    pub gap-coded : Coded 0 (take g c)
    gap-coded = coded gap-codes

    pub gap-size : 1 + g ≤ length l
    unfolding gap_of
    gap-size =
        let x = dec 0 (take k l) in
        let y = dec 0 (drop k l) in
        omega (
          arith,
          h.size,
          sum-length 0 x (negate_of 0 y),
          negate-length 0 y,
          codes-length S.left,
          codes-length S.right,
          length-take-le k l S.inside,
          length-drop k l,
          S.inside,
        )

    pub gap-ready : (n : ℕ) → Ready n (gap_of k l) → Ready n (dec 0 (take g c))
    gap-ready n r = subst (Ready n) (sym (dec-enc gap-codes)) r

    pub gap-point :
        (n : ℕ) (p : List ℕ) {p' : List ℕ} → p' ≡ point_of n (dec 0 (take g c)) ++ drop n p → p' ≡ point_of n (gap_of k l) ++ drop n p
    gap-point n p e = e ∙ ap (λ z. point_of n z ++ drop n p) (dec-enc gap-codes)

module _ (n : ℕ) (h : Form (Leaf 0)) (p : List ℕ) {p' : List ℕ} (e : p' ≡ point_of n h ++ drop n p) where
  pub point-front : take n p' ≡ point_of n h
  point-front =
      ap (take n) e ∙ ap (λ k. take k (point_of n h ++ drop n p)) (sym (length-point n h)) ∙ take-append_seam (point_of n h) (drop n p)

  pub point-leaves : Leaves 0 (take n p')
  point-leaves = subst (Leaves 0) (sym point-front) (record { below = λ k. omega (arith, point-small n h k) })

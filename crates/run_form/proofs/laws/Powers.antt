-- Powers of a form, on the words of its run, and the room that they take.
use mathlib.Core.List.{List, []}
use Rattle.std.specs.Prelude.{◌≡◌, length}
use Rattle.std.proofs.Math.Path.{sym, ap}
use Rattle.std.proofs.Common.{◌∙◌, subst, arith}
use Prim.Native.Nat.{ℕ, zero, suc, ◌*◌, ◌^◌, ◌≤◌, ◌<◌}
use Rattle.std.proofs.Math.Nat as NatL
use Rattle.std.proofs.lemmas.List.{length-map}
use Rattle.code_power.specs.laws.Raise.{below-multiples, power-mono}
use Rattle.code_room.proofs.laws.Lists.{box-below}
use Rattle.horner.specs.definitions.Form.{Form, int, raise}
use Rattle.horner.specs.definitions.Measures.{zeros, multiples, AllLe, box, one_if, count}
use Rattle.horner.specs.definitions.Rings.{Res, prime, p_ring}
use Rattle.horner.proofs.laws.Bounds.{bounded-raise, sums-multiples}
use Rattle.horner.proofs.laws.Count.{one-if-le, count-size, count-box}
use Rattle.horner.proofs.laws.Degree.{all-le-below, length-zeros}
use Rattle.horner.proofs.laws.Equations.{prod-2}
use Rattle.horner.proofs.laws.Measure.{meas-raise}
use Rattle.horner.proofs.laws.Normal.{normal-raise}
use Rattle.run.proofs.laws.Operations.{sums-zeros}
use Rattle.run_merge.specs.Words.{summed, produced}
use Rattle.run_stack.specs.Stack.{multiplied, ProductRoom, raised, PowerRoom}
use Rattle.run_form.specs.Forms.{run_words, Low}
use Rattle.run_form.proofs.laws.Products.{product-run, multiply-run, both-room}
use Rattle.run_form.specs.laws.Products.{by-box, by_count}
use Rattle.run_form.specs.laws.Products.{Few}
use Rattle.run_form.proofs.laws.Sums.{same-run, key-zeros}
use Rattle.run_form.proofs.laws.Under.{run_length}
use Rattle.run_form.specs.laws.Powers.{FewPowers, in-box, in_count}

-- no degree is above 63 where none is above 0
pub all-zeros : (n : ℕ) → AllLe 63 (zeros n [])
all-zeros zero = tt
all-zeros (suc n) = (omega arith, all-zeros n)

-- a lower power has no higher degrees
all-lower : (ds : List ℕ) (j k : ℕ) → j ≤ k → AllLe 63 (multiples k ds) → AllLe 63 (multiples j ds)
all-lower ds j k h a = all-le-below 63 (multiples j ds) (multiples k ds) (below-multiples j k ds h) a

module _ {n : ℕ} {ds : List ℕ} {x : Form (Res prime)} (X : Low n ds x) where
  -- the k-th power
  raise-low : (k : ℕ) → AllLe 63 (multiples k ds) → Low n (multiples k ds) (raise p_ring x k)
  raise-low k a = record {
    four = X.four;
    long = length-map ds (λ d. k * d) ∙ X.long;
    degrees = a;
    normal = normal-raise p_ring n x k X.normal;
    bounded = bounded-raise p_ring ds x X.bounded k;
  }

  -- the first: x times 1
  first-power : run_words n x ≡ run_words n (raise p_ring x 1)
  unfolding run_words produced
  first-power =
      sym (same-run X)
      ∙ ap (λ k. summed k 1 [] (run_words n x)) (sym (key-zeros n))
      ∙ product-run unit-low X (subst (AllLe 63) (sym (sums-zeros n ds X.long)) X.degrees)
      ∙ ap (run_words n) (sym (prod-2 p_ring x p_ring.unit))
    where
      unit-low : Low n (zeros n []) (int p_ring.unit)
      unit-low = record { four = X.four; long = length-zeros n [] ∙ omega arith; degrees = all-zeros n; normal = tt; bounded = tt }

  -- multiplying by x j times more makes the power by j + 1
  pub raise-run : (j : ℕ) → AllLe 63 (multiples (suc j) ds) → raised j (run_words n x) ≡ run_words n (raise p_ring x (suc j))
  unfolding raised
  raise-run zero a = first-power
  raise-run (suc j) a =
      let b : AllLe 63 (multiples (suc j) ds) = all-lower ds (suc j) (suc (suc j)) (omega arith) a in
      ap (multiplied (run_words n x)) (raise-run j b)
      ∙ multiply-run X (raise-low (suc j) b) (subst (AllLe 63) (sym (sums-multiples (suc j) ds)) a)

-- a lower power has no more
few-lower : {ds : List ℕ} {x : Form (Res prime)} (j k : ℕ) → j ≤ k → FewPowers ds x k → FewPowers ds x j
few-lower {ds} j k h (in-box b) =
    in-box (omega (arith, b, box-below (multiples j ds) (multiples k ds) (below-multiples j k ds h)))
few-lower j k h (in_count c p m b) = in_count c p m (omega (arith, b, power-mono c j k p h))

-- the coefficients of a power
power_count : (x : Form (Res prime)) (c k : ℕ) → count p_ring x ≤ c → count p_ring (raise p_ring x k) ≤ c ^ k
power_count x c k m = meas-raise p_ring (one_if p_ring) (count-size p_ring) (one-if-le p_ring p_ring.unit) x c m k

module _ {n : ℕ} {ds : List ℕ} {x : Form (Res prime)} (X : Low n ds x) where
  -- they are at most 256
  few-count : (k : ℕ) → FewPowers ds x k → count p_ring (raise p_ring x k) ≤ 256
  few-count k (in-box b) =
      omega (
        arith,
        b,
        count-box p_ring n (multiples k ds) (raise p_ring x k) (normal-raise p_ring n x k X.normal)
            (bounded-raise p_ring ds x X.bounded k),
      )
  few-count k (in_count c p m b) = omega (arith, b, power_count x c k m)

  -- so is what a step makes on its way
  few-step : (i : ℕ) → FewPowers ds x (suc (suc i)) → Few ds (multiples (suc i) ds) x (raise p_ring x (suc i))
  few-step i (in-box b) = by-box (subst (λ q. box q ≤ 256) (sym (sums-multiples (suc i) ds)) b)
  few-step i (in_count c p m b) =
      by_count (omega (arith, b, NatL.mul-le-mul m (power_count x c (suc i) m), NatL.pow-suc c (suc i), NatL.mul_comm c (c ^ suc i)))

  -- tables of 1,024 words are enough
  pub power-room :
      (j : ℕ) → AllLe 63 (multiples (suc j) ds) → FewPowers ds x (suc j) → count p_ring x ≤ 256 → (w s : ℕ) → 1024 ≤ w → 1024 ≤ s →
      PowerRoom (run_words n x) j w s
  power-room j a few cx w s hw hs = record {
    step = step;
    behind =
        λ i h. omega
        (arith, cx, run_length n x, ap length (same i h), run_length n (raise p_ring x (suc i)), few-count (suc i) (lower i h));
    fits = omega (arith, ap length (raise-run X j a), run_length n (raise p_ring x (suc j)), few-count (suc j) few);
  }
    where
      low : (i : ℕ) → i < j → AllLe 63 (multiples (suc i) ds)
      low i h = all-lower ds (suc i) (suc j) (omega arith) a

      lower : (i : ℕ) → i < j → FewPowers ds x (suc i)
      lower i h = few-lower (suc i) (suc j) (omega arith) few

      same : (i : ℕ) → i < j → raised i (run_words n x) ≡ run_words n (raise p_ring x (suc i))
      same i h = raise-run X i (low i h)

      step : (i : ℕ) → i < j → ProductRoom (run_words n x) (raised i (run_words n x)) w
      step i h =
          subst (λ q. ProductRoom (run_words n x) q w) (sym (same i h))
          (both-room X (raise-low X (suc i) (low i h))
          (subst (AllLe 63) (sym (sums-multiples (suc i) ds)) (all-lower ds (suc (suc i)) (suc j) (omega arith) a))
          (few-step i (few-lower (suc (suc i)) (suc j) (omega arith) few)) cx (few-count (suc i) (lower i h)) w hw)

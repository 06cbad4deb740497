-- A form within the limits, as an operand or a result: its code over the remainders by P, and its text.
use Rattle.std.specs.Prelude.{Bool, true, false, cond, List, ◌≡◌, refl, ℕ, zero, suc, ◌≤◌, min, ℤ, pos, negsuc, length, take}
use Rattle.std.proofs.Common.{ap, ◌∙◌, arith}
use Rattle.horner.specs.definitions.Form.{Form, int, pop, pow, size, Normal}
use Rattle.horner.specs.definitions.Rings.{ℤ_ring, red_ℤ, prime, prime-pos}
use Rattle.horner.proofs.laws.Degree.{bounded-mono, bounded-degrees, length-degrees}
use Rattle.horner.specs.laws.Degree.{Bounded}
use Rattle.horner.specs.definitions.Measures.{AllLe, box, degrees, weight, one_if, count, terms}
use Rattle.horner.specs.laws.Hom.{map_form}
use Rattle.horner.proofs.laws.Lifting.{bounded-map, normal-red}
use Rattle.horner.proofs.laws.Room.{words-3073}
use Rattle.horner.specs.laws.Table.{Fits}
use Rattle.code.specs.Coding.{limits, Good, Codes, Made, enc, dec}
use Rattle.code.specs.Widths.{Leaf, ring_of}
use Rattle.code.specs.laws.Codes.{dec-enc}
use Rattle.code.specs.laws.Good.{good-at}
use Rattle.code.specs.laws.Sizes.{size-enc}
use Rattle.code_room.specs.Fit as Fit
use Rattle.code_room.proofs.laws.Lists.{below-limits}
use Rattle.text.specs.definitions.Bytes.{read}
use Rattle.text.specs.definitions.FormReading.{accept_form, text}
use Rattle.form_build.specs.Build.{over_p}
use Rattle.form_build.specs.laws.Accepted.{accepted-is}
use Rattle.form_write.specs.Write.{text_of}
use Rattle.form_write.specs.laws.Integers.{text-reduced}

-- z is normal in m variables, its degrees are within ds, and it is within the limits
pub record Within (m : ℕ) (ds : List ℕ) (z : Form ℤ) : Type 0 where
  pub normal : Normal ℤ_ring m z
  pub sized : length ds ≡ m
  pub low : AllLe 63 ds
  pub bounded : Bounded ds z
  pub light : weight z ≤ 1073741823
  pub few : terms ℤ_ring z ≤ 256

-- an accepted form
pub operand : (m : ℕ) (s : List ℕ) → m ≤ 4 → (f : Form ℤ) → accept_form m s ≡ read f → Within m (degrees m f) f
operand m s few f e =
    let a = accepted-is m s few f e in
    record {
      normal = a.normal;
      sized = length-degrees ℤ_ring m f a.normal;
      low = a.degrees-fit;
      bounded = bounded-degrees ℤ_ring m f a.normal;
      light = a.weight-fits;
      few = a.terms-fit;
    }

-- a result, by the row of the table that was worked out for it
pub result :
    {m w t : ℕ} {ds : List ℕ} {z : Form ℤ} → Normal ℤ_ring m z → length ds ≡ m → AllLe 63 ds → w ≤ 1073741823 → min t (box ds) ≤ 256 →
    Fits m w ds t z → Within m ds z
result {m} {ds = ds} {z = z} n l a w t F =
    record {
      normal = n;
      sized = l;
      low = a;
      bounded = bounded-mono z (degrees m z) ds F.by-degrees (bounded-degrees ℤ_ring m z n);
      light = omega (arith, F.by-weight);
      few = omega (arith, F.by-terms);
    }

-- a coefficient that is 0 stays 0
at_most_one : (b : Bool) → cond b 0 1 ≤ 1
at_most_one true = omega arith
at_most_one false = omega arith

one-carried : (z : ℤ) → one_if (ring_of 0) (red_ℤ prime prime-pos z) ≤ one_if ℤ_ring z
one-carried (pos zero) = omega arith
one-carried (pos (suc n)) = at_most_one ((ring_of 0).is_nil (red_ℤ prime prime-pos (pos (suc n))))
one-carried (negsuc n) = at_most_one ((ring_of 0).is_nil (red_ℤ prime prime-pos (negsuc n)))

count-carried : (x : Form ℤ) → count (ring_of 0) (over_p x) ≤ count ℤ_ring x
count-carried (int c) = one-carried c
count-carried (pop i p) = count-carried p
count-carried (pow i p q) = omega (arith, count-carried p, count-carried q)

size-map : {A B : Type 0} (f : A → B) (x : Form A) → size (map_form f x) ≡ size x
size-map f (int c) = refl
size-map f (pop i p) = ap suc (size-map f p)
size-map f (pow i p q) = omega (arith, size-map f p, size-map f q)

module _ {m : ℕ} {ds : List ℕ} {z : Form ℤ} (few-vars : m ≤ 4) (W : Within m ds z) where
  -- as the product and the power ask for it
  pub over-remainders : Fit.Within 0 m (terms ℤ_ring z) ds (over_p z)
  over-remainders =
      record {
        normal = normal-red prime prime-pos m z (omega (arith, W.light)) W.normal;
        bounded = bounded-map (red_ℤ prime prime-pos) ds z W.bounded;
        few = omega (arith, count-carried z);
      }

  pub good : Good 0 (over_p z)
  good =
      good-at 0 m (over_p z) few-vars (normal-red prime prime-pos m z (omega (arith, W.light)) W.normal)
      (bounded-map (red_ℤ prime prime-pos) (limits m) z (bounded-mono z ds (limits m) (below-limits m ds W.sized W.low) W.bounded))

  pub few_words : length (enc 0 (over_p z)) ≤ 3073
  few_words =
      omega (
        arith,
        size-enc 0 (over_p z),
        size-map (red_ℤ prime prime-pos) z,
        words-3073 ℤ_ring m z few-vars W.normal
            (omega (arith, W.few)),
      )

  -- its code at the front of a table, where h is made there
  pub codes : {h : Form (Leaf 0)} {r : ℕ} {d : List ℕ} → h ≡ over_p z → Made 0 h r d → Codes 0 (over_p z) (take r d)
  codes e M = record { is = M.is ∙ ap (enc 0) e; good = good }

  pub words : {h : Form (Leaf 0)} {r : ℕ} {d : List ℕ} → h ≡ over_p z → Made 0 h r d → r ≤ 3073
  words e M = omega (arith, M.size, ap (λ (x : Form (Leaf 0)). length (enc 0 x)) e, few_words)

  pub decoded : {r : ℕ} {d : List ℕ} → Made 0 (over_p z) r d → dec 0 (take r d) ≡ over_p z
  decoded M = dec-enc (codes refl M)

  pub result-text : {l : List ℕ} → Codes 0 (over_p z) l → text_of (dec 0 l) ≡ text z
  result-text C = ap text_of (dec-enc C) ∙ text-reduced z W.light

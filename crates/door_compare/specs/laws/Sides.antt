-- Two forms whose codes were made side by side, and the tables in which their difference is searched.
use Rattle.reply.specs.declared.Comparison.TheVariants.{Different}
use Rattle.reply.specs.definitions.Calls.{Compared}
use Rattle.std.specs.Prelude.{Ok, List, ◌++◌, ◌≡◌, ℕ, ◌+◌, ◌-◌, ◌≤◌, length, take, drop}
use Rattle.std.proofs.Common.{sym, ap, ◌∙◌, subst, arith, length-drop, length-take-le}
use Rattle.std.proofs.Math.Path.{ap₂}
use Rattle.horner.specs.definitions.Form.{Form}
use Rattle.code.proofs.Lists.{begins-le}
use Rattle.code.proofs.Making.{front-codes}
use Rattle.code.proofs.Regions.{region-sub}
use Rattle.code.specs.Coding.{Codes, Good, Made, dec}
use Rattle.code.specs.Operations.{sum_of, negate_of, value_of}
use Rattle.code.specs.Widths.{Leaf}
use Rattle.code.specs.laws.Codes.{coded, dec-enc, tail-part}
use Rattle.code_point.specs.Points.{point_of, Ready}
use Rattle.run_code.specs.Decoding.{form_at}
use Rattle.door_terms.specs.Terms.{Paired, CodedSides}
use Rattle.door_terms.specs.laws.Forms.{sides-front}
use Rattle.door_compare.specs.Compare.{Sides, gap_of, Rooms, Parted}

module _ {F G : Form (Leaf 0)} {x y : ℕ} {d : List ℕ} (gF : Good 0 F) (gG : Good 0 G) (L : Made 0 F x d) (R : Made 0 G y (drop x d)) where
  pub sides-inside : x + y ≤ length d
  sides-inside = omega (arith, begins-le L, begins-le R, length-drop x d)

  abbrev pub l : List ℕ
  l = take (x + y) d

  length-l : length l ≡ x + y
  length-l = length-take-le (x + y) d sides-inside

  left-codes : Codes 0 F (take x l)
  left-codes = subst (Codes 0 F) (sym (region-sub 0 (x + y) 0 x d (omega arith))) (front-codes L gF)

  right-codes : Codes 0 G (drop x l)
  right-codes =
      let e : length l - x ≡ y = omega (arith, length-l) in
      let z : 0 + x ≡ x = omega arith in
      subst (Codes 0 G)
      (sym (sym (tail-part x l) ∙ ap (λ n. take n (drop x l)) e ∙ region-sub 0 (x + y) x y d (omega arith) ∙ ap (λ i. take y (drop i d)) z))
      (front-codes R gG)

  pub made-sides : Sides x l
  made-sides = record { inside = omega (arith, length-l); left = coded left-codes; right = coded right-codes }

  pub left_is : dec 0 (take x l) ≡ F
  left_is = dec-enc left-codes

  pub right_is : dec 0 (drop x l) ≡ G
  right_is = dec-enc right-codes

  gap_is : gap_of x l ≡ sum_of 0 F (negate_of 0 G)
  unfolding gap_of
  gap_is = ap₂ (λ u v. sum_of 0 u (negate_of 0 v)) left_is right_is

  pub gap-ready : (n : ℕ) → Ready n (sum_of 0 F (negate_of 0 G)) → Ready n (gap_of x l)
  gap-ready n h = subst (Ready n) (sym gap_is) h

  pub told-parted : (n : ℕ) {r : Compared} {p p' : List ℕ}
      → (let N = point_of n (gap_of x l) in r ≡ Ok (Different (value_of 0 (dec 0 (take x l)) N) (value_of 0 (dec 0 (drop x l)) N)))
      × (p' ≡ point_of n (gap_of x l) ++ drop n p)
      → Parted n F G r p p'
  told-parted n {r} {p} {p'} h =
      record {
        answer =
            h.0
            ∙ ap₂ (λ v w. Ok (Different v w)) (ap₂ (value_of 0) left_is (ap (point_of n) gap_is))
            (ap₂ (value_of 0) right_is (ap (point_of n) gap_is));
        point = h.1 ∙ ap (λ z. point_of n z ++ drop n p) gap_is;
      }

-- ---- the codes of two runs' forms, side by side at the front of a table
module _ {n k e : ℕ} {d : List ℕ} (P : Paired n k e d) {x y : ℕ} {out : List ℕ} (a : List ℕ) (C : CodedSides n k (take e d) x y out) where
  C' : CodedSides n k (take e d) x y (out ++ a)
  C' = sides-front out a C

  abbrev F : Form (Leaf 0)
  F = form_at n 0 (take k (take e d))

  abbrev G : Form (Leaf 0)
  G = form_at n 0 (drop k (take e d))

  abbrev codes : List ℕ
  codes = take (x + y) (out ++ a)

  pub forms-sides : Sides x codes
  forms-sides = made-sides P.left-good P.right-good C'.left C'.right

  pub forms-few : length codes ≤ 6146
  forms-few =
      omega (
        arith,
        length-take-le (x + y) (out ++ a) (sides-inside P.left-good P.right-good C'.left C'.right),
        C'.left.size,
        C'.right.size,
        P.coding.left.words,
        P.coding.right.words,
      )

  pub forms-left : dec 0 (take x codes) ≡ F
  forms-left = left_is P.left-good P.right-good C'.left C'.right

  pub forms-right : dec 0 (drop x codes) ≡ G
  forms-right = right_is P.left-good P.right-good C'.left C'.right

  pub forms-ready : Ready n (sum_of 0 F (negate_of 0 G)) → Ready n (gap_of x codes)
  forms-ready h = gap-ready P.left-good P.right-good C'.left C'.right n h

  pub forms-told : {r : Compared} {p p' : List ℕ}
      → (let N = point_of n (gap_of x codes) in r ≡ Ok (Different (value_of 0 (dec 0 (take x codes)) N) (value_of 0 (dec 0 (drop x codes)) N)))
      × (p' ≡ point_of n (gap_of x codes) ++ drop n p)
      → Parted n F G r p p'
  forms-told h = told-parted P.left-good P.right-good C'.left C'.right n h

-- ---- two runs side by side in the first e words of d, one in the first k

-- two forms of at most 3,073 words each, in tables of the fixed length
pub wide-rooms : {n b c : ℕ} → n ≤ 6146 → b ≡ 16384 → c ≡ 16384 → Rooms n b c
wide-rooms h i j = omega arith

-- The value of a form, from the values of its parts.
-- Assumes nothing.
use Rattle.std.proofs.Common.{refl, length, sym, ap, arith, List, [], ◌∷◌, ℕ, zero, suc, ◌+◌, ◌-◌, min}
use Rattle.std.proofs.Math.Path.{◌≡◌, ◌∙◌}
use Rattle.std.specs.Prelude.{take, drop}
use mathlib.Core.List.{map}
use Rattle.std.proofs.Math.ListN.{get_or}
use Rattle.std.proofs.Math.Seq.{get_or-drop}
use Rattle.horner.specs.definitions.Form.{Form, evalh}
use Rattle.code.specs.Widths.{add_by, mul_by, pow_by, modulus, Leaf, ring_of, leaf}
use Rattle.code.specs.Coding.{dec}
use Rattle.code.specs.Operations.{value_of}
use Rattle.code.specs.laws.Codes.{IsInt, tail-part}
use Rattle.code.specs.laws.Parts.{inner, left_of, right_of, PopOf, PowOf}
use Rattle.code.specs.laws.Widths.{leaf-number, zero-leaf, power-number}
use Rattle.code_walk.specs.Points.{Leaves}

pub leaves-tail : {w : ℕ} {l : List ℕ} (a : ℕ) → Leaves w l → Leaves w (take (length l - a) (drop a l))
leaves-tail {w} {l} a r = record { below = λ k. rw (tail-part a l, get_or-drop) (r.below (a + k)) }

-- at most all of a list can be dropped
drop-least : (i : ℕ) (l : List ℕ) → drop (min i (length l)) l ≡ drop i l
drop-least zero l =
    let e : min 0 (length l) ≡ 0 = omega arith in
    rw e
drop-least (suc i) [] =
    let e : min (suc i) 0 ≡ 0 = omega arith in
    rw e
drop-least (suc i) (x ∷ l) =
    let e : min (suc i) (suc (length l)) ≡ suc (min i (length l)) = omega arith in
    rw e (drop-least i l)

drop-map : {A B : Type 0} (f : A → B) (i : ℕ) (l : List A) → drop i (map f l) ≡ map f (drop i l)
drop-map f zero l = refl
drop-map f (suc i) [] = refl
drop-map f (suc i) (x ∷ l) = drop-map f i l

pub eval-int : {w : ℕ} {h : Form (Leaf w)} {x : ℕ} (l : List ℕ) → IsInt w h x → x ≡ value_of w h l
unfolding value_of
eval-int {w} {h} {x} l v = sym (leaf-number w x v.below) ∙ rw v.is

pub eval-pop :
    {w i : ℕ} {k : List ℕ} (l : List ℕ) → PopOf w k i →
    value_of w (dec w (inner k)) (take (length l - min i (length l)) (drop (min i (length l)) l)) ≡ value_of w (dec w k) l
unfolding value_of
eval-pop {w} {i} {k} l v =
    rw (tail-part (min i (length l)) l, drop-least)
    (ap (λ N. (evalh (ring_of w) (dec w (inner k)) N).0) (sym (drop-map (leaf w) i l)) ∙ ap (λ z. value_of w z l) (sym v.is))

pub eval-none : {w i s : ℕ} {k : List ℕ} (l : List ℕ) → PowOf w k i s → length l ≡ 0 → 0 ≡ value_of w (dec w k) l
unfolding value_of
eval-none {w} [] v e = sym (zero-leaf w) ∙ ap (λ z. value_of w z []) (sym v.is)
eval-none (n ∷ l) v e = absurd (omega arith)

pub eval-pow :
    {w i s : ℕ} {k : List ℕ} (l : List ℕ) → PowOf w k i s → (length l ≡ 0 → ⊥) → Leaves w l →
    let m = modulus w in
    add_by m (mul_by m (pow_by m (get_or l 0 0) i) (value_of w (dec w (left_of s k)) l))
    (value_of w (dec w (right_of s k)) (take (length l - 1) (drop 1 l)))
    ≡ value_of w (dec w k) l
unfolding value_of
eval-pow [] v n r = absurd (n refl)
eval-pow {w} {i} {s} {k} (n ∷ l) v z r =
    let m = modulus w in
    let b : (leaf w n).0 ≡ n = leaf-number w n (r.below 0) in
    rw (tail-part 1 (n ∷ l))
    (ap (λ z. add_by m (mul_by m z (value_of w (dec w (left_of s k)) (n ∷ l))) (value_of w (dec w (right_of s k)) l))
    (ap (λ z. pow_by m z i) (sym b) ∙ sym (power-number w (leaf w n) i))
    ∙ ap (λ z. value_of w z (n ∷ l)) (sym v.is))

-- Which run goes first in a product, and one turn of a power.
use Rattle.std.specs.Prelude.{not, List, [], ◌≡◌, refl, ℕ, suc, ◌+◌, ◌≤◌, ◌<◌, T, leb, length, take}
use Rattle.std.proofs.Common.{sym, ◌∙◌, ap, ap₂, subst, arith, leb→le}
use Rattle.std.proofs.Math.Dec.{nleb→lt}
use Rattle.horner.proofs.laws.Tests.{cond_cases}
use Rattle.run_merge.specs.Words.{pairs, produced}
use Rattle.run_stack.specs.Stack.{multiplied, ProductRoom, raised, Beside}

-- the shorter run goes first, on whichever side it stands
pub left-first : (x y : List ℕ) → length x ≤ length y → produced [] (pairs x) y ≡ multiplied x y
unfolding multiplied
left-first x y h =
    cond_cases (leb (length x) (length y)) (λ z. produced [] (pairs x) y ≡ z) _ _
    (λ e. refl)
    (λ e. absurd (omega (arith, nleb→lt (length x) (length y) (subst (λ b. T (not b)) (sym e) tt))))

pub right-first : (x y : List ℕ) → length y < length x → produced [] (pairs y) x ≡ multiplied x y
unfolding multiplied
right-first x y h =
    cond_cases (leb (length x) (length y)) (λ z. produced [] (pairs y) x ≡ z) _ _
    (λ e. absurd (omega (arith, leb→le (length x) (length y) (subst T (sym e) tt))))
    (λ e. refl)

-- the first power is the run itself, the second the product with itself
pub raised-none : (x : List ℕ) → x ≡ raised 0 x
unfolding raised
raised-none x = refl

pub raised-one : (x : List ℕ) → multiplied x x ≡ raised 1 x
unfolding raised
raised-one x = refl

raised-more : (x : List ℕ) (i : ℕ) → multiplied x (raised i x) ≡ raised (suc i) x
unfolding raised
raised-more x i = refl

-- the room of a product of equal runs
pub room_as : {x y x' y' : List ℕ} {w : ℕ} → x ≡ x' → y ≡ y' → ProductRoom x y w → ProductRoom x' y' w
room_as {x} {y} {x'} {y'} {w} e f h = subst (λ z. ProductRoom z y' w) e (subst (λ z. ProductRoom x z w) f h)

-- what the next turn asks, and what it leaves
module _ {x stack out : List ℕ} {a m : ℕ} (i : ℕ) (now : Beside x (raised i x) a m stack out) where
  pub turn-room : {v w : ℕ} → v ≡ w → ProductRoom x (raised i x) w → ProductRoom (take a stack) (take m out) v
  turn-room {v} {w} e h = subst (ProductRoom (take a stack) (take m out)) (sym e) (room_as (sym now.kept) (sym now.written.is) h)

  pub turn-next : {r : ℕ} {stack' out' : List ℕ} →
      Beside (take a stack) (multiplied (take a stack) (take m out)) a r stack' out' → Beside x (raised (i + 1) x) a r stack' out'
  turn-next {r} {stack'} {out'} h =
      let one : suc i ≡ i + 1 = omega arith in
      let z = ap₂ multiplied now.kept now.written.is ∙ raised-more x i ∙ ap (λ j. raised j x) one in
      record {
        kept = h.kept ∙ now.kept;
        written = record { size = h.written.size ∙ ap length z; is = h.written.is ∙ z };
      }

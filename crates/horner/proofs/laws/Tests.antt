-- Boolean tests, and what they say.
use Rattle.std.specs.Prelude.{Bool, true, false, cond, ◌&&◌, not, ◌≡◌, refl, T}
use Rattle.std.proofs.Common.{sym, subst}

-- a test of a Boolean, with what it says
pub cond_cases : {B : Type 0} (b : Bool) (P : B → Type 0) (x y : B) → (b ≡ true → P x) → (b ≡ false → P y) → P (cond b x y)
cond_cases true P x y f g = f refl
cond_cases false P x y f g = g refl

pub is_true : (b : Bool) → T b → b ≡ true
is_true true t = refl
is_true false t = absurd t

pub is_false : (b : Bool) → T (not b) → b ≡ false
is_false true t = absurd t
is_false false t = refl

pub true-is : {b : Bool} → b ≡ true → T b
true-is e = subst T (sym e) tt

pub and_both : (a b : Bool) → T (a && b) → T a × T b
and_both true b t = (tt, t)
and_both false b t = absurd t

pub and_intro : (a b : Bool) → T a → T b → T (a && b)
and_intro true b s t = t
and_intro false b s t = absurd s

-- What y is worked out to be is the remainder of x, and below P.
use Rattle.std.proofs.Common.{◌≡◌, refl, sym, subst, ℕ, ◌%◌, ◌<◌, arith}
use Rattle.std.proofs.Math.Nat.{mod-lt}
use Rattle.horner.specs.definitions.Rings.{prime, prime-pos}
use Rattle.code_remainder.specs.Folding.{WorkedOut, adding, becoming, staying, worked-remainder, folded-less}
use Rattle.code_remainder.proofs.by_p.Goals as goal

-- what is worked out is the remainder, below P
meets : {x r : ℕ} → WorkedOut x r → (r ≡ x % prime) × (r < prime)
meets {x} {r} w =
    let e : r ≡ x % prime = worked-remainder w in
    (e, subst (λ n. n < prime) (sym e) (mod-lt x prime-pos))

pub loop-y-smaller : goal.loop-y-smaller
loop-y-smaller c = omega (arith, c.fold-y.ensures, folded-less c.loop-y.y c.loop-y-test.true)

pub loop-y-preserved : goal.loop-y-preserved
loop-y-preserved c r w =
    c.loop-y.invariant r (adding c.loop-y.y r c.loop-y-test.true (subst (λ n. WorkedOut n r) c.fold-y.ensures w))

pub returns-then-y-eq2147483647 : goal.returns-then-y-eq2147483647
returns-then-y-eq2147483647 c = meets (c.loop-y.invariant _ (becoming c.loop-y.y _ c.if-y-eq2147483647.true refl))

pub returns : goal.returns
returns c =
    let s : c.loop-y.y < 2147483647 = omega arith in
    meets (c.loop-y.invariant c.loop-y.y (staying c.loop-y.y c.loop-y.y s refl))

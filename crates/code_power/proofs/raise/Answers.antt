-- `code_power::raise` meets its contract. The loop's invariant: x stands at the front of s, and behind it its _i-th power.
-- Assumes nothing.
use Rattle.std.proofs.Common.{sym, ap, subst, arith, length, length-set, length-take, ◌+◌, ◌-◌, ◌<◌}
use Rattle.std.proofs.Math.Path.{◌≡◌, ◌∙◌}
use Rattle.std.specs.Prelude.{take, drop, set}
use Rattle.code.specs.Coding.{Begins, dec, enc}
use Rattle.code.proofs.Lists.{begins-as, copied-front, length-tail-part}
use Rattle.code_room.proofs.laws.Fit.{fit-prod}
use Rattle.code_power.specs.Raise.{raise_of}
use Rattle.code_power.specs.laws.Raise.{raise-room, raise-behind}
use Rattle.code_power.proofs.Stack.{made_one, stacked-one, stacked, stack-fits, turn-codes, turn-space, turn-product, turn-next}
use Rattle.code_power.proofs.raise.Goals as goal

pub bounds-s-0 : goal.bounds-s-0
bounds-s-0 c = omega (arith, raise-room c.requires.raising)

pub returns-then-k-eq0 : goal.returns-then-k-eq0
returns-then-k-eq0 c =
    subst
    (λ z. Begins 1 (enc c.args.width (raise_of c.args.width (dec c.args.width (take c.args.n c.args.s.now)) z)) (set c.args.s.now 0 1))
    (sym c.if-k-eq0.true) (made_one c.args.width (dec c.args.width (take c.args.n c.args.s.now)) c.args.s.now
    (omega (arith, raise-room c.requires.raising)))

pub bounds-s-n : goal.bounds-s-n
bounds-s-n c = omega (arith, raise-behind c.requires.raising (omega (arith, c.if-k-eq0.false)))

pub loop-i-init : goal.loop-i-init
loop-i-init c =
    stacked-one c.args.n c.args.s.now c.requires.coded (omega (arith, raise-behind c.requires.raising (omega (arith, c.if-k-eq0.false))))

pub multiply-m-requires : goal.multiply-m-requires
multiply-m-requires c =
    let below : c.loop-i._i < c.args.k = omega (arith, c.loop-i-test.true) in
    record {
      m_in_bounds = stack-fits c.loop-i.invariant;
      coded = turn-codes c.requires.raising c.requires.coded.good c.loop-i.invariant below;
      space = turn-space c.requires.raising c.requires.coded.good c.loop-i.invariant below c.loop-i.auto.out c.loop-i.auto.t c.loop-i.auto.u;
    }

pub copy-requires : goal.copy-requires
copy-requires c =
    let below : c.loop-i._i < c.args.k = omega (arith, c.loop-i-test.true) in
    omega (
      arith,
      c.multiply-m.ensures.size,
      ap (λ h. length (enc c.args.width h)) (turn-product c.requires.raising c.requires.coded.good c.loop-i.invariant below),
      c.requires.raising.lower (c.loop-i._i + 1) (omega (arith, c.loop-i-test.true)),
      c.requires.raising.fits,
      length-take c.multiply-m.result c.multiply-m.new.out,
      length-tail-part c.args.n c.loop-i.s,
      length-set c.args.s.now c.args.n 1,
    )

pub loop-i-preserved : goal.loop-i-preserved
loop-i-preserved c =
    let below : c.loop-i._i < c.args.k = omega (arith, c.loop-i-test.true) in
    let s = c.loop-i.s in
    turn-next c.requires.raising c.requires.coded.good c.loop-i.invariant below
    (stacked c.args.n c.multiply-m.result s c.copy.new.out
    (turn-codes c.requires.raising c.requires.coded.good c.loop-i.invariant below).0
    (omega (arith, stack-fits c.loop-i.invariant))
    (copied-front (drop (length (take c.multiply-m.result c.multiply-m.new.out)) (take (length s - c.args.n) (drop c.args.n s)))
    c.multiply-m.ensures c.copy.ensures)
    (fit-prod (turn-space c.requires.raising c.requires.coded.good c.loop-i.invariant below c.loop-i.auto.out c.loop-i.auto.t
    c.loop-i.auto.u).fit).good)

pub multiply-m-requires-2 : goal.multiply-m-requires-2
multiply-m-requires-2 c =
    let below : c.loop-i._i < c.args.k = omega (arith, c.if-k-eq0.false) in
    record {
      m_in_bounds = stack-fits c.loop-i.invariant;
      coded = turn-codes c.requires.raising c.requires.coded.good c.loop-i.invariant below;
      space = turn-space c.requires.raising c.requires.coded.good c.loop-i.invariant below c.loop-i.auto.out c.loop-i.auto.t c.loop-i.auto.u;
    }

pub copy-requires-2 : goal.copy-requires-2
copy-requires-2 c =
    let x = dec c.args.width (take c.args.n c.args.s.now) in
    let at-end : c.loop-i._i + 1 ≡ c.args.k = omega (arith, c.loop-i-test.false, c.if-k-eq0.false) in
    let made = turn-product c.requires.raising c.requires.coded.good c.loop-i.invariant (omega (arith, at-end))
    ∙ ap (raise_of c.args.width x) at-end in
    omega (
      arith,
      c.multiply-m-2.ensures.size,
      ap (λ h. length (enc c.args.width h)) made,
      c.requires.raising.whole,
      length-take c.multiply-m-2.result c.multiply-m-2.new.out,
      length-set c.args.s.now c.args.n 1,
    )

pub returns : goal.returns
returns c =
    let x = dec c.args.width (take c.args.n c.args.s.now) in
    let at-end : c.loop-i._i + 1 ≡ c.args.k = omega (arith, c.loop-i-test.false, c.if-k-eq0.false) in
    begins-as
    (copied-front (drop (length (take c.multiply-m-2.result c.multiply-m-2.new.out)) c.loop-i.s) c.multiply-m-2.ensures c.copy-2.ensures)
    (ap (enc c.args.width) (turn-product c.requires.raising c.requires.coded.good c.loop-i.invariant (omega (arith, at-end))
    ∙ ap (raise_of c.args.width x) at-end))

-- `run_stack::raise` meets its contract. The loop's invariant: the run stands at the front of stack, and its power _i + 1 at that of out.
-- Assumes nothing.
use Rattle.std.proofs.Common.{refl, length, sym, ap, arith, length-take, length-take-le, ◌-◌}
use Rattle.std.proofs.Math.Path.{◌≡◌, ◌∙◌}
use Rattle.std.specs.Prelude.{take, drop}
use Rattle.code.proofs.Lists.{begins-le, begins-as, copied-front}
use Rattle.run_stack.specs.Stack.{raised}
use Rattle.run_stack.specs.laws.Stack.{raised-none, raised-one, room_as, turn-room, turn-next}
use Rattle.run_stack.proofs.raise.Goals as goal

pub returns-then-d-eq0 : goal.returns-then-d-eq0
returns-then-d-eq0 c =
    let x = take c.args.a c.args.stack.now in
    begins-as (record { size = sym (length-take-le c.args.a c.args.stack.now c.requires.le_k.1); is = refl })
    (raised-none x ∙ ap (λ j. raised j x) (sym c.if-d-eq0.true))

pub product-m-requires-clause-product_room : goal.product-m-requires-clause-product_room
product-m-requires-clause-product_room c =
    room_as refl (sym (raised-none (take c.args.a c.args.stack.now))) (c.requires.power_room.step 0 (omega (arith, c.if-d-eq0.false)))

pub loop-i-init : goal.loop-i-init
loop-i-init c =
    record { kept = refl; written = begins-as c.product-m.ensures (raised-one (take c.args.a c.args.stack.now)) }

pub next-m-requires-clause-m_in_bounds : goal.next-m-requires-clause-m_in_bounds
next-m-requires-clause-m_in_bounds c = (
  omega (
    arith,
    c.loop-i.invariant.written.size,
    c.requires.power_room.behind c.loop-i._i c.loop-i-test.true,
    length-take-le c.args.a c.args.stack.now c.requires.le_k.1,
  ),
  begins-le c.loop-i.invariant.written,
  omega arith,
)

pub next-m-requires-clause-product_room : goal.next-m-requires-clause-product_room
next-m-requires-clause-product_room c =
    turn-room c.loop-i._i c.loop-i.invariant (omega arith) (c.requires.power_room.step c.loop-i._i c.loop-i-test.true)

pub loop-i-preserved : goal.loop-i-preserved
loop-i-preserved c = turn-next c.loop-i._i c.loop-i.invariant c.next-m.ensures

pub slice_bounds-copy-end : goal.slice_bounds-copy-end
slice_bounds-copy-end c = begins-le c.loop-i.invariant.written

pub slice_bounds-copy-end-2 : goal.slice_bounds-copy-end-2
slice_bounds-copy-end-2 c = sym (length-take-le c.loop-i.m c.loop-i.out (begins-le c.loop-i.invariant.written))

pub copy-requires : goal.copy-requires
copy-requires c =
    let at-end : c.loop-i._i ≡ c.args.k - 1 = omega (arith, c.loop-i-test.false, c.if-d-eq0.false) in
    omega (
      arith,
      length-take c.loop-i.m c.loop-i.out,
      c.loop-i.invariant.written.size,
      ap (λ j. length (raised j (take c.args.a c.args.stack.now))) at-end,
      c.requires.power_room.fits,
    )

pub returns : goal.returns
returns c =
    let at-end : c.loop-i._i ≡ c.args.k - 1 = omega (arith, c.loop-i-test.false, c.if-d-eq0.false) in
    begins-as
    (copied-front (drop (length (take c.loop-i.m c.loop-i.out)) c.loop-i.stack) c.loop-i.invariant.written c.copy.ensures)
    (ap (λ j. raised j (take c.args.a c.args.stack.now)) at-end)

-- `run_code::to_code` meets its contract.
-- Assumes nothing.
use Rattle.std.proofs.Common.{refl, arith, ◌+◌, ◌-◌}
use Rattle.std.specs.Prelude.{take, drop, length}
use Rattle.code.specs.laws.Codes.{coded}
use Rattle.code.specs.laws.Sizes.{enc-pos}
use Rattle.code.proofs.Lists.{begins-as, begins-set, length-tail-part}
use Rattle.code.proofs.Making.{one-put, pop-asks, pop-gives, pow-asks, pow-gives}
use Rattle.run_code.specs.Decoding.{form_at}
use Rattle.run_code.specs.laws.Cutting.{none-code, leaf-code, unit-small}
use Rattle.run_code.specs.laws.Parts.{form-good}
use Rattle.run_code.proofs.Made.{room-for, pop-found, pop-made, pow-found, pow-made}
use Rattle.run_code.proofs.+to_code.Goals as goal

pub bounds-out-0 : goal.bounds-out-0
bounds-out-0 t c = omega (arith, room-for c.args.n c.args.base c.args.x.now c.requires.n_in_bounds.0)

pub returns-then-x-lt2 : goal.returns-then-x-lt2
returns-then-x-lt2 t c =
    begins-as (begins-set c.args.out.now 0 (omega (arith, room-for c.args.n c.args.base c.args.x.now c.requires.n_in_bounds.0)))
    (none-code c.args.n c.args.base c.args.x.now (omega (arith, c.if-x-lt2.true)))

pub bounds-out-0-then-n-eq0 : goal.bounds-out-0-then-n-eq0
bounds-out-0-then-n-eq0 t c = omega (arith, room-for c.args.n c.args.base c.args.x.now c.requires.n_in_bounds.0)

pub returns-then-n-eq0 : goal.returns-then-n-eq0
returns-then-n-eq0 t c =
    begins-as (begins-set c.args.out.now _ (omega (arith, room-for c.args.n c.args.base c.args.x.now c.requires.n_in_bounds.0)))
    (leaf-code c.args.n c.args.base c.args.x.now c.if-n-eq0.true (omega (arith, c.if-x-lt2.false)) c.requires.placed.0)

pub overflow_add-base : goal.overflow_add-base
overflow_add-base t c =
    omega (arith, c.requires.n_bound, c.unit_of-unit.ensures, unit-small (c.args.n - 1) (omega (arith, c.requires.n_bound)))

-- ---- the cut is at the beginning

pub to_code-a-requires : goal.to_code-a-requires
to_code-a-requires t c =
    let v = pop-found c.if-n-eq0.false c.unit_of-unit.ensures c.requires.placed.0 c.cut-e.ensures c.if-e-eq0.true in (
      omega (arith, c.if-n-eq0.false),
      (
        (v.placed, c.requires.placed.1),
        (
          (omega (arith, c.requires.n_bound), c.requires.n_bound.1),
          (
            omega (arith, v.words, c.requires.n_in_bounds, length-tail-part 1 c.args.out.now),
            omega (arith, c.requires.n_in_bounds, length-tail-part 1 c.args.out.now),
          ),
        ),
      ),
    )

pub make_pop-requires-clause-coded : goal.make_pop-requires-clause-coded
make_pop-requires-clause-coded t c =
    let v = pop-found c.if-n-eq0.false c.unit_of-unit.ensures c.requires.placed.0 c.cut-e.ensures c.if-e-eq0.true in
    coded (pop-made c.args.out.now v c.requires.n_bound.0 (room-for c.args.n c.args.base c.args.x.now c.requires.n_in_bounds.0) c.to_code-a.ensures)

pub make_pop-requires-clause-good : goal.make_pop-requires-clause-good
make_pop-requires-clause-good t c =
    let v = pop-found c.if-n-eq0.false c.unit_of-unit.ensures c.requires.placed.0 c.cut-e.ensures c.if-e-eq0.true in
    pop-asks 1 (pop-made c.args.out.now v c.requires.n_bound.0 (room-for c.args.n c.args.base c.args.x.now c.requires.n_in_bounds.0) c.to_code-a.ensures) v.is
    (form-good c.args.n c.args.base c.args.x.now c.requires.n_bound.0 c.requires.placed.0)

pub returns-then-e-eq0 : goal.returns-then-e-eq0
returns-then-e-eq0 t c =
    let v = pop-found c.if-n-eq0.false c.unit_of-unit.ensures c.requires.placed.0 c.cut-e.ensures c.if-e-eq0.true in
    pop-gives 1 (pop-made c.args.out.now v c.requires.n_bound.0 (room-for c.args.n c.args.base c.args.x.now c.requires.n_in_bounds.0) c.to_code-a.ensures) v.is
    c.make_pop.ensures

-- ---- it is not

pub overflow_sub-x : goal.overflow_sub-x
overflow_sub-x t c =
    omega (
      arith,
      (pow-found c.if-n-eq0.false c.unit_of-unit.ensures refl c.requires.placed.0 c.requires.placed.1 c.cut-e.ensures
          c.if-e-eq0.false).from,
    )

pub to_code-a-requires-2 : goal.to_code-a-requires-2
to_code-a-requires-2 t c =
    let v = pow-found c.if-n-eq0.false c.unit_of-unit.ensures c.first_exponent-i.ensures c.requires.placed.0 c.requires.placed.1 c.cut-e.ensures
    c.if-e-eq0.false in (
      omega (arith, v.less-front),
      (
        (v.front, v.even-front),
        (
          (c.requires.n_bound.0, omega (arith, v.higher, v.small)),
          (
            omega (
              arith,
              v.words,
              c.requires.n_in_bounds,
              length-tail-part 1 c.args.out.now,
              enc-pos 0 (form_at (c.args.n - 1) c.args.base (take (length c.args.x.now - c.cut-e.result) (drop c.cut-e.result c.args.x.now))),
            ),
            omega (arith, c.requires.n_in_bounds, length-tail-part 1 c.args.out.now),
          ),
        ),
      ),
    )

pub to_code-b-requires : goal.to_code-b-requires
to_code-b-requires t c =
    let v = pow-found c.if-n-eq0.false c.unit_of-unit.ensures c.first_exponent-i.ensures c.requires.placed.0 c.requires.placed.1 c.cut-e.ensures
    c.if-e-eq0.false in
    let l = length-tail-part (1 + c.to_code-a-2.result) (one-put c.args.out.now c.to_code-a-2.new.out) in (
      omega (arith, v.less-back),
      (
        (v.back, v.even-back),
        (
          (omega (arith, c.requires.n_bound), c.requires.n_bound.1),
          (
            omega (arith, v.words, c.to_code-a-2.ensures.size, c.requires.n_in_bounds, l),
            omega (arith, c.requires.n_in_bounds, l),
          ),
        ),
      ),
    )

pub make_pow-requires-clause-coded : goal.make_pow-requires-clause-coded
make_pow-requires-clause-coded t c =
    let v = pow-found c.if-n-eq0.false c.unit_of-unit.ensures c.first_exponent-i.ensures c.requires.placed.0 c.requires.placed.1 c.cut-e.ensures
    c.if-e-eq0.false in
    let made = pow-made c.args.out.now v c.requires.n_bound.0 c.requires.n_in_bounds.0 (omega arith) c.to_code-a-2.ensures c.to_code-b.ensures in
    (coded made.0, coded made.1)

pub make_pow-requires-clause-i_nonzero : goal.make_pow-requires-clause-i_nonzero
make_pow-requires-clause-i_nonzero t c =
    (pow-found c.if-n-eq0.false c.unit_of-unit.ensures c.first_exponent-i.ensures c.requires.placed.0 c.requires.placed.1 c.cut-e.ensures
    c.if-e-eq0.false).pos

pub make_pow-requires-clause-good : goal.make_pow-requires-clause-good
make_pow-requires-clause-good t c =
    let v = pow-found c.if-n-eq0.false c.unit_of-unit.ensures c.first_exponent-i.ensures c.requires.placed.0 c.requires.placed.1 c.cut-e.ensures
    c.if-e-eq0.false in
    pow-asks _ (pow-made c.args.out.now v c.requires.n_bound.0 c.requires.n_in_bounds.0 (omega arith) c.to_code-a-2.ensures c.to_code-b.ensures)
    v.is (form-good c.args.n c.args.base c.args.x.now c.requires.n_bound.0 c.requires.placed.0)

pub returns : goal.returns
returns t c =
    let v = pow-found c.if-n-eq0.false c.unit_of-unit.ensures c.first_exponent-i.ensures c.requires.placed.0 c.requires.placed.1 c.cut-e.ensures
    c.if-e-eq0.false in
    pow-gives _ (pow-made c.args.out.now v c.requires.n_bound.0 c.requires.n_in_bounds.0 (omega arith) c.to_code-a-2.ensures c.to_code-b.ensures)
    v.is c.make_pow.ensures

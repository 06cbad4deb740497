-- `code_point::first_point` meets its contract: the least number that leaves a form that is not 0, and the first point of that form behind
-- it. The measure is the number of variables. Assumes nothing.
use Rattle.std.proofs.Common.{◌∷◌, ◌++◌, refl, sym, ap, subst, arith, length-take-le, ◌-◌}
use Rattle.std.specs.Prelude.{take, drop}
use Rattle.std.proofs.Math.Path.{◌∙◌}
use Rattle.code.specs.Coding.{dec}
use Rattle.code.specs.laws.Codes.{coded, dec-enc}
use Rattle.code.proofs.Lists.{begins-le, length-after-set}
use Rattle.code_point.specs.Points.{point_of, Ready}
use Rattle.code_point.proofs.Forms.{room-kept, left-short}
use Rattle.code_point.proofs.Steps.{copied, no-point, some-fails, next-ready, next-point, put-point}
use Rattle.code_point.proofs.+first_point.Goals as goal

pub returns-then-n-eq0 : goal.returns-then-n-eq0
returns-then-n-eq0 t c =
    no-point c.args.n (take c.args.k c.args.x.now) c.args.point.now c.if-n-eq0.true

pub least_value-f-requires : goal.least_value-f-requires
least_value-f-requires t c =
    let k = length-take-le c.args.k c.args.x.now c.requires.k_in_bounds.0 in
    record {
      coded = c.requires.coded;
      room_under = (room-kept c.requires.room_under.0 (omega (arith, k)) refl, room-kept c.requires.room_under.1 (omega (arith, k)) refl);
      fails = some-fails c.args.n c.if-n-eq0.false c.requires.coded c.requires.ready;
    }

pub copy-requires : goal.copy-requires
copy-requires t c =
    omega (
      arith,
      length-take-le c.least_value-f.result.words c.least_value-f.new.out
          (begins-le c.least_value-f.ensures.1),
      left-short c.least_value-f.result.value c.requires.coded c.least_value-f.ensures.1,
      length-take-le c.args.k c.args.x.now c.requires.k_in_bounds.0,
      c.requires.k_in_bounds.0,
    )

pub first_point-requires : goal.first_point-requires
first_point-requires t c =
    let k = length-take-le c.args.k c.args.x.now c.requires.k_in_bounds.0 in
    let m = left-short c.least_value-f.result.value c.requires.coded c.least_value-f.ensures.1 in
    let v = copied c.args.x.now c.copy.new.out c.least_value-f.result.value c.requires.coded c.least_value-f.ensures.1
    c.copy.ensures in (
      omega (arith, c.decreases, c.if-n-eq0.false),
      (
        (
          omega (arith, m, k, c.requires.k_in_bounds.0, c.copy.auto.out),
          omega (arith, c.requires.k_in_bounds.1, length-after-set c.args.point.now c.least_value-f.result.value),
        ),
        (
          coded v,
          (
            (
              room-kept c.requires.room_under.0 (omega (arith, m, k)) c.least_value-f.auto.out,
              room-kept c.requires.room_under.1 (omega (arith, m, k)) c.least_value-f.auto.spare,
            ),
            subst (Ready (c.args.n - 1)) (sym (dec-enc v))
                (next-ready c.args.n c.if-n-eq0.false c.requires.coded c.requires.ready c.least_value-f.result.value
                c.least_value-f.ensures.0),
          ),
        ),
      ),
    )

pub returns : goal.returns
returns t c =
    let v = copied c.args.x.now c.copy.new.out c.least_value-f.result.value c.requires.coded c.least_value-f.ensures.1
    c.copy.ensures in
    let e = ap (λ h. c.least_value-f.result.value ∷ point_of (c.args.n - 1) h) (dec-enc v)
    ∙ next-point c.args.n c.if-n-eq0.false c.requires.coded c.requires.ready c.least_value-f.result.value c.least_value-f.ensures.0 in
    put-point c.args.point.now c.first_point.new.point
    (point_of (c.args.n - 1) (dec 0 (take c.least_value-f.result.words c.copy.new.out))) c.least_value-f.result.value c.args.n
    c.if-n-eq0.false
    (omega (arith, c.requires.k_in_bounds.1, c.if-n-eq0.false)) c.first_point.ensures
    ∙ ap (λ w. w ++ drop c.args.n c.args.point.now) e

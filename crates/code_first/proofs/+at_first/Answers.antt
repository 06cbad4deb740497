-- `code_first::at_first` meets its contract: p with the number put is made in out, scaled into spare, and added to q. The measure is the
-- number of words.
-- Assumes nothing.
use Rattle.std.proofs.Common.{ap, ◌∙◌, arith}
use Rattle.code.specs.Coding.{dec, enc}
use Rattle.code.specs.Operations.{sum_of, scale_of}
use Rattle.code.specs.laws.Codes.{some, dec-enc, coded}
use Rattle.code.specs.laws.Good.{good-pop}
use Rattle.code.specs.laws.Parts.{leaf-said, pop-said, pow-said, left_of, right_of}
use Rattle.code.proofs.Lists.{begins-as, begins-set}
use Rattle.code.proofs.Making.{leaf-code}
use Rattle.code_first.specs.First.{at_first_of}
use Rattle.code_first.specs.laws.First.{first-int, first-pop, first-pow}
use Rattle.code_first.proofs.Scaled.{put-codes, put-short, scaled-codes, scaled-short}
use Rattle.code_first.proofs.+at_first.Goals as goal

pub bounds-x-0 : goal.bounds-x-0
bounds-x-0 t c = some c.requires.coded

pub bounds-out-0 : goal.bounds-out-0
bounds-out-0 t c = omega (arith, some c.requires.coded)

pub returns-in-Leaf : goal.returns-in-Leaf
returns-in-Leaf t c =
    let v = leaf-said c.requires.coded c.in-Leaf.ensures in
    begins-as (begins-set c.args.out.now _ (omega (arith, some c.requires.coded)))
    (leaf-code v ∙ ap (enc c.args.width) (first-int c.args.width c.args.a v))

pub put_lower-requires : goal.put_lower-requires
put_lower-requires t c =
    let v = pop-said c.requires.coded c.in-Pop.ensures in
    record {
      i_nonzero = ((good-pop v.node).0, (good-pop v.node).1.0);
      coded = v.part;
      room_under = omega (arith, v);
    }

pub returns-in-Pop : goal.returns-in-Pop
returns-in-Pop t c =
    begins-as c.put_lower.ensures
    (ap (enc c.args.width) (first-pop c.args.width c.args.a (pop-said c.requires.coded c.in-Pop.ensures)))

pub slice_bounds-at_first-end : goal.slice_bounds-at_first-end
slice_bounds-at_first-end t c = omega (arith, pow-said c.requires.coded c.in-Pow.ensures)

pub at_first-n-requires : goal.at_first-n-requires
at_first-n-requires t c =
    let v = pow-said c.requires.coded c.in-Pow.ensures in
    (omega (arith, v), (c.requires.a_bound, (v.left, (omega (arith, v), omega (arith, v)))))

pub scale-m-requires : goal.scale-m-requires
scale-m-requires t c =
    let v = pow-said c.requires.coded c.in-Pow.ensures in
    record {
      a_bound = c.leaf_power-c.ensures.1;
      coded = coded (put-codes c.args.width c.args.a v.left c.at_first-n.ensures);
      room_under = omega (arith, v, put-short c.args.width c.args.a v.left c.at_first-n.ensures, c.requires.room_under.1);
    }

pub sum-requires : goal.sum-requires
sum-requires t c =
    let v = pow-said c.requires.coded c.in-Pow.ensures in
    record {
      coded = (coded (scaled-codes c.args.width c.args.a v.left c.at_first-n.ensures c.leaf_power-c.result c.scale-m.ensures), v.right);
      room_under = omega (
        arith,
        v,
        scaled-short c.args.width c.args.a v.left c.at_first-n.ensures c.leaf_power-c.result c.scale-m.ensures,
        c.requires.room_under.0,
      );
    }

pub returns-in-Pow : goal.returns-in-Pow
returns-in-Pow t c =
    let v = pow-said c.requires.coded c.in-Pow.ensures in
    begins-as c.sum.ensures
    (ap (λ h. enc c.args.width (sum_of c.args.width h (dec c.args.width (right_of c.in-Pow.s c.args.x.now))))
    (dec-enc (scaled-codes c.args.width c.args.a v.left c.at_first-n.ensures c.leaf_power-c.result c.scale-m.ensures)
    ∙ ap (λ z. scale_of c.args.width z (at_first_of c.args.width (dec c.args.width (left_of c.in-Pow.s c.args.x.now)) c.args.a))
    c.leaf_power-c.ensures.0)
    ∙ ap (enc c.args.width)
    (first-pow c.args.width c.args.a v c.requires.a_bound))

-- `door_point::put_point` meets its contract. The loop's invariant: the first i remainders are written, and the other words are as they
-- were.
use Rattle.std.proofs.Common.{List, ◌++◌, ℕ, ap, arith, rules, slice_set}
use Rattle.std.proofs.Math.Path.{◌≡◌, ◌∙◌}
use Rattle.std.specs.Prelude.{pos, take, drop}
use Rattle.std.proofs.Math.ListN.{get_or}
use Rattle.reply.specs.definitions.Calls.{remainder}
use Rattle.door_point.specs.Point.{residues_of}
use Rattle.door_point.specs.laws.Residues.{residues-none, residues-more, residues-all}
use Rattle.door_point.proofs.put_point.Goals as goal

pub loop-i-init : goal.loop-i-init
loop-i-init c =
    residues-none c.args.point.now c.args.out.now

pub loop-i-preserved : goal.loop-i-preserved
loop-i-preserved c =
    let e : c.of_coordinate.result ≡ remainder (get_or c.args.point.now c.loop-i.i (pos 0)) = search rules in
    ap (λ (xs : List ℕ). slice_set xs c.loop-i.i c.of_coordinate.result) c.loop-i.invariant
    ∙ ap (slice_set (residues_of (take c.loop-i.i c.args.point.now) ++ drop c.loop-i.i c.args.out.now) c.loop-i.i) e
    ∙ residues-more c.args.point.now c.args.out.now c.loop-i.i (omega arith) (omega arith)

pub returns : goal.returns
returns c =
    c.loop-i.invariant
    ∙ residues-all c.args.point.now c.args.out.now c.loop-i.i (omega arith) (omega arith)

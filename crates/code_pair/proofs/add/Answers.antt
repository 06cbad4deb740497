-- `code_pair::add` meets its contract: the sum is made in out, and copied to the front.
-- Assumes nothing.
use Rattle.std.proofs.Common.{ap, ap₂, arith, length-take, length}
use Rattle.std.specs.Prelude.{take, drop}
use Rattle.code.specs.Coding.{enc}
use Rattle.code.specs.Operations.{sum_of}
use Rattle.code.proofs.Lists.{begins-as, copied-front}
use Rattle.code_pair.proofs.Pairs.{front-is, back-is, both-coded, sum_fits}
use Rattle.code_pair.proofs.add.Goals as goal

pub sum-n-requires-clause-coded : goal.sum-n-requires-clause-coded
sum-n-requires-clause-coded c =
    both-coded c.args.a c.args.b c.args.stack.now c.split_at.ensures.front c.split_at.ensures.back c.requires.pair

pub copy-requires : goal.copy-requires
copy-requires c =
    let d = c.args.stack.now in
    let same = ap₂ (sum_of 0) (front-is c.args.a c.args.b d c.split_at.ensures.front c.split_at.ensures.back)
    (back-is c.args.a c.args.b d c.split_at.ensures.front c.split_at.ensures.back) in
    omega (arith, c.sum-n.ensures.size, ap (λ h. length (enc 0 h)) same, length-take c.sum-n.result c.sum-n.new.out, sum_fits c.requires.pair)

pub returns : goal.returns
returns c =
    let d = c.args.stack.now in
    copied-front (drop (length (take c.sum-n.result c.sum-n.new.out)) d)
    (begins-as c.sum-n.ensures (ap (enc 0) (ap₂ (sum_of 0) (front-is c.args.a c.args.b d c.split_at.ensures.front c.split_at.ensures.back)
    (back-is c.args.a c.args.b d c.split_at.ensures.front c.split_at.ensures.back)))) c.copy.ensures

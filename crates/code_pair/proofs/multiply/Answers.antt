-- `code_pair::multiply` meets its contract: the product is made in out, and copied to the front.
-- Assumes nothing.
use Rattle.std.proofs.Common.{sym, ap, ap₂, arith, length-take, length}
use Rattle.std.specs.Prelude.{take, drop}
use Rattle.code.specs.Coding.{enc}
use Rattle.code.proofs.Lists.{begins-as, copied-front}
use Rattle.code_room.specs.Fit.{prod_of}
use Rattle.code_product.proofs.Parts.{space-as}
use Rattle.code_pair.proofs.Pairs.{front-is, back-is, both-coded}
use Rattle.code_pair.proofs.multiply.Goals as goal

pub product-n-requires-clause-coded : goal.product-n-requires-clause-coded
product-n-requires-clause-coded c =
    both-coded c.args.a c.args.b c.args.stack.now c.split_at.ensures.front c.split_at.ensures.back c.requires.pair

pub product-n-requires-clause-space : goal.product-n-requires-clause-space
product-n-requires-clause-space c =
    let d = c.args.stack.now in
    space-as (sym (front-is c.args.a c.args.b d c.split_at.ensures.front c.split_at.ensures.back))
    (sym (back-is c.args.a c.args.b d c.split_at.ensures.front c.split_at.ensures.back)) c.requires.space

pub copy-requires : goal.copy-requires
copy-requires c =
    let d = c.args.stack.now in
    let same = ap₂ (prod_of 0) (front-is c.args.a c.args.b d c.split_at.ensures.front c.split_at.ensures.back)
    (back-is c.args.a c.args.b d c.split_at.ensures.front c.split_at.ensures.back) in
    omega (
      arith,
      c.product-n.ensures.size,
      ap (λ h. length (enc 0 h)) same,
      length-take c.product-n.result c.product-n.new.out,
      c.requires.stack_in_bounds,
    )

pub returns : goal.returns
returns c =
    let d = c.args.stack.now in
    copied-front (drop (length (take c.product-n.result c.product-n.new.out)) d)
    (begins-as c.product-n.ensures (ap (enc 0) (ap₂ (prod_of 0) (front-is c.args.a c.args.b d c.split_at.ensures.front c.split_at.ensures.back)
    (back-is c.args.a c.args.b d c.split_at.ensures.front c.split_at.ensures.back)))) c.copy.ensures

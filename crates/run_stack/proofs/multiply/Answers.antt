-- `run_stack::multiply` meets its contract: `product` into out, and `code::copy` back.
-- Assumes nothing.
use Rattle.std.proofs.Common.{sym, ap, ap₂, arith, length-take, ◌∙◌, length}
use Rattle.std.specs.Prelude.{drop, take}
use Rattle.code.proofs.Lists.{begins-as, copied-front, front_of, behind}
use Rattle.run_stack.specs.Stack.{multiplied}
use Rattle.run_stack.specs.laws.Stack.{room_as}
use Rattle.run_stack.proofs.multiply.Goals as goal

pub product-r-requires-clause-product_room : goal.product-r-requires-clause-product_room
product-r-requires-clause-product_room c =
    room_as (sym (c.split_at.ensures.front ∙ front_of c.args.a c.args.b c.args.stack.now))
    (sym (c.split_at.ensures.back ∙ behind c.args.a c.args.b c.args.stack.now)) c.requires.product_room

pub copy-requires : goal.copy-requires
copy-requires c =
    let made = ap₂ multiplied (c.split_at.ensures.front ∙ front_of c.args.a c.args.b c.args.stack.now)
    (c.split_at.ensures.back ∙ behind c.args.a c.args.b c.args.stack.now) in
    omega (
      arith,
      c.product-r.ensures.size,
      ap length made,
      length-take c.product-r.result c.product-r.new.out,
      c.requires.stack_in_bounds,
    )

pub returns : goal.returns
returns c =
    copied-front (drop (length (take c.product-r.result c.product-r.new.out)) c.args.stack.now)
    (begins-as c.product-r.ensures (ap₂ multiplied (c.split_at.ensures.front ∙ front_of c.args.a c.args.b c.args.stack.now)
    (c.split_at.ensures.back ∙ behind c.args.a c.args.b c.args.stack.now))) c.copy.ensures

-- `run_stack::next` meets its contract: `code::copy` behind the run, and `product` into out.
-- Assumes nothing.
use Rattle.std.proofs.Common.{length, sym, ap₂, arith, ◌-◌, ◌∙◌}
use borrow.Rule.Slice.PartMut.{take_put}
use Rattle.code.proofs.Lists.{begins-as}
use Rattle.run_stack.specs.Stack.{multiplied}
use Rattle.run_stack.specs.laws.Stack.{room_as}
use Rattle.run_stack.proofs.Stack.{kept-front, copied-behind}
use Rattle.run_stack.proofs.next.Goals as goal

pub product-requires-clause-product_room : goal.product-requires-clause-product_room
product-requires-clause-product_room c =
    let d = c.args.stack.now in
    room_as (sym (c.split_at.ensures.front ∙ kept-front c.args.a c.args.m d c.args.out.now c.copy.new.out (omega arith) (omega arith) c.copy.ensures))
    (sym (c.split_at.ensures.back ∙ copied-behind c.args.a c.args.m d c.args.out.now c.copy.new.out (omega arith) (omega arith) c.copy.ensures))
    c.requires.product_room

pub returns : goal.returns
returns c =
    let d = c.args.stack.now in
    record {
      kept = take_put c.args.a (length d - c.args.a) d c.copy.new.out (omega arith);
      written = begins-as c.product.ensures (ap₂ multiplied
          (c.split_at.ensures.front ∙ kept-front c.args.a c.args.m d c.args.out.now c.copy.new.out (omega arith) (omega arith) c.copy.ensures)
          (c.split_at.ensures.back ∙ copied-behind c.args.a c.args.m d c.args.out.now c.copy.new.out (omega arith) (omega arith) c.copy.ensures));
    }

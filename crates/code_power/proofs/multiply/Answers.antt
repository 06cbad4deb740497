-- `code_power::multiply` meets its contract: that of `code_product::product`.
-- Assumes nothing.
use Rattle.std.proofs.Common.{sym, ap, subst, ◌∙◌}
use Rattle.code.specs.Coding.{Coded, dec}
use Rattle.code.proofs.Lists.{begins-as, front_of, behind}
use Rattle.code_product.proofs.Parts.{space-as, prod-as}
use Rattle.code_power.proofs.multiply.Goals as goal

pub product-requires-clause-coded : goal.product-requires-clause-coded
product-requires-clause-coded c = (
  subst (Coded c.args.width) (sym (c.split_at.ensures.front ∙ front_of c.args.n c.args.m c.args.s.now)) c.requires.coded.0,
  subst (Coded c.args.width) (sym (c.split_at.ensures.back ∙ behind c.args.n c.args.m c.args.s.now)) c.requires.coded.1,
)

pub product-requires-clause-space : goal.product-requires-clause-space
product-requires-clause-space c =
    space-as (ap (dec c.args.width) (sym (c.split_at.ensures.front ∙ front_of c.args.n c.args.m c.args.s.now)))
    (ap (dec c.args.width) (sym (c.split_at.ensures.back ∙ behind c.args.n c.args.m c.args.s.now))) c.requires.space

pub returns : goal.returns
returns c =
    begins-as c.product.ensures (prod-as c.args.width
    (ap (dec c.args.width) (sym (c.split_at.ensures.front ∙ front_of c.args.n c.args.m c.args.s.now)))
    (ap (dec c.args.width) (sym (c.split_at.ensures.back ∙ behind c.args.n c.args.m c.args.s.now))))

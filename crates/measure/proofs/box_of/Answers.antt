-- `measure::box_of` meets its contract, product by product.
use Rattle.std.proofs.Common.{ap, ◌+◌, ◌*◌, min}
use Rattle.std.proofs.Math.Path.{◌∙◌}
use Rattle.measure.specs.Measure.{box_m}
use Rattle.measure.proofs.box_of.Goals as goal

pub returns : goal.returns
unfolding box_m
returns c =
    c.cut_product.ensures
    ∙ ap (λ m. min ((c.args.a + 1) * m) 16777216)
    (c.cut_product-y.ensures ∙ ap (λ m. min ((c.args.b + 1) * m) 16777216) c.cut_product-z.ensures)

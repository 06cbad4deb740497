-- `desk_field::count` meets its contract: as many tabs pass the test as the line has.
use Rattle.std.proofs.Common.{arith, rules, tests, eqb}
use Rattle.std.proofs.lemmas.Iterator.{YieldsList-from_slice}
use Rattle.std.proofs.lemmas.Iterator.Consumers.{count_from_yields_List, YieldsList-from_filter}
use Rattle.desk_field.proofs.Tabs.{tabs-filter}
use Rattle.desk_field.proofs.count.Goals as goal

pub returns : goal.returns
returns c =
    let n = count_from_yields_List _ c.count.result c.count.ensures.ran
    (YieldsList-from_filter _ (λ x. eqb x 9) (YieldsList-from_slice c.args.line.now cc) c.filter.ensures.closure
    (λ x b q k. search (rules, tests))) in
    omega (arith, n, tabs-filter c.args.line.now)

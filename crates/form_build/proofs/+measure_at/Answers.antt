-- The proof of the cycle of calls {measure_at}. The measure is what is left of the text.
use Rattle.std.proofs.Common.{ap, arith}
use Rattle.form_head.specs.Heads.{is_node}
use Rattle.form_head.specs.laws.Heads.{standing-some}
use Rattle.form_head.specs.laws.Parts.{leaf-kind, first-standing, second-standing, head-later, part-inside, ends-pow, ends-inside}
use Rattle.form_build.specs.laws.Measure.{int-measured, pop-measured, pow-measured}
use Rattle.form_build.proofs.+measure_at.Goals as goal

pub returns-in-Integer : goal.returns-in-Integer
returns-in-Integer t c =
    int-measured c.head_at-head.ensures (leaf-kind c.in-Integer.is) _ c.leaf_measures.ensures

-- ---- POP
pub measure_at-p-requires : goal.measure_at-p-requires
measure_at-p-requires t c =
    let k = ap is_node c.in-Pop.is in (
      omega (arith, c.decreases, head-later c.head_at-head.ensures k c.requires, standing-some c.requires),
      first-standing c.head_at-head.ensures k c.requires,
    )

pub overflow_add-result : goal.overflow_add-result
overflow_add-result t c =
    omega (arith, part-inside c.head_at-head.ensures (ap is_node c.in-Pop.is) c.requires _ c.measure_at-p.ensures.ends)

pub returns-in-Pop : goal.returns-in-Pop
returns-in-Pop t c =
    pop-measured c.head_at-head.ensures c.measure_at-p.ensures c.in-Pop.is _ c.popped.ensures

-- ---- POW
pub measure_at-p-requires-in-Pow : goal.measure_at-p-requires-in-Pow
measure_at-p-requires-in-Pow t c =
    let k = ap is_node c.in-Pow.is in (
      omega (arith, c.decreases, head-later c.head_at-head.ensures k c.requires, standing-some c.requires),
      first-standing c.head_at-head.ensures k c.requires,
    )

pub overflow_add-p : goal.overflow_add-p
overflow_add-p t c =
    omega (arith, part-inside c.head_at-head.ensures (ap is_node c.in-Pow.is) c.requires _ c.measure_at-p-in-Pow.ensures.ends)

pub measure_at-q-requires : goal.measure_at-q-requires
measure_at-q-requires t c =
    let k = ap is_node c.in-Pow.is in
    let first = first-standing c.head_at-head.ensures k c.requires in (
      omega (
        arith,
        c.decreases,
        head-later c.head_at-head.ensures k c.requires,
        standing-some c.requires,
        ends-inside _ c.measure_at-p-in-Pow.ensures.ends first,
      ),
      second-standing c.head_at-head.ensures _ c.measure_at-p-in-Pow.ensures.ends c.in-Pow.is c.requires,
    )

pub overflow_add-result-in-Pow : goal.overflow_add-result-in-Pow
overflow_add-result-in-Pow t c =
    omega (
      arith,
      ends-inside _
          (ends-pow c.head_at-head.ensures _ c.measure_at-p-in-Pow.ensures.ends _ c.in-Pow.is c.measure_at-q.ensures.ends)
          c.requires,
    )

pub returns-in-Pow : goal.returns-in-Pow
returns-in-Pow t c =
    pow-measured c.head_at-head.ensures c.measure_at-p-in-Pow.ensures c.in-Pow.is c.measure_at-q.ensures _ c.joined.ensures

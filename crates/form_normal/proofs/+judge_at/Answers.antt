-- The proof of the cycle of calls {judge_at}. The measure is what is left of the text. A part that is wrong ends the walk; else the node
-- itself is judged.
use Rattle.std.proofs.Common.{refl, sym, ap, arith}
use Rattle.refusal.proofs.Exits.{exits}
use Rattle.form_head.specs.Heads.{is_node, Ends}
use Rattle.form_head.specs.laws.Heads.{standing-some}
use Rattle.form_head.specs.laws.Parts.{first-standing, second-standing, head-later, part-inside, ends-pow, ends-inside}
use Rattle.form_normal.specs.laws.Normal.{seen_as, seen-ends, pop-stops, pop-seen, left-stops, right-stops, pow-seen}
use Rattle.form_normal.proofs.+judge_at.Goals as goal

-- ---- POP
pub judge_at-requires : goal.judge_at-requires
judge_at-requires t c =
    let k = ap is_node c.in-Pop.is in (
      omega (arith, c.decreases, head-later c.head_at-head.ensures k c.requires.1, standing-some c.requires.1),
      (omega (arith, c.saturating_sub.ensures, c.requires.0), first-standing c.head_at-head.ensures k c.requires.1),
    )

pub returns-in_err-p-in-Pop : goal.returns-in_err-p-in-Pop
returns-in_err-p-in-Pop t c =
    seen_as _ _ refl (sym (exits c.from_residual.ensures.1))
    (pop-stops _ c.head_at-head.ensures c.requires.0 c.in-Pop.is _ (seen_as _ _ c.saturating_sub.ensures refl c.in_err-p-in-Pop.ensures))

pub overflow_add-p : goal.overflow_add-p
overflow_add-p t c =
    omega (
      arith,
      part-inside c.head_at-head.ensures (ap is_node c.in-Pop.is) c.requires.1 _ (seen-ends _ c.in_ok-p-in-Pop.ensures),
    )

pub returns-in_ok-p-in-Pop : goal.returns-in_ok-p-in-Pop
returns-in_ok-p-in-Pop t c =
    seen_as _ _ refl (sym c.judge_pop.ensures)
    (pop-seen _ c.head_at-head.ensures c.requires.0 c.in-Pop.is _ (seen_as _ _ c.saturating_sub.ensures refl c.in_ok-p-in-Pop.ensures))

-- ---- POW
pub judge_at-requires-in-Pow : goal.judge_at-requires-in-Pow
judge_at-requires-in-Pow t c =
    let k = ap is_node c.in-Pow.is in (
      omega (arith, c.decreases, head-later c.head_at-head.ensures k c.requires.1, standing-some c.requires.1),
      (c.requires.0, first-standing c.head_at-head.ensures k c.requires.1),
    )

pub returns-in_err-p-in-Pow : goal.returns-in_err-p-in-Pow
returns-in_err-p-in-Pow t c =
    seen_as _ _ refl (sym (exits c.from_residual-in_err-p-in-Pow.ensures.1))
    (left-stops _ c.head_at-head.ensures c.requires.0 c.in-Pow.is _ c.in_err-p-in-Pow.ensures)

pub overflow_add-p-in-Pow : goal.overflow_add-p-in-Pow
overflow_add-p-in-Pow t c =
    omega (
      arith,
      part-inside c.head_at-head.ensures (ap is_node c.in-Pow.is) c.requires.1 _ (seen-ends _ c.in_ok-p-in-Pow.ensures),
    )

pub judge_at-requires-in-Pow-2 : goal.judge_at-requires-in-Pow-2
judge_at-requires-in-Pow-2 t c =
    let k = ap is_node c.in-Pow.is in
    let ends : Ends c.args.s.now c.head_at-head.result.next c.in_ok-p-in-Pow.p.next = seen-ends _ c.in_ok-p-in-Pow.ensures in
    let first = first-standing c.head_at-head.ensures k c.requires.1 in (
      omega (
        arith,
        c.decreases,
        head-later c.head_at-head.ensures k c.requires.1,
        standing-some c.requires.1,
        ends-inside _ ends first,
      ),
      (
        omega (arith, c.saturating_sub-in-Pow.ensures, c.requires.0),
        second-standing c.head_at-head.ensures _ ends c.in-Pow.is c.requires.1,
      ),
    )

pub returns-in_err-q-in-Pow : goal.returns-in_err-q-in-Pow
returns-in_err-q-in-Pow t c =
    seen_as _ _ refl (sym (exits c.from_residual-in_err-q-in-Pow.ensures.1))
    (right-stops _ c.head_at-head.ensures c.requires.0 c.in-Pow.is _ c.in_ok-p-in-Pow.ensures _
    (seen_as _ _ c.saturating_sub-in-Pow.ensures refl c.in_err-q-in-Pow.ensures))

pub overflow_add-q : goal.overflow_add-q
overflow_add-q t c =
    let ends = seen-ends _ c.in_ok-p-in-Pow.ensures in
    omega (
      arith,
      ends-inside _
          (ends-pow c.head_at-head.ensures _ ends _ c.in-Pow.is (seen-ends _ c.in_ok-q-in-Pow.ensures))
          c.requires.1,
    )

pub returns-in_ok-q-in-Pow : goal.returns-in_ok-q-in-Pow
returns-in_ok-q-in-Pow t c =
    seen_as _ _ refl (sym c.judge_pow.ensures)
    (pow-seen _ c.head_at-head.ensures c.requires.0 c.in-Pow.is _ c.in_ok-p-in-Pow.ensures _
    (seen_as _ _ c.saturating_sub-in-Pow.ensures refl c.in_ok-q-in-Pow.ensures))

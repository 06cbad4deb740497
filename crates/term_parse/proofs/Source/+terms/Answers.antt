-- The answers of the functions of the cycle that the check doesn't find alone.
use Rattle.std.proofs.Common.{sym, subst, arith, ◌+◌, ◌*◌, ◌-◌}
use Rattle.std.proofs.Math.Path.{◌∙◌}
use Rattle.std.specs.Prelude.{length}
use borrow.Rule.Slice.PartMut.{put_mid}
use Rattle.term_leaf.specs.Leaf.{part_in}
use Rattle.term_leaf.specs.laws.Answers.{part-on, part_off}
use Rattle.term_leaf.specs.laws.Tokens.{kind-is, kind-same, kind-other, word-more}
use Rattle.term_parse.specs.Found.{SecondAt, ClosedAt}
use Rattle.term_parse.specs.laws.Parts.{list-power, first_off}
use Rattle.term_parse.specs.laws.Operands.{operator-same, operator-other}
use Rattle.term_parse.specs.laws.Seconds.{made, list-second, second-neg, second-off, made₂, second-both}
use Rattle.term_parse.specs.laws.Powers.{base-off, base-made, base-power, term-off, term_made, term-power}
use Rattle.term_parse.proofs.Source.+terms.Goals as goal

-- ---- list_at: what follows a `(`
pub list_at-returns-then-eq : goal.list_at-returns-then-eq
list_at-returns-then-eq t c =
    let g = c.args.self.now in
    list-power g.dialect g.row.now g.text.now c.args.p c.args.at c.args.depth _ _ _ c.peek-t.ensures (kind-is _ _ c.if-ne.ensures) _
    (sym c.operator_of.ensures ∙ c.in-Some.is) (operator-same _ _ c.if-eq.ensures) _ _ c.power_at.ensures

pub list_at-returns-then-is_refusal : goal.list_at-returns-then-is_refusal
list_at-returns-then-is_refusal t c =
    let g = c.args.self.now in
    first_off g.dialect g.row.now g.text.now c.args.p c.args.at c.args.depth _ _ _ c.peek-t.ensures (kind-is _ _ c.if-ne.ensures) _
    (sym c.operator_of.ensures ∙ c.in-Some.is) (operator-other _ _ c.if-eq.ensures) _ _ c.term_at-x.ensures _ _ _
    (part_off g.dialect c.term_at-x.result (sym c.is_refusal.ensures ∙ c.if-is_refusal.true)) _

pub list_at-second_at-requires : goal.list_at-second_at-requires
list_at-second_at-requires t c =
    let g = c.args.self.now in
    let m = made g.dialect g.row.now g.text.now c.args.p c.args.at c.args.depth _ _ _ c.peek-t.ensures (kind-is _ _ c.if-ne.ensures) _
    (sym c.operator_of.ensures ∙ c.in-Some.is) (operator-other _ _ c.if-eq.ensures) _ _ c.term_at-x.ensures _ _
    (part-on g.dialect c.term_at-x.result (sym c.is_refusal.ensures ∙ c.if-is_refusal.false) c.words.ensures c.past.ensures) in
    let more = word-more _ c.peek-t.ensures (kind-is _ _ c.if-ne.ensures) in (
      omega (arith, c.decreases, c.requires.deeper),
      record {
        first = record {
          ready = record {
            fits = c.requires.ready.fits;
            four = c.requires.ready.four;
            short = c.requires.ready.short;
            inside = m.inside;
            below = omega (arith, m.more, c.requires.past, c.peek-t.ensures.later, more);
            room = omega (arith, c.requires.ready.room);
          };
          bound = omega (arith, m.bound, m.more, c.requires.past, c.peek-t.ensures.later, more);
        };
        deeper = c.requires.deeper;
        sign = operator-other _ _ c.if-eq.ensures;
      },
    )

pub list_at-returns : goal.list_at-returns
list_at-returns t c =
    let g = c.args.self.now in
    list-second g.dialect g.row.now g.text.now c.args.p c.args.at c.args.depth _ _ _ c.peek-t.ensures (kind-is _ _ c.if-ne.ensures) _
    (sym c.operator_of.ensures ∙ c.in-Some.is) (operator-other _ _ c.if-eq.ensures) _ _ c.term_at-x.ensures _ _
    (part-on g.dialect c.term_at-x.result (sym c.is_refusal.ensures ∙ c.if-is_refusal.false) c.words.ensures c.past.ensures)
    c.args.out.now (omega (arith, c.requires.ready.room, c.requires.ready.inside, c.requires.past)) _ _ c.second_at.ensures

-- ---- power_at: what follows `(EXPT`
pub power_at-returns-then-is_refusal : goal.power_at-returns-then-is_refusal
power_at-returns-then-is_refusal t c =
    let g = c.args.self.now in
    base-off g.dialect g.row.now g.text.now c.args.p c.args.at c.args.depth c.if-self.true _ _ c.letter_at-b.ensures _ _ _
    (part_off g.dialect c.letter_at-b.result (sym c.is_refusal.ensures ∙ c.if-is_refusal.true)) _

pub power_at-exponent_at-requires : goal.power_at-exponent_at-requires
power_at-exponent_at-requires t c =
    let g = c.args.self.now in
    let m = base-made g.dialect g.row.now g.text.now c.args.p c.args.at c.args.depth c.if-self.true _ _ c.letter_at-b.ensures _ _
    (part-on g.dialect c.letter_at-b.result (sym c.is_refusal.ensures ∙ c.if-is_refusal.false) c.words.ensures c.past.ensures) 0 in
    record {
      ready = record {
        fits = c.requires.ready.fits;
        four = c.requires.ready.four;
        short = c.requires.ready.short;
        inside = m.inside;
        below = omega (arith, m.more, c.requires.past);
        room = omega (arith, c.requires.ready.room);
      };
      bound = omega (arith, m.bound, m.more, c.requires.past);
    }

pub power_at-returns-then-self : goal.power_at-returns-then-self
power_at-returns-then-self t c =
    let g = c.args.self.now in
    base-power g.dialect g.row.now g.text.now c.args.p c.args.at c.args.depth c.if-self.true _ _ c.letter_at-b.ensures _ _
    (part-on g.dialect c.letter_at-b.result (sym c.is_refusal.ensures ∙ c.if-is_refusal.false) c.words.ensures c.past.ensures)
    c.args.out.now (omega (arith, c.requires.ready.room, c.requires.ready.inside, c.requires.past)) _ _ c.exponent_at.ensures

pub power_at-returns-then-is_refusal-2 : goal.power_at-returns-then-is_refusal-2
power_at-returns-then-is_refusal-2 t c =
    let g = c.args.self.now in
    term-off g.dialect g.row.now g.text.now c.args.p c.args.at c.args.depth c.if-self.false _ _ c.term_at-x.ensures _ _ _
    (part_off g.dialect c.term_at-x.result (sym c.is_refusal-2.ensures ∙ c.if-is_refusal-2.true)) _

pub power_at-exponent_at-requires-2 : goal.power_at-exponent_at-requires-2
power_at-exponent_at-requires-2 t c =
    let g = c.args.self.now in
    let m = term_made g.dialect g.row.now g.text.now c.args.p c.args.at c.args.depth c.if-self.false _ _ c.term_at-x.ensures _ _
    (part-on g.dialect c.term_at-x.result (sym c.is_refusal-2.ensures ∙ c.if-is_refusal-2.false) c.words-2.ensures c.past-2.ensures) in
    record {
      ready = record {
        fits = c.requires.ready.fits;
        four = c.requires.ready.four;
        short = c.requires.ready.short;
        inside = m.inside;
        below = omega (arith, m.more, c.requires.past);
        room = omega (arith, c.requires.ready.room);
      };
      bound = omega (arith, m.bound, m.more, c.requires.past);
    }

pub power_at-returns : goal.power_at-returns
power_at-returns t c =
    let g = c.args.self.now in
    term-power g.dialect g.row.now g.text.now c.args.p c.args.at c.args.depth c.if-self.false _ _ c.term_at-x.ensures _ _
    (part-on g.dialect c.term_at-x.result (sym c.is_refusal-2.ensures ∙ c.if-is_refusal-2.false) c.words-2.ensures c.past-2.ensures)
    c.args.out.now (omega (arith, c.requires.ready.room, c.requires.ready.inside, c.requires.past)) _ _ c.exponent_at-2.ensures

-- ---- second_at: what follows the first operand
pub second_at-returns-then-eq-2 : goal.second_at-returns-then-eq-2
second_at-returns-then-eq-2 t c =
    let g = c.args.self.now in
    subst (SecondAt g.dialect g.row.now g.text.now c.args.p c.args.op c.args.k c.args.at c.args.depth c.args.out.now _)
    (sym (c.found.ensures.is g.dialect))
    (second-neg g.dialect g.row.now g.text.now c.args.p c.args.op c.args.k c.args.at c.args.depth _ _ _ c.peek-t.ensures
    c.args.out.now c.requires.first.ready.short c.requires.first.ready.below c.requires.first.bound (kind-same _ _ c.if-eq.ensures)
    (operator-same _ _ c.if-eq-2.ensures) _ c.put.ensures)

pub second_at-returns-then-is_refusal : goal.second_at-returns-then-is_refusal
second_at-returns-then-is_refusal t c =
    let g = c.args.self.now in
    second-off g.dialect g.row.now g.text.now c.args.p c.args.op c.args.k c.args.at c.args.depth _ _ _ c.peek-t.ensures
    c.args.out.now c.requires.first.ready.short c.requires.first.ready.below c.requires.first.bound (kind-other _ _ c.if-eq.ensures)
    (sym c.closes_only.ensures ∙ c.if-closes_only.false) _ _ (c.operand_of-y.ensures.says _ c.peek-t.ensures) _ _ _
    (part_off g.dialect c.operand_of-y.result (sym c.is_refusal.ensures ∙ c.if-is_refusal.true)) _

pub second_at-closed-requires : goal.second_at-closed-requires
second_at-closed-requires t c =
    let g = c.args.self.now in
    let m = made₂ g.dialect g.row.now g.text.now c.args.p c.args.op c.args.k c.args.at c.args.depth _ _ _ c.peek-t.ensures
    c.args.out.now c.requires.first.ready.short c.requires.first.ready.below c.requires.first.bound (kind-other _ _ c.if-eq.ensures)
    (sym c.closes_only.ensures ∙ c.if-closes_only.false) _ _ (c.operand_of-y.ensures.says _ c.peek-t.ensures) _ _
    (part-on g.dialect c.operand_of-y.result (sym c.is_refusal.ensures ∙ c.if-is_refusal.false) c.words.ensures c.past.ensures) in
    let r = c.requires.first in
    record {
      inside = m.inside;
      short = r.ready.short;
      below = omega (arith, r.ready.below, m.more);
      room = omega (arith, r.ready.room, r.ready.inside, r.ready.below, r.bound);
      small = omega (arith, m.bound, m.inside, r.bound, r.ready.inside, r.ready.short);
    }

pub second_at-returns : goal.second_at-returns
second_at-returns t c =
    let g = c.args.self.now in
    let r = c.requires.first in
    second-both g.dialect g.row.now g.text.now c.args.p c.args.op c.args.k c.args.at c.args.depth _ _ _ c.peek-t.ensures
    c.args.out.now c.requires.first.ready.short c.requires.first.ready.below c.requires.first.bound (kind-other _ _ c.if-eq.ensures)
    (sym c.closes_only.ensures ∙ c.if-closes_only.false) _ _ (c.operand_of-y.ensures.says _ c.peek-t.ensures) _ _
    (part-on g.dialect c.operand_of-y.result (sym c.is_refusal.ensures ∙ c.if-is_refusal.false) c.words.ensures c.past.ensures)
    (omega (arith, r.ready.room, r.ready.inside, r.ready.below, r.bound)) c.requires.sign _ _
    (subst (λ h. ClosedAt g.dialect g.text.now c.args.p (h + 8 * c.args.k) (2 + c.args.k + c.words.result) c.past.result
    (put_mid (2 + c.args.k) (length c.args.out.now - (2 + c.args.k)) c.args.out.now c.operand_of-y.new.out) c.closed.new.out
    (part_in g.dialect c.closed.result)) c.code_of.ensures c.closed.ensures)

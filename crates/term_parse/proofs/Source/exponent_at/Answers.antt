-- `term_parse::Source::exponent_at` meets its contract: a word that is a number, and a `)`.
use Rattle.std.proofs.Common.{sym, subst, ◌+◌, ◌*◌}
use Rattle.std.proofs.Math.Path.{◌∙◌}
use Rattle.term_leaf.specs.Leaf.{part_in}
use Rattle.term_leaf.specs.laws.Tokens.{kind-is}
use Rattle.term_parse.specs.Found.{ExponentAt, ClosedAt}
use Rattle.term_parse.specs.laws.Powers.{exp-bad, exp-good}
use Rattle.term_parse.proofs.Source.exponent_at.Goals as goal

pub returns-then-not-is_natural : goal.returns-then-not-is_natural
returns-then-not-is_natural c =
    let g = c.args.self.now in
    subst (ExponentAt g.dialect g.row.now g.text.now c.args.p c.args.k c.args.at c.args.out.now _)
    (sym (c.refuse-then-not-is_natural.ensures.is g.dialect))
    (exp-bad g.dialect g.row.now g.text.now _ _ _ _ _ _ c.peek-t.ensures _ (kind-is _ _ c.if-ne.ensures)
    (sym c.is_natural.ensures ∙ c.if-not-is_natural.true) _)

pub returns : goal.returns
returns c =
    let g = c.args.self.now in
    exp-good g.dialect g.row.now g.text.now _ _ _ _ _ _ c.peek-t.ensures _ (kind-is _ _ c.if-ne.ensures)
    (sym c.is_natural.ensures ∙ c.if-not-is_natural.false) c.requires.ready.short c.requires.ready.below
    c.requires.bound _ c.cut_value-n.ensures _ _
    (subst (λ h. ClosedAt g.dialect g.text.now c.args.p (h + 8 * c.cut_value-n.result) (2 + c.args.k) c.peek-t.result.end c.args.out.now
    c.closed.new.out (part_in g.dialect c.closed.result)) c.code_of.ensures c.closed.ensures)

-- `term_parse::parse` meets its contract: the length, the term, and that nothing stands behind it.
use Rattle.std.proofs.Common.{refl, sym, arith}
use Rattle.std.proofs.Math.Path.{◌∙◌}
use Rattle.term_leaf.specs.laws.Answers.{part-on}
use Rattle.term_leaf.specs.laws.Tokens.{kind-is, kind-not}
use Rattle.term_parse.specs.laws.Whole.{parse-long, parse-off, whole-made, parse-on, parse-more}
use Rattle.term_parse.proofs.parse.Goals as goal

pub returns-then-d-s : goal.returns-then-d-s
returns-then-d-s c =
    parse-long c.args.d c.args.row.now c.args.s.now c.if-d-s.true c.args.out.now

pub returns-then-is_refusal : goal.returns-then-is_refusal
returns-then-is_refusal c =
    parse-off c.args.d c.args.row.now c.args.s.now (omega (arith, c.if-d-s.false)) _ _ c.term_at-x.ensures _
    (c.flaw.ensures.refusal (sym c.is_refusal.ensures ∙ c.if-is_refusal.true))

pub peek-t-requires : goal.peek-t-requires
peek-t-requires c =
    (whole-made c.args.d c.args.row.now c.args.s.now (omega (arith, c.if-d-s.false)) _ _ c.term_at-x.ensures _ _
    (part-on c.args.d c.term_at-x.result (sym c.is_refusal.ensures ∙ c.if-is_refusal.false) refl c.past.ensures)).inside

pub returns-then-ne : goal.returns-then-ne
returns-then-ne c =
    parse-more c.args.d c.args.row.now c.args.s.now (omega (arith, c.if-d-s.false)) _ _ c.term_at-x.ensures _ _
    (part-on c.args.d c.term_at-x.result (sym c.is_refusal.ensures ∙ c.if-is_refusal.false) refl c.past.ensures) _ _ _
    c.peek-t.ensures (kind-not _ _ c.if-ne.ensures)

pub returns : goal.returns
returns c =
    parse-on c.args.d c.args.row.now c.args.s.now (omega (arith, c.if-d-s.false)) _ _ c.term_at-x.ensures _ _
    (part-on c.args.d c.term_at-x.result (sym c.is_refusal.ensures ∙ c.if-is_refusal.false) c.words.ensures c.past.ensures) _ _ _
    c.peek-t.ensures (kind-is _ _ c.if-ne.ensures)

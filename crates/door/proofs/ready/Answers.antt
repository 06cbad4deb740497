-- `door::ready` meets its contract, case by case.
use Rattle.std.proofs.Common.{List, [], ◌∷◌, sym, ap, ℕ}
use Rattle.std.proofs.Math.Path.{◌∙◌}
use Rattle.std.specs.Prelude.{Err}
use Rattle.door.specs.laws.Door.{not-row, tables-short, all-ready}
use Rattle.door.proofs.ready.Goals as goal

pub returns-then-not-is_row : goal.returns-then-not-is_row
returns-then-not-is_row c =
    let ts : List ℕ =
    c.args.a ∷ c.args.b ∷ c.args.c ∷ c.args.d ∷ [] in
    ap Err c.of_neither.ensures
    ∙ not-row c.args.row.now ts (sym c.is_row.ensures ∙ c.if-not-is_row.true)

pub returns-then-not-enough : goal.returns-then-not-enough
returns-then-not-enough c =
    let ts : List ℕ =
    c.args.a ∷ c.args.b ∷ c.args.c ∷ c.args.d ∷ [] in
    ap Err c.of_neither-then-not-enough.ensures
    ∙ tables-short c.args.row.now ts (sym c.is_row.ensures ∙ c.if-not-is_row.false)
    (sym c.enough.ensures ∙ c.if-not-enough.true)

pub returns : goal.returns
returns c =
    let ts : List ℕ =
    c.args.a ∷ c.args.b ∷ c.args.c ∷ c.args.d ∷ [] in
    all-ready c.args.row.now ts (sym c.is_row.ensures ∙ c.if-not-is_row.false)
    (sym c.enough.ensures ∙ c.if-not-enough.false)

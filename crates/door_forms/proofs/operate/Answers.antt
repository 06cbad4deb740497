-- `door_forms::operate` meets its contract: the row and the tables are looked at, the inner call answers, the tables are cleared.
use Rattle.std.proofs.Common.{[], ◌∷◌, ◌∙◌, sym, length}
use Rattle.door.specs.laws.Door.{ready-open, open-goes}
use Rattle.door.specs.laws.Ending.{zeros_of}
use Rattle.door_result.specs.laws.Whole.{answered-whole}
use Rattle.door_forms.specs.laws.Two.{two-clears}
use Rattle.reply.specs.definitions.Calls.{two_of}
use Rattle.door_forms.proofs.operate.Goals as goal

pub returns : goal.returns
returns g c =
    let ts = length c.args.a.now ∷ length c.args.b.now ∷ length c.args.c.now ∷ length c.args.d.now ∷ [] in
    let o = ready-open c.args.row.now ts (sym c.ready.ensures ∙ c.in_ok-ready.was) in
    answered-whole _ _ c.args.res.now c.args.a.now c.args.b.now c.args.c.now c.args.d.now
    (open-goes c.args.row.now ts
    (λ u. two_of (g.O.Operation.measured (length c.args.row.now)) g.O.Operation.op c.args.row.now c.args.s.now c.args.t.now
    (length c.args.res.now)) o)
    (two-clears (g.O.Operation.measured (length c.args.row.now)) g.O.Operation.op c.args.row.now c.args.s.now c.args.t.now
    (length c.args.res.now))
    c.two_of-answer.ensures.value c.two_of-answer.ensures.res_after
    (zeros_of c.two_of-answer.auto.a c.two_of-answer.auto.b c.two_of-answer.auto.c c.two_of-answer.auto.d
    (c.clear_tables.ensures.a_after, (c.clear_tables.ensures.b_after, (c.clear_tables.ensures.c_after, c.clear_tables.ensures.d_after))))

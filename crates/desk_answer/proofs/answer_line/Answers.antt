-- `desk_answer::answer_line` meets its contract: nothing where the buffer is too short, else the answer to the line.
use Rattle.std.proofs.Common.{List, [], ◌∷◌, ℕ, length}
use Rattle.desk_answer.specs.Laws.{answer-none, answer-some}
use Rattle.desk_answer.proofs.answer_line.Goals as goal

pub returns-then-out-lt-ROOM : goal.returns-then-out-lt-ROOM
returns-then-out-lt-ROOM c =
    let tables : List ℕ =
    length c.args.a.now ∷ length c.args.b.now ∷ length c.args.c.now ∷ length c.args.d.now ∷ [] in
    answer-none tables c.args.line.now c.args.out.now c.if-out-lt-ROOM.true

pub returns : goal.returns
returns c =
    let tables : List ℕ =
    length c.args.a.now ∷ length c.args.b.now ∷ length c.args.c.now ∷ length c.args.d.now ∷ [] in
    answer-some tables c.args.line.now c.if-out-lt-ROOM.false c.word_line.ensures

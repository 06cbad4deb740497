-- `door::enough` meets its contract, table by table.
use Rattle.std.proofs.Common.{sym}
use Rattle.door.specs.laws.Door.{enough-four, first_short, second_short, third-short, fourth-short}
use Rattle.door.proofs.enough.Goals as goal

pub returns-then-a-lt-TABLE : goal.returns-then-a-lt-TABLE
returns-then-a-lt-TABLE c =
    sym (first_short c.args.a c.args.b c.args.c c.args.d c.if-a-lt-TABLE.true)

pub returns-then-b-lt-TABLE : goal.returns-then-b-lt-TABLE
returns-then-b-lt-TABLE c =
    sym (second_short c.args.a c.args.b c.args.c c.args.d c.if-b-lt-TABLE.true)

pub returns-then-c-lt-TABLE : goal.returns-then-c-lt-TABLE
returns-then-c-lt-TABLE c =
    sym (third-short c.args.a c.args.b c.args.c c.args.d c.if-c-lt-TABLE.true)

pub returns-then-d-lt-TABLE : goal.returns-then-d-lt-TABLE
returns-then-d-lt-TABLE c =
    sym (fourth-short c.args.a c.args.b c.args.c c.args.d c.if-d-lt-TABLE.true)

pub returns : goal.returns
returns c =
    sym
    (enough-four c.args.a c.args.b c.args.c c.args.d c.if-a-lt-TABLE.false c.if-b-lt-TABLE.false c.if-c-lt-TABLE.false c.if-d-lt-TABLE.false)

-- `desk_answer::word_line` meets its contract, word by word.
use Rattle.std.proofs.Common.{List, [], ◌∷◌, ℕ, length}
use Rattle.desk_answer.specs.Laws.{by_word}
use Rattle.desk_answer.proofs.word_line.Goals as goal

pub returns-in-Form : goal.returns-in-Form
returns-in-Form c =
    let tables : List ℕ =
    length c.args.a.now ∷ length c.args.b.now ∷ length c.args.c.now ∷ length c.args.d.now ∷ [] in
    by_word tables c.args.line.now _ c.field.ensures c.word_of-word.ensures
    c.in-Form.is c.form_line.ensures

pub returns-in-Remainder : goal.returns-in-Remainder
returns-in-Remainder c =
    let tables : List ℕ =
    length c.args.a.now ∷ length c.args.b.now ∷ length c.args.c.now ∷ length c.args.d.now ∷ [] in
    by_word tables c.args.line.now _ c.field.ensures c.word_of-word.ensures
    c.in-Remainder.is c.remainder_line.ensures

pub returns-in-Judge : goal.returns-in-Judge
returns-in-Judge c =
    let tables : List ℕ =
    length c.args.a.now ∷ length c.args.b.now ∷ length c.args.c.now ∷ length c.args.d.now ∷ [] in
    by_word tables c.args.line.now _ c.field.ensures c.word_of-word.ensures
    c.in-Judge.is c.judge_line.ensures

pub returns-in-Negate : goal.returns-in-Negate
returns-in-Negate c =
    let tables : List ℕ =
    length c.args.a.now ∷ length c.args.b.now ∷ length c.args.c.now ∷ length c.args.d.now ∷ [] in
    by_word tables c.args.line.now _ c.field.ensures c.word_of-word.ensures
    c.in-Negate.is c.negate_line.ensures

pub returns-in-Add : goal.returns-in-Add
returns-in-Add c =
    let tables : List ℕ =
    length c.args.a.now ∷ length c.args.b.now ∷ length c.args.c.now ∷ length c.args.d.now ∷ [] in
    by_word tables c.args.line.now _ c.field.ensures c.word_of-word.ensures
    c.in-Add.is c.add_line.ensures

pub returns-in-Multiply : goal.returns-in-Multiply
returns-in-Multiply c =
    let tables : List ℕ =
    length c.args.a.now ∷ length c.args.b.now ∷ length c.args.c.now ∷ length c.args.d.now ∷ [] in
    by_word tables c.args.line.now _ c.field.ensures c.word_of-word.ensures
    c.in-Multiply.is c.multiply_line.ensures

pub returns-in-Raise : goal.returns-in-Raise
returns-in-Raise c =
    let tables : List ℕ =
    length c.args.a.now ∷ length c.args.b.now ∷ length c.args.c.now ∷ length c.args.d.now ∷ [] in
    by_word tables c.args.line.now _ c.field.ensures c.word_of-word.ensures
    c.in-Raise.is c.raise_line.ensures

pub returns-in-FormRemainder : goal.returns-in-FormRemainder
returns-in-FormRemainder c =
    let tables : List ℕ =
    length c.args.a.now ∷ length c.args.b.now ∷ length c.args.c.now ∷ length c.args.d.now ∷ [] in
    by_word tables c.args.line.now _ c.field.ensures c.word_of-word.ensures
    c.in-FormRemainder.is c.form_remainder_line.ensures

pub returns-in-Compare : goal.returns-in-Compare
returns-in-Compare c =
    let tables : List ℕ =
    length c.args.a.now ∷ length c.args.b.now ∷ length c.args.c.now ∷ length c.args.d.now ∷ [] in
    by_word tables c.args.line.now _ c.field.ensures c.word_of-word.ensures
    c.in-Compare.is c.compare_line.ensures

pub returns-in-Counters : goal.returns-in-Counters
returns-in-Counters c =
    let tables : List ℕ =
    length c.args.a.now ∷ length c.args.b.now ∷ length c.args.c.now ∷ length c.args.d.now ∷ [] in
    by_word tables c.args.line.now _ c.field.ensures c.word_of-word.ensures
    c.in-Counters.is c.counters_line.ensures

pub returns-in-Unknown : goal.returns-in-Unknown
returns-in-Unknown c =
    let tables : List ℕ =
    length c.args.a.now ∷ length c.args.b.now ∷ length c.args.c.now ∷ length c.args.d.now ∷ [] in
    by_word tables c.args.line.now _ c.field.ensures c.word_of-word.ensures
    c.in-Unknown.is c.wrong.ensures

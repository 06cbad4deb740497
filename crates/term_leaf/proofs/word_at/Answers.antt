-- `term_leaf::word_at` meets its contract: an integer, decimal or hexadecimal, or what a letter's test says.
use Rattle.std.proofs.Common.{sym, subst, List, ℕ}
use Rattle.std.proofs.Math.Path.{◌∙◌}
use Rattle.term_leaf.specs.Leaf.{Part, WordSays, word_tree}
use Rattle.term_leaf.specs.laws.Words.{word-int, is-hex, word-hex, word-letter, ready-two}
use Rattle.term_leaf.proofs.word_at.Goals as goal

pub returns-then-is_integer : goal.returns-then-is_integer
returns-then-is_integer c =
    let Said : List ℕ → Part → Type 0 =
    λ out q. WordSays c.args.d c.args.row.now (word_tree c.args.d c.args.p c.args.w.now) c.args.w.now
    c.args.p c.args.e out q in
    subst (Said _) (sym (c.found.ensures.is c.args.d))
    (word-int c.args.d c.args.row.now c.args.w.now _ _ (ready-two c.requires)
    (sym c.is_integer.ensures ∙ c.if-is_integer.true) _ c.decimal.ensures _ _ c.put.ensures)

pub hex_code-requires : goal.hex_code-requires
hex_code-requires c =
    is-hex c.args.d c.args.row.now c.args.w.now 0 0
    (sym c.hex_here.ensures ∙ c.if-hex_here.true)

pub returns-then-hex_here : goal.returns-then-hex_here
returns-then-hex_here c =
    let Said : List ℕ → Part → Type 0 =
    λ out q. WordSays c.args.d c.args.row.now (word_tree c.args.d c.args.p c.args.w.now) c.args.w.now
    c.args.p c.args.e out q in
    subst (Said _) (sym (c.found-then-hex_here.ensures.is c.args.d))
    (word-hex c.args.d c.args.row.now c.args.w.now _ _ (ready-two c.requires)
    (sym c.is_integer.ensures ∙ c.if-is_integer.false) (sym c.hex_here.ensures ∙ c.if-hex_here.true) _
    c.hex_code.ensures _ _ c.put-then-hex_here.ensures)

pub returns : goal.returns
returns c =
    word-letter c.args.d c.args.row.now c.args.w.now _ _
    (sym c.hex_here.ensures ∙ c.if-hex_here.false) (sym c.is_integer.ensures ∙ c.if-is_integer.false) _ _
    c.letter_of.ensures

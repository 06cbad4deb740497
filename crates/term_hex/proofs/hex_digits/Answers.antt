-- `term_hex::hex_digits` meets its contract: one to eight digits that do not begin with 0.
use Rattle.std.proofs.Common.{◌∙◌, sym, arith, rules, tests}
use Rattle.std.proofs.lemmas.Iterator.{YieldsList-from_slice}
use Rattle.std.proofs.lemmas.Iterator.Search.{all_from_yields_List}
use Rattle.text.specs.definitions.Integers.{hex_digit}
use Rattle.text_word.proofs.Walk.{all-list}
use Rattle.term_hex.specs.Laws.{digits-all}
use Rattle.term_hex.proofs.hex_digits.Goals as goal

pub returns-then-w-le-LONGEST : goal.returns-then-w-le-LONGEST
returns-then-w-le-LONGEST c =
    all_from_yields_List hex_digit _ _ c.all.result c.all.ensures.ran (YieldsList-from_slice c.args.w.now cc)
    (λ x b q k. search (rules, tests))
    ∙ sym (all-list hex_digit c.args.w.now)
    ∙ sym (digits-all c.args.w.now (omega arith) (λ z. omega arith) c.if-w-le-LONGEST.true)

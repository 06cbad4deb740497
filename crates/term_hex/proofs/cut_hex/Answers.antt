-- `term_hex::cut_hex` meets its contract. The invariant: what is left, from the value so far, is cut to what the whole is cut to.
use Rattle.std.proofs.Common.{◌≡◌, ◌∙◌, sym, ap, arith, ◌+◌, ◌*◌, min}
use Rattle.std.specs.Prelude.{drop}
use Rattle.std.proofs.Math.ListN.{get_or}
use Rattle.text.specs.definitions.Integers.{hex_digit, hex_value, hex_from}
use Rattle.text_word.proofs.Walk.{all_rest}
use Rattle.term_hex.specs.Laws.{value_on}
use Rattle.term_hex.proofs.cut_hex.Goals as goal

pub loop-b-preserved : goal.loop-b-preserved
loop-b-preserved c =
    let e : c.min-value.result ≡ min (c.loop-b.value * 16 + hex_value (get_or c.args.w.now c.loop-b.b-index 0)) 1073741824 =
    omega (arith, c.value_of.ensures.0) in
    record {
      within = omega arith;
      digits = all_rest hex_digit c.args.w.now c.loop-b.b-index c.loop-b-test.true c.loop-b.invariant.digits;
      same =
          ap (λ m. min (hex_from m (drop (c.loop-b.b-index + 1) c.args.w.now)) 1073741824) e
          ∙ sym (value_on c.args.w.now c.loop-b.b-index c.loop-b.value 1073741824 c.loop-b-test.true) ∙ c.loop-b.invariant.same;
    }

-- `text_word::cut_wide` meets its contract. The invariant: what is left, from the value so far, is cut to what the whole is cut to.
use Rattle.std.proofs.Common.{◌≡◌, ◌∙◌, sym, ap, arith, ◌+◌, ◌*◌, ◌-◌, min}
use Rattle.std.specs.Prelude.{drop}
use Rattle.std.proofs.Math.ListN.{get_or}
use Rattle.text.specs.definitions.Bytes.{digit, value_from}
use Rattle.text_word.proofs.Walk.{all_rest, value_on}
use Rattle.text_word.proofs.cut_wide.Goals as goal

pub loop-b-preserved : goal.loop-b-preserved
loop-b-preserved c =
    let e : c.min-value.result ≡ min (c.loop-b.value * 10 + (get_or c.args.w.now c.loop-b.b-index 0 - 48)) c.args.limit = omega arith in
    record {
      within = omega arith;
      digits = all_rest digit c.args.w.now c.loop-b.b-index c.loop-b-test.true c.loop-b.invariant.digits;
      same =
          ap (λ m. min (value_from m (drop (c.loop-b.b-index + 1) c.args.w.now)) c.args.limit) e
          ∙ sym (value_on c.args.w.now c.loop-b.b-index c.loop-b.value c.args.limit c.loop-b-test.true) ∙ c.loop-b.invariant.same;
    }

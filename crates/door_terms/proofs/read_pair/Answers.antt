-- `door_terms::read_pair` meets its contract: the left text is refused, or the right one, or both runs stand side by side.
use Rattle.std.proofs.Common.{◌≡◌, arith, rules}
use Rattle.std.specs.Prelude.{Ok}
use Rattle.std.proofs.lemmas.Result.{err_from_is_err_and}
use Rattle.code.proofs.Lists.{length-tail-part}
use Rattle.refusal.specs.Refusal.{on_side}
use Rattle.refusal.specs.declared.Side.TheVariants.{Right}
use Rattle.term_read.specs.laws.Reading.{read-words}
use Rattle.term_read.specs.laws.Terms.{run-words}
use Rattle.refusal.proofs.Exits.{mapped_err}
use Rattle.door_terms.specs.laws.Terms.{left-refused, right-refused, right-read}
use Rattle.door_terms.proofs.read_pair.Goals as goal

pub returns-in_default : goal.returns-in_default
returns-in_default c =
    rw c.on_side.ensures (left-refused _ c.unwrap_err.ensures c.read_into-reading.ensures)

pub read_into-behind-requires-clause-roomy : goal.read_into-behind-requires-clause-roomy
read_into-behind-requires-clause-roomy c =
    let h = c.in-Ok.is in
    omega (
      arith,
      c.read_into-reading.auto.a,
      c.read_into-reading.auto.b,
      c.read_into-reading.auto.c,
      c.read_into-reading.auto.d,
      c.requires.full.first,
      c.requires.full.second,
      c.requires.full.third,
      c.requires.full.fourth,
      run-words c.requires.row_value (read-words h c.read_into-reading.ensures),
      length-tail-part c.in-Ok.left c.read_into-reading.new.d,
    )

pub returns-in_err-right : goal.returns-in_err-right
returns-in_err-right c =
    let h = c.in-Ok.is in
    let m = mapped_err _ _ c.map_err.ensures.cases c.in_err-right.was in
    let side : c.in_err-right.field-0.0 ≡ on_side Right m.0 = search (rules, m.2) in
    let p = err_from_is_err_and c.from_residual.result c.from_residual.ensures.1 in
    rw (p.1, p.2, side) (right-refused _ (read-words h c.read_into-reading.ensures) m.1 c.read_into-behind.ensures)

pub returns : goal.returns
returns c =
    let h = c.in-Ok.is in
    let k : c.read_into-behind.result ≡ Ok c.in_ok-right.right = search rules in
    right-read c.read_into-reading.new.d c.read_into-behind.new.d (read-words h c.read_into-reading.ensures) (read-words k c.read_into-behind.ensures)

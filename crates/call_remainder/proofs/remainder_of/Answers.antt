-- `call_remainder::remainder_of` meets its contract: the term is refused, or its form's value is worked out at the coordinates'
-- remainders.
use Rattle.std.proofs.Common.{◌≡◌, refl, rules, length}
use Rattle.std.specs.Prelude.{Ok, drop}
use Rattle.code.specs.laws.Codes.{coded}
use Rattle.term_read.specs.laws.Reading.{read-words}
use Rattle.term_read.specs.laws.Terms.{term-codes}
use Rattle.call_remainder.specs.laws.Remainder.{remainder_is}
use Rattle.door_point.specs.laws.Residues.{front-leaves}
use Rattle.call_remainder.proofs.remainder_of.Goals as goal

pub value-v-requires : goal.value-v-requires
value-v-requires c =
    let h : c.read_term-reading.result ≡ Ok c.in_ok-n.n = search rules in
    let rest = drop (length c.args.point.now) c.read_term-reading.new.b in
    record {
      coded = coded (term-codes c.requires.row_value (read-words h c.read_term-reading.ensures));
      leaves = front-leaves c.args.point.now (length c.args.point.now) rest refl c.put_point.ensures;
    }

pub returns : goal.returns
returns c =
    let h : c.read_term-reading.result ≡ Ok c.in_ok-n.n = search rules in
    remainder_is c.args.point.now (length c.args.point.now) (drop (length c.args.point.now) c.read_term-reading.new.b) c.requires.row_value
    (read-words h c.read_term-reading.ensures) c.requires.point_len refl c.put_point.ensures c.value-v.ensures.0

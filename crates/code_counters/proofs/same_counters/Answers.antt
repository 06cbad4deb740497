-- `code_counters::same_counters` meets its contract: the form of a and the negated form of c are reduced ones, and b holds their sum at
-- the end.
-- Assumes nothing.
use Rattle.std.proofs.Common.{ap, ◌∙◌, arith}
use Rattle.horner.specs.definitions.Form.{is_zero}
use Rattle.code.specs.Widths.{ring_of}
use Rattle.code.specs.laws.Codes.{some, dec-enc, coded}
use Rattle.code_counters.proofs.Differences.{reduced, reduced-short, negated, negated-length, summed}
use Rattle.code_counters.proofs.same_counters.Goals as goal

pub reduce-m-requires : goal.reduce-m-requires
reduce-m-requires c =
    record {
      coded = c.requires.coded.1;
      room_under = omega (arith, some c.requires.coded.0, c.requires.room_under_2);
    }

pub negate-k-requires : goal.negate-k-requires
negate-k-requires c =
    record {
      coded = coded (reduced c.args.width c.requires.coded.1 c.reduce-m.ensures);
      x_in_bounds = omega (arith, reduced-short c.args.width c.requires.coded.1 c.reduce-m.ensures);
    }

pub sum-j-requires : goal.sum-j-requires
sum-j-requires c =
    let right = reduced c.args.width c.requires.coded.1 c.reduce-m.ensures in
    record {
      coded = (coded (reduced c.args.width c.requires.coded.0 c.reduce-n.ensures), coded (negated right c.negate-k.ensures));
      room_under = omega (
        arith,
        reduced-short c.args.width c.requires.coded.0 c.reduce-n.ensures,
        reduced-short c.args.width c.requires.coded.1 c.reduce-m.ensures,
        negated-length right c.negate-k.ensures,
        c.requires.room_under_2,
      );
    }

pub is_zero-requires : goal.is_zero-requires
is_zero-requires c =
    coded
    (summed (reduced c.args.width c.requires.coded.0 c.reduce-n.ensures)
    (negated (reduced c.args.width c.requires.coded.1 c.reduce-m.ensures) c.negate-k.ensures) c.sum-j.ensures)

pub returns : goal.returns
returns c =
    c.is_zero.ensures
    ∙ ap (is_zero (ring_of c.args.width))
    (dec-enc
    (summed (reduced c.args.width c.requires.coded.0 c.reduce-n.ensures)
    (negated (reduced c.args.width c.requires.coded.1 c.reduce-m.ensures) c.negate-k.ensures) c.sum-j.ensures))

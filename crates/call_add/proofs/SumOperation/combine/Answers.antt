-- `combine` of `Sum` meets its contract: the sum of the two codes stands for the sum of the forms.
use Rattle.std.proofs.Common.{arith, length-take-le}
use Rattle.form_read.specs.laws.Read.{form-words}
use Rattle.door_forms.specs.laws.Forms.{side_by_side}
use Rattle.call_add.specs.laws.Add.{sum-made}
use Rattle.call_add.proofs.SumOperation.combine.Goals as goal

pub add-requires : goal.add-requires
add-requires c =
    let F = c.requires.fitting in
    record {
      pair = side_by_side F.few F.pair;
      room_under = omega (
        arith,
        length-take-le 16384 c.args.b.now c.requires.long.second,
        form-words F.few F.pair.of_left,
        form-words F.few F.pair.of_right,
      );
    }

pub returns : goal.returns
returns c F =
    sum-made F.few F.pair F.fits c.add.ensures

-- `book_line::put_different` meets its contract: the line of a difference, and a line feed behind it.
use Rattle.std.proofs.Common.{arith}
use Rattle.form_write.specs.laws.Wrote.{wrote-byte, wrote-length}
use Rattle.book_line.proofs.put_different.Goals as goal

pub bounds-out-n : goal.bounds-out-n
bounds-out-n c =
    omega (arith, wrote-length c.different-n.ensures.wrote, c.different-n.ensures.upper_bound, c.requires.in_bounds)

pub returns : goal.returns
returns c =
    record {
      wrote = wrote-byte c.different-n.ensures.wrote 10 (omega (arith, c.different-n.ensures.upper_bound, c.requires.in_bounds));
      upper_bound = omega (arith, c.different-n.ensures.upper_bound);
    }

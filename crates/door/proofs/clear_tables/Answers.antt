-- `door::clear_tables` meets its contract: each table by `clear`.

use Rattle.door.proofs.clear_tables.Goals as goal

pub returns : goal.returns
returns c =
    record {
      a_after = c.clear.ensures;
      b_after = c.clear-2.ensures;
      c_after = c.clear-3.ensures;
      d_after = c.clear-4.ensures;
    }

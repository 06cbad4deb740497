-- `code_walk::same` meets its contract: what tells whether two codes are one tells whether their forms are.
-- Assumes nothing.
use Rattle.std.proofs.Common.{rules}
use Rattle.code_walk.specs.laws.Shapes.{decides-forms}
use Rattle.code_walk.proofs.same.Goals as goal

pub returns-clause-by_index : goal.returns-clause-by_index
returns-clause-by_index c w e f = decides-forms e f (search rules)

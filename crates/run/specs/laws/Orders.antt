-- What the laws of proofs/laws/Orders speak of.
use Rattle.std.specs.Prelude.{◌≡◌}
use Rattle.run.specs.Merging.{Order, over, level, under}

-- an order of keys
pub record Ordered {K : Type 0} (cmp : K → K → Order) : Type 0 where
  pub self : (k : K) → cmp k k ≡ level
  pub same : (k l : K) → cmp k l ≡ level → k ≡ l
  pub flip : (k l : K) → cmp k l ≡ under → cmp l k ≡ over
  pub trans : (k l m : K) → cmp k l ≡ over → cmp l m ≡ over → cmp k m ≡ over

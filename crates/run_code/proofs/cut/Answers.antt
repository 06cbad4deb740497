-- `run_code::cut` meets its contract: the keys fall, so that those from limit on stand in front.
-- Assumes nothing.
use Rattle.std.proofs.Common.{rules, of_calls, arith, sym, subst, length, ℕ, ◌/◌, ◌≡◌, true, false}
use Rattle.std.specs.List.Sorted.{IsPartitionedBy, IsPartitionPoint}
use Rattle.std.proofs.lemmas.List.Sorted.{IsPartitionPoint-from_clause}
use Rattle.run_code.proofs.Chunks.{from-limit, parted, cut-found}
use Rattle.run_code.proofs.cut.Goals as goal

pub returns : goal.returns
returns c =
    let limit : ℕ = c.args.limit in
    let k : ℕ = length c.args.x.now / 2 in
    let front = c.as_chunks.ensures.front in
    let found = IsPartitionPoint-from_clause (from-limit limit) _ _ c.partition_point.ensures.partitioned
    (subst (IsPartitionedBy (from-limit limit)) (sym front) (parted limit c.args.x.now c.requires k (omega arith)))
    (λ a r f t. search (rules, of_calls)) in
    cut-found limit c.args.x.now c.requires k c.partition_point.result (omega arith) (omega arith)
    (omega (arith, c.partition_point.ensures.bound, c.as_chunks.ensures.front_len))
    (subst (λ l. IsPartitionPoint (λ m. from-limit limit m ≡ true) (λ m. from-limit limit m ≡ false) l c.partition_point.result) front found)

-- What stands besides: theorems of this crate that no other proof leans on.
use Rattle.std.specs.Prelude.{refl, List, ℕ, ◌-◌, ◌≤◌, ◌<◌, length}
use Rattle.std.proofs.Common.{arith}
use Rattle.term_token.specs.declared.Step.TheVariants.{Open, Close, Word, End}
use Rattle.term_leaf.specs.declared.Kind.{Kind}
use Rattle.term_leaf.specs.declared.Kind.TheVariants as K
use Rattle.term_leaf.specs.Leaf.{TokenAt}

-- a token's place and end are small where the text is short
pub token-fits : {s : List ℕ} {at a e : ℕ} (kind : Kind) → TokenAt s at kind a e → length s ≤ 65535 → (a < 65536) × (e < 65536)
token-fits K.End t h =
    (omega (arith, (t.none_left refl).1.0, (t.none_left refl).1.1, t.inside), omega (arith, (t.none_left refl).1.1, t.inside))
token-fits K.Open t h = (omega (arith, t.more (λ z. cc), t.inside), omega (arith, t.inside))
token-fits K.Close t h = (omega (arith, t.more (λ z. cc), t.inside), omega (arith, t.inside))
token-fits K.Word t h = (omega (arith, t.more (λ z. cc), t.inside), omega (arith, t.inside))

-- What stands besides: theorems of this crate that no other proof leans on.
use Rattle.std.specs.Prelude.{true, List, [], ◌≡◌, ℕ, ℤ, pos, negsuc}
use Rattle.std.proofs.Common.{ap}
use Rattle.horner.specs.definitions.Form.{Form, int, pop, pow}
use Rattle.form_head.specs.declared.Kind.{Kind}
use Rattle.form_head.specs.declared.Kind.TheVariants.{Pop, Pow}
use Rattle.form_head.specs.Heads.{is_node, Stands, Standing, Headed}

-- neither an integer nor POP
pub kind-pow :
    {s : List ℕ} {at : ℕ} {kind : Kind} {number first : ℕ} → Headed s at kind number first → Standing s at → is_node kind ≡ true →
    (kind ≡ Pop → ⊥) → kind ≡ Pow
kind-pow {s} {at} {kind} {number} {first} H S k n = go S.g S.rest S.stands
  where
    go : (g : Form ℤ) (rest : List ℕ) → Stands s at g rest → kind ≡ Pow
    go (int (pos n)) rest h = absurd (cc (k, ap is_node (H _ _ h).is-kind))
    go (int (negsuc n)) rest h = absurd (cc (k, ap is_node (H _ _ h).is-kind))
    go (pop i p) rest h = absurd (n (H _ _ h).is-kind)
    go (pow i p q) rest h = (H _ _ h).is-kind

-- A head written in front of what a part of the table holds, and a second part behind.
use Rattle.std.proofs.Common.{false, List, [], ◌∷◌, ◌++◌, ap, arith, ℕ, ◌+◌, ◌-◌, ◌≤◌, ◌<◌, length}
use Rattle.std.proofs.Math.Path.{◌≡◌, ◌∙◌}
use Rattle.std.specs.Prelude.{set}
use borrow.Rule.Slice.PartMut.{put_mid}
use Rattle.code.specs.Coding.{Begins}
use Rattle.form_head.specs.declared.Kind.{Kind}
use Rattle.form_head.specs.Heads.{is_node, Headed}
use Rattle.form_head.specs.laws.Parts.{ends-int}
use Rattle.form_build.specs.Build.{leaf_word, BuiltAt}
use Rattle.form_build.specs.laws.Build.{leaf-made}
use Rattle.code.proofs.Lists.{begins-as, begins-le, begins-set, begins-tail}
use Rattle.code.proofs.Regions.{begins-store, region-put}

-- the part from 1 on is put back as e, and then x is stored at 0
pub put_front : (d e : List ℕ) (n x : ℕ) → 1 + n ≤ length d → length (put_mid 1 (length d - 1) d e) ≡ length d → (l : List ℕ) → Begins n l e
    → Begins (1 + n) (x ∷ l) (set (put_mid 1 (length d - 1) d e) 0 x)
put_front d e n x h k l b =
    begins-as (begins-store (put_mid 1 (length d - 1) d e) n x (omega (arith, h, k)))
    (ap (λ w. x ∷ w) (region-put 1 0 n d e (omega (arith, h)) (omega (arith, begins-le b)) ∙ b.is))

pub put_both :
    (d e e₂ : List ℕ) (n m x : ℕ) → 1 + n ≤ length d → length (put_mid 1 (length d - 1) d e) ≡ length d → (k l : List ℕ) → Begins n k e →
    Begins m l e₂
    → let w = set (put_mid 1 (length d - 1) d e) 0 x in Begins (1 + n + m) (x ∷ k ++ l) (put_mid (1 + n) (length w - (1 + n)) w e₂)
put_both d e e₂ n m x h q k l b c = begins-tail (put_front d e n x h q k b) c

-- an integer, which is one word
pub leaf-built :
    {s : List ℕ} {at : ℕ} {kind : Kind} {number first : ℕ} → Headed s at kind number first → is_node kind ≡ false → (d : List ℕ) →
    0 < length d → (w : ℕ) →
    w ≡ leaf_word kind number
    → BuiltAt s at 1 first (set d 0 w)
leaf-built H k d h w e =
    record { ends = ends-int H k; made = λ g rest r f. begins-as (begins-set d w h) (ap (λ x. x ∷ []) e ∙ leaf-made H k g rest r f) }

-- What `to_code` makes of a run, in the two cases that the cut tells apart.
-- Assumes nothing.
use Rattle.std.proofs.Common.{arith, length, List, ℕ, ◌+◌, ◌-◌, ◌*◌, ◌/◌, ◌^◌, ◌≤◌}
use Rattle.std.proofs.Math.Path.{◌≡◌}
use Rattle.std.proofs.Math.ListN.{get_or}
use Rattle.std.specs.Prelude.{take, drop}
use Rattle.code.specs.Coding.{enc, Codes, Begins}
use Rattle.code.specs.laws.Sizes.{enc-pos}
use Rattle.code.proofs.Making.{one-put, two-put, made-codes, two_made}
use Rattle.run_merge.specs.Words.{pairs}
use Rattle.run_code.specs.Decoding.{form_at, Placed, Even, Cut}
use Rattle.run_code.specs.laws.Cutting.{PowStep, pow_step, PopStep, pop_step}
use Rattle.run_code.specs.laws.Parts.{form-good}

-- there is a word for a code, and one for each variable
pub room-for : (n base : ℕ) (x : List ℕ) {o : ℕ} → length (enc 0 (form_at n base x)) + n ≤ o → 1 + n ≤ o
room-for n base x h = omega (arith, h, enc-pos 0 (form_at n base x))

-- ---- a cut at the beginning
pub pop-found : {n u base e : ℕ} {x : List ℕ} → (n ≡ 0 → ⊥) → u ≡ 64 ^ (n - 1) → Placed n base (pairs x) → Cut (base + u) x e → e ≡ 0
    → PopStep n (n - 1) base x
pop-found {n} {u} {base} {e} {x} z o h c q = pop_step n (n - 1) u base x e (omega (arith, z)) o h c q

pub pop-made : {n base a : ℕ} {x : List ℕ} (out : List ℕ) {d : List ℕ} → PopStep n (n - 1) base x → n ≤ 4 → 1 + n ≤ length out
    → Begins a (enc 0 (form_at (n - 1) base x)) d → Codes 0 (form_at (n - 1) base x) (take a (drop 1 (one-put out d)))
pop-made {n} {base} {a} {x} out {d} v l r m = made-codes 1 out d a (omega (arith, r)) m (form-good (n - 1) base x (omega (arith, l)) v.placed)

-- ---- a cut behind the first word
pub pow-found : {n u i base e : ℕ} {x : List ℕ} → (n ≡ 0 → ⊥) → u ≡ 64 ^ (n - 1) → i ≡ (get_or x (e - 2) 0 - base) / 64 ^ (n - 1)
    → Placed n base (pairs x) → Even (length x) → Cut (base + u) x e → (e ≡ 0 → ⊥)
    → PowStep n (n - 1) u i base x e (take e x) (take (length x - e) (drop e x))
pow-found {n} {u} {i} {base} {e} {x} z o r h ev c s = pow_step n (n - 1) u i base x e (omega (arith, z)) o r h ev c s

-- the code of what stands before the cut, of a words, and then that of what stands behind it
pub pow-made : {n u i base e a b : ℕ} {x y z : List ℕ} (out : List ℕ) {d d' : List ℕ} → PowStep n (n - 1) u i base x e y z → n ≤ 4
    → length (enc 0 (form_at n base x)) + n ≤ length out → length (one-put out d) ≡ length out
    → Begins a (enc 0 (form_at n (base + i * u) y)) d → Begins b (enc 0 (form_at (n - 1) base z)) d'
    → Codes 0 (form_at n (base + i * u) y) (take a (drop 1 (two-put out d d' a)))
    × Codes 0 (form_at (n - 1) base z) (take b (drop (1 + a) (two-put out d d' a)))
pow-made {n} {u} {i} {base} {e} {a} {b} {x} {y} {z} out {d} {d'} v l r k m m' =
    two_made out d d' a b (omega (arith, r, v.words)) (omega (arith, r, k, v.words, m.size)) m (form-good n _ _ l v.front)
    m' (form-good (n - 1) _ _ (omega (arith, l)) v.back)

-- What two answers of a term's reading have in common, and what is told of one.
use Rattle.std.specs.Prelude.{◌≡◌, ℕ}
use Rattle.std.proofs.Common.{sym, ap, arith}
use Rattle.text.specs.definitions.Answer.{Reading, read, refused, told}
use Rattle.text.specs.definitions.Bytes as B
use Rattle.text_laws.specs.laws.Bytes as L

-- a refusal is not a reading
pub no-refusal : {A : Type 0} {c p e : ℕ} {a : A} {P : Type 0} → refused c p e ≡ read a → P
no-refusal h = let z : ◌≡◌ {A = ℕ} 0 1 = cc in absurd (omega arith)

-- two refusals that are the same have the same number, place and end
pub refusal-parts :
    {A : Type 0} (c p e c' p' e' : ℕ) → ◌≡◌ {A = Reading A} (refused c p e) (refused c' p' e') → (c' ≡ c) × (p' ≡ p) × (e' ≡ e)
refusal-parts c p e c' p' e' h =
    let i : c' ≡ c = cc in
    let j : p' ≡ p = cc in
    let k : e' ≡ e = cc in
    (i, j, k)

-- ---- told by number and place
pub told-read : {A : Type 0} (x : Reading A) (a : A) → told x ≡ B.read a → x ≡ read a
told-read (read b) a h = let i : b ≡ a = cc in ap read i
told-read (refused c p e) a h = L.no-refusal h

-- the end that was not told
pub record Ended {A : Type 0} (x : Reading A) (c p : ℕ) : Type 0 where
  pub end : ℕ
  pub is : x ≡ refused c p end

-- a refusal is told as one
pub told-refused : {A : Type 0} (x : Reading A) (c p : ℕ) → told x ≡ B.refused_at c p → Ended x c p
told-refused (read a) c p h = L.no-refusal (sym h)
told-refused (refused c' p' e) c p h =
    let q = L.refusal-parts c' p' c p h in
    record { end = e; is = λ i. refused (sym q.0 i) (sym q.1 i) e }

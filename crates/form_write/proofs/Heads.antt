-- What write_head leaves: five bytes, the digits of i through the part behind them, and a space.
use Rattle.std.proofs.Common.{List, [], ◌∷◌, ◌++◌, refl, length, ℕ, ◌+◌, ◌-◌, ◌≤◌, ◌<◌, arith}
use Rattle.std.proofs.Math.Path.{◌≡◌}
use Rattle.std.specs.Prelude.{take, drop, set}
use borrow.Rule.Slice.PartMut.{put_mid}
use Rattle.form_write.specs.Write.{numeral, head_text, Wrote}
use Rattle.form_write.specs.laws.Wrote.{wrote_none, wrote_as, wrote-byte, wrote_on}

abbrev pub five : ℕ → List ℕ → List ℕ
five c old = set (set (set (set (set old 0 40) 1 80) 2 79) 3 c) 4 32

pub wrote-five : (c : ℕ) (old : List ℕ) → 5 ≤ length old → Wrote 5 (40 ∷ 80 ∷ 79 ∷ c ∷ 32 ∷ []) old (five c old)
wrote-five c old h =
    wrote-byte (wrote-byte (wrote-byte (wrote-byte (wrote-byte (wrote_none old) 40 (omega arith)) 80 (omega arith)) 79 (omega arith)) c
    (omega arith)) 32 (omega arith)

head-is : (c i : ℕ) → ((40 ∷ 80 ∷ 79 ∷ c ∷ 32 ∷ []) ++ numeral i) ++ (32 ∷ []) ≡ head_text c i
unfolding head_text
head-is c i = refl

pub wrote-head :
    {n : ℕ} (c i : ℕ) (old e : List ℕ) → 5 + n < length old → Wrote n (numeral i) (take (length (five c old) - 5) (drop 5 (five c old)))
    e →
    Wrote (5 + n + 1) (head_text c i) old (set (put_mid 5 (length (five c old) - 5) (five c old) e) (5 + n) 32)
wrote-head c i old e h g = wrote_as (wrote-byte (wrote_on (wrote-five c old (omega arith)) g) 32 h) (head-is c i)

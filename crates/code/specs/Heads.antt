-- What the first word of a coded form says: the source's own Head.
use Rattle.std.specs.Prelude.{◌≡◌, ℕ, ◌-◌, ◌/◌, ◌%◌, ◌<◌, ◌≤◌}
use Rattle.code.specs.declared.Head.{Head}
use Rattle.code.specs.declared.Head.TheVariants.{Leaf, Pop, Pow}

pub record SaysLeaf (w a : ℕ) : Type 0 where
  pub is : a ≡ w
  pub below : w < 2147483648

pub record SaysPop (w i : ℕ) : Type 0 where
  pub node : 2147483648 ≤ w
  pub none : (w - 2147483648) / 64 ≡ 0
  pub exponent : i ≡ w % 64

pub record SaysPow (w i s : ℕ) : Type 0 where
  pub node : 2147483648 ≤ w
  pub size : s ≡ (w - 2147483648) / 64
  pub some : 0 < s
  pub exponent : i ≡ w % 64

-- w says h
abbrev pub HeadIs : ℕ → Head → Type 0
HeadIs w (Leaf a) = SaysLeaf w a
HeadIs w (Pop i) = SaysPop w i
HeadIs w (Pow i s) = SaysPow w i s

-- What stands besides: a definition of this crate that no function asks for any longer.
use Rattle.std.specs.Prelude.{List, ℕ, ◌≤◌, get_or}

-- a code whose head word is a POW's: 2,147,483,648, its exponent, and 64 times the words of its p
abbrev pub PowWord : List ℕ → Type 0
PowWord l = 2147483712 ≤ get_or l 0 0

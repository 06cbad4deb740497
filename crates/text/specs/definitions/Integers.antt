-- The integers of a dialect: decimal ones as document 01 has them, and hexadecimal ones where the dialect has them.
use Rattle.std.specs.Prelude.{Bool, true, false, ◌&&◌, ◌||◌, cond, List, [], ◌∷◌, ℕ, ◌+◌, ◌-◌, ◌*◌, eqb, leb, ℤ, pos, length, drop}
use Rattle.std.proofs.Math.Option.{Option, none, some}
use Rattle.text.specs.definitions.Bytes.{digit, all, is_empty, read_int}

-- "digits 0 to 9 or A to F"
abbrev pub hex_digit : ℕ → Bool
hex_digit x = digit x || (leb 65 x && leb x 70)

-- what a digit stands for
abbrev pub hex_value : ℕ → ℕ
hex_value x = elim (leb 65 x) [ true ↦ x - 55 | false ↦ x - 48 ]

-- "one to eight digits .., no leading zero save `0x0`"
abbrev pub hex_digits : List ℕ → Bool
hex_digits [] = false
hex_digits (x ∷ xs) = elim (eqb x 48) [ true ↦ is_empty xs | false ↦ leb (length xs) 7 && (hex_digit x && all hex_digit xs) ]

-- "`0x` and one to eight digits ..; no sign"
unfoldable pub is_hex : List ℕ → Bool
is_hex [] = false
is_hex (a ∷ []) = false
is_hex (a ∷ b ∷ ds) = eqb a 48 && (eqb b 120 && hex_digits ds)

-- the number that the digits stand for, after those that stand for a
abbrev pub hex_from : ℕ → List ℕ → ℕ
hex_from a [] = a
hex_from a (x ∷ xs) = hex_from (a * 16 + hex_value x) xs

-- the integer that a hexadecimal word is
unfoldable pub read_hex : List ℕ → Option ℤ
unfolding is_hex
read_hex w = cond (is_hex w) (some (pos (hex_from 0 (drop 2 w)))) none

-- a word that is no decimal integer may be a hexadecimal one
abbrev pub or_hex : Bool → List ℕ → Option ℤ → Option ℤ
or_hex h w (some z) = some z
or_hex true w none = read_hex w
or_hex false w none = none

-- the integer that a word is, in a dialect with or without hexadecimal ones
unfoldable pub integer_of : Bool → List ℕ → Option ℤ
unfolding read_int read_hex
integer_of h w = or_hex h w (read_int w)

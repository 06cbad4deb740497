-- What stands besides: theorems of this crate that no other proof leans on.
use Rattle.std.specs.Prelude.{true, List, ◌≡◌, ℕ, ◌≤◌, ℤ, length}
use Rattle.std.proofs.Common.{arith}
use Rattle.text.specs.definitions.Bytes.{is_row}
use Rattle.text_laws.specs.laws.Rows.{row-length}
use Rattle.code.specs.Lengths.{Long}

-- a table has room for the coordinates
pub room_for : (row : List ℕ) {a b c d : ℕ} (N : List ℤ) → is_row row ≡ true → Long a b c d → length N ≡ length row → length N ≤ b
room_for row N r l e = omega (arith, (row-length row r).1, l.second)

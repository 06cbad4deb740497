-- A request line: fields parted by one tab each, and the numbers in them.
use Rattle.std.specs.Prelude.{Option, Some, None, Bool, true, false, cond, List, [], ◌∷◌, ◌≡◌, ℕ, zero, suc, ◌+◌, ◌≤◌, eqb, ltb, min, ℤ, pos, negsuc, length, take, drop}
use Rattle.std.proofs.Math.Option.{none, some}
use Rattle.std.proofs.Math.Option as Read
use Rattle.text.specs.definitions.Bytes.{read_nat, read_int}

-- the bytes before the first tab
abbrev pub first_of : List ℕ → List ℕ
first_of [] = []
first_of (x ∷ s) = elim (eqb x 9) [ true ↦ [] | false ↦ x ∷ first_of s ]

-- the bytes behind the first tab; none where there is no tab
abbrev pub rest_of : List ℕ → List ℕ
rest_of [] = []
rest_of (x ∷ s) = elim (eqb x 9) [ true ↦ s | false ↦ rest_of s ]

-- field k of a line, from 0
abbrev pub field_of : List ℕ → ℕ → List ℕ
field_of s zero = first_of s
field_of s (suc k) = field_of (rest_of s) k

abbrev pub tabs : List ℕ → ℕ
tabs [] = 0
tabs (x ∷ s) = elim (eqb x 9) [ true ↦ suc (tabs s) | false ↦ tabs s ]

-- how many fields a line has
abbrev pub count_of : List ℕ → ℕ
count_of s = suc (tabs s)

-- the first field of s has r bytes, and the next one begins behind byte r
pub record EndsAt (r : ℕ) (s : List ℕ) : Type 0 where
  pub within : r ≤ length s
  pub first : take r s ≡ first_of s
  pub rest : drop (r + 1) s ≡ rest_of s

-- a decimal number, cut down to 4,294,967,296
abbrev pub cut_of : Read.Option ℕ → Option ℕ
cut_of none = None
cut_of (some n) = Some (min n 4294967296)

-- a decimal number that fits 32 bits
abbrev pub natural32 : Read.Option ℕ → Option ℕ
natural32 none = None
natural32 (some n) = cond (ltb n 4294967296) (Some n) None

abbrev pub natural_of : List ℕ → Option ℕ
natural_of w = natural32 (read_nat w)

-- a decimal number from -2^31 to 2^31 - 1
abbrev pub signed32 : Read.Option ℤ → Option ℤ
signed32 none = None
signed32 (some (pos n)) = cond (ltb n 2147483648) (Some (pos n)) None
signed32 (some (negsuc n)) = cond (ltb n 2147483648) (Some (negsuc n)) None

abbrev pub signed_of : List ℕ → Option ℤ
signed_of w = signed32 (read_int w)

abbrev pub is_coordinate : Option ℤ → Bool
is_coordinate (Some z) = true
is_coordinate None = false

-- the number itself; 0 where there is none
abbrev pub coordinate_of : Option ℤ → ℤ
coordinate_of (Some z) = z
coordinate_of None = pos 0

-- how many of the first n fields of s are coordinates, up to the first that is none
abbrev pub coordinates_of : ℕ → List ℕ → ℕ
coordinates_of zero s = 0
coordinates_of (suc n) s = elim (is_coordinate (signed_of (first_of s))) [ true ↦ suc (coordinates_of n (rest_of s)) | false ↦ 0 ]

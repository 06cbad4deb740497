-- What a book is, and what is wrong with one, said without reading: its fields in reading order, and which of them are good.
use Rattle.std.specs.Prelude.{Bool, true, false, ◌&&◌, List, [], ◌∷◌, ◌++◌, ◌≡◌, ℕ, zero, suc, ◌+◌, ◌*◌, ◌≤◌, ◌<◌, eqb, leb, length, take, drop, get_or}
use Rattle.text.specs.definitions.Bytes.{is_row}

-- an entry's two bodies
pub record Entry : Type 0 where
  pub panel : List ℕ
  pub cloud : List ℕ

-- a row of variables, and entries over it
pub record Book : Type 0 where
  pub row : List ℕ
  pub all : List Entry

-- ---- what the bytes s say
-- n bytes from the place p on
abbrev pub part : List ℕ → ℕ → ℕ → List ℕ
part s p n = take n (drop p s)

-- "little-endian 16-bit numbers": the one at the place p
abbrev pub number16 : List ℕ → ℕ → ℕ
number16 s p = get_or s p 0 + 256 * get_or s (p + 1) 0

-- "Byte 0 is the number of variables"
abbrev pub variables : List ℕ → ℕ
variables s = get_or s 0 0

-- "then the letters"
abbrev pub row_of : List ℕ → List ℕ
row_of s = part s 1 (variables s)

-- "one byte with the number of entries"
abbrev pub count : List ℕ → ℕ
count s = get_or s (1 + variables s) 0

-- "per entry four little-endian 16-bit numbers": where those of entry i start
abbrev pub numbers_at : List ℕ → ℕ → ℕ
numbers_at s i = 2 + variables s + 8 * i

-- "panel offset, panel length, cloud offset, cloud length"
abbrev pub panel_offset : List ℕ → ℕ → ℕ
panel_offset s i = number16 s (numbers_at s i)

abbrev pub panel_length : List ℕ → ℕ → ℕ
panel_length s i = number16 s (numbers_at s i + 2)

abbrev pub cloud_offset : List ℕ → ℕ → ℕ
cloud_offset s i = number16 s (numbers_at s i + 4)

abbrev pub cloud_length : List ℕ → ℕ → ℕ
cloud_length s i = number16 s (numbers_at s i + 6)

-- the two bodies of entry i, "offsets from byte 0"
abbrev pub panel_of : List ℕ → ℕ → List ℕ
panel_of s i = part s (panel_offset s i) (panel_length s i)

abbrev pub cloud_of : List ℕ → ℕ → List ℕ
cloud_of s i = part s (cloud_offset s i) (cloud_length s i)

-- "Bodies follow without gaps in that order": where those of entry i have to start, the first right behind the numbers of all entries
abbrev pub bodies_at : List ℕ → ℕ → ℕ
bodies_at s zero = numbers_at s (count s)
bodies_at s (suc i) = bodies_at s i + panel_length s i + cloud_length s i

-- where the last body ends
abbrev pub bodies_end : List ℕ → ℕ
bodies_end s = bodies_at s (count s)

-- ---- fields
-- where a field starts, how many bytes it has, and whether what stands there is right
pub record Field : Type 0 where
  pub start : ℕ
  pub size : ℕ
  pub good : Bool

abbrev pub field : (start size : ℕ) → Bool → Field
field p k b = record { start = p; size = k; good = b }

-- the place behind its last byte
abbrev pub past : Field → ℕ
past f = f.start + f.size

-- "Byte 0 is the number of variables", 1 to 4 as in a row
abbrev pub variables_field : List ℕ → Field
variables_field s = field 0 1 (leb 1 (variables s) && leb (variables s) 4)

-- "A bad row is 13 here; each letter is a field": with letter i the letters so far are a row
abbrev pub letter_field : List ℕ → ℕ → List Field
letter_field s i = field (1 + i) 1 (is_row (part s 1 (1 + i))) ∷ []

-- "one byte with the number of entries, 1 to 64"
abbrev pub count_field : List ℕ → Field
count_field s = field (1 + variables s) 1 (leb 1 (count s) && leb (count s) 64)

-- the four numbers of entry i: an offset is where the body before ends; "a length is wrong if its body passes the end"
abbrev pub number_fields : List ℕ → ℕ → List Field
number_fields s i =
    field (numbers_at s i) 2 (eqb (panel_offset s i) (bodies_at s i)) ∷
    field (numbers_at s i + 2) 2 (leb (panel_offset s i + panel_length s i) (length s)) ∷
    field (numbers_at s i + 4) 2 (eqb (cloud_offset s i) (bodies_at s i + panel_length s i)) ∷
    field (numbers_at s i + 6) 2 (leb (cloud_offset s i + cloud_length s i) (length s)) ∷
    []

-- what f makes of i and of the numbers behind it, k in all
abbrev pub each : {A : Type 0} → (ℕ → List A) → (i k : ℕ) → List A
each f i zero = []
each f i (suc k) = f i ++ each f (suc i) k

-- the fields "in reading order", as many as the bytes themselves say; none behind the first wrong one counts
abbrev pub fields_of : List ℕ → List Field
fields_of s = variables_field s ∷ (each (letter_field s) 0 (variables s) ++ (count_field s ∷ each (number_fields s) 0 (count s)))

-- ---- a book, and a refused one
abbrev pub entry_of : List ℕ → ℕ → List Entry
entry_of s i = record { panel = panel_of s i; cloud = cloud_of s i } ∷ []

-- each of these fields is whole and good
abbrev pub AllFine : List ℕ → List Field → Type 0
AllFine s [] = Unit {0}
AllFine s (f ∷ fs) = ((past f ≤ length s) × (f.good ≡ true)) × AllFine s fs

-- s is the book b (laws/Meaning, book-is: exactly then it is read as b)
pub record IsBook (s : List ℕ) (b : Book) : Type 0 where
  pub short : length s ≤ 65535
  pub fine : AllFine s (fields_of s)
  pub to_the_end : bodies_end s ≡ length s
  pub row_is : b.row ≡ row_of s
  pub entries-are : b.all ≡ each (entry_of s) 0 (count s)

-- f is one of the fields, and those before it are whole and good
pub record First (s : List ℕ) (fs : List Field) (f : Field) : Type 0 where
  pub before : List Field
  pub behind : List Field
  pub parts : fs ≡ before ++ (f ∷ behind)
  pub fine : AllFine s before

-- The refusals of a book: exactly these (laws/Meaning, book-refused)
pub data BookRefused (s : List ℕ) (e p : ℕ) : Type 0 where
  -- "3: .. book over 65,535", place 0
  too_long : e ≡ 3 → p ≡ 0 → 65535 < length s → BookRefused s e p
  -- "13 names the start of the first wrong field in reading order"
  wrong-field :
      e ≡ 13 → length s ≤ 65535 → (f : Field) → First s (fields_of s) f → past f ≤ length s → f.good ≡ false → p ≡ f.start →
      BookRefused s e p
  -- "the book's length if a field is cut"
  cut_field : e ≡ 13 → length s ≤ 65535 → (f : Field) → First s (fields_of s) f → length s < past f → p ≡ length s → BookRefused s e p
  -- "or the first byte too many"
  byte-too-many : e ≡ 13 → length s ≤ 65535 → AllFine s (fields_of s) → bodies_end s < length s → p ≡ bodies_end s → BookRefused s e p

-- Document 01's case B, and books that are refused, by computation.
use Rattle.std.specs.Prelude.{Bool, true, ◌&&◌, List, [], ◌∷◌, ◌++◌, ℕ, zero, suc, T}
use Prim.Native.String.{String}
use Rattle.text.specs.definitions.Bytes.{bytes, same, decimal}
use Rattle.text.specs.definitions.Limits.{accept_term}
use Rattle.book.specs.definitions.Book.{read_book, printed, entry_line}

abbrev pub head : List ℕ
head =
    2 ∷ 88 ∷ 89 ∷ 3 ∷
    28 ∷ 0 ∷ 19 ∷ 0 ∷ 47 ∷ 0 ∷ 25 ∷ 0 ∷
    72 ∷ 0 ∷ 7 ∷ 0 ∷ 79 ∷ 0 ∷ 1 ∷ 0 ∷
    80 ∷ 0 ∷ 9 ∷ 0 ∷ 89 ∷ 0 ∷ 1 ∷ 0 ∷
    []

abbrev pub bodies : List ℕ
bodies = bytes "(* (+ X Y) (- X Y))(- (EXPT X 2) (EXPT Y 2))(* X Y)0(+ X Y Z)1"

-- "Case B"
abbrev pub case_b : List ℕ
case_b = head ++ bodies

abbrev pub holds : List ℕ → String → Bool
unfolding printed read_book entry_line accept_term decimal
holds book text = same (printed book) (bytes text)

pub case-b-holds : T (holds case_b "BOOK 2 3\n0 SAME\n1 DIFF 1 1 1 0\n2 REFUSED E 4 7\n")
unfolding holds
case-b-holds = tt

-- n times
abbrev pub times : ℕ → ℕ → List ℕ
times zero x = []
times (suc n) x = x ∷ times n x

pub data Refused : Type 0 where
  gives : (book : List ℕ) (text : String) → Refused

abbrev pub refusals : List Refused
refusals =
    gives [] "BOOK REFUSED 13 0\n" ∷
    gives (0 ∷ []) "BOOK REFUSED 13 0\n" ∷
    gives (5 ∷ []) "BOOK REFUSED 13 0\n" ∷
    -- a cut field: the book's length
    gives (1 ∷ []) "BOOK REFUSED 13 1\n" ∷
    gives (1 ∷ 88 ∷ []) "BOOK REFUSED 13 2\n" ∷
    gives (1 ∷ 88 ∷ 1 ∷ 11 ∷ []) "BOOK REFUSED 13 4\n" ∷
    gives (1 ∷ 88 ∷ 1 ∷ 11 ∷ 0 ∷ 1 ∷ []) "BOOK REFUSED 13 6\n" ∷
    -- letters, each a field: no capital, and one that is there already
    gives (2 ∷ 88 ∷ 120 ∷ []) "BOOK REFUSED 13 2\n" ∷
    gives (3 ∷ 88 ∷ 89 ∷ 88 ∷ []) "BOOK REFUSED 13 3\n" ∷
    -- 0 and 65 entries
    gives (1 ∷ 88 ∷ 0 ∷ []) "BOOK REFUSED 13 2\n" ∷
    gives (1 ∷ 88 ∷ 65 ∷ []) "BOOK REFUSED 13 2\n" ∷
    -- the offset of the first body, though its length is cut; of the second
    gives (1 ∷ 88 ∷ 1 ∷ 12 ∷ 0 ∷ []) "BOOK REFUSED 13 3\n" ∷
    gives (1 ∷ 88 ∷ 1 ∷ 11 ∷ 0 ∷ 1 ∷ 0 ∷ 11 ∷ 0 ∷ 1 ∷ 0 ∷ 49 ∷ 49 ∷ []) "BOOK REFUSED 13 7\n" ∷
    -- a body that passes the end: its length
    gives (1 ∷ 88 ∷ 1 ∷ 11 ∷ 0 ∷ 1 ∷ 0 ∷ 12 ∷ 0 ∷ 2 ∷ 0 ∷ 49 ∷ 49 ∷ []) "BOOK REFUSED 13 9\n" ∷
    -- a byte too many
    gives (1 ∷ 88 ∷ 1 ∷ 11 ∷ 0 ∷ 1 ∷ 0 ∷ 12 ∷ 0 ∷ 1 ∷ 0 ∷ 49 ∷ 49 ∷ 49 ∷ []) "BOOK REFUSED 13 13\n" ∷
    -- too long
    gives (times 65536 1) "BOOK REFUSED 3 0\n" ∷
    []

abbrev pub all_hold : List Refused → Bool
unfolding holds
all_hold [] = true
all_hold (gives b t ∷ rs) = holds b t && all_hold rs

pub refusals-hold : T (all_hold refusals)
unfolding all_hold
refusals-hold = tt

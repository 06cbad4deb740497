-- Reading a book, field after field (laws/Meaning: it is read and refused exactly as Meaning says), and what the printer writes.
use Rattle.std.specs.Prelude.{Bool, true, false, ◌&&◌, List, [], ◌∷◌, ◌++◌, map, ℕ, zero, suc, ◌+◌, ◌*◌, eqb, leb, length, take, drop, get_or}
pub use Rattle.book.specs.definitions.Meaning.{Entry, Book, number16, part}
use Rattle.refusal.specs.declared.Side.{Side}
use Rattle.refusal.specs.declared.Side.TheVariants.{Left, Right, Neither}
use Rattle.reply.specs.definitions.Calls.{Verdict, equal, different, compare_of}
use Rattle.reply.specs.definitions.Reply.{Written, Reply, gives, refuses, asked, enough, fitted, Work, lengths, Writes}
use Rattle.text.specs.definitions.Bytes.{Reading, read, refused, refused_at, onward, is_row, bytes, decimal}

-- "13 names the start of the first wrong field": p, unless the test holds
abbrev pub must : {A : Type 0} → Bool → ℕ → (Unit {0} → Reading A) → Reading A
must true p r = r tt
must false p r = refused_at 13 p

-- "the book's length if a field is cut": k bytes at the place p
abbrev pub whole : {A : Type 0} → (book : List ℕ) (p k : ℕ) → (Unit {0} → Reading A) → Reading A
whole book p k r = must (leb (p + k) (length book)) (length book) r

-- "A bad row is 13 here; each letter is a field": with each of the k letters behind the first i, the letters so far are a row
abbrev pub letters : List ℕ → ℕ → ℕ → Reading (Unit {0})
letters book i zero = read tt
letters book i (suc k) = whole book (1 + i) 1 (λ u. must (is_row (take (1 + i) (drop 1 book))) (1 + i) (λ v. letters book (1 + i) k))

-- the length of a body, from the two fields at p: its offset has to be at, since "bodies follow without gaps in that order", and
-- "a length is wrong if its body passes the end"
abbrev pub body : List ℕ → ℕ → ℕ → Reading ℕ
body book p at =
    whole book p 2
    (λ u. must (eqb (number16 book p) at) p
    (λ v. whole book (p + 2) 2 (λ w. must (leb (at + number16 book (p + 2)) (length book)) (p + 2) (λ x. read (number16 book (p + 2))))))

-- k entries whose fields stand from p on and whose bodies from at on, "to the book's end"; after them "the first byte too many"
abbrev pub entries : List ℕ → ℕ → ℕ → ℕ → Reading (List Entry)
entries book p at zero = must (leb (length book) at) at (λ u. read [])
entries book p at (suc k) =
    onward (body book p at)
    (λ m. onward (body book (p + 4) (at + m))
    (λ n. onward (entries book (p + 8) (at + m + n) k)
    (λ es. read (record { panel = part book at m; cloud = part book (at + m) n } ∷ es))))

-- "one byte with the number of entries, 1 to 64", behind n letters, and the entries
abbrev pub contents : List ℕ → ℕ → Reading Book
contents book n =
    whole book (1 + n) 1
    (λ u. must (leb 1 (get_or book (1 + n) 0) && leb (get_or book (1 + n) 0) 64) (1 + n)
    (λ v. onward (entries book (2 + n) (2 + n + 8 * get_or book (1 + n) 0) (get_or book (1 + n) 0))
    (λ es. read (record { row = part book 1 n; all = es }))))

-- "Byte 0 is the number of variables; then the letters"
abbrev pub headed : List ℕ → Reading Book
headed book =
    whole book 0 1
    (λ u. must (leb 1 (get_or book 0 0) && leb (get_or book 0 0) 4) 0
    (λ v. onward (letters book 0 (get_or book 0 0)) (λ w. contents book (get_or book 0 0))))

-- "3: .. book over 65,535", place 0
unfoldable pub read_book : List ℕ → Reading Book
read_book book = elim (leb (length book) 65535) [ true ↦ headed book | false ↦ refused_at 3 0 ]

-- ---- what the printer writes
-- "fields are parted by one space; lines end with a line feed"
abbrev pub line : List (List ℕ) → List ℕ
line [] = 10 ∷ []
line (f ∷ []) = f ++ (10 ∷ [])
line (f ∷ g ∷ fs) = f ++ (32 ∷ line (g ∷ fs))

abbrev pub numbers : List ℕ → List (List ℕ)
numbers ns = map decimal ns

-- "E for panel or C for cloud"; no comparison of two bodies is refused on neither side (demands/Books, entry-says)
abbrev pub body_name : Side → List ℕ
body_name Left = bytes "E"
body_name Right = bytes "C"
body_name Neither = []

-- "`SAME`; or `DIFF`, the point, both remainders; or `REFUSED`, E for panel or C for cloud, number, place"
abbrev pub verdict : Reply Verdict → List (List ℕ)
verdict (gives equal) = bytes "SAME" ∷ []
verdict (gives (different N l r)) = bytes "DIFF" ∷ (numbers N ++ (decimal l ∷ decimal r ∷ []))
verdict (refuses bad) = bytes "REFUSED" ∷ body_name bad.side ∷ decimal bad.number ∷ decimal bad.place ∷ []

-- "per entry its number, from 0", and its answer, which "is that of its own two bodies"
unfoldable pub entry_line : (row : List ℕ) (i : ℕ) (panel cloud : List ℕ) → List ℕ
entry_line row i panel cloud = line (decimal i ∷ verdict (compare_of row panel cloud))

-- the entries from the one with number i on
abbrev pub entry_lines : (row : List ℕ) (i : ℕ) → List Entry → List ℕ
entry_lines row i [] = []
entry_lines row i (e ∷ es) = entry_line row i e.panel e.cloud ++ entry_lines row (suc i) es

-- "First `BOOK`, variables, entries. Then per entry .."
abbrev pub book_lines : Book → List ℕ
book_lines b = line (bytes "BOOK" ∷ decimal (length b.row) ∷ decimal (length b.all) ∷ []) ++ entry_lines b.row 0 b.all

-- "A refused book gives `BOOK REFUSED`, number, place, alone."
abbrev pub answer : Reading Book → List ℕ
answer (read b) = book_lines b
answer (refused bad) = line (bytes "BOOK" ∷ bytes "REFUSED" ∷ decimal bad.number ∷ decimal bad.place ∷ [])

unfoldable pub printed : List ℕ → List ℕ
printed book = answer (read_book book)

-- "2: work table under its fixed length"; then the whole text, unless "11: result text longer than the lent result buffer", of n bytes
unfoldable pub print_reply : (lengths book : List ℕ) (n : ℕ) → Reply (List ℕ)
print_reply lengths book n = asked (enough lengths) 2 (λ u. fitted n (printed book))

abbrev pub PrintCall : (book : List ℕ) (r : Written) (b b' : List ℕ) (w w' : Work) → Type 0
PrintCall book r b b' w w' = Writes (print_reply (lengths w) book (length b)) r b b' w w'

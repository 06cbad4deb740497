-- Bytes are numbers and a text is a list of them: blanks, letters, rows, integers, tokens with their places; and what a reading answers.
use Rattle.std.specs.Prelude.{Bool, true, false, ◌&&◌, ◌||◌, not, cond, List, [], ◌∷◌, ◌++◌, ◌≡◌, ℕ, suc, zero, ◌+◌, ◌-◌, ◌*◌, ◌/◌, ◌%◌, eqb, leb, ltb, ℤ, pos, negsuc, length}
use Rattle.std.proofs.Math.Option.{Option, none, some}
use Prim.Native.Char.{code}
use Prim.Native.String.{String, [] as []ˢ, ◌∷◌ as ◌∷ˢ◌}
use Rattle.refusal.specs.Refusal.{fault}
use Rattle.refusal.specs.declared.Fault.{Fault}

-- a quoted text, as bytes (used with characters below 128 only)
abbrev pub bytes : String → List ℕ
bytes []ˢ = []
bytes (c ∷ˢ s) = code c ∷ bytes s

abbrev pub same : List ℕ → List ℕ → Bool
same [] [] = true
same [] (y ∷ ys) = false
same (x ∷ xs) [] = false
same (x ∷ xs) (y ∷ ys) = eqb x y && same xs ys

abbrev pub all : (ℕ → Bool) → List ℕ → Bool
all p [] = true
all p (x ∷ xs) = p x && all p xs

-- "A blank is a space or a line feed."
abbrev pub blank : ℕ → Bool
blank x = eqb x 32 || eqb x 10

-- A to Z
abbrev pub capital : ℕ → Bool
capital x = leb 65 x && leb x 90

-- 0 to 9
abbrev pub digit : ℕ → Bool
digit x = leb 48 x && leb x 57

-- ---- rows
abbrev pub is_in_row : List ℕ → ℕ → Bool
is_in_row [] x = false
is_in_row (c ∷ cs) x = eqb x c || is_in_row cs x

abbrev pub distinct : List ℕ → Bool
distinct [] = true
distinct (c ∷ cs) = not (is_in_row cs c) && distinct cs

-- "A row is 1 to 4 distinct letters A to Z, in order."
abbrev pub is_row : List ℕ → Bool
is_row row = leb 1 (length row) && leb (length row) 4 && all capital row && distinct row

-- which letter of the row: 0 for the first
abbrev pub index_in : List ℕ → ℕ → ℕ
index_in [] x = 0
index_in (c ∷ cs) x = elim (eqb x c) [ true ↦ 0 | false ↦ suc (index_in cs x) ]

-- ---- what a reading answers: what was read, or what is wrong with the text
pub data Reading (A : Type 0) : Type 0 where
  read : A → Reading A
  refused : Fault → Reading A

abbrev pub refused_at : {A : Type 0} → (number place : ℕ) → Reading A
refused_at e p = refused (fault e p)

-- what was read is handed on; the first refusal stays
abbrev pub onward : {A B : Type 0} → Reading A → (A → Reading B) → Reading B
onward (read a) r = r a
onward (refused bad) r = refused bad

-- a check's number, 0 where nothing is refused, at the place p; the rest is a function, so that it is computed only where it counts
abbrev pub fine : {A : Type 0} → ℕ → ℕ → (Unit {0} → Reading A) → Reading A
fine zero p r = r tt
fine (suc e) p r = refused_at (suc e) p

-- ---- the text of an integer, of any length
-- the digits of n, highest first; k falls with each call, and any k above n is enough
abbrev pub decimal_f : ℕ → ℕ → List ℕ
decimal_f zero n = []
decimal_f (suc k) n = elim (ltb n 10) [ true ↦ (48 + n) ∷ [] | false ↦ decimal_f k (n / 10) ++ ((48 + n % 10) ∷ []) ]

unfoldable pub decimal : ℕ → List ℕ
decimal n = decimal_f (suc n) n

-- "An integer is `0`, or an optional `-` and digits without a leading zero; `-0` is none."
abbrev pub write_int : ℤ → List ℕ
write_int (pos n) = decimal n
write_int (negsuc n) = 45 ∷ decimal (suc n)

-- ---- reading it back
abbrev pub is_empty : List ℕ → Bool
is_empty [] = true
is_empty (x ∷ xs) = false

-- `0` alone, or digits without a leading zero
abbrev pub canonical : List ℕ → Bool
canonical [] = false
canonical (x ∷ xs) = elim (eqb x 48) [ true ↦ is_empty xs | false ↦ digit x && all digit xs ]

-- the number that the digits stand for, after those that stand for a
abbrev pub value_from : ℕ → List ℕ → ℕ
value_from a [] = a
value_from a (x ∷ xs) = value_from (a * 10 + (x - 48)) xs

unfoldable pub read_nat : List ℕ → Option ℕ
read_nat w = cond (canonical w) (some (value_from 0 w)) none

abbrev pub below0 : Option ℕ → Option ℤ
below0 none = none
below0 (some zero) = none
below0 (some (suc n)) = some (negsuc n)

abbrev pub from0 : Option ℕ → Option ℤ
from0 none = none
from0 (some n) = some (pos n)

unfoldable pub read_int : List ℕ → Option ℤ
unfolding read_nat
read_int [] = none
read_int (x ∷ xs) = elim (eqb x 45) [ true ↦ below0 (read_nat xs) | false ↦ from0 (read_nat (x ∷ xs)) ]

-- was anything read?
abbrev pub is_some : {A : Type 0} → Option A → Bool
is_some none = false
is_some (some a) = true

-- ---- tokens
-- "A token is `(`, `)`, or a longest run of bytes that are neither blank nor parenthesis." The number is the place of its first byte.
pub data Token : Type 0 where
  opening : ℕ → Token
  closing : ℕ → Token
  word : ℕ → List ℕ → Token

-- "Places count bytes from 0"
abbrev pub place_of : Token → ℕ
place_of (opening p) = p
place_of (closing p) = p
place_of (word p w) = p

-- ---- what the tokens of a text are, said without reading: how it is parted into blanks and tokens
-- "neither blank nor parenthesis"
abbrev pub in_word : ℕ → Bool
in_word x = not (blank x) && (not (eqb x 40) && not (eqb x 41))

-- what stands behind a "longest" run: nothing, or a byte that is none of it
abbrev pub Ends : List ℕ → Type 0
Ends [] = Unit {0}
Ends (x ∷ s) = in_word x ≡ false

-- "A token is `(`, `)`, or a longest run of bytes that are neither blank nor parenthesis. Blanks may stand round any token." The text
-- stands from the place p on; 40 is `(` and 41 is `)` (text_laws/Tokens, tokens-are: exactly then `tokens` gives these tokens)
pub data Parted : ℕ → List ℕ → List Token → Type 0 where
  nothing : (p : ℕ) → Parted p [] []
  a-blank : (p x : ℕ) (s : List ℕ) (ts : List Token) → blank x ≡ true → Parted (suc p) s ts → Parted p (x ∷ s) ts
  an-opening : (p : ℕ) (s : List ℕ) (ts : List Token) → Parted (suc p) s ts → Parted p (40 ∷ s) (opening p ∷ ts)
  a-closing : (p : ℕ) (s : List ℕ) (ts : List Token) → Parted (suc p) s ts → Parted p (41 ∷ s) (closing p ∷ ts)
  a_word :
      (p : ℕ) (w s : List ℕ) (ts : List Token) → (w ≡ [] → ⊥) → all in_word w ≡ true → Ends s → Parted (p + length w) s ts →
      Parted p (w ++ s) (word p w ∷ ts)

-- ---- reading them
pub data Class : Type 0 where
  gap : Class
  left : Class
  right : Class
  plain : Class

abbrev pub class_of : ℕ → Class
class_of x =
    elim (blank x) [ true ↦ gap | false ↦ elim (eqb x 40) [ true ↦ left | false ↦ elim (eqb x 41) [ true ↦ right | false ↦ plain ] ] ]

-- a byte of a word at p, before the tokens that follow: it joins the word that starts right behind it
abbrev pub join : ℕ → ℕ → List Token → List Token
join p x [] = word p (x ∷ []) ∷ []
join p x (opening q ∷ ts) = word p (x ∷ []) ∷ opening q ∷ ts
join p x (closing q ∷ ts) = word p (x ∷ []) ∷ closing q ∷ ts
join p x (word q w ∷ ts) = elim (eqb q (suc p)) [ true ↦ word p (x ∷ w) ∷ ts | false ↦ word p (x ∷ []) ∷ word q w ∷ ts ]

abbrev pub put : Class → ℕ → ℕ → List Token → List Token
put gap p x ts = ts
put left p x ts = opening p ∷ ts
put right p x ts = closing p ∷ ts
put plain p x ts = join p x ts

-- the tokens of a text that stands from the place p on ("Blanks may stand round any token.")
unfoldable pub tokens : ℕ → List ℕ → List Token
tokens p [] = []
tokens p (x ∷ xs) = put (class_of x) p x (tokens (suc p) xs)

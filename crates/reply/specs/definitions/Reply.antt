-- What a call replies, and what every lent buffer holds afterwards.
use Rattle.std.specs.Prelude.{Result, Ok, Err, Bool, true, false, cond, ◌&&◌, List, [], ◌∷◌, ◌++◌, ◌≡◌, ℕ, leb, length, drop, replicate}
use Rattle.refusal.specs.Refusal.{on_side, of_neither}
use Rattle.refusal.specs.declared.Refusal.{Refusal}
use Rattle.refusal.specs.declared.Side.{Side}
use Rattle.text.specs.definitions.Bytes.{Reading, read, refused, is_row}

pub data Reply (A : Type 0) : Type 0 where
  gives : A → Reply A
  refuses : Refusal → Reply A

-- what the code answers with: a value or the refusal
abbrev pub Told : Type 0 → Type 0
Told A = Result A Refusal

abbrev pub told : {A : Type 0} → Told A → Reply A
told (Ok a) = gives a
told (Err bad) = refuses bad

-- "Where an answer is an enum, a definition gives this paper's number and values for each case of the enum": the bytes written, the remainder,
-- that the text is a form, whether two terms are the same as counters
abbrev pub Written : Type 0
Written = Told ℕ

abbrev pub Remaindered : Type 0
Remaindered = Told ℕ

abbrev pub Judged : Type 0
Judged = Told (Unit {0})

abbrev pub Counted : Type 0
Counted = Told Bool

-- what is said of the value that is given
abbrev pub said : {A B : Type 0} → (A → B) → Reply A → Reply B
said f (gives a) = gives (f a)
said f (refuses bad) = refuses bad

-- the refusal e of what was lent, unless the test holds; what comes after is a function, so that it is computed only where it counts
abbrev pub asked : {A : Type 0} → Bool → ℕ → (Unit {0} → Reply A) → Reply A
asked true e r = r tt
asked false e r = refuses (of_neither e)

-- "A refusal of the left text ends the call before the right one is read"
abbrev pub read_as : {A B : Type 0} → Side → Reading A → (A → Reply B) → Reply B
read_as s (refused bad) k = refuses (on_side s bad)
read_as s (read a) k = k a

-- "2: work table under its fixed length": 16,384 words each (docs/tables.md)
abbrev pub enough : List ℕ → Bool
enough [] = true
enough (n ∷ ns) = leb 16384 n && enough ns

-- "1: row not 1 to 4 distinct letters A to Z"; "2"; then the rest. lengths lists those of the work tables
abbrev pub opened : {A : Type 0} → (row lengths : List ℕ) → (Unit {0} → Reply A) → Reply A
opened row lengths r = asked (is_row row) 1 (λ u. asked (enough lengths) 2 r)

-- "11: result text longer than the lent result buffer", which has n bytes
abbrev pub fitted : ℕ → List ℕ → Reply (List ℕ)
fitted n w = asked (leb (length w) n) 11 (λ u. gives w)

-- ---- the buffers
-- "There are at most four work tables"
pub record Work : Type 0 where
  pub first : List ℕ
  pub second : List ℕ
  pub third : List ℕ
  pub fourth : List ℕ

abbrev pub work : (a b c d : List ℕ) → Work
work a b c d = record { first = a; second = b; third = c; fourth = d }

abbrev pub lengths : Work → List ℕ
lengths w = length w.first ∷ length w.second ∷ length w.third ∷ length w.fourth ∷ []

abbrev pub zeros : List ℕ → List ℕ
zeros t = replicate (length t) 0

abbrev pub cleared : Work → Work
cleared w = work (zeros w.first) (zeros w.second) (zeros w.third) (zeros w.fourth)

-- "1 and 2 touch nothing"
abbrev pub untouched : {A : Type 0} → Reply A → Bool
untouched (gives a) = false
untouched (refuses bad) = leb bad.number 2

-- "Work tables hold only zeros, over their whole lent length, after every call, except that 1 and 2 touch nothing."
abbrev pub work_after : {A : Type 0} → Reply A → Work → Work
work_after r w = cond (untouched r) w (cleared w)

-- w at the front of a buffer, and nothing else changed
abbrev pub over : List ℕ → List ℕ → List ℕ
over w b = w ++ drop (length w) b

-- "A refusal .. leaves the result and point buffers unchanged. Acceptance changes only the result's bytes"
abbrev pub result_after : Reply (List ℕ) → List ℕ → List ℕ
result_after (gives w) b = over w b
result_after (refuses bad) b = b

-- ---- contracts: "what it answers and what every lent buffer then holds"; b and w when the call begins, b' and w' when it ends
pub record Writes (x : Reply (List ℕ)) (r : Written) (b b' : List ℕ) (w w' : Work) : Type 0 where
  pub answer : told r ≡ said length x
  pub result : b' ≡ result_after x b
  pub tables : w' ≡ work_after x w

pub record Remainders (x : Reply ℕ) (r : Remaindered) (w w' : Work) : Type 0 where
  pub answer : told r ≡ x
  pub tables : w' ≡ work_after x w

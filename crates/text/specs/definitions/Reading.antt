-- Reading the text of a term of a dialect, token by token, with the open parentheses on a stack. A state knows all that was read so far
-- and nothing of what comes, so "the first token such that no term begins with the tokens so far" can be proved of it
-- (text_laws/Refused).
use Rattle.std.specs.Prelude.{Bool, true, false, ◌&&◌, cond, not, List, [], ◌∷◌, ℕ, leb, ltb, ℤ, length}
use Rattle.std.proofs.Math.Option.{Option, none, some}
use Rattle.dialect.specs.declared.Dialect.{Dialect}
use Rattle.text.specs.definitions.Answer.{Reading, read, refused, fine, past_of}
use Rattle.text.specs.definitions.Bytes.{bytes, same, capital, is_in_row, read_nat, Token, opening, closing, word, place_of, tokens}
use Rattle.text.specs.definitions.Integers.{integer_of}
use Rattle.text.specs.definitions.Tree.{Sign, add, sub, mul, Tree, num, letter, neg, two, power}

-- an open parenthesis at p with the operator at o, which waits for an operand: `(g`, `(g x`, `(EXPT`
pub data Frame : Type 0 where
  first : (p o : ℕ) → Sign → Frame
  second : (p o : ℕ) → Sign → Tree → Frame
  base : (p o : ℕ) → Frame

-- what may come: an operand; an operator, behind `(`; an exponent, behind `(EXPT x`; the `)` of `(g x y`; the `)` of `(EXPT x n`; and in
-- panel terms a letter, behind `(EXPT`, and the `)` of `(- x`
pub data Spot : Type 0 where
  operand : Spot
  operator : (p : ℕ) → Spot
  exponent : (p o : ℕ) → Tree → Spot
  ending : (p o : ℕ) → Sign → Tree → Tree → Spot
  raised : (p o : ℕ) → Tree → (q n : ℕ) → Spot
  a_letter : (p o : ℕ) → Spot
  negated : (p o : ℕ) → Tree → Spot

-- after a token: on, with what may come and the stack; the whole term; or off, since no term goes on so
pub data Next : Type 0 where
  on : Spot → List Frame → Next
  whole : Tree → Next
  off : Next

-- ---- words
-- a capital letter
abbrev pub lone : ℕ → List ℕ → Option Tree
lone p [] = none
lone p (b ∷ []) = cond (capital b) (some (letter p b)) none
lone p (b ∷ c ∷ w) = none

-- an integer comes first
abbrev pub int_or : ℕ → List ℕ → Option ℤ → Option Tree → Option Tree
int_or p w (some z) e = some (num p w z)
int_or p w none e = e

-- "n an integer token not below zero"; request 106: "Exponents .. stay decimal"
abbrev pub raise : ℕ → ℕ → Tree → ℕ → Option ℕ → List Frame → Next
raise p o x q none fs = off
raise p o x q (some n) fs = on (raised p o x q n) fs

-- behind a panel term's `(EXPT`
abbrev pub raise_letter : ℕ → ℕ → Option Tree → List Frame → Next
raise_letter p o none fs = off
raise_letter p o (some t) fs = on (exponent p o t) fs

-- the first operand is there: a panel term's `(- x` may only be closed
abbrev pub after_first : Bool → ℕ → ℕ → Sign → Tree → List Frame → Next
after_first false p o g t fs = on operand (second p o g t ∷ fs)
after_first true p o add t fs = on operand (second p o add t ∷ fs)
after_first true p o sub t fs = on (negated p o t) fs
after_first true p o mul t fs = on operand (second p o mul t ∷ fs)

-- behind `(EXPT`: in a panel term only a letter
abbrev pub after_expt : Bool → ℕ → ℕ → List Frame → Next
after_expt false p o fs = on operand (base p o ∷ fs)
after_expt true p o fs = on (a_letter p o) fs

module _ (D : Dialect) where
  -- an integer or a capital letter ("an unknown capital counts as a letter here")
  abbrev pub leaf : ℕ → List ℕ → Option Tree
  leaf p w = int_or p w (integer_of D.hex w) (lone p w)

  -- a finished operand goes to the parenthesis that waits for it
  abbrev pub deliver : Tree → List Frame → Next
  deliver t [] = whole t
  deliver t (first p o g ∷ fs) = after_first D.panel p o g t fs
  deliver t (second p o g x ∷ fs) = on (ending p o g x t) fs
  deliver t (base p o ∷ fs) = on (exponent p o t) fs

  -- where there is one
  abbrev pub deliver_some : Option Tree → List Frame → Next
  deliver_some none fs = off
  deliver_some (some t) fs = deliver t fs

  -- behind `(`
  abbrev pub operator_word : ℕ → ℕ → List ℕ → List Frame → Next
  operator_word p o w fs =
      cond (same w (bytes "+")) (on operand (first p o add ∷ fs))
      (cond (same w (bytes "-")) (on operand (first p o sub ∷ fs))
      (cond (same w (bytes "*")) (on operand (first p o mul ∷ fs))
      (cond (same w (bytes "EXPT")) (after_expt D.panel p o fs) off)))

  -- ---- a token
  -- `)` where an operand may come: only in `(- x)`
  abbrev pub close_short : ℕ → List Frame → Next
  close_short c [] = off
  close_short c (first p o g ∷ fs) = off
  close_short c (second p o add x ∷ fs) = off
  close_short c (second p o sub x ∷ fs) = deliver (neg p o c x) fs
  close_short c (second p o mul x ∷ fs) = off
  close_short c (base p o ∷ fs) = off

  -- what a token leads to
  abbrev pub step : Spot → List Frame → Token → Next
  step operand fs (opening p) = on (operator p) fs
  step operand fs (closing c) = close_short c fs
  step operand fs (word p w) = deliver_some (leaf p w) fs
  step (operator p) fs (opening q) = off
  step (operator p) fs (closing c) = off
  step (operator p) fs (word o w) = operator_word p o w fs
  step (exponent p o x) fs (opening q) = off
  step (exponent p o x) fs (closing c) = off
  step (exponent p o x) fs (word q w) = raise p o x q (read_nat w) fs
  step (ending p o g x y) fs (opening q) = off
  step (ending p o g x y) fs (closing c) = deliver (two p o c g x y) fs
  step (ending p o g x y) fs (word q w) = off
  step (raised p o x q n) fs (opening r) = off
  step (raised p o x q n) fs (closing c) = deliver (power p o c x q n) fs
  step (raised p o x q n) fs (word r w) = off
  step (a_letter p o) fs (opening q) = off
  step (a_letter p o) fs (closing c) = off
  step (a_letter p o) fs (word q w) = raise_letter p o (lone q w) fs
  step (negated p o x) fs (opening q) = off
  step (negated p o x) fs (closing c) = deliver (neg p o c x) fs
  step (negated p o x) fs (word q w) = off

  -- no term goes on with this token; the number is 4, and in panel terms "15 .. replaces 4 with the same place and the same rank"
  abbrev pub wrong_at : {A : Type 0} → Token → Reading A
  wrong_at k = refused D.wrong (place_of k) (past_of k)

  -- behind the whole term nothing may stand
  abbrev pub only_end : Tree → List Token → Reading Tree
  only_end t [] = read t
  only_end t (k ∷ ks) = wrong_at k

-- the branches are functions, so that only the one taken is computed
abbrev pub case_next : {B : Type 0} → Next → B → (Spot → List Frame → B) → (Tree → B) → B
case_next off e f g = e
case_next (on s fs) e f g = f s fs
case_next (whole t) e f g = g t

-- ---- two tests: of the letters that are known, and of the depths at which a parenthesis may still be opened
-- "a capital letter not in the row, where a letter may stand": asked of a word that was not off
abbrev pub letter_check : (known : ℕ → Bool) → List ℕ → ℕ
letter_check known [] = 0
letter_check known (b ∷ []) = cond (capital b && not (known b)) 5 0
letter_check known (b ∷ c ∷ w) = 0

-- 0, or the number of the refusal; d is how many parentheses are open
abbrev pub check : (known room : ℕ → Bool) → ℕ → Token → ℕ
check known room d (opening p) = cond (room d) 0 6
check known room d (closing p) = 0
check known room d (word p w) = letter_check known w

-- n is the text's length: "or the text's length if it ends early"; the end is then "the place itself"
abbrev pub run : Dialect → (known room : ℕ → Bool) → ℕ → Spot → List Frame → List Token → Reading Tree
run D known room n s fs [] = refused D.wrong n n
run D known room n s fs (k ∷ ks) =
    case_next (step D s fs k) (wrong_at D k)
    (λ s' fs'. fine (check known room (length fs) k) (place_of k) (past_of k) (λ u. run D known room n s' fs' ks))
    (λ t. fine (check known room (length fs) k) (place_of k) (past_of k) (λ u. only_end D t ks))

-- "16 parentheses open at once", or as many as the dialect has
abbrev pub room_in : Dialect → ℕ → Bool
room_in D d = ltb d D.depth

-- the letters of the row are known
abbrev pub run_in : Dialect → List ℕ → ℕ → Spot → List Frame → List Token → Reading Tree
run_in D row n s fs ks = run D (is_in_row row) (room_in D) n s fs ks

-- "then 3; then 4, 5, 6 at the earliest place"; at one token 4 comes first. Of 3 "the place is only 0 by rule", and so is the end
unfoldable pub read_term : Dialect → List ℕ → List ℕ → Reading Tree
unfolding read_nat integer_of tokens
read_term D row s =
    elim (leb (length s) D.bytes) [
      | true ↦ run_in D row (length s) operand [] (tokens 0 s)
      | false ↦ refused 3 0 0
    ]

-- Every state of the reading can still become a term.
use Rattle.std.specs.Prelude.{Bool, true, false, List, [], ◌∷◌, ◌++◌, ◌≡◌, refl, ℕ, suc, pos, length}
use Rattle.std.proofs.Common.{append_assoc, append-nil, sym, ap, ◌∙◌}
use Rattle.std.proofs.Math.Option.{some}
use Rattle.dialect.specs.declared.Dialect.{Dialect}
use Rattle.text.specs.definitions.Bytes.{bytes, decimal, read_nat, read_int, Token, opening, closing, word}
use Rattle.text.specs.definitions.Integers.{integer_of}
use Rattle.text.specs.definitions.Meaning.{Begun}
use Rattle.text.specs.definitions.Reading.{Frame, first, second, base, Spot, operand, operator, exponent, ending, raised, a_letter, negated}
use Rattle.text.specs.definitions.Reading.{Next, on, whole, off, check}
use Rattle.text.specs.definitions.Tree.{add, sub, mul, Tree, num, letter, neg, two, power, placed, Proper, Joins}
use Rattle.text_laws.specs.laws.Sofar.{raises-letter, raises-any, stack_tokens, spot_tokens, so_far, Admits, StackOk, SpotOk, Held}
use Rattle.text_laws.specs.laws.Words.{check-letter, decimal-integer}

-- the test that every letter and every depth passes
abbrev pub yes' : ℕ → Bool
yes' d = true

-- every token passes them
pub check-yes : (d : ℕ) (k : Token) → check yes' yes' d k ≡ 0
check-yes d (opening p) = refl
check-yes d (closing p) = refl
check-yes d (word p []) = refl
check-yes d (word p (b ∷ [])) = check-letter yes' b refl
check-yes d (word p (b ∷ c ∷ w)) = refl

-- ---- a term that goes on from a state: what is missing is filled with 0, and with X where only a letter may stand
abbrev nought : Tree
nought = num 0 (bytes "0") (pos 0)

zero-int : read_int (bytes "0") ≡ some (pos 0)
unfolding read_int read_nat
zero-int = refl

abbrev fill : List Frame → Tree → Tree
fill [] t = t
fill (first p o add ∷ fs) t = fill fs (two p o 0 add t nought)
fill (first p o sub ∷ fs) t = fill fs (neg p o 0 t)
fill (first p o mul ∷ fs) t = fill fs (two p o 0 mul t nought)
fill (second p o g x ∷ fs) t = fill fs (two p o 0 g x t)
fill (base p o ∷ fs) t = fill fs (power p o 0 t 0 0)

abbrev more : List Frame → List Token
more [] = []
more (first p o add ∷ fs) = word 0 (bytes "0") ∷ closing 0 ∷ more fs
more (first p o sub ∷ fs) = closing 0 ∷ more fs
more (first p o mul ∷ fs) = word 0 (bytes "0") ∷ closing 0 ∷ more fs
more (second p o g x ∷ fs) = closing 0 ∷ more fs
more (base p o ∷ fs) = word 0 (decimal 0) ∷ closing 0 ∷ more fs

fill-tokens : (fs : List Frame) (t : Tree) → placed (fill fs t) ≡ stack_tokens fs ++ (placed t ++ more fs)
fill-tokens [] t = sym (append-nil (placed t))
fill-tokens (first p o add ∷ fs) t = fill-tokens fs (two p o 0 add t nought) ∙ simp append_assoc
fill-tokens (first p o sub ∷ fs) t = fill-tokens fs (neg p o 0 t) ∙ simp append_assoc
fill-tokens (first p o mul ∷ fs) t = fill-tokens fs (two p o 0 mul t nought) ∙ simp append_assoc
fill-tokens (second p o g x ∷ fs) t = fill-tokens fs (two p o 0 g x t) ∙ simp append_assoc
fill-tokens (base p o ∷ fs) t = fill-tokens fs (power p o 0 t 0 0) ∙ simp append_assoc

abbrev fill_spot : Spot → Tree
fill_spot operand = nought
fill_spot (operator p) = neg p 0 0 nought
fill_spot (exponent p o x) = power p o 0 x 0 0
fill_spot (ending p o g x y) = two p o 0 g x y
fill_spot (raised p o x q n) = power p o 0 x q n
fill_spot (a_letter p o) = power p o 0 (letter 0 88) 0 0
fill_spot (negated p o x) = neg p o 0 x

abbrev spot_more : Spot → List Token
spot_more operand = word 0 (bytes "0") ∷ []
spot_more (operator p) = word 0 (bytes "-") ∷ word 0 (bytes "0") ∷ closing 0 ∷ []
spot_more (exponent p o x) = word 0 (decimal 0) ∷ closing 0 ∷ []
spot_more (ending p o g x y) = closing 0 ∷ []
spot_more (raised p o x q n) = closing 0 ∷ []
spot_more (a_letter p o) = word 0 (88 ∷ []) ∷ word 0 (decimal 0) ∷ closing 0 ∷ []
spot_more (negated p o x) = closing 0 ∷ []

spot-tokens : (s : Spot) → placed (fill_spot s) ≡ spot_tokens s ++ spot_more s
spot-tokens operand = refl
spot-tokens (operator p) = refl
spot-tokens (exponent p o x) = refl
spot-tokens (ending p o g x y) = simp append_assoc
spot-tokens (raised p o x q n) = simp append_assoc
spot-tokens (a_letter p o) = refl
spot-tokens (negated p o x) = refl

-- not off
abbrev pub Live : Next → Type 0
Live off = ⊥
Live (on s fs) = Unit {0}
Live (whole t) = Unit {0}

joins-add : (b : Bool) → Joins b add
joins-add true = tt
joins-add false = tt

joins-mul : (b : Bool) → Joins b mul
joins-mul true = tt
joins-mul false = tt

-- ---- in a dialect
module _ (D : Dialect) where
  -- with these tests what is let through is what the dialect allows
  pub admits-proper : (t : Tree) (d : ℕ) → Admits D yes' yes' d t → Proper D t
  admits-proper (num p w z) d a = a
  admits-proper (letter p b) d a = a.0
  admits-proper (neg p o c x) d a = admits-proper x (suc d) a.1
  admits-proper (two p o c g x y) d a = (a.0.1, (admits-proper x (suc d) a.1.0, admits-proper y (suc d) a.1.1))
  admits-proper (power p o c x q n) d a = (a.0.1, admits-proper x (suc d) a.1)

  -- and the other way round
  pub proper-admits : (t : Tree) (d : ℕ) → Proper D t → Admits D yes' yes' d t
  proper-admits (num p w z) d a = a
  proper-admits (letter p b) d a = (a, refl)
  proper-admits (neg p o c x) d a = (refl, proper-admits x (suc d) a)
  proper-admits (two p o c g x y) d a = ((refl, a.0), (proper-admits x (suc d) a.1.0, proper-admits y (suc d) a.1.1))
  proper-admits (power p o c x q n) d a = ((refl, a.0), proper-admits x (suc d) a.1)

  nought-ok : integer_of D.hex (bytes "0") ≡ some (pos 0)
  nought-ok = decimal-integer D.hex (bytes "0") (pos 0) zero-int

  fill-ok :
      (fs : List Frame) (t : Tree) → StackOk D yes' yes' fs → Admits D yes' yes' (length fs) t → Admits D yes' yes' 0 (fill fs t)
  fill-ok [] t h a = a
  fill-ok (first p o add ∷ fs) t h a = fill-ok fs (two p o 0 add t nought) h.1 ((refl, joins-add D.panel), (a, nought-ok))
  fill-ok (first p o sub ∷ fs) t h a = fill-ok fs (neg p o 0 t) h.1 (refl, a)
  fill-ok (first p o mul ∷ fs) t h a = fill-ok fs (two p o 0 mul t nought) h.1 ((refl, joins-mul D.panel), (a, nought-ok))
  fill-ok (second p o g x ∷ fs) t h a = fill-ok fs (two p o 0 g x t) h.1 (h.0.0, (h.0.1, a))
  fill-ok (base p o ∷ fs) t h a = fill-ok fs (power p o 0 t 0 0) h.1 ((refl, raises-any D.panel t h.0.1), a)

  spot-ok : (s : Spot) (d : ℕ) → SpotOk D yes' yes' d s → Admits D yes' yes' d (fill_spot s)
  spot-ok operand d h = nought-ok
  spot-ok (operator p) d h = (refl, nought-ok)
  spot-ok (exponent p o x) d h = h
  spot-ok (ending p o g x y) d h = h
  spot-ok (raised p o x q n) d h = h
  spot-ok (a_letter p o) d h = ((refl, raises-letter D.panel 0 88), (refl, refl))
  spot-ok (negated p o x) d h = h

  begun-state : (s : Spot) (fs : List Frame) → SpotOk D yes' yes' (length fs) s → StackOk D yes' yes' fs → Begun D (so_far s fs)
  begun-state s fs a h =
      record {
        term = fill fs (fill_spot s);
        rest = spot_more s ++ more fs;
        proper = admits-proper (fill fs (fill_spot s)) 0 (fill-ok fs (fill_spot s) h (spot-ok s (length fs) a));
        is = fill-tokens fs (fill_spot s) ∙ ap (λ (z : List Token). stack_tokens fs ++ (z ++ more fs)) (spot-tokens s) ∙ simp append_assoc;
      }

  -- what was read so far begins a term
  pub begun-next : (x : Next) (ts : List Token) → Live x → Held D yes' yes' x ts → Begun D ts
  begun-next off ts l h = absurd l
  begun-next (on s fs) ts l h = rw h.0 at (begun-state s fs h.1.0 h.1.1)
  begun-next (whole t) ts l h = record { term = t; rest = []; proper = admits-proper t 0 h.1; is = h.0 ∙ sym (append-nil ts) }

-- How many parentheses a term and a stack leave open.
use Rattle.std.specs.Prelude.{List, [], ◌∷◌, ◌++◌, ◌≡◌, refl, Bool, ℕ, suc, pred, ◌+◌, length}
use Rattle.std.proofs.Common.{append_assoc, sym, ap, ◌∙◌, add-zero, zero-add, arith}
use Rattle.dialect.specs.declared.Dialect.{Dialect}
use Rattle.text.specs.definitions.Meaning.{open_after}
use Rattle.text.specs.definitions.Bytes.{decimal, Token, opening, closing, word}
use Rattle.text.specs.definitions.Reading.{Frame, first, second, base, Spot, operand, operator, exponent, ending, raised, a_letter, negated}
use Rattle.text.specs.definitions.Reading.{Next, step, check}
use Rattle.text.specs.definitions.Tree.{Tree, num, letter, neg, two, power, placed}
use Rattle.text_laws.specs.laws.Begun.{Live}
use Rattle.text_laws.specs.laws.Sofar.{frame_tokens, stack_tokens, so_far}

-- a term leaves none
pub open-placed : (t : Tree) (d : ℕ) (ts : List Token) → open_after d (placed t ++ ts) ≡ open_after d ts
open-placed (num p w z) d ts = refl
open-placed (letter p b) d ts = refl
open-placed (neg p o c x) d ts =
    ap (open_after (suc d)) (append_assoc (placed x) (closing c ∷ []) ts) ∙ open-placed x (suc d) (closing c ∷ ts)
open-placed (two p o c g x y) d ts =
    ap (open_after (suc d)) (append_assoc (placed x) (placed y ++ (closing c ∷ [])) ts
    ∙ ap (λ (z : List Token). placed x ++ z) (append_assoc (placed y) (closing c ∷ []) ts))
    ∙ open-placed x (suc d) (placed y ++ (closing c ∷ ts))
    ∙ open-placed y (suc d) (closing c ∷ ts)
open-placed (power p o c x q n) d ts =
    ap (open_after (suc d)) (append_assoc (placed x) (word q (decimal n) ∷ closing c ∷ []) ts)
    ∙ open-placed x (suc d) (word q (decimal n) ∷ closing c ∷ ts)

open-frame : (f : Frame) (d : ℕ) (ts : List Token) → open_after d (frame_tokens f ++ ts) ≡ open_after (suc d) ts
open-frame (first p o g) d ts = refl
open-frame (second p o g x) d ts = open-placed x (suc d) ts
open-frame (base p o) d ts = refl

-- a stack leaves as many as it is long
pub open-stack : (fs : List Frame) (d : ℕ) (ts : List Token) → open_after d (stack_tokens fs ++ ts) ≡ open_after (d + length fs) ts
open-stack [] d ts = ap (λ (n : ℕ). open_after n ts) (sym (add-zero d))
open-stack (f ∷ fs) d ts =
    ap (open_after d) (append_assoc (stack_tokens fs) (frame_tokens f) ts)
    ∙ open-stack fs d (frame_tokens f ++ ts)
    ∙ open-frame f (d + length fs) ts
    ∙ ap (λ (n : ℕ). open_after n ts) (let e : suc (d + length fs) ≡ d + suc (length fs) = omega arith in e)

-- one list of tokens behind another
pub open-append : (ks ls : List Token) (d : ℕ) → open_after d (ks ++ ls) ≡ open_after (open_after d ks) ls
open-append [] ls d = refl
open-append (opening p ∷ ks) ls d = open-append ks ls (suc d)
open-append (closing p ∷ ks) ls d = open-append ks ls (pred d)
open-append (word p w ∷ ks) ls d = open-append ks ls d

-- a parenthesis may be opened only where an operand may come
pub open-depth :
    (D : Dialect) (p : ℕ) (s : Spot) (fs : List Frame) (x : Next) → step D s fs (opening p) ≡ x → Live x →
    open_after 0 (so_far s fs) ≡ length fs
open-depth D p operand fs x g l = open-stack fs 0 [] ∙ zero-add (length fs)
open-depth D p (operator q) fs x g l = absurd (rw (← g) at l)
open-depth D p (exponent q o y) fs x g l = absurd (rw (← g) at l)
open-depth D p (ending q o i y z) fs x g l = absurd (rw (← g) at l)
open-depth D p (raised q o y r m) fs x g l = absurd (rw (← g) at l)
open-depth D p (a_letter q o) fs x g l = absurd (rw (← g) at l)
open-depth D p (negated q o y) fs x g l = absurd (rw (← g) at l)

-- ---- what passes the checks
module _ (known room : ℕ → Bool) where
  -- each token, at the depth that it stands at
  abbrev pub Checks : ℕ → List Token → Type 0
  Checks d [] = Unit {0}
  Checks d (k ∷ ks) = (check known room d k ≡ 0) × Checks (open_after d (k ∷ [])) ks

  module _ (D : Dialect) where
    check-depth :
        (s : Spot) (fs : List Frame) (k : Token) (x : Next) → step D s fs k ≡ x → Live x → check known room (length fs) k ≡ 0 →
        check known room (open_after 0 (so_far s fs)) k ≡ 0
    check-depth s fs (opening p) x g l c = rw (open-depth D p s fs x g l) c
    check-depth s fs (closing p) x g l c = refl
    check-depth s fs (word p w) x g l c = c

    -- a token that passes, before others that do
    pub checks-before :
        (s : Spot) (fs : List Frame) (k : Token) (x : Next) (s' : Spot) (fs' : List Frame) (ks : List Token) → step D s fs k ≡ x → Live x →
        check known room (length fs) k ≡ 0
        → so_far s' fs' ≡ so_far s fs ++ (k ∷ []) → Checks (open_after 0 (so_far s' fs')) ks → Checks (open_after 0 (so_far s fs)) (k ∷ ks)
    checks-before s fs k x s' fs' ks g l c w h =
        (check-depth s fs k x g l c, rw (ap (open_after 0) w ∙ open-append (so_far s fs) (k ∷ []) 0) at h)

    -- one token alone
    pub checks-one :
        (s : Spot) (fs : List Frame) (k : Token) (x : Next) → step D s fs k ≡ x → Live x → check known room (length fs) k ≡ 0 →
        Checks (open_after 0 (so_far s fs)) (k ∷ [])
    checks-one s fs k x g l c = (check-depth s fs k x g l c, tt)

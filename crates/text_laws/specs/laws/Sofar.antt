-- A state of the reading stands for the tokens read so far, and what was let through is a term of the dialect within the tests.
use Rattle.std.specs.Prelude.{Bool, true, false, cond, List, [], ◌∷◌, ◌++◌, ◌≡◌, refl, ℕ, suc, length}
use Rattle.std.proofs.Common.{append_assoc, append-nil, sym, ap, ◌∙◌, subst, arith}
use Rattle.std.proofs.Math.Option.{Option, none, some}
use Rattle.dialect.specs.declared.Dialect.{Dialect}
use Rattle.text.specs.definitions.Bytes.{bytes, same, capital, decimal, read_nat, Token, opening, closing, word}
use Rattle.text.specs.definitions.Integers.{integer_of}
use Rattle.text.specs.definitions.Reading.{Frame, first, second, base, Spot, operand, operator, exponent, ending, raised, a_letter, negated}
use Rattle.text.specs.definitions.Reading.{Next, on, whole, off, lone, raise, raise_letter, after_first, after_expt, leaf, deliver}
use Rattle.text.specs.definitions.Reading.{deliver_some, operator_word, close_short, step, letter_check, check}
use Rattle.text.specs.definitions.Tree.{Sign, add, sub, mul, sign_text, Tree, num, letter, neg, two, power, placed, Joins, Raises}
use Rattle.text_laws.specs.laws.Bytes.{same-eq}
use Rattle.text_laws.specs.laws.Numerals.{decimal-read}
use Rattle.text_laws.specs.laws.Words.{Lone, lone-view, LeafView, is-int, is-letter, leaf-view, letter-check}

-- ---- the tokens that a state stands for
-- an open parenthesis, with what stands behind it
abbrev pub frame_tokens : Frame → List Token
frame_tokens (first p o g) = opening p ∷ word o (sign_text g) ∷ []
frame_tokens (second p o g x) = opening p ∷ word o (sign_text g) ∷ placed x
frame_tokens (base p o) = opening p ∷ word o (bytes "EXPT") ∷ []

-- all of them, the outermost first
abbrev pub stack_tokens : List Frame → List Token
stack_tokens [] = []
stack_tokens (f ∷ fs) = stack_tokens fs ++ frame_tokens f

-- and what stands behind the last
abbrev pub spot_tokens : Spot → List Token
spot_tokens operand = []
spot_tokens (operator p) = opening p ∷ []
spot_tokens (exponent p o x) = opening p ∷ word o (bytes "EXPT") ∷ placed x
spot_tokens (ending p o g x y) = opening p ∷ word o (sign_text g) ∷ placed x ++ placed y
spot_tokens (raised p o x q n) = opening p ∷ word o (bytes "EXPT") ∷ placed x ++ (word q (decimal n) ∷ [])
spot_tokens (a_letter p o) = opening p ∷ word o (bytes "EXPT") ∷ []
spot_tokens (negated p o x) = opening p ∷ word o (sign_text sub) ∷ placed x

-- all tokens so far
abbrev pub so_far : Spot → List Frame → List Token
so_far s fs = stack_tokens fs ++ spot_tokens s

-- a letter may be raised in every dialect, and everything in one whose terms are no panel terms
pub raises-letter : (b : Bool) (p c : ℕ) → Raises b (letter p c)
raises-letter true p c = tt
raises-letter false p c = tt

pub raises-any : (b : Bool) (t : Tree) → b ≡ false → Raises b t
raises-any b t e = subst (λ c. Raises c t) (sym e) tt

-- a parenthesis that passes had room
pub room-check : (room : ℕ → Bool) (d : ℕ) → ◌≡◌ {A = ℕ} (cond (room d) 0 6) 0 → room d ≡ true
room-check room d e = go (room d) refl
  where
    go : (b : Bool) → room d ≡ b → room d ≡ true
    go true k = k
    go false k = let h : ◌≡◌ {A = ℕ} 6 0 = rw k at e in absurd (omega arith)

-- ---- what the dialect and the tests let through
module _ (D : Dialect) (known room : ℕ → Bool) where
  -- a term whose first parenthesis is opened at depth d
  abbrev pub Admits : ℕ → Tree → Type 0
  Admits d (num p w z) = integer_of D.hex w ≡ some z
  Admits d (letter p b) = (capital b ≡ true) × (known b ≡ true)
  Admits d (neg p o c x) = (room d ≡ true) × Admits (suc d) x
  Admits d (two p o c g x y) = ((room d ≡ true) × Joins D.panel g) × (Admits (suc d) x × Admits (suc d) y)
  Admits d (power p o c x q n) = ((room d ≡ true) × Raises D.panel x) × Admits (suc d) x

  -- an open parenthesis that was let through, at depth d
  abbrev pub FrameOk : ℕ → Frame → Type 0
  FrameOk d (first p o g) = room d ≡ true
  FrameOk d (second p o g x) = ((room d ≡ true) × Joins D.panel g) × Admits (suc d) x
  FrameOk d (base p o) = (room d ≡ true) × (D.panel ≡ false)

  -- all of them
  abbrev pub StackOk : List Frame → Type 0
  StackOk [] = Unit {0}
  StackOk (f ∷ fs) = FrameOk (length fs) f × StackOk fs

  -- what stands behind the last, at depth d
  abbrev pub SpotOk : ℕ → Spot → Type 0
  SpotOk d operand = Unit {0}
  SpotOk d (operator p) = room d ≡ true
  SpotOk d (exponent p o x) = ((room d ≡ true) × Raises D.panel x) × Admits (suc d) x
  SpotOk d (ending p o g x y) = ((room d ≡ true) × Joins D.panel g) × (Admits (suc d) x × Admits (suc d) y)
  SpotOk d (raised p o x q n) = ((room d ≡ true) × Raises D.panel x) × Admits (suc d) x
  SpotOk d (a_letter p o) = room d ≡ true
  SpotOk d (negated p o x) = (room d ≡ true) × Admits (suc d) x

  -- after a token the state stands for the tokens ts
  abbrev pub Held : Next → List Token → Type 0
  Held off ts = Unit {0}
  Held (on s fs) ts = (so_far s fs ≡ ts) × (SpotOk (length fs) s × StackOk fs)
  Held (whole t) ts = (placed t ≡ ts) × Admits 0 t

  -- ---- a finished operand
  -- the first, where a second may follow
  held-second :
      (p o : ℕ) (g : Sign) (t : Tree) (fs : List Frame) (ts : List Token) → stack_tokens (first p o g ∷ fs) ++ placed t ≡ ts →
      Joins D.panel g → Admits (suc (length fs)) t → room (length fs) ≡ true → StackOk fs → Held (on operand (second p o g t ∷ fs)) ts
  held-second p o g t fs ts e j a r h =
      (simp append-nil (sym (append_assoc (stack_tokens fs) (frame_tokens (first p o g)) (placed t)) ∙ e), (tt, (((r, j), a), h)))

  held_first :
      (b : Bool) → D.panel ≡ b → (p o : ℕ) (g : Sign) (t : Tree) (fs : List Frame) (ts : List Token) →
      stack_tokens (first p o g ∷ fs) ++ placed t ≡ ts → Admits (suc (length fs)) t → room (length fs) ≡ true → StackOk fs →
      Held (after_first b p o g t fs) ts
  held_first false q p o g t fs ts e a r h = held-second p o g t fs ts e (subst (λ b. Joins b g) (sym q) tt) a r h
  held_first true q p o add t fs ts e a r h = held-second p o add t fs ts e (subst (λ b. Joins b add) (sym q) tt) a r h
  held_first true q p o sub t fs ts e a r h =
      (sym (append_assoc (stack_tokens fs) (frame_tokens (first p o sub)) (placed t)) ∙ e, ((r, a), h))
  held_first true q p o mul t fs ts e a r h = held-second p o mul t fs ts e (subst (λ b. Joins b mul) (sym q) tt) a r h

  held-deliver :
      (t : Tree) (fs : List Frame) (ts : List Token) → stack_tokens fs ++ placed t ≡ ts → Admits (length fs) t → StackOk fs →
      Held (deliver D t fs) ts
  held-deliver t [] ts e a h = (e, a)
  held-deliver t (first p o g ∷ fs) ts e a h = held_first D.panel refl p o g t fs ts e a h.0 h.1
  held-deliver t (second p o g x ∷ fs) ts e a h =
      (sym (append_assoc (stack_tokens fs) (frame_tokens (second p o g x)) (placed t)) ∙ e, ((h.0.0, (h.0.1, a)), h.1))
  held-deliver t (base p o ∷ fs) ts e a h = (
    sym (append_assoc (stack_tokens fs) (frame_tokens (base p o)) (placed t)) ∙ e,
    (((h.0.0, raises-any D.panel t h.0.1), a), h.1),
  )

  held-cond : (b : Bool) (m n : Next) (ts : List Token) → (b ≡ true → Held m ts) → (b ≡ false → Held n ts) → Held (cond b m n) ts
  held-cond true m n ts f g = f refl
  held-cond false m n ts f g = g refl

  -- ---- words
  -- a letter that passes
  lone-ok : (p d : ℕ) (w : List ℕ) (t : Tree) (l : Lone p w t) → letter_check known w ≡ 0 → Admits d (letter p l.byte)
  lone-ok p d w t l c = (l.is-capital, letter-check known l.byte l.is-capital (ap (letter_check known) l.word-is ∙ c))

  held-leaf :
      (p : ℕ) (w : List ℕ) (fs : List Frame) (r : Option Tree) → leaf D p w ≡ r → letter_check known w ≡ 0 → StackOk fs →
      Held (deliver_some D r fs) (stack_tokens fs ++ (word p w ∷ []))
  held-leaf p w fs none e c h = tt
  held-leaf p w fs (some t) e c h = go (leaf-view D p w t e)
    where
      go : LeafView D p w t → Held (deliver D t fs) (stack_tokens fs ++ (word p w ∷ []))
      go (is-int z f g) =
          subst (λ u. Held (deliver D u fs) (stack_tokens fs ++ (word p w ∷ []))) g
          (held-deliver (num p w z) fs (stack_tokens fs ++ (word p w ∷ [])) refl f h)
      go (is-letter l) =
          subst (λ u. Held (deliver D u fs) (stack_tokens fs ++ (word p w ∷ []))) l.tree_is
          (held-deliver (letter p l.byte) fs (stack_tokens fs ++ (word p w ∷ []))
          (ap (λ v. stack_tokens fs ++ (word p v ∷ [])) l.word-is) (lone-ok p (length fs) w t l c) h)

  held-letter :
      (p o q : ℕ) (w : List ℕ) (fs : List Frame) (r : Option Tree) → lone q w ≡ r → letter_check known w ≡ 0 → room (length fs) ≡ true →
      StackOk fs → Held (raise_letter p o r fs) ((stack_tokens fs ++ spot_tokens (a_letter p o)) ++ (word q w ∷ []))
  held-letter p o q w fs none e c r h = tt
  held-letter p o q w fs (some t) e c r h =
      let l = lone-view q w t e in
      subst (λ u. Held (on (exponent p o u) fs) ((stack_tokens fs ++ spot_tokens (a_letter p o)) ++ (word q w ∷ []))) l.tree_is (
        ap (λ v. stack_tokens fs ++ (opening p ∷ word o (bytes "EXPT") ∷ word q v ∷ [])) l.word-is
            ∙ sym (append_assoc (stack_tokens fs) (spot_tokens (a_letter p o)) (word q w ∷ [])),
        (((r, raises-letter D.panel q l.byte), lone-ok q (suc (length fs)) w t l c), h),
      )

  -- `(- x)`
  held-short : (c : ℕ) (fs : List Frame) → StackOk fs → Held (close_short D c fs) ((stack_tokens fs ++ []) ++ (closing c ∷ []))
  held-short c [] h = tt
  held-short c (first p o g ∷ fs) h = tt
  held-short c (second p o add x ∷ fs) h = tt
  held-short c (second p o sub x ∷ fs) h =
      held-deliver (neg p o c x) fs _ (simp (append-nil, append_assoc)) (h.0.0.0, h.0.1) h.1
  held-short c (second p o mul x ∷ fs) h = tt
  held-short c (base p o ∷ fs) h = tt

  held-operator :
      (p o : ℕ) (w : List ℕ) (fs : List Frame) → room (length fs) ≡ true → StackOk fs →
      Held (operator_word D p o w fs) ((stack_tokens fs ++ (opening p ∷ [])) ++ (word o w ∷ []))
  held-operator p o w fs r h =
      held-cond (same w (bytes "+")) _ _ ts (λ e. sign add (same-eq w (sign_text add) e)) λ n₁.
      held-cond (same w (bytes "-")) _ _ ts (λ e. sign sub (same-eq w (sign_text sub) e)) λ n₂.
      held-cond (same w (bytes "*")) _ _ ts (λ e. sign mul (same-eq w (sign_text mul) e)) λ n₃.
      held-cond (same w (bytes "EXPT")) _ _ ts (λ e. expt D.panel refl (same-eq w (bytes "EXPT") e)) λ n₄. tt
    where
      ts : List Token
      ts = (stack_tokens fs ++ (opening p ∷ [])) ++ (word o w ∷ [])

      split : (v : List ℕ) → w ≡ v → stack_tokens fs ++ (opening p ∷ word o v ∷ []) ≡ ts
      split v e = rw e (sym (append_assoc (stack_tokens fs) (opening p ∷ []) (word o v ∷ [])))

      sign : (g : Sign) → w ≡ sign_text g → Held (on operand (first p o g ∷ fs)) ts
      sign g e = (append-nil (stack_tokens fs ++ frame_tokens (first p o g)) ∙ split (sign_text g) e, (tt, (r, h)))

      expt : (b : Bool) → D.panel ≡ b → w ≡ bytes "EXPT" → Held (after_expt b p o fs) ts
      expt false q e = (append-nil (stack_tokens fs ++ frame_tokens (base p o)) ∙ split (bytes "EXPT") e, (tt, ((r, q), h)))
      expt true q e = (split (bytes "EXPT") e, (r, h))

  held-raise :
      (p o : ℕ) (x : Tree) (q : ℕ) (w : List ℕ) (fs : List Frame) (m : Option ℕ) → read_nat w ≡ m → SpotOk (length fs) (exponent p o x) →
      StackOk fs → Held (raise p o x q m fs) ((stack_tokens fs ++ spot_tokens (exponent p o x)) ++ (word q w ∷ []))
  held-raise p o x q w fs none e k h = tt
  held-raise p o x q w fs (some n) e k h =
      (rw (decimal-read w n e) (sym (append_assoc (stack_tokens fs) (spot_tokens (exponent p o x)) (word q w ∷ []))), (k, h))

  -- a token that passes keeps it so
  pub held-step :
      (s : Spot) (fs : List Frame) (k : Token) → SpotOk (length fs) s → StackOk fs → check known room (length fs) k ≡ 0 →
      Held (step D s fs k) (so_far s fs ++ (k ∷ []))
  held-step operand fs (opening p) a h c = (simp append-nil, (room-check room (length fs) c, h))
  held-step operand fs (closing q) a h c = held-short q fs h
  held-step operand fs (word p w) a h c = rw append-nil (held-leaf p w fs (leaf D p w) refl c h)
  held-step (operator p) fs (opening q) a h c = tt
  held-step (operator p) fs (closing q) a h c = tt
  held-step (operator p) fs (word o w) a h c = held-operator p o w fs a h
  held-step (exponent p o x) fs (opening q) a h c = tt
  held-step (exponent p o x) fs (closing q) a h c = tt
  held-step (exponent p o x) fs (word q w) a h c = held-raise p o x q w fs (read_nat w) refl a h
  held-step (ending p o g x y) fs (opening q) a h c = tt
  held-step (ending p o g x y) fs (closing q) a h c = held-deliver (two p o q g x y) fs _ (simp append_assoc) a h
  held-step (ending p o g x y) fs (word q w) a h c = tt
  held-step (raised p o x q n) fs (opening r) a h c = tt
  held-step (raised p o x q n) fs (closing r) a h c = held-deliver (power p o r x q n) fs _ (simp append_assoc) a h
  held-step (raised p o x q n) fs (word r w) a h c = tt
  held-step (a_letter p o) fs (opening q) a h c = tt
  held-step (a_letter p o) fs (closing q) a h c = tt
  held-step (a_letter p o) fs (word q w) a h c = held-letter p o q w fs (lone q w) refl c a h
  held-step (negated p o x) fs (opening q) a h c = tt
  held-step (negated p o x) fs (closing q) a h c = held-deliver (neg p o q x) fs _ (simp append_assoc) a h
  held-step (negated p o x) fs (word q w) a h c = tt

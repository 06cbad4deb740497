-- A text reads as a term of the dialect exactly when its tokens are the term's tokens at their places, and the limits of length and
-- parentheses hold.
use Rattle.std.specs.Prelude.{Bool, ◌↔◌, ◌≡◌, ℕ, zero, suc, ◌+◌, ◌≤◌, length}
use Rattle.std.proofs.Math.Bool.{true, false}
use mathlib.Core.List.{List, [], ◌∷◌, ◌++◌, append_assoc}
use Rattle.std.proofs.Math.Path.{refl, sym}
use Rattle.std.proofs.Common.{ap, ◌∙◌, subst, arith}
use borrow.Author.Tests.{ltb-true, lt-ltb, leb-true, le-leb}
use Rattle.std.proofs.Math.Dec.{leb}
use Rattle.dialect.specs.declared.Dialect.{Dialect}
use Rattle.text.specs.definitions.Answer.{Reading, read, fine, past_of}
use Rattle.text.specs.definitions.Bytes.{is_in_row, Token, place_of, tokens}
use Rattle.text.specs.definitions.Meaning.{IsTerm}
use Rattle.text.specs.definitions.Reading.{Frame, Spot, operand, Next, on, whole, off, step, case_next, check, wrong_at, only_end, run}
use Rattle.text.specs.definitions.Reading.{room_in, read_term}
use Rattle.text.specs.definitions.Tree.{Tree, num, letter, neg, two, power, placed, Proper, letters, nesting}
use Rattle.text_laws.specs.laws.Answer.{no-refusal}
use Rattle.text_laws.specs.laws.Bytes.{and_l, and_r, and_i}
use Rattle.text_laws.specs.laws.Sofar.{so_far, Admits, StackOk, SpotOk, Held, held-step}
use Rattle.text_laws.specs.laws.Through.{through-all}

-- ---- what is read was there
module _ (D : Dialect) (known room : ℕ → Bool) (n : ℕ) where
  fine-zero : (c p e : ℕ) (r : Unit {0} → Reading Tree) (t : Tree) → fine c p e r ≡ read t → (c ≡ 0) × (r tt ≡ read t)
  fine-zero zero p e r t f = (refl, f)
  fine-zero (suc c) p e r t f = no-refusal f

  only-end : (t : Tree) (ks : List Token) (u : Tree) → only_end D t ks ≡ read u → (ks ≡ []) × (t ≡ u)
  only-end t [] u e = (refl, (let i : t ≡ u = cc in i))
  only-end t (k ∷ ks) u e = no-refusal e

  sound-next :
      (k : Token) (ks ts : List Token) (t : Tree) (c : ℕ) (x : Next) → (c ≡ 0 → Held D known room x (ts ++ (k ∷ []))) →
      ((s : Spot) (fs : List Frame) → SpotOk D known room (length fs) s → StackOk D known room fs → run D known room n s fs ks ≡ read t →
      (placed t ≡ so_far s fs ++ ks) × Admits D known room 0 t) →
      case_next x (wrong_at D k) (λ s' fs'. fine c (place_of k) (past_of k) (λ u. run D known room n s' fs' ks))
      (λ t'. fine c (place_of k) (past_of k) (λ u. only_end D t' ks)) ≡ read t →
      (placed t ≡ ts ++ (k ∷ ks)) × Admits D known room 0 t
  sound-next k ks ts t c off h ih e = no-refusal e
  sound-next k ks ts t c (on s fs) h ih e =
      let f = fine-zero c (place_of k) (past_of k) (λ u. run D known room n s fs ks) t e in
      let g = h f.0 in
      let r = ih s fs g.1.0 g.1.1 f.1 in
      (r.0 ∙ ap (λ (z : List Token). z ++ ks) g.0 ∙ append_assoc ts (k ∷ []) ks, r.1)
  sound-next k ks ts t c (whole u) h ih e =
      let f = fine-zero c (place_of k) (past_of k) (λ v. only_end D u ks) t e in
      let g = h f.0 in
      let r = only-end u ks t f.1 in
      (ap placed (sym r.1) ∙ g.0 ∙ ap (λ (z : List Token). ts ++ (k ∷ z)) (sym r.0), subst (Admits D known room 0) r.1 g.1)

  -- what is read as a term is the term's tokens, and let through
  run_sound :
      (ks : List Token) (t : Tree) (s : Spot) (fs : List Frame) → SpotOk D known room (length fs) s → StackOk D known room fs →
      run D known room n s fs ks ≡ read t → (placed t ≡ so_far s fs ++ ks) × Admits D known room 0 t
  run_sound [] t s fs a h e = no-refusal e
  run_sound (k ∷ ks) t s fs a h e =
      sound-next k ks (so_far s fs) t (check known room (length fs) k) (step D s fs k) (held-step D known room s fs k a h)
      (λ s' fs'. run_sound ks t s' fs') e

-- ---- what is let through is a term of the dialect, over the row and within the limit
module _ (D : Dialect) (row : List ℕ) where
  record Inside (d : ℕ) (t : Tree) : Type 0 where
    proper : Proper D t
    in_row : letters (is_in_row row) t ≡ true
    shallow : d + nesting t ≤ D.depth

  admits-inside : (t : Tree) (d : ℕ) → d ≤ D.depth → Admits D (is_in_row row) (room_in D) d t → Inside d t
  admits-inside (num p w z) d h a = record { proper = a; in_row = refl; shallow = omega arith }
  admits-inside (letter p b) d h a = record { proper = a.0; in_row = a.1; shallow = omega arith }
  admits-inside (neg p o c x) d h a =
      let i = admits-inside x (suc d) (ltb-true d D.depth a.0) a.1 in
      record { proper = i.proper; in_row = i.in_row; shallow = omega (arith, i.shallow) }
  admits-inside (two p o c g x y) d h a =
      let r = ltb-true d D.depth a.0.0 in
      let i = admits-inside x (suc d) r a.1.0 in
      let j = admits-inside y (suc d) r a.1.1 in
      record {
        proper = (a.0.1, (i.proper, j.proper));
        in_row = and_i i.in_row j.in_row;
        shallow = omega (arith, i.shallow, j.shallow);
      }
  admits-inside (power p o c x q n) d h a =
      let i = admits-inside x (suc d) (ltb-true d D.depth a.0.0) a.1 in
      record { proper = (a.0.1, i.proper); in_row = i.in_row; shallow = omega (arith, i.shallow) }

  inside-admits :
      (t : Tree) (d : ℕ) → Proper D t → letters (is_in_row row) t ≡ true → d + nesting t ≤ D.depth → Admits D (is_in_row row) (room_in D) d t
  inside-admits (num p w z) d q l h = q
  inside-admits (letter p b) d q l h = (q, l)
  inside-admits (neg p o c x) d q l h = (lt-ltb d D.depth (omega arith), inside-admits x (suc d) q l (omega arith))
  inside-admits (two p o c g x y) d q l h = (
    (lt-ltb d D.depth (omega arith), q.0),
    (
      inside-admits x (suc d) q.1.0 (and_l (letters (is_in_row row) x) (letters (is_in_row row) y) l) (omega arith),
      inside-admits y (suc d) q.1.1 (and_r (letters (is_in_row row) x) (letters (is_in_row row) y) l) (omega arith),
    ),
  )
  inside-admits (power p o c x r n) d q l h =
      ((lt-ltb d D.depth (omega arith), q.0), inside-admits x (suc d) q.1 l (omega arith))

  module _ (s : List ℕ) (t : Tree) where
    is-term : read_term D row s ≡ read t → IsTerm D row s t
    unfolding read_term
    is-term e = go (leb (length s) D.bytes) refl
      where
        go : (b : Bool) → leb (length s) D.bytes ≡ b → IsTerm D row s t
        go true k =
            let r = run_sound D (is_in_row row) (room_in D) (length s) (tokens 0 s) t operand [] tt tt (rw (k, read_term) at e) in
            let w = admits-inside t 0 (omega arith) r.1 in
            record {
              short = leb-true (length s) D.bytes k;
              tokens-are = sym r.0;
              proper = w.proper;
              in_row = w.in_row;
              shallow = omega (arith, w.shallow);
            }
        go false k = no-refusal (rw (k, read_term) at e)

    term_is : IsTerm D row s t → read_term D row s ≡ read t
    unfolding read_term
    term_is m =
        rw (le-leb (length s) D.bytes m.short, read_term)
        (ap (run D (is_in_row row) (room_in D) (length s) operand []) m.tokens-are
        ∙ through-all D (is_in_row row) (room_in D) (length s) t
        (inside-admits t 0 m.proper m.in_row (omega (arith, m.shallow))))

    -- it is read as t exactly when it is the text of t
    pub reads : (read_term D row s ≡ read t) ↔ IsTerm D row s t
    reads = (is-term, term_is)

-- What each refusal of a term's text says of the text.
use Rattle.std.specs.Prelude.{Bool, cond, ◌&&◌, not, ◌≡◌, ℕ, suc, ◌≤◌, length}
use Rattle.std.proofs.Math.Bool.{true, false}
use mathlib.Core.List.{List, [], ◌∷◌, ◌++◌, append_assoc, append-nil}
use Rattle.std.proofs.Math.Path.{refl}
use Rattle.std.proofs.Common.{sym, ap, subst, ◌∙◌, arith, leb-true, leb-false, ltb-true, ltb-false}
use Rattle.std.proofs.Math.Dec.{leb}
use Rattle.dialect.specs.declared.Dialect.{Dialect}
use Rattle.text.specs.definitions.Answer.{refused, past_of}
use Rattle.text.specs.definitions.Bytes.{capital, is_in_row, Token, opening, closing, word, place_of, tokens}
use Rattle.text.specs.definitions.Meaning.{Begun, FirstBad, EndsEarly, open_after, Allowed, Clean, RefusedAs, too_long}
use Rattle.text.specs.definitions.Meaning.{no-term-so, ended, unknown-letter, too-deep}
use Rattle.text.specs.definitions.Reading.{Frame, Spot, operand, Next, on, step, check, wrong_at, run, room_in, read_term}
use Rattle.text.specs.definitions.Tree.{Tree, placed, Proper}
use Rattle.text_laws.specs.laws.Answer.{no-refusal, refusal-parts}
use Rattle.text_laws.specs.laws.Begun.{yes', check-yes, proper-admits, Live, begun-next}
use Rattle.text_laws.specs.laws.Open.{open-depth, Checks}
use Rattle.text_laws.specs.laws.Places.{Reached, Refusal, early, bad, past, trace}
use Rattle.text_laws.specs.laws.Sofar.{Held, room-check, held-step}
use Rattle.text_laws.specs.laws.Through.{go_on, through-all}
use Rattle.text_laws.specs.laws.Words.{letter-check}

-- ---- the numbers of the checks
module _ (known room : ℕ → Bool) where
  check-room : (d c : ℕ) (b : Bool) → room d ≡ b → (c ≡ 0 → ⊥) → c ≡ cond b 0 6 → (c ≡ 6) × (room d ≡ false)
  check-room d c true k m i = absurd (m i)
  check-room d c false k m i = (i, k)

  check-known :
      (x c : ℕ) (a b : Bool) → capital x ≡ a → known x ≡ b → (c ≡ 0 → ⊥) → c ≡ cond (a && not b) 5 0 →
      (c ≡ 5) × ((capital x ≡ true) × (known x ≡ false))
  check-known x c true true k l m i = absurd (m i)
  check-known x c true false k l m i = (i, (k, l))
  check-known x c false b k l m i = absurd (m i)

  -- what a check refuses
  data Checked (d c : ℕ) : Token → Type 0 where
    deep : (p : ℕ) → c ≡ 6 → room d ≡ false → Checked d c (opening p)
    unknown : (p b : ℕ) → c ≡ 5 → capital b ≡ true → known b ≡ false → Checked d c (word p (b ∷ []))

  checked : (d c : ℕ) (k : Token) → (c ≡ 0 → ⊥) → c ≡ check known room d k → Checked d c k
  checked d c (opening p) m i = let r = check-room d c (room d) refl m i in deep p r.0 r.1
  checked d c (closing p) m i = absurd (m i)
  checked d c (word p []) m i = absurd (m i)
  checked d c (word p (b ∷ [])) m i = let r = check-known b c (capital b) (known b) refl refl m i in unknown p b r.0 r.1.0 r.1.1
  checked d c (word p (b ∷ b' ∷ w)) m i = absurd (m i)

module _ (D : Dialect) (n : ℕ) where
  -- a term that begins with tokens that lead nowhere
  no-term :
      (ks ys : List Token) (x : Next) (t : Tree) (c p e : ℕ) → Reached D n operand [] ks x → Proper D t → placed t ≡ ks ++ ys →
      go_on D yes' yes' n x ys ≡ refused c p e → ⊥
  no-term ks ys x t c p e r a i g =
      no-refusal {a = t}
      (sym g ∙ sym (r.goes ys) ∙ ap (run D yes' yes' n operand []) (sym i) ∙ through-all D yes' yes' n t (proper-admits D t 0 a))

  ends-early :
      (row : List ℕ) (ts : List Token) (s : Spot) (fs : List Frame) → Reached D n operand [] ts (on s fs) → Clean row D.depth 0 ts →
      EndsEarly D row ts
  ends-early row ts s fs r c =
      record {
        clean = c;
        begun = begun-next D (on s fs) ts tt r.held;
        no-term = λ t a i. no-term ts [] (on s fs) t D.wrong n n r a (i ∙ sym (append-nil ts)) refl;
      }

  first-bad :
      (row : List ℕ) (ts ks : List Token) (k : Token) (zs : List Token) (x : Next) (p e : ℕ) → ts ≡ ks ++ (k ∷ zs) →
      Reached D n operand [] ks x → Clean row D.depth 0 ks → ((ys : List Token) → go_on D yes' yes' n x (k ∷ ys) ≡ wrong_at D k) →
      p ≡ place_of k → e ≡ past_of k → FirstBad D row ts p e
  first-bad row ts ks k zs x p e f r h g j o =
      record {
        before = ks;
        token = k;
        behind = zs;
        parts = f;
        place = j;
        end = o;
        clean = h;
        begun = begun-next D x ks r.live r.held;
        ends =
            λ b. no-term ks (k ∷ b.rest) x b.term D.wrong (place_of k) (past_of k) r b.proper
            (b.is ∙ append_assoc ks (k ∷ []) b.rest) (g b.rest);
      }

  -- the token that leads on from where the tokens ks lead
  begun-with :
      (ks : List Token) (k : Token) (s : Spot) (fs : List Frame) (x : Next) → Reached D n operand [] ks (on s fs) → step D s fs k ≡ x →
      Live x → Begun D (ks ++ (k ∷ []))
  begun-with ks k s fs x r g l =
      begun-next D x (ks ++ (k ∷ [])) l
      (subst (λ (y : Next). Held D yes' yes' y (ks ++ (k ∷ []))) g
      (rw r.held.0 at (held-step D yes' yes' s fs k r.held.1.0 r.held.1.1 (check-yes (length fs) k))))

module _ (D : Dialect) (row s : List ℕ) where
  allowed : (d : ℕ) (k : Token) → check (is_in_row row) (room_in D) d k ≡ 0 → Allowed row D.depth d k
  allowed d (opening q) c = ltb-true d D.depth (room-check (room_in D) d c)
  allowed d (closing q) c = tt
  allowed d (word q []) c = tt
  allowed d (word q (b ∷ [])) c = λ h. letter-check (is_in_row row) b h c
  allowed d (word q (b ∷ b' ∷ w)) c = tt

  clean : (d : ℕ) (ks : List Token) → Checks (is_in_row row) (room_in D) d ks → Clean row D.depth d ks
  clean d [] h = tt
  clean d (k ∷ ks) h = (allowed d k h.0, clean (open_after d (k ∷ [])) ks h.1)

  why-of :
      (c p e : ℕ) → length s ≤ D.bytes → Refusal D (length s) (is_in_row row) (room_in D) operand [] (tokens 0 s) c p e →
      RefusedAs D row s c p e
  why-of c p e h (early s' fs' q v i j o) = ended i h (ends-early D (length s) row (tokens 0 s) s' fs' q (clean 0 (tokens 0 s) v)) j o
  why-of c p e h (bad ks k zs x f q v g i j o) =
      no-term-so i h (first-bad D (length s) row (tokens 0 s) ks k zs x p e f q (clean 0 ks v) g j o)
  why-of c p e h (past ks k zs s' fs' x f q v g l i m j o) =
      go k f g (begun-with D (length s) ks k s' fs' x q g l) j o (checked (is_in_row row) (room_in D) (length fs') c k m i)
    where
      go :
          (k : Token) → tokens 0 s ≡ ks ++ (k ∷ zs) → step D s' fs' k ≡ x → Begun D (ks ++ (k ∷ [])) → p ≡ place_of k → e ≡ past_of k →
          Checked (is_in_row row) (room_in D) (length fs') c k → RefusedAs D row s c p e
      go k f g b j o (deep r w u) =
          let d : open_after 0 ks ≡ length fs' = ap (open_after 0) (sym q.held.0) ∙ open-depth D r s' fs' x g l in
          too-deep w h (record {
            before = ks;
            behind = zs;
            parts = f ∙ ap (λ (z : ℕ). ks ++ (opening z ∷ zs)) (sym j);
            end = o ∙ ap suc (sym j);
            clean = clean 0 ks v;
            open-before = omega (arith, d, ltb-false (length fs') D.depth u);
            begun = rw j b;
          })
      go k f g b j o (unknown r y w u t) =
          unknown-letter w h (record {
            before = ks;
            letter = y;
            behind = zs;
            parts = f ∙ ap (λ (z : ℕ). ks ++ (word z (y ∷ []) ∷ zs)) (sym j);
            end = omega (arith, o, j);
            clean = clean 0 ks v;
            is-capital = u;
            not-in-row = t;
            begun = rw j b;
          })

  -- each refusal is one that is described
  pub why : (c p e : ℕ) → read_term D row s ≡ refused c p e → RefusedAs D row s c p e
  unfolding read_term
  why c p e r = go (leb (length s) D.bytes) refl
    where
      go : (b : Bool) → leb (length s) D.bytes ≡ b → RefusedAs D row s c p e
      go true k =
          why-of c p e (leb-true (length s) D.bytes k)
          (trace D (is_in_row row) (room_in D) (length s) (tokens 0 s) operand [] c p e (tt, tt) (rw (k, read_term) at r))
      go false k =
          let q = refusal-parts 3 0 0 c p e (rw (k, read_term) at r) in
          too_long q.0 q.1 q.2 (leb-false (length s) D.bytes k)

-- A term's text is accepted exactly when it is the text of a term and every subterm is within the limits; else the refusal is as document
-- 01 orders them.
use Rattle.std.specs.Prelude.{List, [], ◌∷◌, ◌++◌, ◌↔◌, ◌≡◌}
use Rattle.std.proofs.Math.Path.{refl, ap}
use Rattle.std.proofs.Common.{sym, ◌∙◌, arith}
use Prim.Native.Nat.{ℕ, zero, suc}
use Rattle.dialect.specs.declared.Dialect.{Dialect}
use Rattle.text.specs.definitions.Answer.{onward, Reading, read, refused}
use Rattle.text.specs.definitions.Limits.{finishing, over_limit, first_past, measured, accept}
use Rattle.text.specs.definitions.Meaning.{IsTerm, Part, Fits, AllWithin, FirstOver, TermRefused, no-term, over-limit}
use Rattle.text.specs.definitions.Reading.{read_term}
use Rattle.text.specs.definitions.Tree.{Tree, start_of, end_of}
use Rattle.text_laws.specs.laws.Answer.{no-refusal, refusal-parts}
use Rattle.text_laws.specs.laws.Exactly.{refused-exactly}
use Rattle.text_laws.specs.laws.Measured.{parts-fit, fit_parts, all-within, Past, none_over, one-over, past}
use Rattle.text_laws.specs.laws.Reading.{reads}

module _ (row : List ℕ) (t : Tree) where
  fits-of : (x : Reading Tree) → Past row t (finishing t) x → x ≡ read t → (y : Tree) → Part y t → Fits row y
  fits-of x (none_over a e) h y q = parts-fit row q a
  fits-of x (one-over us u vs k p a w e) h y q = no-refusal (sym e ∙ h)

  -- the measuring lets a term through exactly when every subterm is within the limits
  pub measured-fits : (measured row t ≡ read t) ↔ ((y : Tree) → Part y t → Fits row y)
  unfolding measured
  measured-fits = (
    fits-of (first_past row (read t) (finishing t)) (past row t (finishing t)),
    λ h. all-within row (read t) (finishing t)
        (fit_parts row t h),
  )

  over-of : (c p e : ℕ) (x : Reading Tree) → Past row t (finishing t) x → x ≡ refused c p e → FirstOver row t c p e
  over-of c p e x (none_over a i) h = no-refusal (sym h ∙ i)
  over-of c p e x (one-over us u vs k f a w i) h =
      let q = refusal-parts (suc k) (start_of u) (end_of u) c p e (sym i ∙ h) in
      record {
        before = us;
        node = u;
        behind = vs;
        parts = f;
        within = a;
        number = w ∙ sym q.0;
        over = omega (arith, q.0);
        place = q.1;
        end = q.2;
      }

  first-past :
      (r : Reading Tree) (us : List Tree) (u : Tree) (vs : List Tree) (c : ℕ) → AllWithin row us → over_limit row u ≡ suc c →
      first_past row r (us ++ (u ∷ vs)) ≡ refused (suc c) (start_of u) (end_of u)
  first-past r [] u vs c a h = rw h
  first-past r (v ∷ us) u vs c a h = rw a.0 (first-past r us u vs c a.1 h)

  over_first : (c p e : ℕ) → FirstOver row t c p e → measured row t ≡ refused c p e
  unfolding measured
  over_first zero p e w = absurd (w.over refl)
  over_first (suc c) p e w =
      ap (first_past row (read t)) w.parts ∙ first-past (read t) w.before w.node w.behind c w.within w.number
      ∙ (λ i. refused (suc c) (sym w.place i) (sym w.end i))

  -- and refuses exactly at the first one that is not, in order of finishing
  pub measured-over : (c p e : ℕ) → (measured row t ≡ refused c p e) ↔ FirstOver row t c p e
  unfolding measured
  measured-over c p e = (over-of c p e (first_past row (read t) (finishing t)) (past row t (finishing t)), over_first c p e)

  same-of : (u : Tree) (x : Reading Tree) → Past row t (finishing t) x → x ≡ read u → t ≡ u
  same-of u x (none_over a i) h = let j : read t ≡ read u = sym i ∙ h in let k : t ≡ u = cc in k
  same-of u x (one-over us v vs k f a w i) h = no-refusal (sym i ∙ h)

  measured-same : (u : Tree) → measured row t ≡ read u → t ≡ u
  unfolding measured
  measured-same u = same-of u (first_past row (read t) (finishing t)) (past row t (finishing t))

module _ (D : Dialect) (row s : List ℕ) where
  -- a refusal, or it stands
  pub data Outcome (x : Reading Tree) : Type 0 where
    fails : (c p e : ℕ) → TermRefused D row s c p e → x ≡ refused c p e → Outcome x
    stands-as : (t : Tree) → IsTerm D row s t → ((y : Tree) → Part y t → Fits row y) → x ≡ read t → Outcome x

  measured-outcome : (t : Tree) (x : Reading Tree) → IsTerm D row s t → measured row t ≡ x → Outcome x
  measured-outcome t (read u) h e =
      let i = measured-same row t u e in
      stands-as t h ((measured-fits row t).0 (e ∙ ap read (sym i))) (ap read (sym i))
  measured-outcome t (refused c p e) h i = fails c p e (over-limit t h ((measured-over row t c p e).0 i)) refl

  read-outcome : (x : Reading Tree) → read_term D row s ≡ x → Outcome (onward x (measured row))
  read-outcome (refused c p e) i = fails c p e (no-term ((refused-exactly D row s c p e).0 i)) refl
  read-outcome (read t) i = measured-outcome t (measured row t) ((reads D row s t).0 i) refl

  -- one of the two
  pub outcome : Outcome (accept D row s)
  unfolding accept
  outcome = read-outcome (read_term D row s) refl

  is-of : (t : Tree) → Outcome (accept D row s) → accept D row s ≡ read t → IsTerm D row s t × ((y : Tree) → Part y t → Fits row y)
  is-of t (fails c p e w j) h = no-refusal (sym j ∙ h)
  is-of t (stands-as u i w j) h = let k : read u ≡ read t = sym j ∙ h in let l : u ≡ t = cc in (rw l at i, rw l at w)

  of_is : (t : Tree) → IsTerm D row s t × ((y : Tree) → Part y t → Fits row y) → accept D row s ≡ read t
  unfolding accept
  of_is t h = ap (λ (r : Reading Tree). onward r (measured row)) ((reads D row s t).1 h.0) ∙ (measured-fits row t).1 h.1

  -- "a term inside the limits is accepted", and nothing else
  pub accepts : (t : Tree) → (accept D row s ≡ read t) ↔ (IsTerm D row s t × ((y : Tree) → Part y t → Fits row y))
  accepts t = (is-of t outcome, of_is t)

  why-of : (c p e : ℕ) → Outcome (accept D row s) → accept D row s ≡ refused c p e → TermRefused D row s c p e
  why-of c p e (fails c' p' e' w j) h = let q = refusal-parts c' p' e' c p e (sym j ∙ h) in rw (q.0, q.1, q.2) w
  why-of c p e (stands-as t i w j) h = no-refusal (sym h ∙ j)

  of-why : (c p e : ℕ) → TermRefused D row s c p e → accept D row s ≡ refused c p e
  unfolding accept
  of-why c p e (no-term a) = ap (λ (r : Reading Tree). onward r (measured row)) ((refused-exactly D row s c p e).1 a)
  of-why c p e (over-limit t i w) =
      ap (λ (r : Reading Tree). onward r (measured row)) ((reads D row s t).1 i) ∙ (measured-over row t c p e).1 w

  -- no refusal but those described, each exactly when its line of the table says so
  pub refuses : (c p e : ℕ) → (accept D row s ≡ refused c p e) ↔ TermRefused D row s c p e
  refuses c p e = (why-of c p e outcome, of-why c p e)

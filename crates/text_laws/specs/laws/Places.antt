-- Where a term's text is refused: "the first token such that no term of any size begins with the tokens so far .., or the text's length if
-- it ends early".
use Rattle.std.specs.Prelude.{Bool, List, [], ◌∷◌, ◌++◌, ◌≡◌, refl, ℕ, zero, suc, length}
use Rattle.std.proofs.Common.{append_assoc, append-nil, sym, ap, subst, ◌∙◌, arith}
use Rattle.dialect.specs.declared.Dialect.{Dialect}
use Rattle.text.specs.definitions.Answer.{refused, fine, past_of}
use Rattle.text.specs.definitions.Bytes.{Token, place_of}
use Rattle.text.specs.definitions.Meaning.{open_after}
use Rattle.text.specs.definitions.Reading.{Frame, Spot, Next, on, whole, off, step, case_next, check, wrong_at, only_end, run}
use Rattle.text.specs.definitions.Tree.{Tree}
use Rattle.text_laws.specs.laws.Answer.{no-refusal, refusal-parts}
use Rattle.text_laws.specs.laws.Begun.{yes', check-yes, Live}
use Rattle.text_laws.specs.laws.Open.{Checks, checks-before, checks-one}
use Rattle.text_laws.specs.laws.Sofar.{so_far, StackOk, SpotOk, Held, held-step}
use Rattle.text_laws.specs.laws.Through.{go_on}

-- a state that stands for tokens which begin a term
abbrev pub Good : Dialect → Spot → List Frame → Type 0
Good D s fs = SpotOk D yes' yes' (length fs) s × StackOk D yes' yes' fs

module _ (D : Dialect) (n : ℕ) where
  -- the tokens ks lead from the state to x, whatever comes behind them
  pub record Reached (s : Spot) (fs : List Frame) (ks : List Token) (x : Next) : Type 0 where
    pub live : Live x
    pub held : Held D yes' yes' x (so_far s fs ++ ks)
    pub goes : (zs : List Token) → run D yes' yes' n s fs (ks ++ zs) ≡ go_on D yes' yes' n x zs

  none_yet : (s : Spot) (fs : List Frame) → Good D s fs → Reached s fs [] (on s fs)
  none_yet s fs a = record { live = tt; held = (sym (append-nil (so_far s fs)), a); goes = λ zs. refl }

  live-run :
      (s : Spot) (fs : List Frame) (k : Token) (x : Next) → step D s fs k ≡ x → Live x → (zs : List Token) →
      run D yes' yes' n s fs (k ∷ zs) ≡ go_on D yes' yes' n x zs
  live-run s fs k off e l zs = absurd l
  live-run s fs k (on s' fs') e l zs = rw (e, check-yes (length fs) k)
  live-run s fs k (whole t) e l zs = rw (e, check-yes (length fs) k)

  one_more : (s : Spot) (fs : List Frame) (k : Token) (x : Next) → Good D s fs → step D s fs k ≡ x → Live x → Reached s fs (k ∷ []) x
  one_more s fs k x a e l =
      record {
        live = l;
        held = subst (λ (y : Next). Held D yes' yes' y (so_far s fs ++ (k ∷ []))) e
            (held-step D yes' yes' s fs k a.0 a.1 (check-yes (length fs) k));
        goes = live-run s fs k x e l;
      }

  held_at : (x : Next) (ts us : List Token) → ts ≡ us → Held D yes' yes' x ts → Held D yes' yes' x us
  held_at x ts us e h = rw e at h

  before : (s : Spot) (fs : List Frame) (k : Token) (s' : Spot) (fs' : List Frame) (ks : List Token) (x : Next)
      → Reached s fs (k ∷ []) (on s' fs') → Reached s' fs' ks x → Reached s fs (k ∷ ks) x
  before s fs k s' fs' ks x r q =
      record {
        live = q.live;
        held =
            held_at x (so_far s' fs' ++ ks) (so_far s fs ++ (k ∷ ks))
            (ap (λ (z : List Token). z ++ ks) r.held.0 ∙ append_assoc (so_far s fs) (k ∷ []) ks) q.held;
        goes = λ zs. r.goes (ks ++ zs) ∙ q.goes zs;
      }

  -- how a reading is refused with the number c at the place p up to the end e
  pub data Refusal (known room : ℕ → Bool) (s : Spot) (fs : List Frame) (ts : List Token) (c p e : ℕ) : Type 0 where
    early :
        (s' : Spot) (fs' : List Frame) → Reached s fs ts (on s' fs') → Checks known room (open_after 0 (so_far s fs)) ts →
        c ≡ D.wrong → p ≡ n → e ≡ n → Refusal known room s fs ts c p e
    bad :
        (ks : List Token) (k : Token) (zs : List Token) (x : Next) → ts ≡ ks ++ (k ∷ zs) → Reached s fs ks x →
        Checks known room (open_after 0 (so_far s fs)) ks → ((ys : List Token) → go_on D yes' yes' n x (k ∷ ys) ≡ wrong_at D k) →
        c ≡ D.wrong → p ≡ place_of k → e ≡ past_of k → Refusal known room s fs ts c p e
    past :
        (ks : List Token) (k : Token) (zs : List Token) (s' : Spot) (fs' : List Frame) (x : Next) → ts ≡ ks ++ (k ∷ zs) →
        Reached s fs ks (on s' fs') → Checks known room (open_after 0 (so_far s fs)) ks → step D s' fs' k ≡ x → Live x →
        c ≡ check known room (length fs') k → (c ≡ 0 → ⊥) → p ≡ place_of k → e ≡ past_of k → Refusal known room s fs ts c p e

module _ (D : Dialect) (known room : ℕ → Bool) (n : ℕ) where
  later :
      (s : Spot) (fs : List Frame) (k : Token) (s' : Spot) (fs' : List Frame) (ts : List Token) (c p e : ℕ) →
      step D s fs k ≡ on s' fs' → check known room (length fs) k ≡ 0 → Reached D n s fs (k ∷ []) (on s' fs') →
      Refusal D n known room s' fs' ts c p e → Refusal D n known room s fs (k ∷ ts) c p e
  later s fs k s' fs' ts c p e g z r (early s'' fs'' q h i j o) =
      early s'' fs'' (before D n s fs k s' fs' ts (on s'' fs'') r q)
      (checks-before known room D s fs k (on s' fs') s' fs' ts g tt z r.held.0 h) i j o
  later s fs k s' fs' ts c p e g z r (bad ks l zs x f q h w i j o) =
      bad (k ∷ ks) l zs x (ap (λ (z : List Token). k ∷ z) f) (before D n s fs k s' fs' ks x r q)
      (checks-before known room D s fs k (on s' fs') s' fs' ks g tt z r.held.0 h) w i j o
  later s fs k s' fs' ts c p e g z r (past ks l zs s'' fs'' x f q h w v i m j o) =
      past (k ∷ ks) l zs s'' fs'' x (ap (λ (z : List Token). k ∷ z) f) (before D n s fs k s' fs' ks (on s'' fs'') r q)
      (checks-before known room D s fs k (on s' fs') s' fs' ks g tt z r.held.0 h) w v i m j o

  trace-on :
      (b : ℕ) (s : Spot) (fs : List Frame) (k : Token) (ts : List Token) (c p e : ℕ) → Good D s fs →
      (s' : Spot) (fs' : List Frame) → step D s fs k ≡ on s' fs' → check known room (length fs) k ≡ b →
      (Good D s' fs' → run D known room n s' fs' ts ≡ refused c p e → Refusal D n known room s' fs' ts c p e) →
      fine b (place_of k) (past_of k) (λ u. run D known room n s' fs' ts) ≡ refused c p e → Refusal D n known room s fs (k ∷ ts) c p e
  trace-on zero s fs k ts c p e a s' fs' g i ih r =
      let o = one_more D n s fs k (on s' fs') a g tt in
      later s fs k s' fs' ts c p e g i o (ih o.held.1 r)
  trace-on (suc b) s fs k ts c p e a s' fs' g i ih r =
      let q = refusal-parts (suc b) (place_of k) (past_of k) c p e r in
      past [] k ts s fs (on s' fs') refl (none_yet D n s fs a) tt g tt (q.0 ∙ sym i) (omega (arith, q.0)) q.1 q.2

  trace-end :
      (t : Tree) (s : Spot) (fs : List Frame) (k : Token) (ts : List Token) (c p e : ℕ) → Reached D n s fs (k ∷ []) (whole t) →
      Checks known room (open_after 0 (so_far s fs)) (k ∷ []) → only_end D t ts ≡ refused c p e →
      Refusal D n known room s fs (k ∷ ts) c p e
  trace-end t s fs k [] c p e o h r = no-refusal (sym r)
  trace-end t s fs k (l ∷ ts) c p e o h r =
      let q = refusal-parts D.wrong (place_of l) (past_of l) c p e r in
      bad (k ∷ []) l ts (whole t) refl o h (λ ys. refl) q.0 q.1 q.2

  trace-whole :
      (b : ℕ) (s : Spot) (fs : List Frame) (k : Token) (ts : List Token) (c p e : ℕ) → Good D s fs →
      (t : Tree) → step D s fs k ≡ whole t → check known room (length fs) k ≡ b →
      fine b (place_of k) (past_of k) (λ u. only_end D t ts) ≡ refused c p e → Refusal D n known room s fs (k ∷ ts) c p e
  trace-whole zero s fs k ts c p e a t g i r =
      trace-end t s fs k ts c p e (one_more D n s fs k (whole t) a g tt) (checks-one known room D s fs k (whole t) g tt i) r
  trace-whole (suc b) s fs k ts c p e a t g i r =
      let q = refusal-parts (suc b) (place_of k) (past_of k) c p e r in
      past [] k ts s fs (whole t) refl (none_yet D n s fs a) tt g tt (q.0 ∙ sym i) (omega (arith, q.0)) q.1 q.2

  trace-next :
      (x : Next) (s : Spot) (fs : List Frame) (k : Token) (ts : List Token) (c p e : ℕ) → Good D s fs → step D s fs k ≡ x →
      ((s' : Spot) (fs' : List Frame) → Good D s' fs' → run D known room n s' fs' ts ≡ refused c p e →
      Refusal D n known room s' fs' ts c p e) →
      case_next x (wrong_at D k)
      (λ s' fs'. fine (check known room (length fs) k) (place_of k) (past_of k) (λ u. run D known room n s' fs' ts))
      (λ t. fine (check known room (length fs) k) (place_of k) (past_of k) (λ u. only_end D t ts)) ≡ refused c p e →
      Refusal D n known room s fs (k ∷ ts) c p e
  trace-next off s fs k ts c p e a g ih r =
      let q = refusal-parts D.wrong (place_of k) (past_of k) c p e r in
      bad [] k ts (on s fs) refl (none_yet D n s fs a) tt (λ ys. rw g) q.0 q.1 q.2
  trace-next (on s' fs') s fs k ts c p e a g ih r =
      trace-on (check known room (length fs) k) s fs k ts c p e a s' fs' g refl (ih s' fs') r
  trace-next (whole t) s fs k ts c p e a g ih r = trace-whole (check known room (length fs) k) s fs k ts c p e a t g refl r

  -- a refused reading is refused in one of these ways
  pub trace :
      (ts : List Token) (s : Spot) (fs : List Frame) (c p e : ℕ) → Good D s fs → run D known room n s fs ts ≡ refused c p e →
      Refusal D n known room s fs ts c p e
  trace [] s fs c p e a r =
      let q = refusal-parts D.wrong n n c p e r in
      early s fs (none_yet D n s fs a) tt q.0 q.1 q.2
  trace (k ∷ ts) s fs c p e a r = trace-next (step D s fs k) s fs k ts c p e a refl (λ s' fs' a'. trace ts s' fs' c p e a') r

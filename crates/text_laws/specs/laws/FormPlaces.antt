-- Where a form's text is refused: the first byte such that no form text begins with the bytes so far, or the text's length if it ends
-- early.
use Rattle.std.specs.Prelude.{Bool, true, false, List, [], ◌∷◌, ◌++◌, ◌≡◌, refl, ℕ, zero, suc, ◌+◌, eqb, ℤ, length}
use Rattle.std.proofs.Common.{append_assoc, append-nil, sym, ap, ◌∙◌, arith}
use Rattle.std.proofs.Math.Option.{Option, none, some}
use Rattle.horner.specs.definitions.Form.{Form}
use Rattle.text.specs.definitions.Bytes.{refused_at, fine}
use Rattle.text.specs.definitions.FormMeaning.{open_after}
use Rattle.text.specs.definitions.FormReading.{Frame, Spot, before, number, head, index, behind, Next, on, off, step, case_next, whole_form}
use Rattle.text.specs.definitions.FormReading.{whole_or, check, run}
use Rattle.text_laws.specs.laws.FormOpen.{Checks, checks-before}
use Rattle.text_laws.specs.laws.FormSofar.{so_far, SpotOk, StackOk, Held, held-step}
use Rattle.text_laws.specs.laws.Bytes.{refusal-parts, no-refusal}

abbrev pub yes' : ℕ → Bool
yes' d = true

pub check-yes : (s : Spot) (d b : ℕ) → check yes' s d b ≡ 0
check-yes before d b = go (eqb b 40) refl
  where
    go : (c : Bool) → eqb b 40 ≡ c → check yes' before d b ≡ 0
    go true k = rw (k, check)
    go false k = rw (k, check)
check-yes (number w) d b = refl
check-yes (head w) d b = refl
check-yes (index k w) d b = refl
check-yes (behind f) d b = refl

-- the bytes ks lead from the state to the next one, whatever comes behind them
pub record Reached (s : Spot) (fs : List Frame) (ks : List ℕ) (s' : Spot) (fs' : List Frame) : Type 0 where
  pub spot-ok : SpotOk yes' (length fs') s'
  pub stack-ok : StackOk yes' fs'
  pub written : so_far s' fs' ≡ so_far s fs ++ ks
  pub goes : (p : ℕ) (zs : List ℕ) → run yes' p s fs (ks ++ zs) ≡ run yes' (p + length ks) s' fs' zs

none_yet : (s : Spot) (fs : List Frame) → SpotOk yes' (length fs) s → StackOk yes' fs → Reached s fs [] s fs
none_yet s fs a h =
    record {
      spot-ok = a;
      stack-ok = h;
      written = sym (append-nil (so_far s fs));
      goes = λ p zs. ap (λ (q : ℕ). run yes' q s fs zs)
          (let e : p ≡ p + 0 = omega arith in e);
    }

before-them : (s : Spot) (fs : List Frame) (b : ℕ) (s' : Spot) (fs' : List Frame) (ks : List ℕ) (s'' : Spot) (fs'' : List Frame)
    → step s fs b ≡ on s' fs' → so_far s' fs' ≡ so_far s fs ++ (b ∷ []) → Reached s' fs' ks s'' fs'' → Reached s fs (b ∷ ks) s'' fs''
before-them s fs b s' fs' ks s'' fs'' g w q =
    record {
      spot-ok = q.spot-ok;
      stack-ok = q.stack-ok;
      written = q.written ∙ ap (λ (z : List ℕ). z ++ ks) w ∙ append_assoc (so_far s fs) (b ∷ []) ks;
      goes =
          λ p zs. (let e : run yes' p s fs (b ∷ ks ++ zs) ≡ run yes' (suc p) s' fs' (ks ++ zs) = rw (g, check-yes s (length fs) b) in e)
          ∙ q.goes (suc p) zs ∙ ap (λ (r : ℕ). run yes' r s'' fs'' zs) (let e : suc p + length ks ≡ p + suc (length ks) = omega arith in e);
    }

-- how a reading that stands at the place p is refused with the number e at the place q
module _ (room : ℕ → Bool) where
  pub data Refusal (p : ℕ) (s : Spot) (fs : List Frame) (ts : List ℕ) (e q : ℕ) : Type 0 where
    early :
        (s' : Spot) (fs' : List Frame) → Reached s fs ts s' fs' → Checks room (open_after 0 (so_far s fs)) ts → whole_form s' fs' ≡ none →
        e ≡ 4 → q ≡ p + length ts → Refusal p s fs ts e q
    bad :
        (ks : List ℕ) (b : ℕ) (zs : List ℕ) (s' : Spot) (fs' : List Frame) → ts ≡ ks ++ (b ∷ zs) → Reached s fs ks s' fs' →
        Checks room (open_after 0 (so_far s fs)) ks → step s' fs' b ≡ off → e ≡ 4 → q ≡ p + length ks
        → Refusal p s fs ts e q
    past :
        (ks : List ℕ) (b : ℕ) (zs : List ℕ) (s' : Spot) (fs' : List Frame) (s'' : Spot) (fs'' : List Frame) → ts ≡ ks ++ (b ∷ zs) →
        Reached s fs ks s' fs' → Checks room (open_after 0 (so_far s fs)) ks → step s' fs' b ≡ on s'' fs''
        → e ≡ check room s' (length fs') b → (e ≡ 0 → ⊥) → q ≡ p + length ks → Refusal p s fs ts e q

  later :
      (p : ℕ) (s : Spot) (fs : List Frame) (b : ℕ) (s' : Spot) (fs' : List Frame) (ts : List ℕ) (e q : ℕ) → SpotOk yes' (length fs) s →
      step s fs b ≡ on s' fs' → check room s (length fs) b ≡ 0
      → so_far s' fs' ≡ so_far s fs ++ (b ∷ []) → Refusal (suc p) s' fs' ts e q → Refusal p s fs (b ∷ ts) e q
  later p s fs b s' fs' ts e q a g c w (early s'' fs'' r h o i j) =
      early s'' fs'' (before-them s fs b s' fs' ts s'' fs'' g w r) (checks-before room s fs b s' fs' ts a g c w h) o i (omega arith)
  later p s fs b s' fs' ts e q a g c w (bad ks x zs s'' fs'' f r h o i j) =
      bad (b ∷ ks) x zs s'' fs'' (ap (λ (z : List ℕ). b ∷ z) f) (before-them s fs b s' fs' ks s'' fs'' g w r)
      (checks-before room s fs b s' fs' ks a g c w h) o i (omega arith)
  later p s fs b s' fs' ts e q a g c w (past ks x zs s'' fs'' s''' fs''' f r h o i m j) =
      past (b ∷ ks) x zs s'' fs'' s''' fs''' (ap (λ (z : List ℕ). b ∷ z) f) (before-them s fs b s' fs' ks s'' fs'' g w r)
      (checks-before room s fs b s' fs' ks a g c w h) o i m (omega arith)

  trace-on : (c p : ℕ) (s : Spot) (fs : List Frame) (b : ℕ) (ts : List ℕ) (e q : ℕ) → SpotOk yes' (length fs) s → StackOk yes' fs
      → (s' : Spot) (fs' : List Frame) → step s fs b ≡ on s' fs' → Held yes' (on s' fs') (so_far s fs ++ (b ∷ [])) → check room s
      (length fs) b ≡ c
      → (SpotOk yes' (length fs') s' → StackOk yes' fs' → run room (suc p) s' fs' ts ≡ refused_at e q → Refusal (suc p) s' fs' ts e q)
      → fine c p (λ u. run room (suc p) s' fs' ts) ≡ refused_at e q → Refusal p s fs (b ∷ ts) e q
  trace-on zero p s fs b ts e q a h s' fs' g w i ih r = later p s fs b s' fs' ts e q a g i w.0 (ih w.1.0 w.1.1 r)
  trace-on (suc c) p s fs b ts e q a h s' fs' g w i ih r =
      let k = refusal-parts (suc c) p e q r in
      past [] b ts s fs s' fs' refl (none_yet s fs a h) tt g (k.0 ∙ sym i) (omega arith) (omega (arith, k.1))

  trace-next :
      (x : Next) (p : ℕ) (s : Spot) (fs : List Frame) (b : ℕ) (ts : List ℕ) (e q : ℕ) → SpotOk yes' (length fs) s → StackOk yes' fs →
      step s fs b ≡ x
      → Held yes' x (so_far s fs ++ (b ∷ []))
      → ((s' : Spot) (fs' : List Frame) → SpotOk yes' (length fs') s' → StackOk yes' fs' → run room (suc p) s' fs' ts ≡ refused_at e q →
      Refusal (suc p) s' fs' ts e q)
      → case_next x (refused_at 4 p) (λ s' fs'. fine (check room s (length fs) b) p (λ u. run room (suc p) s' fs' ts)) ≡ refused_at e q →
      Refusal p s fs (b ∷ ts) e q
  trace-next off p s fs b ts e q a h g w ih r =
      let k = refusal-parts 4 p e q r in
      bad [] b ts s fs refl (none_yet s fs a h) tt g k.0 (omega (arith, k.1))
  trace-next (on s' fs') p s fs b ts e q a h g w ih r =
      trace-on (check room s (length fs) b) p s fs b ts e q a h s' fs' g w refl (ih s' fs') r

  trace-end :
      (x : Option (Form ℤ)) (p : ℕ) (s : Spot) (fs : List Frame) (e q : ℕ) → SpotOk yes' (length fs) s → StackOk yes' fs →
      whole_form s fs ≡ x
      → whole_or p x ≡ refused_at e q → Refusal p s fs [] e q
  trace-end none p s fs e q a h g r =
      let k = refusal-parts 4 p e q r in
      early s fs (none_yet s fs a h) tt g k.0 (omega (arith, k.1))
  trace-end (some f) p s fs e q a h g r = no-refusal (sym r)

  pub trace :
      (ts : List ℕ) (p : ℕ) (s : Spot) (fs : List Frame) (e q : ℕ) → SpotOk yes' (length fs) s → StackOk yes' fs →
      run room p s fs ts ≡ refused_at e q → Refusal p s fs ts e q
  trace [] p s fs e q a h r = trace-end (whole_form s fs) p s fs e q a h refl r
  trace (b ∷ ts) p s fs e q a h r =
      trace-next (step s fs b) p s fs b ts e q a h refl (held-step yes' s fs b a h (check-yes s (length fs) b))
      (λ s' fs' a' h'. trace ts (suc p) s' fs' e q a' h') r

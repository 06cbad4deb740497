-- What each refusal of a form's text, before its normality is judged, says of the text.
use Rattle.std.specs.Prelude.{Bool, cond, ◌≡◌, ℕ, ◌+◌, ◌≤◌, eqb, ℤ, length}
use Rattle.std.proofs.Math.Bool.{true, false}
use mathlib.Core.List.{List, [], ◌∷◌, ◌++◌, append_assoc, append-nil}
use Rattle.std.proofs.Math.Option.{none}
use Rattle.std.proofs.Math.Path.{refl}
use Rattle.std.proofs.Common.{sym, ap, ◌∙◌, zero-add, arith, eqb-true, leb-true, leb-false, ltb-true, ltb-false}
use Rattle.std.proofs.Math.Dec.{leb, ltb}
use Rattle.horner.specs.definitions.Form.{Form}
use Rattle.text.specs.definitions.Bytes.{refused_at}
use Rattle.text.specs.definitions.FormMeaning.{Begun, FirstBad, EndsEarly, TooDeep, open_after, Clean, RefusedAs, too_long, no-form-so}
use Rattle.text.specs.definitions.FormMeaning.{ended, too-deep}
use Rattle.text.specs.definitions.FormReading.{Frame, Spot, before, number, head, index, behind, on, off, step, whole_form, whole_or, check}
use Rattle.text.specs.definitions.FormReading.{run, read_form, text}
use Rattle.text_laws.specs.laws.FormBegun.{begun-state}
use Rattle.text_laws.specs.laws.FormOpen.{open-stack, Checks}
use Rattle.text_laws.specs.laws.FormPlaces.{yes', check-yes, Reached, Refusal, early, bad, past, trace}
use Rattle.text_laws.specs.laws.FormReading.{roomy-yes}
use Rattle.text_laws.specs.laws.FormSofar.{stack_bytes, so_far, Held, held-step}
use Rattle.text_laws.specs.laws.FormThrough.{through-all}
use Rattle.text_laws.specs.laws.Bytes.{refusal-parts, no-refusal}

-- a form whose text begins with bytes that lead nowhere
no-form :
    (ks ys : List ℕ) (s : Spot) (fs : List Frame) (f : Form ℤ) (e p : ℕ) → Reached before [] ks s fs → text f ≡ ks ++ ys →
    run yes' (0 + length ks) s fs ys ≡ refused_at e p → ⊥
no-form ks ys s fs f e p r i g =
    no-refusal {a = f} (sym g ∙ sym (r.goes 0 ys) ∙ ap (run yes' 0 before []) (sym i) ∙ through-all yes' f (roomy-yes f 0))

begun-there : (ks : List ℕ) (s : Spot) (fs : List Frame) → Reached before [] ks s fs → Begun ks
begun-there ks s fs r = rw r.written at (begun-state yes' s fs r.spot-ok)

ends-early :
    (ts : List ℕ) (s : Spot) (fs : List Frame) → Reached before [] ts s fs → whole_form s fs ≡ none → Clean 256 0 ts → EndsEarly 256 ts
ends-early ts s fs r w c =
    record {
      clean = c;
      begun = begun-there ts s fs r;
      no-form = λ f i. no-form ts [] s fs f 4 (0 + length ts) r (i ∙ sym (append-nil ts))
          (ap (whole_or (0 + length ts)) w);
    }

first-bad :
    (ts ks : List ℕ) (b : ℕ) (zs : List ℕ) (s : Spot) (fs : List Frame) (p : ℕ) → ts ≡ ks ++ (b ∷ zs) → Reached before [] ks s fs →
    Clean 256 0 ks → step s fs b ≡ off → p ≡ length ks → FirstBad 256 ts p
first-bad ts ks b zs s fs p f r c g j =
    record {
      before = ks;
      byte = b;
      behind = zs;
      parts = f;
      place = j;
      clean = c;
      begun = begun-there ks s fs r;
      ends = λ h. no-form ks (b ∷ h.rest) s fs h.form 4 (0 + length ks) r (h.is ∙ append_assoc ks (b ∷ []) h.rest) (rw g);
    }

-- ---- 6
module _ (room : ℕ → Bool) where
  room-number : (d e : ℕ) (c : Bool) → room d ≡ c → (e ≡ 0 → ⊥) → e ≡ cond c 0 6 → (e ≡ 6) × (room d ≡ false)
  room-number d e true k m i = absurd (m i)
  room-number d e false k m i = (i, k)

  -- only a `(` before a form is refused so
  checked : (s : Spot) (d b e : ℕ) → (e ≡ 0 → ⊥) → e ≡ check room s d b → (s ≡ before) × ((b ≡ 40) × ((e ≡ 6) × (room d ≡ false)))
  checked before d b e m i = go (eqb b 40) refl
    where
      go : (c : Bool) → eqb b 40 ≡ c → (before ≡ before) × ((b ≡ 40) × ((e ≡ 6) × (room d ≡ false)))
      go true k = (refl, (eqb-true b 40 k, room-number d e (room d) refl m (rw (k, check) at i)))
      go false k = absurd (m (rw (k, check) at i))
  checked (number w) d b e m i = absurd (m i)
  checked (head w) d b e m i = absurd (m i)
  checked (index k w) d b e m i = absurd (m i)
  checked (behind f) d b e m i = absurd (m i)

clean : (d : ℕ) (ks : List ℕ) → Checks (λ d. ltb d 256) d ks → Clean 256 d ks
clean d [] h = tt
clean d (b ∷ ks) h = (λ e. ltb-true d 256 (h.0 e), clean (open_after d (b ∷ [])) ks h.1)

module _ (s : List ℕ) where
  deep_of :
      (p : ℕ) (ks : List ℕ) (b : ℕ) (zs : List ℕ) (s' : Spot) (fs' : List Frame) (s'' : Spot) (fs'' : List Frame) → s ≡ ks ++ (b ∷ zs) →
      Reached before [] ks s' fs' → Clean 256 0 ks → step s' fs' b ≡ on s'' fs''
      → p ≡ length ks → s' ≡ before → b ≡ 40 → ltb (length fs') 256 ≡ false → TooDeep 256 s p
  deep_of p ks b zs s' fs' s'' fs'' f q y g j e c r =
      let w : stack_bytes fs' ++ [] ≡ ks = ap (λ (x : Spot). so_far x fs') (sym e) ∙ q.written in
      let d : open_after 0 ks ≡ length fs' = ap (open_after 0) (sym w) ∙ open-stack fs' 0 [] ∙ zero-add (length fs') in
      let h : Held yes' (on s'' fs'') (so_far s' fs' ++ (b ∷ [])) = rw g at
      (held-step yes' s' fs' b q.spot-ok q.stack-ok (check-yes s' (length fs') b)) in
      let n : Begun (ks ++ (b ∷ [])) = rw (h.0 ∙ ap (λ (z : List ℕ). z ++ (b ∷ [])) q.written) at
      (begun-state yes' s'' fs'' h.1.0) in
      record {
        before = ks;
        behind = zs;
        parts = f ∙ ap (λ (z : ℕ). ks ++ (z ∷ zs)) c;
        place = j;
        clean = y;
        open-before = omega (arith, ltb-false (length fs') 256 r);
        begun = rw c at n;
      }

  why-of : (e p : ℕ) → length s ≤ 65535 → Refusal (λ d. ltb d 256) 0 before [] s e p → RefusedAs s e p
  why-of e p h (early s' fs' q c w i j) = ended i h (ends-early s s' fs' q w (clean 0 s c)) (j ∙ zero-add (length s))
  why-of e p h (bad ks b zs s' fs' f q c g i j) =
      no-form-so i h (first-bad s ks b zs s' fs' p f q (clean 0 ks c) g (j ∙ zero-add (length ks)))
  why-of e p h (past ks b zs s' fs' s'' fs'' f q c g i m j) =
      let o = checked (λ d. ltb d 256) s' (length fs') b e m i in
      too-deep o.1.1.0 h
      (deep_of p ks b zs s' fs' s'' fs'' f q (clean 0 ks c) g (j ∙ zero-add (length ks)) o.0 o.1.0 o.1.1.1)

  -- each refusal is one that document 01 describes
  pub why : (e p : ℕ) → read_form s ≡ refused_at e p → RefusedAs s e p
  unfolding read_form
  why e p r = go (leb (length s) 65535) refl
    where
      go : (b : Bool) → leb (length s) 65535 ≡ b → RefusedAs s e p
      go true k = why-of e p (leb-true (length s) 65535 k) (trace (λ d. ltb d 256) s 0 before [] e p tt tt (rw (k, read_form) at r))
      go false k = let q = refusal-parts 3 0 e p (rw (k, read_form) at r) in too_long q.0 q.1 (leb-false (length s) 65535 k)

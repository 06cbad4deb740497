-- A state of the reading of a form stands for the bytes read so far.
use Rattle.std.specs.Prelude.{Bool, true, false, ◌&&◌, cond, List, [], ◌∷◌, ◌++◌, ◌≡◌, refl, ℕ, zero, suc, eqb, ℤ, length}
use Rattle.std.proofs.Common.{append_assoc, append-nil, sym, ap, ◌∙◌, arith, eqb-true}
use Rattle.std.proofs.Math.Option.{Option, none, some}
use Rattle.horner.specs.definitions.Form.{Form, int, pop, pow}
use Rattle.text.specs.definitions.Bytes.{Reading, read, refused_at, fine, bytes, same, canonical, read_nat, read_int}
use Rattle.text.specs.definitions.FormReading.{Frame, in_pop, in_pow, in_rest, Kind, pop_kind, pow_kind, Spot, before, number, head, index}
use Rattle.text.specs.definitions.FormReading.{behind, Next, on, off, int_begun, head_begun, head_word, follow, follow_int, indexed, step}
use Rattle.text.specs.definitions.FormReading.{case_next, int_form, whole_form, whole_or, check, run, text, pop_head, pow_head}
use Rattle.text_laws.specs.laws.Bytes.{and_i, same-eq, no-refusal}
use Rattle.text_laws.specs.laws.Numerals.{no_none, int-read, decimal-read}

-- ---- the bytes that a state stands for
abbrev pub frame_bytes : Frame → List ℕ
frame_bytes (in_pop i) = pop_head i
frame_bytes (in_pow i) = pow_head i
frame_bytes (in_rest i p) = pow_head i ++ (text p ++ (32 ∷ []))

abbrev pub stack_bytes : List Frame → List ℕ
stack_bytes [] = []
stack_bytes (f ∷ fs) = stack_bytes fs ++ frame_bytes f

abbrev pub kind_bytes : Kind → List ℕ
kind_bytes pop_kind = bytes "(POP "
kind_bytes pow_kind = bytes "(POW "

abbrev pub spot_bytes : Spot → List ℕ
spot_bytes before = []
spot_bytes (number w) = w
spot_bytes (head w) = 40 ∷ w
spot_bytes (index k w) = kind_bytes k ++ w
spot_bytes (behind f) = text f

abbrev pub so_far : Spot → List Frame → List ℕ
so_far s fs = stack_bytes fs ++ spot_bytes s

-- ---- what the test lets through
module _ (room : ℕ → Bool) where
  -- a form whose first parenthesis is opened at depth d
  abbrev pub roomy : ℕ → Form ℤ → Bool
  roomy d (int z) = true
  roomy d (pop i p) = room d && roomy (suc d) p
  roomy d (pow i p q) = room d && (roomy (suc d) p && roomy (suc d) q)

  abbrev pub FrameOk : ℕ → Frame → Type 0
  FrameOk d (in_pop i) = room d ≡ true
  FrameOk d (in_pow i) = room d ≡ true
  FrameOk d (in_rest i p) = (room d ≡ true) × (roomy (suc d) p ≡ true)

  abbrev pub StackOk : List Frame → Type 0
  StackOk [] = Unit {0}
  StackOk (f ∷ fs) = FrameOk (length fs) f × StackOk fs

  -- w is empty or passes the test
  abbrev pub Front : (List ℕ → Bool) → List ℕ → Type 0
  Front t [] = Unit {0}
  Front t (x ∷ w) = t (x ∷ w) ≡ true

  abbrev pub SpotOk : ℕ → Spot → Type 0
  SpotOk d before = Unit {0}
  SpotOk d (number w) = int_begun w ≡ true
  SpotOk d (head w) = (room d ≡ true) × Front head_begun w
  SpotOk d (index k w) = (room d ≡ true) × Front canonical w
  SpotOk d (behind f) = roomy d f ≡ true

  abbrev pub Held : Next → List ℕ → Type 0
  Held off bs = Unit {0}
  Held (on s fs) bs = (so_far s fs ≡ bs) × (SpotOk (length fs) s × StackOk fs)

  held-cond : (b : Bool) (m n : Next) (bs : List ℕ) → (b ≡ true → Held m bs) → (b ≡ false → Held n bs) → Held (cond b m n) bs
  held-cond true m n bs f g = f refl
  held-cond false m n bs f g = g refl

  front-full : (t : List ℕ → Bool) (w : List ℕ) → t w ≡ true → Front t w
  front-full t [] e = tt
  front-full t (x ∷ w) e = e

  -- a byte behind a whole form
  held-follow :
      (f : Form ℤ) (fs : List Frame) (b : ℕ) → roomy (length fs) f ≡ true → StackOk fs →
      Held (follow f fs b) ((stack_bytes fs ++ text f) ++ (b ∷ []))
  held-follow f [] b a h = tt
  held-follow f (in_pop i ∷ fs) b a h =
      held-cond (eqb b 41) _ _ _
      (λ e. (rw (eqb-true b 41 e) (simp append_assoc), (and_i h.0 a, h.1)))
      λ e. tt
  held-follow f (in_pow i ∷ fs) b a h =
      held-cond (eqb b 32) _ _ _
      (λ e. (rw (eqb-true b 32 e) (simp (append_assoc, append-nil)), (tt, ((h.0, a), h.1))))
      λ e. tt
  held-follow f (in_rest i p ∷ fs) b a h =
      held-cond (eqb b 41) _ _ _
      (λ e. (rw (eqb-true b 41 e) (simp append_assoc), (and_i h.0.0 (and_i h.0.1 a), h.1)))
      λ e. tt

  held-int :
      (w : List ℕ) (fs : List Frame) (b : ℕ) (r : Option ℤ) → read_int w ≡ r → StackOk fs →
      Held (follow_int r fs b) ((stack_bytes fs ++ w) ++ (b ∷ []))
  held-int w fs b none e h = tt
  held-int w fs b (some z) e h = rw (int-read w z e) at (held-follow (int z) fs b refl h)

  held-head :
      (w : List ℕ) (fs : List Frame) (bs : List ℕ) → room (length fs) ≡ true → StackOk fs → stack_bytes fs ++ (40 ∷ w) ≡ bs →
      Held (head_word w fs) bs
  held-head w fs bs r h e =
      held-cond (same w (bytes "POP ")) _ _ bs (λ i. (rw (same-eq w (bytes "POP ") i) at e, ((r, tt), h))) λ n₁.
      held-cond (same w (bytes "POW ")) _ _ bs (λ i. (rw (same-eq w (bytes "POW ") i) at e, ((r, tt), h))) λ n₂.
      held-cond (head_begun w) _ _ bs (λ i. (e, ((r, front-full head_begun w i), h))) λ n₃. tt

  held-indexed : (k : Kind) (w : List ℕ) (fs : List Frame) (m : Option ℕ) → read_nat w ≡ m → room (length fs) ≡ true → StackOk fs
      → Held (indexed k m fs) ((stack_bytes fs ++ (kind_bytes k ++ w)) ++ (32 ∷ []))
  held-indexed k w fs none e r h = tt
  held-indexed pop_kind w fs (some i) e r h = (rw (← decimal-read w i e) (simp (append_assoc, append-nil)), (tt, (r, h)))
  held-indexed pow_kind w fs (some i) e r h = (rw (← decimal-read w i e) (simp (append_assoc, append-nil)), (tt, (r, h)))

  pub room-check : (d : ℕ) → ◌≡◌ {A = ℕ} (cond (room d) 0 6) 0 → room d ≡ true
  room-check d e = go (room d) refl
    where
      go : (b : Bool) → room d ≡ b → room d ≡ true
      go true k = k
      go false k = let h : ◌≡◌ {A = ℕ} 6 0 = rw k at e in absurd (omega arith)

  held-before :
      (fs : List Frame) (b : ℕ) → StackOk fs → check room before (length fs) b ≡ 0 →
      Held (step before fs b) ((stack_bytes fs ++ []) ++ (b ∷ []))
  held-before fs b h c = go (eqb b 40) refl
    where
      go : (e : Bool) → eqb b 40 ≡ e → Held (step before fs b) ((stack_bytes fs ++ []) ++ (b ∷ []))
      go true k =
          rw (k, step) (rw (eqb-true b 40 k) (simp append-nil), ((room-check (length fs) (rw (k, check) at c), tt), h))
      go false k =
          rw (k, step) (held-cond (int_begun (b ∷ [])) _ _ _ (λ i. (simp append-nil, (i, h))) λ i. tt)

  held-index :
      (k : Kind) (w : List ℕ) (fs : List Frame) (b : ℕ) → room (length fs) ≡ true → StackOk fs →
      Held (step (index k w) fs b) ((stack_bytes fs ++ (kind_bytes k ++ w)) ++ (b ∷ []))
  held-index k w fs b r h = go (eqb b 32) refl
    where
      go : (e : Bool) → eqb b 32 ≡ e → Held (step (index k w) fs b) ((stack_bytes fs ++ (kind_bytes k ++ w)) ++ (b ∷ []))
      go true e = rw (e, step) (rw (eqb-true b 32 e) (held-indexed k w fs (read_nat w) refl r h))
      go false e =
          rw (e, step)
          (held-cond (canonical (w ++ (b ∷ []))) _ _ _ (λ i. (simp append_assoc, ((r, front-full canonical (w ++ (b ∷ [])) i), h))) λ i.
          tt)

  pub held-step :
      (s : Spot) (fs : List Frame) (b : ℕ) → SpotOk (length fs) s → StackOk fs → check room s (length fs) b ≡ 0 →
      Held (step s fs b) (so_far s fs ++ (b ∷ []))
  held-step before fs b a h c = held-before fs b h c
  held-step (number w) fs b a h c =
      held-cond (int_begun (w ++ (b ∷ []))) _ _ _ (λ i. (sym (append_assoc (stack_bytes fs) w (b ∷ [])), (i, h))) λ i. held-int w fs b
      (read_int w) refl h
  held-step (head w) fs b a h c = held-head (w ++ (b ∷ [])) fs _ a.0 h (sym (append_assoc (stack_bytes fs) (40 ∷ w) (b ∷ [])))
  held-step (index k w) fs b a h c = held-index k w fs b a.0 h
  held-step (behind f) fs b a h c = held-follow f fs b a h

  -- ---- a whole reading
  int-whole : (w : List ℕ) (r : Option ℤ) (f : Form ℤ) → read_int w ≡ r → int_form r ≡ some f → (text f ≡ w) × (roomy 0 f ≡ true)
  int-whole w none f e h = no_none h
  int-whole w (some z) f e h = let i : int z ≡ f = cc in (ap text (sym i) ∙ int-read w z e, ap (roomy 0) (sym i))

  whole-sound :
      (s : Spot) (fs : List Frame) (f : Form ℤ) → SpotOk (length fs) s → whole_form s fs ≡ some f →
      (text f ≡ so_far s fs) × (roomy 0 f ≡ true)
  whole-sound before fs f a e = no_none e
  whole-sound (number w) [] f a e = int-whole w (read_int w) f refl e
  whole-sound (number w) (g ∷ fs) f a e = no_none e
  whole-sound (head w) fs f a e = no_none e
  whole-sound (index k w) fs f a e = no_none e
  whole-sound (behind g) [] f a e = let i : g ≡ f = cc in (ap text (sym i), ap (roomy 0) (sym i) ∙ a)
  whole-sound (behind g) (k ∷ fs) f a e = no_none e

  whole-or : (p : ℕ) (r : Option (Form ℤ)) (f : Form ℤ) → whole_or p r ≡ read f → r ≡ some f
  whole-or p none f e = no-refusal e
  whole-or p (some g) f e = let i : some g ≡ some f = cc in i

  fine-zero : (c p : ℕ) (r : Unit {0} → Reading (Form ℤ)) (f : Form ℤ) → fine c p r ≡ read f → (c ≡ 0) × (r tt ≡ read f)
  fine-zero zero p r f e = (refl, e)
  fine-zero (suc c) p r f e = no-refusal e

  sound-next : (p b : ℕ) (bs cs : List ℕ) (f : Form ℤ) (c : ℕ) (x : Next) → (c ≡ 0 → Held x (cs ++ (b ∷ [])))
      → ((s : Spot) (fs : List Frame) → SpotOk (length fs) s → StackOk fs → run room (suc p) s fs bs ≡ read f →
      (text f ≡ so_far s fs ++ bs) × (roomy 0 f ≡ true))
      → case_next x (refused_at 4 p) (λ s' fs'. fine c p (λ u. run room (suc p) s' fs' bs)) ≡ read f → (text f ≡ cs ++ (b ∷ bs))
      × (roomy 0 f ≡ true)
  sound-next p b bs cs f c off h ih e = no-refusal e
  sound-next p b bs cs f c (on s fs) h ih e =
      let k = fine-zero c p (λ u. run room (suc p) s fs bs) f e in
      let g = h k.0 in
      let r = ih s fs g.1.0 g.1.1 k.1 in
      (r.0 ∙ ap (λ (z : List ℕ). z ++ bs) g.0 ∙ append_assoc cs (b ∷ []) bs, r.1)

  -- what is read as a form is the form's text, and within the test
  pub run_sound :
      (bs : List ℕ) (f : Form ℤ) (p : ℕ) (s : Spot) (fs : List Frame) → SpotOk (length fs) s → StackOk fs → run room p s fs bs ≡ read f
      → (text f ≡ so_far s fs ++ bs) × (roomy 0 f ≡ true)
  run_sound [] f p s fs a h e =
      let w = whole-sound s fs f a (whole-or p (whole_form s fs) f e) in
      (w.0 ∙ sym (append-nil (so_far s fs)), w.1)
  run_sound (b ∷ bs) f p s fs a h e =
      sound-next p b bs (so_far s fs) f (check room s (length fs) b) (step s fs b) (held-step s fs b a h)
      (λ s' fs'. run_sound bs f (suc p) s' fs') e

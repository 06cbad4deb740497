-- How many parentheses a form's text and a stack leave open.
use Rattle.std.specs.Prelude.{Bool, true, false, ◌||◌, List, [], ◌∷◌, ◌++◌, ◌≡◌, refl, ℕ, suc, pred, ◌+◌, eqb, ℤ, pos, negsuc, length}
use Rattle.std.proofs.Common.{true≢false, append_assoc, sym, ap, ap₂, ◌∙◌, add-zero, zero-add, arith, ne_eqb}
use Rattle.std.proofs.Math.Option.{Option, none, some}
use Rattle.horner.specs.definitions.Form.{Form, int, pop, pow}
use Rattle.text.specs.definitions.Bytes.{bytes, same, digit, all, canonical, read_int, decimal, write_int}
use Rattle.text.specs.definitions.FormMeaning.{open_after}
use Rattle.text.specs.definitions.FormReading.{Frame, in_pop, in_pow, in_rest, Kind, Spot, before, number, head, index, behind, on, off}
use Rattle.text.specs.definitions.FormReading.{int_begun, head_begun, follow, follow_int, step, check, text, pop_head, pow_head}
use Rattle.text_laws.specs.laws.Bytes.{and_l, and_r, either, same-eq, digit-range}
use Rattle.text_laws.specs.laws.FormSofar.{frame_bytes, stack_bytes, so_far, SpotOk, room-check}
use Rattle.text_laws.specs.laws.Numerals.{canonical-decimal}
use Rattle.text_laws.specs.laws.Prefixes.{canonical-digits, begun-stop, all_back}

no-on : {s : Spot} {fs : List Frame} {P : Type 0} → off ≡ on s fs → P
no-on e = let z : ◌≡◌ {A = ℕ} 0 1 = cc in absurd (omega arith)

open-digits : (w : List ℕ) (d : ℕ) (bs : List ℕ) → all digit w ≡ true → open_after d (w ++ bs) ≡ open_after d bs
open-digits [] d bs a = refl
open-digits (x ∷ w) d bs a =
    let r = digit-range x (and_l (digit x) (all digit w) a) in
    rw (ne_eqb x 40 (omega arith), open_after)
    (rw (ne_eqb x 41 (omega arith), open_after) (open-digits w d bs (and_r (digit x) (all digit w) a)))

open-decimal : (n d : ℕ) (bs : List ℕ) → open_after d (decimal n ++ bs) ≡ open_after d bs
open-decimal n d bs = open-digits (decimal n) d bs (canonical-digits (decimal n) (canonical-decimal n))

open-int : (z : ℤ) (d : ℕ) (bs : List ℕ) → open_after d (write_int z ++ bs) ≡ open_after d bs
open-int (pos n) d bs = open-decimal n d bs
open-int (negsuc n) d bs = open-decimal (suc n) d bs

open-pop : (i d : ℕ) (bs : List ℕ) → open_after d (pop_head i ++ bs) ≡ open_after (suc d) bs
open-pop i d bs = ap (open_after (suc d)) (append_assoc (decimal i) (32 ∷ []) bs) ∙ open-decimal i (suc d) (32 ∷ bs)

open-pow : (i d : ℕ) (bs : List ℕ) → open_after d (pow_head i ++ bs) ≡ open_after (suc d) bs
open-pow i d bs = ap (open_after (suc d)) (append_assoc (decimal i) (32 ∷ []) bs) ∙ open-decimal i (suc d) (32 ∷ bs)

-- a form leaves none
open-text : (f : Form ℤ) (d : ℕ) (bs : List ℕ) → open_after d (text f ++ bs) ≡ open_after d bs
open-text (int z) d bs = open-int z d bs
open-text (pop i x) d bs =
    ap (open_after d)
    (append_assoc (pop_head i) (text x ++ (41 ∷ [])) bs ∙ ap (λ (z : List ℕ). pop_head i ++ z) (append_assoc (text x) (41 ∷ []) bs))
    ∙ open-pop i d (text x ++ (41 ∷ bs))
    ∙ open-text x (suc d) (41 ∷ bs)
open-text (pow i x y) d bs =
    ap (open_after d) (append_assoc (pow_head i) (text x ++ (32 ∷ text y ++ (41 ∷ []))) bs
    ∙ ap (λ (z : List ℕ). pow_head i ++ z)
    (append_assoc (text x) (32 ∷ text y ++ (41 ∷ [])) bs
    ∙ ap (λ (z : List ℕ). text x ++ (32 ∷ z)) (append_assoc (text y) (41 ∷ []) bs)))
    ∙ open-pow i d (text x ++ (32 ∷ text y ++ (41 ∷ bs)))
    ∙ open-text x (suc d) (32 ∷ text y ++ (41 ∷ bs))
    ∙ open-text y (suc d) (41 ∷ bs)

open-frame : (f : Frame) (d : ℕ) (bs : List ℕ) → open_after d (frame_bytes f ++ bs) ≡ open_after (suc d) bs
open-frame (in_pop i) d bs = open-pop i d bs
open-frame (in_pow i) d bs = open-pow i d bs
open-frame (in_rest i p) d bs =
    ap (open_after d)
    (append_assoc (pow_head i) (text p ++ (32 ∷ [])) bs ∙ ap (λ (z : List ℕ). pow_head i ++ z) (append_assoc (text p) (32 ∷ []) bs))
    ∙ open-pow i d (text p ++ (32 ∷ bs))
    ∙ open-text p (suc d) (32 ∷ bs)

-- a stack leaves as many as it is long
pub open-stack : (fs : List Frame) (d : ℕ) (bs : List ℕ) → open_after d (stack_bytes fs ++ bs) ≡ open_after (d + length fs) bs
open-stack [] d bs = ap (λ (n : ℕ). open_after n bs) (sym (add-zero d))
open-stack (f ∷ fs) d bs =
    ap (open_after d) (append_assoc (stack_bytes fs) (frame_bytes f) bs)
    ∙ open-stack fs d (frame_bytes f ++ bs)
    ∙ open-frame f (d + length fs) bs
    ∙ ap (λ (n : ℕ). open_after n bs) (let e : suc (d + length fs) ≡ d + suc (length fs) = omega arith in e)

pub open-append : (ks ls : List ℕ) (d : ℕ) → open_after d (ks ++ ls) ≡ open_after (open_after d ks) ls
open-append [] ls d = refl
open-append (b ∷ ks) ls d = go (eqb b 40) (eqb b 41) refl refl (open-append ks ls)
  where
    go :
        (x y : Bool) → eqb b 40 ≡ x → eqb b 41 ≡ y → ((c : ℕ) → open_after c (ks ++ ls) ≡ open_after (open_after c ks) ls) →
        open_after d (b ∷ ks ++ ls) ≡ open_after (open_after d (b ∷ ks)) ls
    go true y e f ih = rw (e, open_after) (ih (suc d))
    go false true e f ih = rw (e, open_after) (rw (f, open_after) (ih (pred d)))
    go false false e f ih = rw (e, open_after) (rw (f, open_after) (ih d))

-- ---- a parenthesis may be opened only before a form
follow-open : (f : Form ℤ) (fs : List Frame) → follow f fs 40 ≡ off
follow-open f [] = refl
follow-open f (in_pop i ∷ fs) = refl
follow-open f (in_pow i ∷ fs) = refl
follow-open f (in_rest i p ∷ fs) = refl

int-open : (r : Option ℤ) (fs : List Frame) → follow_int r fs 40 ≡ off
int-open none fs = refl
int-open (some z) fs = follow-open (int z) fs

number-open : (w : List ℕ) (fs : List Frame) → int_begun w ≡ true → step (number w) fs 40 ≡ off
unfolding read_int
number-open [] fs h = absurd (true≢false (sym h))
number-open (x ∷ v) fs h = rw (begun-stop x v 40 refl) (int-open (read_int (x ∷ v)) fs)

head-open : (w : List ℕ) (fs : List Frame) → head_begun w ≡ true → step (head w) fs 40 ≡ off
head-open w fs h =
    either (same w (bytes "P") || same w (bytes "PO") || same w (bytes "POP")) (same w (bytes "POW")) (step (head w) fs 40 ≡ off) h
    (λ g. either (same w (bytes "P") || same w (bytes "PO")) (same w (bytes "POP")) (step (head w) fs 40 ≡ off) g
    (λ k. either (same w (bytes "P")) (same w (bytes "PO")) (step (head w) fs 40 ≡ off) k
    (λ i. ap (λ (z : List ℕ). step (head z) fs 40) (same-eq w (bytes "P") i))
    λ i. ap (λ (z : List ℕ). step (head z) fs 40) (same-eq w (bytes "PO") i))
    λ i. ap (λ (z : List ℕ). step (head z) fs 40) (same-eq w (bytes "POP") i))
    λ i. ap (λ (z : List ℕ). step (head z) fs 40) (same-eq w (bytes "POW") i)

index-open : (k : Kind) (w : List ℕ) (fs : List Frame) → step (index k w) fs 40 ≡ off
index-open k w fs = go (canonical (w ++ (40 ∷ []))) refl
  where
    go : (b : Bool) → canonical (w ++ (40 ∷ [])) ≡ b → step (index k w) fs 40 ≡ off
    go true e = absurd (true≢false (sym (all_back digit w (40 ∷ []) (canonical-digits (w ++ (40 ∷ [])) e))))
    go false e = rw e

module _ (room : ℕ → Bool) where
  pub open-depth :
      (s : Spot) (fs : List Frame) (s' : Spot) (fs' : List Frame) → SpotOk room (length fs) s → step s fs 40 ≡ on s' fs' →
      (s ≡ before) × (open_after 0 (so_far s fs) ≡ length fs)
  open-depth before fs s' fs' a g = (refl, open-stack fs 0 [] ∙ zero-add (length fs))
  open-depth (number w) fs s' fs' a g = no-on (sym (number-open w fs a) ∙ g)
  open-depth (head []) fs s' fs' a g = no-on g
  open-depth (head (x ∷ w)) fs s' fs' a g = no-on (sym (head-open (x ∷ w) fs a.1) ∙ g)
  open-depth (index k w) fs s' fs' a g = no-on (sym (index-open k w fs) ∙ g)
  open-depth (behind f) fs s' fs' a g = no-on (sym (follow-open f fs) ∙ g)

-- the parentheses among the bytes have room
module _ (room : ℕ → Bool) where
  abbrev pub Checks : ℕ → List ℕ → Type 0
  Checks d [] = Unit {0}
  Checks d (b ∷ bs) = (b ≡ 40 → room d ≡ true) × Checks (open_after d (b ∷ [])) bs

  pub checks-before :
      (s : Spot) (fs : List Frame) (b : ℕ) (s' : Spot) (fs' : List Frame) (bs : List ℕ) → SpotOk (λ d. true) (length fs) s →
      step s fs b ≡ on s' fs' → check room s (length fs) b ≡ 0
      → so_far s' fs' ≡ so_far s fs ++ (b ∷ []) → Checks (open_after 0 (so_far s' fs')) bs → Checks (open_after 0 (so_far s fs)) (b ∷ bs)
  checks-before s fs b s' fs' bs a g c w h = (λ e. roomed e, rw (ap (open_after 0) w ∙ open-append (so_far s fs) (b ∷ []) 0) at h)
    where
      roomed : b ≡ 40 → room (open_after 0 (so_far s fs)) ≡ true
      roomed e =
          let o = open-depth (λ d. true) s fs s' fs' a (ap (step s fs) (sym e) ∙ g) in
          let k : check room before (length fs) 40 ≡ 0 = sym (ap₂ (λ (t : Spot) (x : ℕ). check room t (length fs) x) o.0 e) ∙ c in
          rw o.1 (room-check room (length fs) k)

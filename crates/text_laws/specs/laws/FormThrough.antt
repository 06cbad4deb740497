-- The reading goes through the text of every form.
use Rattle.std.specs.Prelude.{Bool, ◌&&◌, ◌≡◌, ℤ}
use Rattle.std.proofs.Math.Bool.{true, false}
use Rattle.std.proofs.Common.{true≢false, sym, ap, ◌∙◌, arith, eqb-true, ne_eqb, length-append}
use mathlib.Core.List.{List, [], ◌∷◌, ◌++◌, append_assoc, append-nil}
use Rattle.std.proofs.Math.Option.{some}
use Rattle.std.proofs.Math.Path.{refl}
use Prim.Native.Nat.{ℕ, suc, ◌+◌}
use Rattle.std.proofs.Math.Dec.{eqb}
use Rattle.std.proofs.Math.ListN.{length}
use Rattle.horner.specs.definitions.Form.{Form, int, pop, pow}
use Rattle.text.specs.definitions.Bytes.{read, digit, canonical, read_nat, read_int, decimal, write_int}
use Rattle.text.specs.definitions.FormReading.{Frame, in_pop, in_pow, in_rest, Kind, pop_kind, pow_kind, Spot, before, number, index, behind}
use Rattle.text.specs.definitions.FormReading.{int_begun, step, check, run, text, pop_head, pow_head}
use Rattle.text_laws.specs.laws.Bytes.{and_l, and_r, digit-range}
use Rattle.text_laws.specs.laws.FormSofar.{roomy}
use Rattle.text_laws.specs.laws.Numerals.{no_none, read-int, read-decimal}
use Rattle.text_laws.specs.laws.Prefixes.{Grows, grows-int, grows-nat, begun-stop, canonical-digits, all_back}

-- no digit comes next
abbrev pub Ends : List ℕ → Type 0
Ends [] = Unit {0}
Ends (b ∷ bs) = digit b ≡ false

module _ (room : ℕ → Bool) where
  at : (p q : ℕ) (s : Spot) (fs : List Frame) (ks : List ℕ) → p ≡ q → run room p s fs ks ≡ run room q s fs ks
  at p q s fs ks e = rw e

  -- ---- integers
  grow-number :
      (v w : List ℕ) (fs : List Frame) (ks : List ℕ) (p : ℕ) → Grows int_begun w v →
      run room p (number w) fs (v ++ ks) ≡ run room (p + length v) (number (w ++ v)) fs ks
  grow-number [] w fs ks p g =
      at p (p + 0) (number w) fs ks (omega arith) ∙ ap (λ (u : List ℕ). run room (p + 0) (number u) fs ks) (sym (append-nil w))
  grow-number (b ∷ v) w fs ks p g =
      (let e : run room p (number w) fs (b ∷ v ++ ks) ≡ run room (suc p) (number (w ++ (b ∷ []))) fs (v ++ ks) = rw g.0 in e)
      ∙ grow-number v (w ++ (b ∷ [])) fs ks (suc p) g.1
      ∙ ap (λ (u : List ℕ). run room (suc p + length v) (number u) fs ks) (append_assoc w (b ∷ []) v)
      ∙ at (suc p + length v) (p + suc (length v)) (number (w ++ (b ∷ v))) fs ks (omega arith)

  not-open : (b : ℕ) → int_begun (b ∷ []) ≡ true → eqb b 40 ≡ false
  unfolding read_int read_nat
  not-open b e = go (eqb b 40) refl
    where
      go : (c : Bool) → eqb b 40 ≡ c → eqb b 40 ≡ false
      go true k = absurd (true≢false (sym (let h : int_begun (40 ∷ []) ≡ true = rw (eqb-true b 40 k) at e in h)))
      go false k = k

  -- behind its last digit an integer is a whole form
  settle : (x : ℕ) (v : List ℕ) (z : ℤ) (fs : List Frame) (ks : List ℕ) (p : ℕ) → read_int (x ∷ v) ≡ some z → Ends ks
      → run room p (number (x ∷ v)) fs ks ≡ run room p (behind (int z)) fs ks
  settle x v z [] [] p e h = rw e
  settle x v z (f ∷ fs) [] p e h = refl
  settle x v z fs (b ∷ ks) p e h = rw (begun-stop x v b h, e)

  through-int : (u : List ℕ) (z : ℤ) (fs : List Frame) (ks : List ℕ) (p : ℕ) → Grows int_begun [] u → read_int u ≡ some z → Ends ks
      → run room p before fs (u ++ ks) ≡ run room (p + length u) (behind (int z)) fs ks
  unfolding read_int
  through-int [] z fs ks p g e h = no_none e
  through-int (x ∷ v) z fs ks p g e h =
      (let i : run room p before fs (x ∷ v ++ ks) ≡ run room (suc p) (number (x ∷ [])) fs (v ++ ks) = rw (not-open x g.0, step)
      (rw (not-open x g.0, check) (rw g.0)) in
      i)
      ∙ grow-number v (x ∷ []) fs ks (suc p) g.1
      ∙ at (suc p + length v) (p + suc (length v)) (number (x ∷ v)) fs ks (omega arith)
      ∙ settle x v z fs ks (p + suc (length v)) e h

  -- ---- what stands before the parts of a form
  grow-index :
      (k : Kind) (v w : List ℕ) (fs : List Frame) (ks : List ℕ) (p : ℕ) → Grows canonical w v →
      run room p (index k w) fs (v ++ ks) ≡ run room (p + length v) (index k (w ++ v)) fs ks
  grow-index k [] w fs ks p g =
      at p (p + 0) (index k w) fs ks (omega arith) ∙ ap (λ (u : List ℕ). run room (p + 0) (index k u) fs ks) (sym (append-nil w))
  grow-index k (b ∷ v) w fs ks p g =
      let d = digit-range b (and_l (digit b) true (all_back digit w (b ∷ []) (canonical-digits (w ++ (b ∷ [])) g.0))) in
      (let e : run room p (index k w) fs (b ∷ v ++ ks) ≡ run room (suc p) (index k (w ++ (b ∷ []))) fs (v ++ ks) = rw (
        ne_eqb b 32 (omega arith),
        step,
      ) (rw g.0) in
      e)
      ∙ grow-index k v (w ++ (b ∷ [])) fs ks (suc p) g.1
      ∙ ap (λ (u : List ℕ). run room (suc p + length v) (index k u) fs ks) (append_assoc w (b ∷ []) v)
      ∙ at (suc p + length v) (p + suc (length v)) (index k (w ++ (b ∷ v))) fs ks (omega arith)

  through-pop :
      (i : ℕ) (fs : List Frame) (ks : List ℕ) (p : ℕ) → room (length fs) ≡ true →
      run room p before fs (pop_head i ++ ks) ≡ run room (p + length (pop_head i)) before (in_pop i ∷ fs) ks
  through-pop i fs ks p r =
      (let e : run room p before fs (pop_head i ++ ks) ≡ run room (suc (suc (suc (suc (suc p))))) (index pop_kind []) fs
      ((decimal i ++ (32 ∷ [])) ++ ks) = rw r in
      e)
      ∙ ap (run room (suc (suc (suc (suc (suc p))))) (index pop_kind []) fs) (append_assoc (decimal i) (32 ∷ []) ks)
      ∙ grow-index pop_kind (decimal i) [] fs (32 ∷ ks) (suc (suc (suc (suc (suc p))))) (grows-nat i)
      ∙ (let e : run room (suc (suc (suc (suc (suc p)))) + length (decimal i)) (index pop_kind (decimal i)) fs (32 ∷ ks) ≡ run room
      (suc (suc (suc (suc (suc (suc p)))) + length (decimal i))) before (in_pop i ∷ fs) ks = rw (read-decimal i) in
      e)
      ∙ at (suc (suc (suc (suc (suc (suc p)))) + length (decimal i))) (p + length (pop_head i)) before (in_pop i ∷ fs) ks
      (simp length-append (omega arith))

  through-pow :
      (i : ℕ) (fs : List Frame) (ks : List ℕ) (p : ℕ) → room (length fs) ≡ true →
      run room p before fs (pow_head i ++ ks) ≡ run room (p + length (pow_head i)) before (in_pow i ∷ fs) ks
  through-pow i fs ks p r =
      (let e : run room p before fs (pow_head i ++ ks) ≡ run room (suc (suc (suc (suc (suc p))))) (index pow_kind []) fs
      ((decimal i ++ (32 ∷ [])) ++ ks) = rw r in
      e)
      ∙ ap (run room (suc (suc (suc (suc (suc p))))) (index pow_kind []) fs) (append_assoc (decimal i) (32 ∷ []) ks)
      ∙ grow-index pow_kind (decimal i) [] fs (32 ∷ ks) (suc (suc (suc (suc (suc p))))) (grows-nat i)
      ∙ (let e : run room (suc (suc (suc (suc (suc p)))) + length (decimal i)) (index pow_kind (decimal i)) fs (32 ∷ ks) ≡ run room
      (suc (suc (suc (suc (suc (suc p)))) + length (decimal i))) before (in_pow i ∷ fs) ks = rw (read-decimal i) in
      e)
      ∙ at (suc (suc (suc (suc (suc (suc p)))) + length (decimal i))) (p + length (pow_head i)) before (in_pow i ∷ fs) ks
      (simp length-append (omega arith))

  pub through : (f : Form ℤ) (fs : List Frame) (ks : List ℕ) (p : ℕ) → roomy room (length fs) f ≡ true → Ends ks
      → run room p before fs (text f ++ ks) ≡ run room (p + length (text f)) (behind f) fs ks
  through (int z) fs ks p a h = through-int (write_int z) z fs ks p (grows-int z) (read-int z) h
  through (pop i x) fs ks p a h =
      let r = and_l (room (length fs)) (roomy room (suc (length fs)) x) a in
      let a' = and_r (room (length fs)) (roomy room (suc (length fs)) x) a in
      ap (run room p before fs)
      (append_assoc (pop_head i) (text x ++ (41 ∷ [])) ks ∙ ap (λ (z : List ℕ). pop_head i ++ z) (append_assoc (text x) (41 ∷ []) ks))
      ∙ through-pop i fs (text x ++ (41 ∷ ks)) p r
      ∙ through x (in_pop i ∷ fs) (41 ∷ ks) (p + length (pop_head i)) a' refl
      ∙ at (suc (p + length (pop_head i) + length (text x))) (p + length (text (pop i x))) (behind (pop i x)) fs ks
      (simp length-append (omega arith))
  through (pow i x y) fs ks p a h =
      let r = and_l (room (length fs)) (roomy room (suc (length fs)) x && roomy room (suc (length fs)) y) a in
      let a' = and_r (room (length fs)) (roomy room (suc (length fs)) x && roomy room (suc (length fs)) y) a in
      ap (run room p before fs) (append_assoc (pow_head i) (text x ++ (32 ∷ text y ++ (41 ∷ []))) ks
      ∙ ap (λ (z : List ℕ). pow_head i ++ z) (append_assoc (text x) (32 ∷ text y ++ (41 ∷ [])) ks
      ∙ ap (λ (z : List ℕ). text x ++ (32 ∷ z)) (append_assoc (text y) (41 ∷ []) ks)))
      ∙ through-pow i fs (text x ++ (32 ∷ text y ++ (41 ∷ ks))) p r
      ∙ through x (in_pow i ∷ fs) (32 ∷ text y ++ (41 ∷ ks)) (p + length (pow_head i))
      (and_l (roomy room (suc (length fs)) x) (roomy room (suc (length fs)) y) a') refl
      ∙ through y (in_rest i x ∷ fs) (41 ∷ ks) (suc (p + length (pow_head i) + length (text x)))
      (and_r (roomy room (suc (length fs)) x) (roomy room (suc (length fs)) y) a') refl
      ∙ at (suc (suc (p + length (pow_head i) + length (text x)) + length (text y))) (p + length (text (pow i x y))) (behind (pow i x y))
      fs ks (simp length-append (omega arith))

  -- the whole text
  pub through-all : (f : Form ℤ) → roomy room 0 f ≡ true → run room 0 before [] (text f) ≡ read f
  through-all f a = ap (run room 0 before []) (sym (append-nil (text f))) ∙ through f [] [] 0 a tt

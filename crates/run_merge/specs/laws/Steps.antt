-- One step of a merging of words.
use Rattle.std.specs.Prelude.{Bool, true, false, cond, List, [], ◌∷◌, ◌++◌, ◌≡◌, refl, ℕ, zero, suc, ◌+◌, ◌%◌, ◌≤◌, ◌<◌, length, take, drop, get_or, set}
use Rattle.std.proofs.Common.{append_assoc, append-nil, sym, ◌∙◌, ap₂, subst, add-one, arith, length-append, length-take, length-drop, length-set, drop-cons, take-suc-set}
use Rattle.std.proofs.Math.Path.{ap}
use Rattle.std.proofs.Math.Nat as NatL
use Rattle.std.proofs.Math.Dec.{eqb-suc-zero}
use Rattle.code.specs.Coding.{Begins}
use Rattle.horner.specs.definitions.Rings.{prime}
use Rattle.code.specs.Widths.{add_by, mul_by}
use Rattle.run.specs.Merging.{push, purge}
use Rattle.run.proofs.laws.Orders.{lt-over, lt-under, eq-level}
use Rattle.run_merge.specs.Words.{pairs, flat, is_no, times_w, merge_w, summed, scaled, pushed, Fits, Wrote}

-- ---- two words at a time
pub pairs-drop : (l : List ℕ) (i : ℕ) → i + 1 < length l → pairs (drop i l) ≡ ((get_or l i 0, get_or l (i + 1) 0) ∷ pairs (drop (i + 2) l))
pairs-drop l i h =
    let one : suc i ≡ i + 1 = omega arith in
    let two : suc (suc i) ≡ i + 2 = omega arith in
    ap pairs (drop-cons l i 0 (omega arith) ∙ ap (λ z. get_or l i 0 ∷ z) (drop-cons l (suc i) 0 (omega arith)))
    ∙ ap₂ (λ u v. (get_or l i 0, get_or l u 0) ∷ pairs (drop v l)) one two

none_left : (l : List ℕ) → length l ≤ 1 → pairs l ≡ []
none_left [] h = refl
none_left (k ∷ []) h = refl
none_left (k ∷ c ∷ l) h = absurd (omega arith)

-- behind the last pair there is none
pub pairs_end : (l : List ℕ) (i : ℕ) → length l ≤ i + 1 → pairs (drop i l) ≡ []
pairs_end l i h = none_left (drop i l) (omega (arith, length-drop i l))

flat-push : (k c : ℕ) (r : List (ℕ × ℕ)) → flat (push is_no k c r) ≡ flat (push is_no k c []) ++ flat r
flat-push k c r = go (is_no c)
  where
    go : (b : Bool) → flat (cond b r ((k, c) ∷ r)) ≡ flat (cond b [] ((k, c) ∷ [])) ++ flat r
    go true = refl
    go false = refl

-- ---- three steps of a merging
module _ (m : ℕ × ℕ) (r : List (ℕ × ℕ)) (u : ℕ × ℕ) (s : List (ℕ × ℕ)) where
  merge-over : u.0 < m.0 → merge_w (m ∷ r) (u ∷ s) ≡ push is_no m.0 m.1 (merge_w r (u ∷ s))
  merge-over h = rw (lt-over m.0 u.0 h)

  merge-level : m.0 ≡ u.0 → merge_w (m ∷ r) (u ∷ s) ≡ push is_no m.0 (add_by prime m.1 u.1) (merge_w r s)
  merge-level h = rw (eq-level m.0 u.0 h)

  merge-under : m.0 < u.0 → merge_w (m ∷ r) (u ∷ s) ≡ push is_no u.0 u.1 (merge_w (m ∷ r) s)
  merge-under h = rw (lt-under m.0 u.0 h)

module _ (k c : ℕ) (x y : List ℕ) (i j : ℕ) (hi : i + 1 < length x) (hj : j + 1 < length y) where
  abbrev left : ℕ × ℕ
  left = (get_or x i 0, get_or x (i + 1) 0)

  abbrev right : ℕ × ℕ
  right = (k + get_or y j 0, mul_by prime c (get_or y (j + 1) 0))

  abbrev lefts : List (ℕ × ℕ)
  lefts = pairs (drop (i + 2) x)

  abbrev rights : List (ℕ × ℕ)
  rights = times_w k c (pairs (drop (j + 2) y))

  both : merge_w (pairs (drop i x)) (times_w k c (pairs (drop j y))) ≡ merge_w (left ∷ lefts) (right ∷ rights)
  both = ap₂ (λ r s. merge_w r (times_w k c s)) (pairs-drop x i hi) (pairs-drop y j hj)

  -- the monomial of x is over that of y: it is written
  pub step-over : k + get_or y j 0 < get_or x i 0
      → summed k c (drop i x) (drop j y) ≡ pushed (get_or x i 0) (get_or x (i + 1) 0) ++ summed k c (drop (i + 2) x) (drop j y)
  unfolding summed pushed
  step-over h =
      ap flat (both ∙ merge-over left lefts right rights h
      ∙ ap (λ s. push is_no left.0 left.1 (merge_w lefts (times_w k c s))) (sym (pairs-drop y j hj)))
      ∙ flat-push left.0 left.1 (merge_w lefts (times_w k c (pairs (drop j y))))

  -- they have the same key: their sum is
  pub step-level : get_or x i 0 ≡ k + get_or y j 0 → summed k c (drop i x) (drop j y)
      ≡ pushed (get_or x i 0) (add_by prime (get_or x (i + 1) 0) (mul_by prime c (get_or y (j + 1) 0))) ++ summed k c (drop (i + 2) x)
      (drop (j + 2) y)
  unfolding summed pushed
  step-level h =
      ap flat (both ∙ merge-level left lefts right rights h) ∙ flat-push left.0 (add_by prime left.1 right.1) (merge_w lefts rights)

  -- that of y is over that of x: it is
  pub step-under : get_or x i 0 < k + get_or y j 0 → summed k c (drop i x) (drop j y)
      ≡ pushed (k + get_or y j 0) (mul_by prime c (get_or y (j + 1) 0)) ++ summed k c (drop i x) (drop (j + 2) y)
  unfolding summed pushed
  step-under h =
      ap flat (both ∙ merge-under left lefts right rights h
      ∙ ap (λ r. push is_no right.0 right.1 (merge_w r rights)) (sym (pairs-drop x i hi)))
      ∙ flat-push right.0 right.1 (merge_w (pairs (drop i x)) rights)

-- ---- where one of the two is at its end
merge-nil : (r : List (ℕ × ℕ)) → merge_w r [] ≡ purge is_no r
merge-nil [] = refl
merge-nil (m ∷ r) = ap (push is_no m.0 m.1) (merge-nil r)

times-one : (r : List (ℕ × ℕ)) → Fits 0 r → times_w 0 1 r ≡ r
times-one [] h = refl
times-one (m ∷ r) h = λ t. (NatL.zero-add m.0 t, coef t) ∷ times-one r h.2 t
  where
    coef : mul_by prime 1 m.1 ≡ m.1
    coef = ap (λ z. z % prime) (NatL.one-mul m.1) ∙ NatL.mod-eq_of_lt h.1

-- x is at its end
pub left_end : (k c : ℕ) (x y : List ℕ) (i j : ℕ) → length x ≤ i + 1 → summed k c (drop i x) (drop j y) ≡ scaled k c (drop j y)
unfolding summed scaled
left_end k c x y i j h = ap (λ r. flat (merge_w r (times_w k c (pairs (drop j y))))) (pairs_end x i h)

-- y is
pub right_end : (k c : ℕ) (x y : List ℕ) (i j : ℕ) → length y ≤ j + 1 → Fits 0 (pairs (drop i x))
    → summed k c (drop i x) (drop j y) ≡ scaled 0 1 (drop i x)
unfolding summed scaled
right_end k c x y i j h f =
    ap (λ s. flat (merge_w (pairs (drop i x)) (times_w k c s))) (pairs_end y j h)
    ∙ ap flat (merge-nil (pairs (drop i x)) ∙ ap (purge is_no) (sym (times-one (pairs (drop i x)) f)))

-- ---- the product with a monomial alone
pub scaled-step : (k c : ℕ) (y : List ℕ) (j : ℕ) → j + 1 < length y
    → scaled k c (drop j y) ≡ pushed (k + get_or y j 0) (mul_by prime c (get_or y (j + 1) 0)) ++ scaled k c (drop (j + 2) y)
unfolding scaled pushed
scaled-step k c y j h =
    ap (λ s. flat (purge is_no (times_w k c s))) (pairs-drop y j h)
    ∙ flat-push (k + get_or y j 0) (mul_by prime c (get_or y (j + 1) 0)) (purge is_no (times_w k c (pairs (drop (j + 2) y))))

pub scaled-end : (k c : ℕ) (y : List ℕ) (j : ℕ) → length y ≤ j + 1 → scaled k c (drop j y) ≡ []
unfolding scaled
scaled-end k c y j h = ap (λ s. flat (purge is_no (times_w k c s))) (pairs_end y j h)

-- ---- room
pub pushed-size : (k c : ℕ) → length (pushed k c) ≤ 2
unfolding pushed
pushed-size k c = go (is_no c)
  where
    go : (b : Bool) → length (flat (cond b [] ((k, c) ∷ []))) ≤ 2
    go true = omega arith
    go false = omega arith

-- the monomial at i fits, and so do those behind it
pub record Head (k : ℕ) (l : List ℕ) (i : ℕ) : Type 0 where
  pub key : k + get_or l i 0 < 4294967296
  pub coefficient : get_or l (i + 1) 0 < prime
  pub others : Fits k (pairs (drop (i + 2) l))

-- the first of words that fit, and the others
pub fits_head : (k : ℕ) (l : List ℕ) (i : ℕ) → i + 1 < length l → Fits k (pairs (drop i l)) → Head k l i
fits_head k l i h f =
    let g = subst (Fits k) (pairs-drop l i h) f in
    record { key = g.0; coefficient = g.1; others = g.2 }

-- ---- the words so far and the words to come
pub record Going (t : List ℕ) (n : ℕ) (d rest : List ℕ) : Type 0 where
  pub inside : n ≤ length d
  pub is : take n d ++ rest ≡ t

-- l is written, and the rest is to come
pub going_on : {t : List ℕ} {n : ℕ} {d rest : List ℕ} (l rest' : List ℕ) (r : ℕ) (e : List ℕ)
    → Going t n d rest → rest ≡ l ++ rest' → Wrote l d n r e → Going t r e rest'
going_on {t} {n} {d} {rest} l rest' r e g q w = record {
  inside = omega (arith, length-take r e, length-take n d, length-append (take n d) l, ap length w.is, w.size, g.inside);
  is = ap (λ z. z ++ rest') w.is ∙ append_assoc (take n d) l rest' ∙ ap (λ z. take n d ++ z) (sym q) ∙ g.is;
}

pub going_end : {t : List ℕ} {n : ℕ} {d rest : List ℕ} (l : List ℕ) (r : ℕ) (e : List ℕ)
    → Going t n d rest → rest ≡ l → Wrote l d n r e → Begins r t e
going_end {t} {n} {d} {rest} l r e g q w = record {
  size = w.size ∙ omega (arith, length-take n d, length-append (take n d) l, g.inside) ∙ ap length whole;
  is = w.is ∙ whole;
}
  where
    whole : take n d ++ l ≡ t
    whole = ap (λ z. take n d ++ z) (sym q) ∙ g.is

-- ---- a monomial written
pub wrote_none : (k c n : ℕ) (d : List ℕ) → c ≡ 0 → Wrote (pushed k c) d n n d
unfolding pushed
wrote_none k c n d h =
    subst (λ z. Wrote z d n n d) (sym (ap (λ b. flat (cond b [] ((k, c) ∷ []))) (ap is_no h)))
    (record { size = omega arith; is = sym (append-nil (take n d)) })

some_is : (c : ℕ) → (c ≡ 0 → ⊥) → is_no c ≡ false
some_is zero h = absurd (h refl)
some_is (suc c) h = eqb-suc-zero c

-- a monomial that is written
pub wrote-some : (k c n : ℕ) (d : List ℕ) → (c ≡ 0 → ⊥) → n + 2 ≤ length d → Wrote (pushed k c) d n (n + 2) (set (set d n k) (n + 1) c)
unfolding pushed
wrote-some k c n d h l =
    subst (λ z. Wrote z d n (n + 2) (set (set d n k) (n + 1) c)) (sym (ap (λ b. flat (cond b [] ((k, c) ∷ []))) (some_is c h)))
    (record {
      size = omega arith;
      is = ap (λ z. take z (set (set d n k) (n + 1) c)) two ∙ take-suc-set (set d n k) (n + 1) c (omega (arith, length-set d n k))
          ∙ ap (λ z. z ++ (c ∷ [])) (ap (λ z. take z (set d n k)) (add-one n) ∙ take-suc-set d n k (omega arith))
          ∙ append_assoc (take n d) (k ∷ []) (c ∷ []);
    })
  where
    two : n + 2 ≡ suc (n + 1)
    two = omega arith

pub rest-start : (l d : List ℕ) (n : ℕ) → n ≤ length d → Going (take n d ++ l) n d l
rest-start l d n h = record { inside = h; is = refl }

pub rest-done : {l d : List ℕ} {m n : ℕ} {e rest : List ℕ} → m ≤ length d → Going (take m d ++ l) n e rest → rest ≡ [] → Wrote l d m n e
rest-done {l} {d} {m} {n} {e} {rest} h g q = record {
  size = omega (arith, length-take n e, length-take m d, length-append (take m d) l, ap length whole, g.inside);
  is = whole;
}
  where
    whole : take n e ≡ take m d ++ l
    whole = sym (append-nil (take n e)) ∙ ap (λ z. take n e ++ z) (sym q) ∙ g.is

-- ---- the product with a monomial, half way: what t lacks yet is the product with the words of y from j on
pub record Resting (t : List ℕ) (k c : ℕ) (y : List ℕ) (j n : ℕ) (d : List ℕ) : Type 0 where
  pub within : j ≤ length y
  pub room : n + length y ≤ j + length d
  pub fits : Fits k (pairs (drop j y))
  pub going : Going t n d (scaled k c (drop j y))

pub resting-on : {t : List ℕ} {k c : ℕ} {y : List ℕ} {j n : ℕ} {d : List ℕ} {v r : ℕ} {e : List ℕ}
    → Resting t k c y j n d → j + 1 < length y → v ≡ mul_by prime c (get_or y (j + 1) 0) → Wrote (pushed (k + get_or y j 0) v) d n r e
    → length e ≡ length d
    → Resting t k c y (j + 2) r e
resting-on {t} {k} {c} {y} {j} {n} {d} {v} {r} {e} s h q w l = record {
  within = omega arith;
  room = omega (arith, s.room, w.size, pushed-size (k + get_or y j 0) v);
  fits = (fits_head k y j h s.fits).others;
  going = going_on (pushed (k + get_or y j 0) v) (scaled k c (drop (j + 2) y)) r e s.going
      (scaled-step k c y j h ∙ ap (λ z. pushed (k + get_or y j 0) z ++ scaled k c (drop (j + 2) y)) (sym q)) w;
}

-- ---- a merging half way: what t lacks yet is what the words of x from i on and those of y from j on make
pub record Adding (t : List ℕ) (k c : ℕ) (x y : List ℕ) (i j n : ℕ) (d : List ℕ) : Type 0 where
  pub left : i ≤ length x
  pub right : j ≤ length y
  pub room : n + length x + length y ≤ i + j + length d
  pub fits-x : Fits 0 (pairs (drop i x))
  pub fits-y : Fits k (pairs (drop j y))
  pub going : Going t n d (summed k c (drop i x) (drop j y))

module _ {t : List ℕ} {k c : ℕ} {x y : List ℕ} {i j n : ℕ} {d : List ℕ} where
  -- one turn of the loop, in each of the three cases
  pub adding-over : {r : ℕ} {e : List ℕ} → Adding t k c x y i j n d → i + 1 < length x → j + 1 < length y → k + get_or y j 0 < get_or x i 0
      → Wrote (pushed (get_or x i 0) (get_or x (i + 1) 0)) d n r e → length e ≡ length d → Adding t k c x y (i + 2) j r e
  adding-over {r} {e} s hi hj o w l = record {
    left = omega arith;
    right = s.right;
    room = omega (arith, s.room, w.size, pushed-size (get_or x i 0) (get_or x (i + 1) 0));
    fits-x = (fits_head 0 x i hi s.fits-x).others;
    fits-y = s.fits-y;
    going =
        going_on (pushed (get_or x i 0) (get_or x (i + 1) 0)) (summed k c (drop (i + 2) x) (drop j y)) r e s.going
        (step-over k c x y i j hi hj o) w;
  }

  pub adding-level : {u v r : ℕ} {e : List ℕ} → Adding t k c x y i j n d → i + 1 < length x → j + 1 < length y
      → get_or x i 0 ≡ k + get_or y j 0
      → u ≡ mul_by prime c (get_or y (j + 1) 0) → v ≡ add_by prime (get_or x (i + 1) 0) u
      → Wrote (pushed (get_or x i 0) v) d n r e → length e ≡ length d → Adding t k c x y (i + 2) (j + 2) r e
  adding-level {u} {v} {r} {e} s hi hj o p q w l = record {
    left = omega arith;
    right = omega arith;
    room = omega (arith, s.room, w.size, pushed-size (get_or x i 0) v);
    fits-x = (fits_head 0 x i hi s.fits-x).others;
    fits-y = (fits_head k y j hj s.fits-y).others;
    going = going_on (pushed (get_or x i 0) v) (summed k c (drop (i + 2) x) (drop (j + 2) y)) r e s.going
        (step-level k c x y i j hi hj o
        ∙ ap (λ z. pushed (get_or x i 0) z ++ summed k c (drop (i + 2) x) (drop (j + 2) y))
        (sym (q ∙ ap (add_by prime (get_or x (i + 1) 0)) p))) w;
  }

  pub adding-under : {u r : ℕ} {e : List ℕ} → Adding t k c x y i j n d → i + 1 < length x → j + 1 < length y → get_or x i 0 < k + get_or y j 0
      → u ≡ mul_by prime c (get_or y (j + 1) 0)
      → Wrote (pushed (k + get_or y j 0) u) d n r e → length e ≡ length d → Adding t k c x y i (j + 2) r e
  adding-under {u} {r} {e} s hi hj o p w l = record {
    left = s.left;
    right = omega arith;
    room = omega (arith, s.room, w.size, pushed-size (k + get_or y j 0) u);
    fits-x = s.fits-x;
    fits-y = (fits_head k y j hj s.fits-y).others;
    going = going_on (pushed (k + get_or y j 0) u) (summed k c (drop i x) (drop (j + 2) y)) r e s.going
        (step-under k c x y i j hi hj o ∙ ap (λ z. pushed (k + get_or y j 0) z ++ summed k c (drop i x) (drop (j + 2) y)) (sym p)) w;
  }

  -- what is left is written where one of the two is at its end
  pub adding-left-end : {r : ℕ} {e : List ℕ} → Adding t k c x y i j n d → length x ≤ i + 1 → Wrote (scaled k c (drop j y)) d n r e
      → Begins r t e
  adding-left-end {r} {e} s h w = going_end (scaled k c (drop j y)) r e s.going (left_end k c x y i j h) w

  pub adding-right-end : {r : ℕ} {e : List ℕ} → Adding t k c x y i j n d → length y ≤ j + 1 → Wrote (scaled 0 1 (drop i x)) d n r e
      → Begins r t e
  adding-right-end {r} {e} s h w = going_end (scaled 0 1 (drop i x)) r e s.going (right_end k c x y i j h s.fits-x) w

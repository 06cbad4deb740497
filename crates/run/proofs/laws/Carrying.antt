-- A merging carried to other keys and coefficients, by maps that keep the order, the sum and the test for 0.
use Rattle.std.specs.Prelude.{Bool, cond, List, [], ◌∷◌, map, ◌≡◌, refl}
use Rattle.std.proofs.Common.{sym, ◌∙◌, ap, ap₂}
use Rattle.run.specs.Merging.{Order, case_order, Each, push, purge, merge}
use Rattle.run.proofs.laws.Merging.{merge-by}

module _ {K A L B : Type 0} (is_nil : A → Bool) (cmp : K → K → Order) (add : A → A → A) (isNil' : B → Bool) (cmp' : L → L → Order)
    (add' : B → B → B) (f : K → L) (g : A → B) where
  -- the same list with other keys and coefficients
  abbrev pub carried : List (K × A) → List (L × B)
  carried r = map (λ m. (f m.0, g m.1)) r

  module _ (P : K → Type 0) (keeps-nil : (a : A) → isNil' (g a) ≡ is_nil a) (keeps-add : (a b : A) → g (add a b) ≡ add' (g a) (g b))
      (keeps-order : (k l : K) → P k → P l → cmp' (f k) (f l) ≡ cmp k l) where
    carried-push : (k : K) (c : A) (r : List (K × A)) → push isNil' (f k) (g c) (carried r) ≡ carried (push is_nil k c r)
    carried-push k c r = ap (λ b. cond b (carried r) ((f k, g c) ∷ carried r)) (keeps-nil c) ∙ go (is_nil c)
      where
        go : (b : Bool) → cond b (carried r) ((f k, g c) ∷ carried r) ≡ carried (cond b r ((k, c) ∷ r))
        go Bool.true = refl
        go Bool.false = refl

    carried-purge : (r : List (K × A)) → purge isNil' (carried r) ≡ carried (purge is_nil r)
    carried-purge [] = refl
    carried-purge (m ∷ r) = ap (push isNil' (f m.0) (g m.1)) (carried-purge r) ∙ carried-push m.0 m.1 (purge is_nil r)

    -- merging first and carrying then is carrying first and merging then
    pub carried-merge : (r s : List (K × A)) → Each P r → Each P s
        → merge isNil' cmp' add' (carried r) (carried s) ≡ carried (merge is_nil cmp add r s)
    carried-merge r s =
        merge-by is_nil cmp add (λ r s. Each P r → Each P s
        → merge isNil' cmp' add' (carried r) (carried s) ≡ carried (merge is_nil cmp add r s))
        (λ s p q. carried-purge s)
        (λ m r h p q. ap (push isNil' (f m.0) (g m.1)) (h p.1 q) ∙ carried-push m.0 m.1 (merge is_nil cmp add r []))
        (λ m r u s h h₂ h₃ p q. ap (λ o. case_order o
        (λ t. push isNil' (f m.0) (g m.1) (merge isNil' cmp' add' (carried r) (carried (u ∷ s))))
        (λ t. push isNil' (f m.0) (add' (g m.1) (g u.1)) (merge isNil' cmp' add' (carried r) (carried s)))
        (λ t. push isNil' (f u.0) (g u.1) (merge isNil' cmp' add' (carried (m ∷ r)) (carried s))))
        (keeps-order m.0 u.0 p.0 q.0)
        ∙ by_order (cmp m.0 u.0) (push is_nil m.0 m.1 (merge is_nil cmp add r (u ∷ s)))
        (push is_nil m.0 (add m.1 u.1) (merge is_nil cmp add r s))
        (push is_nil u.0 u.1 (merge is_nil cmp add (m ∷ r) s))
        (ap (push isNil' (f m.0) (g m.1)) (h p.1 q) ∙ carried-push m.0 m.1 (merge is_nil cmp add r (u ∷ s)))
        (ap₂ (push isNil' (f m.0)) (sym (keeps-add m.1 u.1)) (h₂ p.1 q.1)
        ∙ carried-push m.0 (add m.1 u.1) (merge is_nil cmp add r s))
        (ap (push isNil' (f u.0) (g u.1)) (h₃ p q.1) ∙ carried-push u.0 u.1 (merge is_nil cmp add (m ∷ r) s)))
        r s
      where
        by_order : (o : Order) {a b c : List (L × B)} (a' b' c' : List (K × A)) → a ≡ carried a' → b ≡ carried b' → c ≡ carried c'
            → case_order o (λ t. a) (λ t. b) (λ t. c) ≡ carried (case_order o (λ t. a') (λ t. b') (λ t. c'))
        by_order Order.over a' b' c' x y z = x
        by_order Order.level a' b' c' x y z = y
        by_order Order.under a' b' c' x y z = z

-- Merging: it keeps keys within what holds of both, falling, with no coefficient 0; and what adds up over the one list and the other adds
-- up over both.
use Rattle.std.specs.Prelude.{Bool, false, cond, List, [], ◌∷◌, ◌++◌, ◌≡◌, refl}
use Rattle.std.proofs.Common.{true≢false, sym, ◌∙◌, ap, ap₂, subst}
use Rattle.horner.specs.definitions.Rings.{Ring}
use Rattle.horner.proofs.laws.Ring.{nil-add, add_left_comm, add-cancel}
use Rattle.horner.proofs.laws.Tests.{cond_cases}
use Rattle.run.specs.Merging.{Order, over, level, under, is_level, rekey, Each, Falls, Solid, push, purge, merge}
use Rattle.run.specs.Runs.{total}
use Rattle.run.proofs.laws.Orders.{order-cases, level-over}
use Rattle.run.specs.laws.Orders.{Ordered}

module _ {K A : Type 0} where
  -- what holds of each key, and what follows from it
  pub each_map : (P Q : K → Type 0) → ((k : K) → P k → Q k) → (r : List (K × A)) → Each P r → Each Q r
  each_map P Q f [] h = tt
  each_map P Q f (m ∷ r) h = (f m.0 h.0, each_map P Q f r h.1)

  module _ (is_nil : A → Bool) where
    -- what holds of all keys holds after a push
    pub each-push : (P : K → Type 0) (k : K) (c : A) (r : List (K × A)) → P k → Each P r → Each P (push is_nil k c r)
    each-push P k c r p h = cond_cases (is_nil c) (Each P) _ _ (λ e. h) (λ e. (p, h))

    pub each-purge : (P : K → Type 0) (r : List (K × A)) → Each P r → Each P (purge is_nil r)
    each-purge P [] h = tt
    each-purge P (m ∷ r) h = each-push P m.0 m.1 (purge is_nil r) h.0 (each-purge P r h.1)

    -- no coefficient is 0 after a push, nor after a purge
    pub solid-push : (k : K) (c : A) (r : List (K × A)) → Solid is_nil r → Solid is_nil (push is_nil k c r)
    solid-push k c r h = cond_cases (is_nil c) (Solid is_nil) _ _ (λ e. h) (λ e. (e, h))

    pub solid-purge : (r : List (K × A)) → Solid is_nil (purge is_nil r)
    solid-purge [] = tt
    solid-purge (m ∷ r) = solid-push m.0 m.1 (purge is_nil r) (solid-purge r)

    module _ (cmp : K → K → Order) (add : A → A → A) where
      -- ---- going through a merging: by r, and then by s
      pub merge-by : (Q : List (K × A) → List (K × A) → Type 0)
          → ((s : List (K × A)) → Q [] s)
          → ((m : K × A) (r : List (K × A)) → Q r [] → Q (m ∷ r) [])
          → ((m : K × A) (r : List (K × A)) (u : K × A) (s : List (K × A)) → Q r (u ∷ s) → Q r s → Q (m ∷ r) s → Q (m ∷ r) (u ∷ s))
          → (r s : List (K × A)) → Q r s
      merge-by Q a b c [] s = a s
      merge-by Q a b c (m ∷ r) s = go (merge-by Q a b c r) s
        where
          go : ((s : List (K × A)) → Q r s) → (s : List (K × A)) → Q (m ∷ r) s
          go f [] = b m r (f [])
          go f (u ∷ s) = c m r u s (f (u ∷ s)) (f s) (go f s)

      abbrev cup : List (K × A) → List (K × A) → List (K × A)
      cup r s = merge is_nil cmp add r s

      pub each-merge : (P : K → Type 0) (r s : List (K × A)) → Each P r → Each P s → Each P (cup r s)
      each-merge P r s =
          merge-by (λ r s. Each P r → Each P s → Each P (cup r s))
          (λ s h g. each-purge P s g)
          (λ m r f h g. each-push P m.0 m.1 (cup r []) h.0 (f h.1 g))
          (λ m r u s f f₂ f₃ h g. order-cases (cmp m.0 u.0) (Each P) _ _ _
          (λ e. each-push P m.0 m.1 (cup r (u ∷ s)) h.0 (f h.1 g))
          (λ e. each-push P m.0 (add m.1 u.1) (cup r s) h.0 (f₂ h.1 g.1))
          (λ e. each-push P u.0 u.1 (cup (m ∷ r) s) g.0 (f₃ h g.1)))
          r s

      pub solid-merge : (r s : List (K × A)) → Solid is_nil (cup r s)
      solid-merge r s =
          merge-by (λ r s. Solid is_nil (cup r s))
          solid-purge
          (λ m r f. solid-push m.0 m.1 (cup r []) f)
          (λ m r u s f f₂ f₃. order-cases (cmp m.0 u.0) (Solid is_nil) _ _ _
          (λ e. solid-push m.0 m.1 (cup r (u ∷ s)) f)
          (λ e. solid-push m.0 (add m.1 u.1) (cup r s) f₂)
          (λ e. solid-push u.0 u.1 (cup (m ∷ r) s) f₃))
          r s

      module _ (ord : Ordered cmp) where
        open ord use {self, same, flip, trans}

        abbrev Above : K → List (K × A) → Type 0
        Above k r = Each (λ l. cmp k l ≡ over) r

        falls-push : (k : K) (c : A) (r : List (K × A)) → Above k r → Falls cmp r → Falls cmp (push is_nil k c r)
        falls-push k c r a h = cond_cases (is_nil c) (Falls cmp) _ _ (λ e. h) (λ e. (a, h))

        falls-purge : (r : List (K × A)) → Falls cmp r → Falls cmp (purge is_nil r)
        falls-purge [] h = tt
        falls-purge (m ∷ r) h =
            falls-push m.0 m.1 (purge is_nil r) (each-purge (λ l. cmp m.0 l ≡ over) r h.0) (falls-purge r h.1)

        above-trans : (k l : K) (r : List (K × A)) → cmp k l ≡ over → Above l r → Above k r
        above-trans k l r e h = each_map (λ z. cmp l z ≡ over) (λ z. cmp k z ≡ over) (λ z g. trans k l z e g) r h

        pub falls-merge : (r s : List (K × A)) → Falls cmp r → Falls cmp s → Falls cmp (cup r s)
        falls-merge r s =
            merge-by (λ r s. Falls cmp r → Falls cmp s → Falls cmp (cup r s))
            (λ s h g. falls-purge s g)
            (λ m r f h g. falls-push m.0 m.1 (cup r []) (each-merge (λ l. cmp m.0 l ≡ over) r [] h.0 tt) (f h.1 g))
            (λ m r u s f f₂ f₃ h g. order-cases (cmp m.0 u.0) (Falls cmp) _ _ _
            (λ e. falls-push m.0 m.1 (cup r (u ∷ s))
            (each-merge (λ l. cmp m.0 l ≡ over) r (u ∷ s) h.0 (e, above-trans m.0 u.0 s e g.0)) (f h.1 g))
            (λ e. falls-push m.0 (add m.1 u.1) (cup r s)
            (each-merge (λ l. cmp m.0 l ≡ over) r s h.0 (subst (λ k. Above k s) (sym (same m.0 u.0 e)) g.0))
            (f₂ h.1 g.1))
            (λ e. falls-push u.0 u.1 (cup (m ∷ r) s)
            (each-merge (λ l. cmp u.0 l ≡ over) (m ∷ r) s
            (flip m.0 u.0 e, above-trans u.0 m.0 r (flip m.0 u.0 e) h.0) g.0) (f₃ h g.1)))
            r s

-- ---- one list after another, and other keys
module _ {K A : Type 0} where
  -- one list after another keeps what both have
  pub each_append : (P : K → Type 0) (r s : List (K × A)) → Each P r → Each P s → Each P (r ++ s)
  each_append P [] s h g = g
  each_append P (m ∷ r) s h g = (h.0, each_append P r s h.1 g)

  pub solid-append : (is_nil : A → Bool) (r s : List (K × A)) → Solid is_nil r → Solid is_nil s → Solid is_nil (r ++ s)
  solid-append is_nil [] s h g = g
  solid-append is_nil (m ∷ r) s h g = (h.0, solid-append is_nil r s h.1 g)

  pub falls-append : (cmp : K → K → Order) (r s : List (K × A)) → Falls cmp r → Falls cmp s → Each (λ k. Each (λ l. cmp k l ≡ over) s) r
      → Falls cmp (r ++ s)
  falls-append cmp [] s h g a = g
  falls-append cmp (m ∷ r) s h g a = (each_append (λ l. cmp m.0 l ≡ over) r s h.0 a.0, falls-append cmp r s h.1 g a.1)

module _ {K L A : Type 0} (g : K → L) where
  -- other keys keep the coefficients
  pub each-rekey : (Q : L → Type 0) (r : List (K × A)) → Each (λ k. Q (g k)) r → Each Q (rekey g r)
  each-rekey Q [] h = tt
  each-rekey Q (m ∷ r) h = (h.0, each-rekey Q r h.1)

  pub solid-rekey : (is_nil : A → Bool) (r : List (K × A)) → Solid is_nil r → Solid is_nil (rekey g r)
  solid-rekey is_nil [] h = tt
  solid-rekey is_nil (m ∷ r) h = (h.0, solid-rekey is_nil r h.1)

  -- where the order stays
  module _ (cmp : K → K → Order) (cmp' : L → L → Order) (P : K → Type 0) (keeps : (k l : K) → P k → P l → cmp' (g k) (g l) ≡ cmp k l) where
    above-rekey : (k : K) (r : List (K × A)) → P k → Each P r → Each (λ l. cmp k l ≡ over) r → Each (λ l. cmp' (g k) l ≡ over) (rekey g r)
    above-rekey k [] p ps h = tt
    above-rekey k (m ∷ r) p ps h = (keeps k m.0 p ps.0 ∙ h.0, above-rekey k r p ps.1 h.1)

    -- and the order
    pub falls-rekey : (r : List (K × A)) → Each P r → Falls cmp r → Falls cmp' (rekey g r)
    falls-rekey [] ps h = tt
    falls-rekey (m ∷ r) ps h = (above-rekey m.0 r ps.0 ps.1 h.0, falls-rekey r ps.1 h.1)

-- ---- sums over a list
module _ {K A : Type 0} (R : Ring A) where
  open R use {◌⊞◌, neg, ◌·◌, nil, is_nil, add_assoc, add_comm, add-nil, is_nil-true}

  -- a function of monomials that keeps sums of coefficients
  pub record Linear (f : K → A → A) : Type 0 where
    pub of_nil : (k : K) → f k nil ≡ nil
    pub of-add : (k : K) (a b : A) → f k (a ⊞ b) ≡ f k a ⊞ f k b

  -- sums over one list after another
  pub total-append : (f : K → A → A) (r s : List (K × A)) → total R f (r ++ s) ≡ total R f r ⊞ total R f s
  total-append f [] s = sym (nil-add R (total R f s))
  total-append f (m ∷ r) s =
      ap (◌⊞◌ (f m.0 m.1)) (total-append f r s) ∙ sym (add_assoc (f m.0 m.1) (total R f r) (total R f s))

  pub total-cong : (P : K → Type 0) (f g : K → A → A) → ((k : K) (c : A) → P k → f k c ≡ g k c) → (r : List (K × A)) → Each P r
      → total R f r ≡ total R g r
  total-cong P f g e [] h = refl
  total-cong P f g e (m ∷ r) h = ap₂ ◌⊞◌ (e m.0 m.1 h.0) (total-cong P f g e r h.1)

  pub total-nil : (r : List (K × A)) → total R (λ k c. nil) r ≡ nil
  total-nil [] = refl
  total-nil (m ∷ r) = ap (◌⊞◌ nil) (total-nil r) ∙ add-nil nil

  -- a sum over other keys
  pub total-rekey : {L : Type 0} (g : L → K) (f : K → A → A) (r : List (L × A)) → total R f (rekey g r) ≡ total R (λ k c. f (g k) c) r
  total-rekey g f [] = refl
  total-rekey g f (m ∷ r) = ap (◌⊞◌ (f (g m.0) m.1)) (total-rekey g f r)

  module _ (f : K → A → A) (lin : Linear f) where
    open lin use {of_nil, of-add}

    -- a push adds its monomial, also where it is 0
    pub total-push : (k : K) (c : A) (r : List (K × A)) → total R f (push is_nil k c r) ≡ f k c ⊞ total R f r
    total-push k c r =
        cond_cases (is_nil c) (λ z. total R f z ≡ f k c ⊞ total R f r) _ _
        (λ e. sym (ap (λ z. f k z ⊞ total R f r) (is_nil-true c e) ∙ ap (λ z. z ⊞ total R f r) (of_nil k) ∙ nil-add R (total R f r)))
        (λ e. refl)

    pub total-purge : (r : List (K × A)) → total R f (purge is_nil r) ≡ total R f r
    total-purge [] = refl
    total-purge (m ∷ r) = total-push m.0 m.1 (purge is_nil r) ∙ ap (◌⊞◌ (f m.0 m.1)) (total-purge r)

    module _ (cmp : K → K → Order) (ord : Ordered cmp) where
      pub total-merge : (r s : List (K × A)) → total R f (merge is_nil cmp ◌⊞◌ r s) ≡ total R f r ⊞ total R f s
      total-merge r s =
          merge-by is_nil cmp ◌⊞◌ (λ r s. total R f (merge is_nil cmp ◌⊞◌ r s) ≡ total R f r ⊞ total R f s)
          (λ s. total-purge s ∙ sym (nil-add R (total R f s)))
          (λ m r h. total-push m.0 m.1 (merge is_nil cmp ◌⊞◌ r []) ∙ ap (◌⊞◌ (f m.0 m.1)) h
          ∙ sym (add_assoc (f m.0 m.1) (total R f r) nil))
          (λ m r u s h h₂ h₃. order-cases (cmp m.0 u.0) (λ z. total R f z ≡ total R f (m ∷ r) ⊞ total R f (u ∷ s)) _ _ _
          (λ e. total-push m.0 m.1 (merge is_nil cmp ◌⊞◌ r (u ∷ s)) ∙ ap (◌⊞◌ (f m.0 m.1)) h
          ∙ sym (add_assoc (f m.0 m.1) (total R f r) (total R f (u ∷ s))))
          (λ e. total-push m.0 (m.1 ⊞ u.1) (merge is_nil cmp ◌⊞◌ r s) ∙ ap₂ ◌⊞◌ (of-add m.0 m.1 u.1) h₂
          ∙ regroup (f m.0 m.1) (f m.0 u.1) (total R f r) (total R f s)
          ∙ ap (λ z. total R f (m ∷ r) ⊞ (f z u.1 ⊞ total R f s)) (ord.same m.0 u.0 e))
          (λ e. total-push u.0 u.1 (merge is_nil cmp ◌⊞◌ (m ∷ r) s) ∙ ap (◌⊞◌ (f u.0 u.1)) h₃
          ∙ add_left_comm R (f u.0 u.1) (total R f (m ∷ r)) (total R f s)))
          r s
        where
          regroup : (a b c d : A) → a ⊞ b ⊞ (c ⊞ d) ≡ a ⊞ c ⊞ (b ⊞ d)
          regroup a b c d = simp (add_assoc, add_left_comm R)

-- ---- one list for one function of coefficients
module _ {K A : Type 0} (R : Ring A) (cmp : K → K → Order) (ord : Ordered cmp) where
  open R use {◌⊞◌, nil, is_nil, add-nil, is_nil-nil}
  open ord use {self, same, flip, trans}

  -- the coefficient at a key
  abbrev pub at : K → List (K × A) → A
  at k r = total R (λ l c. cond (is_level (cmp l k)) c nil) r

  not-nil : (c : A) → is_nil c ≡ false → c ≡ nil → ⊥
  not-nil c h e = true≢false (sym is_nil-nil ∙ sym (ap is_nil e) ∙ h)

  -- the coefficients that are not 0 decide: above its first key a falling list has none
  at_above : (k : K) (r : List (K × A)) → Each (λ l. cmp k l ≡ over) r → at k r ≡ nil
  at_above k [] h = refl
  at_above k (m ∷ r) h = ap₂ ◌⊞◌ (off (cmp m.0 k) refl) (at_above k r h.1) ∙ add-nil nil
    where
      off : (o : Order) → cmp m.0 k ≡ o → cond (is_level o) m.1 nil ≡ nil
      off over e = refl
      off under e = refl
      off level e = absurd (level-over (sym (self k) ∙ ap (cmp k) (sym (same m.0 k e)) ∙ h.0))

  at-first : (m : K × A) (r : List (K × A)) → Each (λ l. cmp m.0 l ≡ over) r → at m.0 (m ∷ r) ≡ m.1
  at-first m r h = ap₂ ◌⊞◌ (ap (λ o. cond (is_level o) m.1 nil) (self m.0)) (at_above m.0 r h) ∙ add-nil m.1

  module _ (P : K → Type 0) where
    -- two sorted lists with the same coefficients are one
    pub canon-run : (r s : List (K × A)) → Falls cmp r → Falls cmp s → Solid is_nil r → Solid is_nil s → Each P r → Each P s
        → ((k : K) → P k → at k r ≡ at k s) → r ≡ s
    canon-run [] [] fr fs sr ss pr ps e = refl
    canon-run [] (u ∷ s) fr fs sr ss pr ps e = absurd (not-nil u.1 ss.0 (sym (at-first u s fs.0) ∙ sym (e u.0 ps.0)))
    canon-run (m ∷ r) [] fr fs sr ss pr ps e = absurd (not-nil m.1 sr.0 (sym (at-first m r fr.0) ∙ e m.0 pr.0))
    canon-run (m ∷ r) (u ∷ s) fr fs sr ss pr ps e = go (cmp m.0 u.0) refl
        (λ g. canon-run r s fr.1 fs.1 sr.1 ss.1 pr.1 ps.1 g)
      where
        beyond : (m u : K × A) (r : List (K × A)) → cmp m.0 u.0 ≡ over → Each (λ l. cmp u.0 l ≡ over) r
            → Each (λ l. cmp m.0 l ≡ over) (u ∷ r)
        beyond m u r o h = (o, each_map (λ z. cmp u.0 z ≡ over) (λ z. cmp m.0 z ≡ over) (λ z g. trans m.0 u.0 z o g) r h)

        go : (o : Order) → cmp m.0 u.0 ≡ o → (((k : K) → P k → at k r ≡ at k s) → r ≡ s) → (m ∷ r) ≡ (u ∷ s)
        go over o f =
            absurd (not-nil m.1 sr.0 (sym (at-first m r fr.0) ∙ e m.0 pr.0
            ∙ at_above m.0 (u ∷ s) (beyond m u s o fs.0)))
        go under o f =
            absurd (not-nil u.1 ss.0 (sym (at-first u s fs.0) ∙ sym (e u.0 ps.0)
            ∙ at_above u.0 (m ∷ r) (beyond u m r (flip m.0 u.0 o) fr.0)))
        go level o f = λ t. both t ∷ f tails t
          where
            keys : m.0 ≡ u.0
            keys = same m.0 u.0 o

            coefs : m.1 ≡ u.1
            coefs = sym (at-first m r fr.0) ∙ e m.0 pr.0 ∙ ap (λ k. at k (u ∷ s)) keys ∙ at-first u s fs.0

            both : m ≡ u
            both = λ t. (keys t, coefs t)

            tails : (k : K) → P k → at k r ≡ at k s
            tails k p =
                add-cancel R (cond (is_level (cmp m.0 k)) m.1 nil) (at k r) (at k s)
                (e k p ∙ ap (λ z. cond (is_level (cmp z.0 k)) z.1 nil ⊞ at k s) (sym both))

-- The point of two terms is the only one, comes before every other at which their remainders differ, and is the one that a search through
-- the box finds. By every modulus m.
use Rattle.std.specs.Prelude.{Bool, true, false, not, List, [], ◌∷◌, ◌++◌, map, ◌⊎◌, ◌≡◌, refl, ℕ, zero, suc, ◌+◌, ◌≤◌, ◌<◌, eqb, length}
use Rattle.std.proofs.Common.{inl, inr, sym, ◌∙◌, ap, ap₂, subst, arith, eq-eqb, ne_eqb}
use Rattle.horner.specs.definitions.Points.{InBox, Before, leaves, highest, IsPoint, under, points, first_of, point_of}
use Rattle.horner.specs.definitions.Term.{Term}
use Rattle.horner.proofs.laws.Canonical.{length-box}

-- ---- of two points of one length, one is the other or before it
three : (a b : ℕ) → (a < b) ⊎ ((a ≡ b) ⊎ (b < a))
three zero zero = inr (inl refl)
three zero (suc b) = inl (omega arith)
three (suc a) zero = inr (inr (omega arith))
three (suc a) (suc b) = up (three a b)
  where
    up : (a < b) ⊎ ((a ≡ b) ⊎ (b < a)) → (suc a < suc b) ⊎ ((suc a ≡ suc b) ⊎ (suc b < suc a))
    up (inl l) = inl (omega arith)
    up (inr (inl e)) = inr (inl (ap suc e))
    up (inr (inr l)) = inr (inr (omega arith))

order : (M N : List ℕ) → length M ≡ length N → (M ≡ N) ⊎ (Before M N ⊎ Before N M)
order [] [] e = inl refl
order [] (b ∷ N) e = absurd (omega arith)
order (a ∷ M) [] e = absurd (omega arith)
order (a ∷ M) (b ∷ N) e = at (three a b) (order M N (omega arith))
  where
    at : (a < b) ⊎ ((a ≡ b) ⊎ (b < a)) → (M ≡ N) ⊎ (Before M N ⊎ Before N M)
        → ((a ∷ M) ≡ (b ∷ N)) ⊎ (Before (a ∷ M) (b ∷ N) ⊎ Before (b ∷ N) (a ∷ M))
    at (inl l) r = inr (inl (inl l))
    at (inr (inr l)) r = inr (inr (inl l))
    at (inr (inl p)) (inl q) = inl (ap₂ ◌∷◌ p q)
    at (inr (inl p)) (inr (inl q)) = inr (inl (inr (p, q)))
    at (inr (inl p)) (inr (inr q)) = inr (inr (inr (sym p, q)))

module _ (m n : ℕ) (f g : Term) where
  pub point-unique : (M N : List ℕ) → IsPoint m n f g M → IsPoint m n f g N → M ≡ N
  point-unique M N p q = at (order M N (p.long ∙ sym q.long))
    where
      at : (M ≡ N) ⊎ (Before M N ⊎ Before N M) → M ≡ N
      at (inl e) = e
      at (inr (inl b)) = absurd (p.differs (q.earlier M p.long b))
      at (inr (inr b)) = absurd (q.differs (p.earlier N q.long b))

  -- and it comes before every other point at which the remainders differ
  pub point-before :
      (N : List ℕ) → IsPoint m n f g N → (M : List ℕ) → length M ≡ n → (leaves m f M ≡ leaves m g M → ⊥) → (M ≡ N) ⊎ Before N M
  point-before N p M l d = at (order M N (l ∙ sym p.long))
    where
      at : (M ≡ N) ⊎ (Before M N ⊎ Before N M) → (M ≡ N) ⊎ Before N M
      at (inl e) = inl e
      at (inr (inl b)) = absurd (d (p.earlier M l b))
      at (inr (inr b)) = inr b

-- ---- a search through a list
-- N is the first of the list that passes the test
data First (t : List ℕ → Bool) (N : List ℕ) : List (List ℕ) → Type 0 where
  here : {M : List ℕ} {Ns : List (List ℕ)} → M ≡ N → t M ≡ true → First t N (M ∷ Ns)
  later : {M : List ℕ} {Ns : List (List ℕ)} → t M ≡ false → First t N Ns → First t N (M ∷ Ns)

abbrev All : (List ℕ → Type 0) → List (List ℕ) → Type 0
All P [] = Unit {0}
All P (N ∷ Ns) = P N × All P Ns

first_found : (t : List ℕ → Bool) (N : List ℕ) (Ns : List (List ℕ)) → First t N Ns → first_of t Ns ≡ N
first_found t N [] x' = elim x' [ ]
first_found t N (M ∷ Ns) (here i e) = rw (e, first_of) i
first_found t N (M ∷ Ns) (later e h) = rw (e, first_of) (first_found t N Ns h)

module _ (t : List ℕ → Bool) (a : ℕ) (N : List ℕ) where
  -- the first behind a is the first of those with a before them
  first-with : (Ns Ms : List (List ℕ)) → First (λ M. t (a ∷ M)) N Ns → First t (a ∷ N) (map (λ M. a ∷ M) Ns ++ Ms)
  first-with [] Ms x' = elim x' [ ]
  first-with (M ∷ Ns) Ms (here i e) = here (ap (λ K. a ∷ K) i) e
  first-with (M ∷ Ns) Ms (later e h) = later e (first-with Ns Ms h)

  -- those with a smaller number before them, all of which fail, are passed over
  first-past :
      (b : ℕ) (Ns Ms : List (List ℕ)) → All (λ M. t (b ∷ M) ≡ false) Ns → First t (a ∷ N) Ms →
      First t (a ∷ N) (map (λ M. b ∷ M) Ns ++ Ms)
  first-past b [] Ms h g = g
  first-past b (M ∷ Ns) Ms h g = later h.0 (first-past b Ns Ms h.1 g)

  first_under :
      (k b : ℕ) (Ns : List (List ℕ)) → b ≤ a → a < b + k → ((c : ℕ) → c < a → All (λ M. t (c ∷ M) ≡ false) Ns) →
      First (λ M. t (a ∷ M)) N Ns → First t (a ∷ N) (under k b Ns)
  first_under zero b Ns l u fails h = absurd (omega arith)
  first_under (suc k) b Ns l u fails h = at (three a b) (λ i. first_under k (suc b) Ns (omega arith) (omega arith) fails h)
    where
      at : (a < b) ⊎ ((a ≡ b) ⊎ (b < a)) → (b < a → First t (a ∷ N) (under k (suc b) Ns)) → First t (a ∷ N) (under (suc k) b Ns)
      at (inl i) next = absurd (omega arith)
      at (inr (inl e)) next =
          subst (λ c. First t (a ∷ N) (map (λ M. c ∷ M) Ns ++ under k (suc b) Ns)) e (first-with Ns (under k (suc b) Ns) h)
      at (inr (inr i)) next = first-past b Ns (under k (suc b) Ns) (fails b i) (next i)

-- ---- the points of a box
module _ (P : List ℕ → Type 0) where
  all_append : (Ns Ms : List (List ℕ)) → All P Ns → All P Ms → All P (Ns ++ Ms)
  all_append [] Ms h g = g
  all_append (N ∷ Ns) Ms h g = (h.0, all_append Ns Ms h.1 g)

  all_map : (a : ℕ) (Ns : List (List ℕ)) → All (λ M. P (a ∷ M)) Ns → All P (map (λ M. a ∷ M) Ns)
  all_map a [] h = tt
  all_map a (N ∷ Ns) h = (h.0, all_map a Ns h.1)

  all_under : (k b : ℕ) (Ns : List (List ℕ)) → ((c : ℕ) → All (λ M. P (c ∷ M)) Ns) → All P (under k b Ns)
  all_under zero b Ns h = tt
  all_under (suc k) b Ns h = all_append (map (λ M. b ∷ M) Ns) (under k (suc b) Ns) (all_map b Ns (h b)) (all_under k (suc b) Ns h)

-- what holds of every point with as many coordinates holds of all in the box
all-points : (P : List ℕ → Type 0) (ds : List ℕ) → ((M : List ℕ) → length M ≡ length ds → P M) → All P (points ds)
all-points P [] h = (h [] refl, tt)
all-points P (d ∷ ds) h = all_under P (suc d) 0 (points ds) (λ c. all-points (λ M. P (c ∷ M)) ds (λ M l. h (c ∷ M) (ap suc l)))

first-points :
    (t : List ℕ → Bool) (ds N : List ℕ) → InBox ds N → t N ≡ true →
    ((M : List ℕ) → length M ≡ length ds → Before M N → t M ≡ false) → First t N (points ds)
first-points t [] [] i h fails = here refl h
first-points t [] (a ∷ N) i h fails = absurd i
first-points t (d ∷ ds) [] i h fails = absurd i
first-points t (d ∷ ds) (a ∷ N) i h fails =
    first_under t a N (suc d) 0 (points ds) (omega arith) (omega (arith, i.0))
    (λ c l. all-points (λ M. t (c ∷ M) ≡ false) ds (λ M k. fails (c ∷ M) (ap suc k) (inl l)))
    (first-points (λ M. t (a ∷ M)) ds N i.1 h (λ M k b. fails (a ∷ M) (ap suc k) (inr (refl, b))))

-- ---- the search finds the point
module _ (m n : ℕ) (f g : Term) where
  pub point-found : (N : List ℕ) → IsPoint m n f g N → point_of m n f g ≡ N
  point-found N p =
      first_found (λ M. not (eqb (leaves m f M) (leaves m g M))) N (points (highest n f g))
      (first-points (λ M. not (eqb (leaves m f M) (leaves m g M))) (highest n f g) N p.inside
      (ap not (ne_eqb (leaves m f N) (leaves m g N) p.differs)) pass)
    where
      pass : (M : List ℕ) → length M ≡ length (highest n f g) → Before M N → not (eqb (leaves m f M) (leaves m g M)) ≡ false
      pass M l b =
          ap not (eq-eqb (leaves m f M) (leaves m g M)
          (p.earlier M (l ∙ sym (length-box (highest n f g) N p.inside) ∙ p.long) b))

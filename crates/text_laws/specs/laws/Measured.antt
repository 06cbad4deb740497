-- The measuring refuses exactly when some subterm is over a limit, and at the first one in order of finishing.
use Rattle.std.specs.Prelude.{Bool, true, false, List, [], ◌∷◌, ◌++◌, ◌≡◌, refl, ℕ, zero, suc, ◌≤◌, ◌<◌, leb, length}
use Rattle.std.proofs.Common.{true≢false, sym, ap, ◌∙◌, arith, leb-true, leb-false, le-leb}
use Rattle.horner.specs.definitions.Measures.{weight_of, degrees_of, terms_of, AllLe}
use Rattle.text.specs.definitions.Answer.{Reading, read, refused, fine}
use Rattle.text.specs.definitions.Bytes.{all}
use Rattle.text.specs.definitions.Limits.{finishing, exponent_fits, powers_fit, weight_fits, terms_fit, over_limit, first_past}
use Rattle.text.specs.definitions.Meaning.{Part, itself, in-neg, in_left, in_right, in-base, Fits, AllWithin}
use Rattle.text.specs.definitions.Tree.{Tree, num, letter, neg, two, power, start_of, end_of, term_of}
use Rattle.text_laws.specs.laws.Bytes.{and_l, and_r, and_i, all-le, le-all}

-- ---- one node: 0 within the limits, else the lowest number
module _ (row : List ℕ) (t : Tree) where
  abbrev degs : List ℕ
  degs = degrees_of (length row) (term_of row t)

  -- what a number of the limits says of a node
  pub data Measure (e : ℕ) : Type 0 where
    within : e ≡ 0 → Fits row t → Measure e
    power-over : e ≡ 8 → ((exponent_fits t ≡ true) × AllLe 63 degs → ⊥) → Measure e
    weight-over : e ≡ 9 → exponent_fits t ≡ true → AllLe 63 degs → 1073741823 < weight_of (term_of row t) → Measure e
    terms-over :
        e ≡ 10 → exponent_fits t ≡ true → AllLe 63 degs → weight_of (term_of row t) ≤ 1073741823 →
        256 < terms_of (length row) (term_of row t) → Measure e

  -- 0 where it fits
  pub fits-within : Fits row t → over_limit row t ≡ 0
  fits-within h =
      rw (and_i h.exponent (le-all degs h.degrees), over_limit)
      (rw (le-leb (weight_of (term_of row t)) 1073741823 h.weight, le-leb (terms_of (length row) (term_of row t)) 256 h.terms))

  -- each number says so
  pub measure : Measure (over_limit row t)
  measure = go₁ (powers_fit row t) refl
    where
      go₃ : (b : Bool) → powers_fit row t ≡ true → weight_fits row t ≡ true → terms_fit row t ≡ b → Measure (over_limit row t)
      go₃ true d w k =
          let h : Fits row t = record {
            exponent = and_l (exponent_fits t) (all (λ d. leb d 63) degs) d;
            degrees = all-le degs (and_r (exponent_fits t) (all (λ d. leb d 63) degs) d);
            weight = leb-true (weight_of (term_of row t)) 1073741823 w;
            terms = leb-true (terms_of (length row) (term_of row t)) 256 k;
          } in
          within (fits-within h) h
      go₃ false d w k =
          terms-over (rw (d, over_limit) (rw (w, k))) (and_l (exponent_fits t) (all (λ d. leb d 63) degs) d)
          (all-le degs (and_r (exponent_fits t) (all (λ d. leb d 63) degs) d))
          (leb-true (weight_of (term_of row t)) 1073741823 w) (leb-false (terms_of (length row) (term_of row t)) 256 k)

      go₂ : (b : Bool) → powers_fit row t ≡ true → weight_fits row t ≡ b → Measure (over_limit row t)
      go₂ true d w = go₃ (terms_fit row t) d w refl
      go₂ false d w =
          weight-over (rw (d, over_limit) (rw w)) (and_l (exponent_fits t) (all (λ d. leb d 63) degs) d)
          (all-le degs (and_r (exponent_fits t) (all (λ d. leb d 63) degs) d))
          (leb-false (weight_of (term_of row t)) 1073741823 w)

      go₁ : (b : Bool) → powers_fit row t ≡ b → Measure (over_limit row t)
      go₁ true d = go₂ (weight_fits row t) d refl
      go₁ false d = power-over (rw (d, over_limit)) (λ h. true≢false (sym (and_i h.0 (le-all degs h.1)) ∙ d))

  fits-of : (e : ℕ) → Measure e → e ≡ 0 → Fits row t
  fits-of e (within i h) z = h
  fits-of e (power-over i h) z = absurd (omega arith)
  fits-of e (weight-over i h k l) z = absurd (omega arith)
  fits-of e (terms-over i h k l m) z = absurd (omega arith)

  -- it fits where the number is 0
  pub within-fits : over_limit row t ≡ 0 → Fits row t
  within-fits e = fits-of (over_limit row t) measure e

-- ---- all nodes
module _ (row : List ℕ) where
  within-left : (ts us : List Tree) → AllWithin row (ts ++ us) → AllWithin row ts
  within-left [] us h = tt
  within-left (t ∷ ts) us h = (h.0, within-left ts us h.1)

  within-right : (ts us : List Tree) → AllWithin row (ts ++ us) → AllWithin row us
  within-right [] us h = h
  within-right (t ∷ ts) us h = within-right ts us h.1

  within_both : (ts us : List Tree) → AllWithin row ts → AllWithin row us → AllWithin row (ts ++ us)
  within_both [] us h k = k
  within_both (t ∷ ts) us h k = (h.0, within_both ts us h.1 k)

  last_within : (t : Tree) → AllWithin row (finishing t) → over_limit row t ≡ 0
  last_within (num p w z) h = h.0
  last_within (letter p b) h = h.0
  last_within (neg p o c x) h = (within-right (finishing x) _ h).0
  last_within (two p o c g x y) h = (within-right (finishing y) _ (within-right (finishing x) _ h)).0
  last_within (power p o c x q n) h = (within-right (finishing x) _ h).0

  -- the nodes in order of finishing are the subterms
  pub parts-fit : {x t : Tree} → Part x t → AllWithin row (finishing t) → Fits row x
  parts-fit {x} {t} (itself e) h = rw e (within-fits row t (last_within t h))
  parts-fit (in-neg p o c y q) h = parts-fit q (within-left (finishing y) _ h)
  parts-fit (in_left p o c g y z q) h = parts-fit q (within-left (finishing y) _ h)
  parts-fit (in_right p o c g y z q) h = parts-fit q (within-left (finishing z) _ (within-right (finishing y) _ h))
  parts-fit (in-base p o c y q n r) h = parts-fit r (within-left (finishing y) _ h)

  -- and the other way round
  pub fit_parts : (t : Tree) → ((x : Tree) → Part x t → Fits row x) → AllWithin row (finishing t)
  fit_parts (num p w z) h = (fits-within row (num p w z) (h (num p w z) (itself refl)), tt)
  fit_parts (letter p b) h = (fits-within row (letter p b) (h (letter p b) (itself refl)), tt)
  fit_parts (neg p o c x) h =
      within_both (finishing x) _ (fit_parts x (λ y q. h y (in-neg p o c x q)))
      (fits-within row (neg p o c x) (h (neg p o c x) (itself refl)), tt)
  fit_parts (two p o c g x y) h =
      within_both (finishing x) _ (fit_parts x (λ z q. h z (in_left p o c g x y q)))
      (within_both (finishing y) _ (fit_parts y (λ z q. h z (in_right p o c g x y q)))
      (fits-within row (two p o c g x y) (h (two p o c g x y) (itself refl)), tt))
  fit_parts (power p o c x q n) h =
      within_both (finishing x) _ (fit_parts x (λ y r. h y (in-base p o c x q n r)))
      (fits-within row (power p o c x q n) (h (power p o c x q n) (itself refl)), tt)

  -- ---- the first over a limit
  pub all-within : (r : Reading Tree) (ts : List Tree) → AllWithin row ts → first_past row r ts ≡ r
  all-within r [] h = refl
  all-within r (t ∷ ts) h = rw h.0 (all-within r ts h.1)

  -- what the first over a limit says
  pub data Past (t : Tree) (ts : List Tree) (x : Reading Tree) : Type 0 where
    none_over : AllWithin row ts → x ≡ read t → Past t ts x
    one-over :
        (us : List Tree) (u : Tree) (vs : List Tree) (e : ℕ) → ts ≡ us ++ (u ∷ vs) → AllWithin row us → over_limit row u ≡ suc e →
        x ≡ refused (suc e) (start_of u) (end_of u) → Past t ts x

  past-later : (t u : Tree) (ts : List Tree) (x : Reading Tree) → over_limit row u ≡ 0 → Past t ts x → Past t (u ∷ ts) x
  past-later t u ts x h (none_over a e) = none_over (h, a) e
  past-later t u ts x h (one-over us v vs k p a w e) = one-over (u ∷ us) v vs k (ap (λ (z : List Tree). u ∷ z) p) (h, a) w e

  past_first :
      (t u : Tree) (ts : List Tree) (c : ℕ) → over_limit row u ≡ c → Past t ts (first_past row (read t) ts) →
      Past t (u ∷ ts) (fine c (start_of u) (end_of u) (λ v. first_past row (read t) ts))
  past_first t u ts zero e h = past-later t u ts (first_past row (read t) ts) e h
  past_first t u ts (suc c) e h = one-over [] u ts c refl tt e refl

  -- each answer says so
  pub past : (t : Tree) (ts : List Tree) → Past t ts (first_past row (read t) ts)
  past t [] = none_over tt refl
  past t (u ∷ ts) = past_first t u ts (over_limit row u) refl (past t ts)

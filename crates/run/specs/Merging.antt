-- Lists of keys with coefficients, and their merging: over any keys that can be compared, and any coefficients that can be added and
-- tested for 0.
use Rattle.std.specs.Prelude.{Bool, true, false, cond, List, [], ◌∷◌, map, ◌≡◌, ℕ, zero, suc}

-- how the first of two keys stands to the second
pub data Order : Type 0 where
  over level under : Order

-- the branches are functions, so that only the one taken is computed
abbrev pub case_order : {B : Type 0} → Order → (Unit {0} → B) → (Unit {0} → B) → (Unit {0} → B) → B
case_order over o l u = o tt
case_order level o l u = l tt
case_order under o l u = u tt

-- whether two keys are the same
abbrev pub is_level : Order → Bool
is_level over = false
is_level level = true
is_level under = false

-- numbers by their size
abbrev pub cmpℕ : ℕ → ℕ → Order
cmpℕ zero zero = level
cmpℕ zero (suc b) = under
cmpℕ (suc a) zero = over
cmpℕ (suc a) (suc b) = cmpℕ a b

-- the first order decides, unless it is level
abbrev pub first : Order → Order → Order
first over o = over
first level o = o
first under o = under

-- lists of numbers by their first difference
abbrev pub cmp_l : List ℕ → List ℕ → Order
cmp_l [] [] = level
cmp_l [] (b ∷ l) = under
cmp_l (a ∷ k) [] = over
cmp_l (a ∷ k) (b ∷ l) = first (cmpℕ a b) (cmp_l k l)

-- the same coefficients at other keys
abbrev pub rekey : {K L A : Type 0} → (K → L) → List (K × A) → List (L × A)
rekey g r = map (λ m. (g m.0, m.1)) r

module _ {K A : Type 0} where
  -- each key is such
  abbrev pub Each : (K → Type 0) → List (K × A) → Type 0
  Each P [] = Unit {0}
  Each P (m ∷ r) = P m.0 × Each P r

  -- ---- strictly falling keys
  module _ (cmp : K → K → Order) where
    -- each key is over all that follow
    abbrev pub Falls : List (K × A) → Type 0
    Falls [] = Unit {0}
    Falls (m ∷ r) = Each (λ l. cmp m.0 l ≡ over) r × Falls r

  module _ (is_nil : A → Bool) where
    -- no coefficient is 0
    abbrev pub Solid : List (K × A) → Type 0
    Solid [] = Unit {0}
    Solid (m ∷ r) = (is_nil m.1 ≡ false) × Solid r

    -- one monomial in front, unless its coefficient is 0
    abbrev pub push : K → A → List (K × A) → List (K × A)
    push k c r = cond (is_nil c) r ((k, c) ∷ r)

    -- without the coefficients 0
    abbrev pub purge : List (K × A) → List (K × A)
    purge [] = []
    purge (m ∷ r) = push m.0 m.1 (purge r)

    -- ---- the sum of two lists with falling keys
    module _ (cmp : K → K → Order) (add : A → A → A) where
      -- of the monomial (k, c) and then what `rest` makes
      abbrev pub merge_from : K → A → (List (K × A) → List (K × A)) → List (K × A) → List (K × A)
      merge_from k c rest [] = push k c (rest [])
      merge_from k c rest (u ∷ s) =
          case_order (cmp k u.0)
          (λ t. push k c (rest (u ∷ s)))
          (λ t. push k (add c u.1) (rest s))
          (λ t. push u.0 u.1 (merge_from k c rest s))

      -- in the order of the keys; equal keys are added, coefficients 0 left out
      abbrev pub merge : List (K × A) → List (K × A) → List (K × A)
      merge [] s = purge s
      merge (m ∷ r) s = merge_from m.0 m.1 (merge r) s

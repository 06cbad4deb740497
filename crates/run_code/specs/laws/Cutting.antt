-- Words cut in two by their keys, and what the form of the words is in the forms of the two.
use Rattle.std.specs.Prelude.{List, [], ◌∷◌, ◌++◌, ◌≡◌, refl, ℕ, zero, suc, ◌+◌, ◌-◌, ◌*◌, ◌^◌, ◌/◌, ◌%◌, ◌≤◌, ◌<◌, length, take, drop, get_or}
use Rattle.std.proofs.Common.{append_assoc, sym, ◌∙◌, ap, ap₂, subst, arith, take-append-drop, length-drop, take-suc, length-take-le, get_or-take}
use Rattle.std.proofs.Math.Nat as NatL
use Rattle.code.specs.Coding.{enc}
use Rattle.code.specs.Operations.{pop_of, pow_of, zero_of}
use Rattle.code.specs.laws.Codes.{tail-part}
use Rattle.code.specs.laws.Widths.{leaf-number, zero-leaf}
use Rattle.run_merge.specs.Words.{pairs}
use Rattle.run_merge.specs.laws.Steps.{pairs-drop, pairs_end, fits_head}
use Rattle.run.specs.Merging.{over, cmpℕ, Each, Falls}
use Rattle.run.proofs.laws.Merging.{each_map, each_append}
use Rattle.run.proofs.laws.Orders.{over-lt}
use Rattle.run_code.specs.Decoding.{form_at, Placed, Even, Cut}
use Rattle.run_code.specs.laws.Digits.{unit-pos}
use Rattle.run_code.specs.laws.Parts.{each-front, each_back, falls-front, falls-back, placed-front, placed-back, form-pow, form-pop}
use Rattle.run_code.specs.laws.Parts.{form-none, form-leaf, form-leads, words-pow, words-pop}

even-less : (e : ℕ) → Even e → (e ≡ 0 → ⊥) → (2 ≤ e) × Even (e - 2)
even-less zero h g = absurd (g refl)
even-less (suc zero) h g = absurd h
even-less (suc (suc e)) h g =
    let q : e ≡ suc (suc e) - 2 = omega arith in
    (omega arith, subst Even q h)

pub even-minus : (a b : ℕ) → Even a → Even b → b ≤ a → Even (a - b)
even-minus a zero ha hb l =
    let q : a ≡ a - 0 = omega arith in
    subst Even q ha
even-minus a (suc zero) ha hb l = absurd hb
even-minus zero (suc (suc b)) ha hb l = absurd (omega arith)
even-minus (suc zero) (suc (suc b)) ha hb l = absurd ha
even-minus (suc (suc a)) (suc (suc b)) ha hb l =
    let q : a - b ≡ suc (suc a) - suc (suc b) = omega arith in
    subst Even q (even-minus a b ha hb (omega arith))

pairs-append : (a b : List ℕ) → Even (length a) → pairs (a ++ b) ≡ pairs a ++ pairs b
pairs-append [] b h = refl
pairs-append (k ∷ []) b h = absurd h
pairs-append (k ∷ c ∷ a) b h = ap (λ z. (k, c) ∷ z) (pairs-append a b h)

-- an even cut parts the pairs
pub pairs-split : (x : List ℕ) (e : ℕ) → Even e → e ≤ length x → pairs x ≡ pairs (take e x) ++ pairs (drop e x)
pairs-split x e h l =
    ap pairs (sym (take-append-drop e x)) ∙ pairs-append (take e x) (drop e x) (subst Even (sym (length-take-le e x l)) h)

take-two : (x : List ℕ) (e : ℕ) → e + 1 < length x → take (e + 2) x ≡ take e x ++ (get_or x e 0 ∷ get_or x (e + 1) 0 ∷ [])
take-two x e h =
    let one : suc e ≡ e + 1 = omega arith in
    let two : e + 2 ≡ suc (suc e) = omega arith in
    ap (λ z. take z x) two ∙ take-suc x (suc e) 0 (omega arith) ∙ ap₂ (λ a b. a ++ (get_or x b 0 ∷ [])) (take-suc x e 0 (omega arith)) one
    ∙ append_assoc (take e x) (get_or x e 0 ∷ []) (get_or x (e + 1) 0 ∷ [])

pairs-two : (x : List ℕ) (e : ℕ) → Even e → e + 1 < length x
    → pairs (take (e + 2) x) ≡ pairs (take e x) ++ ((get_or x e 0, get_or x (e + 1) 0) ∷ [])
pairs-two x e h l =
    ap pairs (take-two x e l) ∙ pairs-append (take e x) (get_or x e 0 ∷ get_or x (e + 1) 0 ∷ [])
    (subst Even (sym (length-take-le e x (omega arith))) h)

-- ---- the cut, step by step
pub cut_on : (limit : ℕ) (x : List ℕ) (e : ℕ) → Even e → e + 1 < length x → Each (λ k. limit ≤ k) (pairs (take e x)) → limit ≤ get_or x e 0
    → Each (λ k. limit ≤ k) (pairs (take (e + 2) x))
cut_on limit x e h l b g =
    subst (Each (λ k. limit ≤ k)) (sym (pairs-two x e h l))
    (each_append (λ k. limit ≤ k) (pairs (take e x)) ((get_or x e 0, get_or x (e + 1) 0) ∷ []) b (g, tt))

-- the cut is found: the next key is below the limit
pub cut-here : (limit : ℕ) (x : List ℕ) (e : ℕ) → Even e → e + 1 < length x → Each (λ k. limit ≤ k) (pairs (take e x)) → get_or x e 0 < limit
    → Falls cmpℕ (pairs x)
    → Cut limit x e
cut-here limit x e h l b g f = record {
  even = h;
  inside = omega arith;
  before = b;
  behind = subst (Each (λ k. k < limit)) (sym (pairs-drop x e l)) (
    g,
    each_map (λ k. cmpℕ (get_or x e 0) k ≡ over) (λ k. k < limit)
        (λ k o. omega (arith, over-lt (get_or x e 0) k o)) (pairs (drop (e + 2) x)) (subst (Falls cmpℕ) (pairs-drop x e l) back).0,
  );
}
  where
    back : Falls cmpℕ (pairs (drop e x))
    back = falls-back (pairs (take e x)) (pairs (drop e x)) (subst (Falls cmpℕ) (pairs-split x e h (omega arith)) f)

-- the cut is the end
pub cut-end : (limit : ℕ) (x : List ℕ) (e : ℕ) → Even e → e ≤ length x → length x ≤ e + 1 → Each (λ k. limit ≤ k) (pairs (take e x))
    → Cut limit x e
cut-end limit x e h l g b = record { even = h; inside = l; before = b; behind = subst (Each (λ k. k < limit)) (sym (pairs_end x e g)) tt }

-- ---- the last key before a cut is the least there
falls-least : (l : List (ℕ × ℕ)) (m : ℕ × ℕ) → Falls cmpℕ (l ++ (m ∷ [])) → Each (λ k. m.0 ≤ k) (l ++ (m ∷ []))
falls-least [] m h = (omega arith, tt)
falls-least (u ∷ l) m h =
    (omega (arith, over-lt u.0 m.0 (each_back (λ k. cmpℕ u.0 k ≡ over) l (m ∷ []) h.0).0), falls-least l m h.1)

-- ---- what a cut makes of the form
-- the least exponent of the first variable before the cut, with u for what 1 in it adds to a key
abbrev pub least_of : ℕ → ℕ → List ℕ → ℕ → ℕ
least_of u base x e = (get_or x (e - 2) 0 - base) / u

-- i is that exponent; y and z are the words before and behind the cut
pub record PowStep (n m u i base : ℕ) (x : List ℕ) (e : ℕ) (y z : List ℕ) : Type 0 where
  pub two : 2 ≤ e
  pub inside : e ≤ length x
  pub from : base + u ≤ get_or x (e - 2) 0
  pub small : get_or x (e - 2) 0 < 16777216
  pub pos : 1 ≤ i
  pub higher : base + i * u ≤ get_or x (e - 2) 0
  pub front : Placed n (base + i * u) (pairs y)
  pub back : Placed m base (pairs z)
  pub even-front : Even (length y)
  pub even-back : Even (length z)
  pub less-front : get_or y 0 0 - (base + i * u) + n < get_or x 0 0 - base + n
  pub less-back : get_or z 0 0 - base + m < get_or x 0 0 - base + n
  pub is : form_at n base x ≡ pow_of 0 i (form_at n (base + i * u) y) (form_at m base z)
  pub words : length (enc 0 (form_at n base x)) ≡ 1 + length (enc 0 (form_at n (base + i * u) y)) + length (enc 0 (form_at m base z))

module _ (m base : ℕ) (x : List ℕ) (e : ℕ) (h : Placed (suc m) base (pairs x)) (ev : Even (length x)) (c : Cut (base + 64 ^ m) x e)
    (some : e ≡ 0 → ⊥) where
  abbrev last : ℕ
  last = get_or x (e - 2) 0

  abbrev i : ℕ
  i = (last - base) / 64 ^ m

  abbrev higher : ℕ
  higher = base + i * 64 ^ m

  halves : pairs x ≡ pairs (take e x) ++ pairs (drop e x)
  halves = pairs-split x e c.even c.inside

  before : pairs (take e x) ≡ pairs (take (e - 2) x) ++ ((last, get_or x (e - 2 + 1) 0) ∷ [])
  before =
      let t = even-less e c.even some in
      let q : e ≡ e - 2 + 2 = omega arith in
      ap (λ z. pairs (take z x)) q ∙ pairs-two x (e - 2) t.1 (omega (arith, c.inside))

  -- what holds of each key before the cut holds of the last one
  of-last : (P : ℕ → Type 0) → Each P (pairs (take e x)) → P last
  of-last P g = (each_back P (pairs (take (e - 2) x)) ((last, get_or x (e - 2 + 1) 0) ∷ []) (subst (Each P) before g)).0

  last-least : Each (λ k. last ≤ k) (pairs (take e x))
  last-least =
      subst (Each (λ k. last ≤ k)) (sym before) (falls-least (pairs (take (e - 2) x)) (last, get_or x (e - 2 + 1) 0)
      (subst (Falls cmpℕ) before (falls-front (pairs (take e x)) (pairs (drop e x)) (subst (Falls cmpℕ) halves h.falls))))

  low : base + 64 ^ m ≤ last
  low = of-last (λ k. base + 64 ^ m ≤ k) c.before

  parts : i * 64 ^ m + (last - base) % 64 ^ m ≡ last - base
  parts = NatL.div-add-mod' (last - base) (64 ^ m)

  i-pos : 1 ≤ i
  i-pos =
      let g : 1 * 64 ^ m ≤ last - base = omega (arith, low) in
      (NatL.le-div_iff_mul-le {k = 64 ^ m} {x = 1} {y = last - base} (unit-pos m)).1 g

  high : Each (λ k. higher ≤ k) (pairs (take e x))
  high = each_map (λ k. last ≤ k) (λ k. higher ≤ k) (λ k g. omega (arith, parts, low)) (pairs (take e x)) last-least

  placed : Placed (suc m) base (pairs (take e x) ++ pairs (drop e x))
  placed = subst (Placed (suc m) base) halves h

  front : Placed (suc m) higher (pairs (take e x))
  front = placed-front (suc m) base higher (pairs (take e x)) (pairs (drop e x)) (omega arith) placed high

  back : Placed m base (pairs (drop e x))
  back = placed-back m base (pairs (take e x)) (pairs (drop e x)) placed c.behind

  is : form_at (suc m) base x ≡ pow_of 0 i (form_at (suc m) higher (take e x)) (form_at m base (drop e x))
  is = form-pow m i base x (take e x) (drop e x) i-pos halves high back

  -- the first key
  of-first : (P : ℕ → Type 0) → Each P (pairs (take e x)) → P (get_or x 0 0)
  of-first P g = go x e (even-less e c.even some).0 c.inside g
    where
      go : (x : List ℕ) (e : ℕ) → 2 ≤ e → e ≤ length x → Each P (pairs (take e x)) → P (get_or x 0 0)
      go [] e a b g = absurd (omega arith)
      go (k ∷ []) e a b g = absurd (omega arith)
      go (k ∷ c ∷ x) zero a b g = absurd (omega arith)
      go (k ∷ c ∷ x) (suc zero) a b g = absurd (omega arith)
      go (k ∷ c ∷ x) (suc (suc e)) a b g = g.0

  first-high : base + 64 ^ m ≤ get_or x 0 0
  first-high = of-first (λ k. base + 64 ^ m ≤ k) c.before

  -- what stands first behind the cut
  behind-first : get_or (drop e x) 0 0 ≤ base + 64 ^ m
  behind-first = go (drop e x) (subst Even (sym (length-drop e x)) (even-minus (length x) e ev c.even c.inside)) c.behind
    where
      go : (z : List ℕ) → Even (length z) → Each (λ k. k < base + 64 ^ m) (pairs z) → get_or z 0 0 ≤ base + 64 ^ m
      go [] v g = omega arith
      go (k ∷ []) v g = absurd v
      go (k ∷ c ∷ z) v g = omega (arith, g.0)

  step : PowStep (suc m) m (64 ^ m) i base x e (take e x) (drop e x)
  step = record {
    two = two;
    inside = c.inside;
    from = low;
    small = of-last (λ k. k < 16777216) (each-front (λ k. k < 16777216) (pairs (take e x)) (pairs (drop e x)) placed.small);
    pos = i-pos;
    higher = omega (arith, parts, low);
    front = front;
    back = back;
    even-front = subst Even (sym (length-take-le e x c.inside)) c.even;
    even-back = subst Even (sym (length-drop e x)) (even-minus (length x) e ev c.even c.inside);
    less-front =
        omega (
          arith,
          get_or-take e x 0 0 (omega (arith, two)),
          of-first (λ k. higher ≤ k) high,
          first-high,
          unit-pos m,
          NatL.mul-le-mul_right (64 ^ m) i-pos,
        );
    less-back = omega (arith, behind-first, first-high);
    is = is;
    words = ap (λ z. length (enc 0 z)) is ∙ words-pow i (form_at (suc m) higher (take e x)) (form_at m base (drop e x))
        (form-leads m higher (take e x) front (λ g. absurd (over_last (of-last (λ k. higher + 64 ^ m ≤ k) g))));
  }
    where
      two : 2 ≤ e
      two = (even-less e c.even some).0

      over_last : higher + 64 ^ m ≤ last → ⊥
      over_last g = omega (arith, parts, low, NatL.mod-lt (last - base) (unit-pos m))

-- what the cut says of the code that is to be written, with the words as they are lent
pub pow_step : (n m u i base : ℕ) (x : List ℕ) (e : ℕ) → n ≡ suc m → u ≡ 64 ^ m → i ≡ least_of (64 ^ m) base x e → Placed n base (pairs x)
    → Even (length x) → Cut (base + u) x e → (e ≡ 0 → ⊥) → PowStep n m u i base x e (take e x) (take (length x - e) (drop e x))
pow_step n m u i base x e q o r h ev c s =
    subst (λ w. PowStep n m u i base x e (take e x) w) (sym (tail-part e x))
    (subst (λ w. PowStep n m u w base x e (take e x) (drop e x)) (sym r)
    (subst (λ w. PowStep n m w (least_of (64 ^ m) base x e) base x e (take e x) (drop e x)) (sym o)
    (subst (λ w. PowStep w m (64 ^ m) (least_of (64 ^ m) base x e) base x e (take e x) (drop e x)) (sym q)
    (step m base x e (subst (λ w. Placed w base (pairs x)) q h) ev (subst (λ w. Cut (base + w) x e) o c) s))))

-- ---- where no first exponent is above 0
pub record PopStep (n m base : ℕ) (x : List ℕ) : Type 0 where
  pub placed : Placed m base (pairs x)
  pub is : form_at n base x ≡ pop_of 0 1 (form_at m base x)
  pub words : length (enc 0 (form_at m base x)) ≤ length (enc 0 (form_at n base x))

-- the same where the cut is at the beginning
pub pop_step : (n m u base : ℕ) (x : List ℕ) (e : ℕ) → n ≡ suc m → u ≡ 64 ^ m → Placed n base (pairs x) → Cut (base + u) x e → e ≡ 0
    → PopStep n m base x
pop_step n m u base x e q o h c z =
    record {
      placed = p;
      is = same;
      words = subst (λ f. length (enc 0 (form_at m base x)) ≤ length (enc 0 f)) (sym same)
          (words-pop (form_at m base x));
    }
  where
    p : Placed m base (pairs x)
    p = placed-back m base [] (pairs x) (subst (λ z. Placed z base (pairs x)) q h)
        (subst (λ w. Each (λ k. k < base + w) (pairs x)) o (subst (λ w. Each (λ k. k < base + u) (pairs (drop w x))) z c.behind))

    same : form_at n base x ≡ pop_of 0 1 (form_at m base x)
    same = ap (λ z. form_at z base x) q ∙ form-pop m base x p

-- ---- where there is no monomial, and where there is no variable
pub none-code : (n base : ℕ) (x : List ℕ) → length x ≤ 1 → 0 ∷ [] ≡ enc 0 (form_at n base x)
unfolding enc zero_of
none-code n base x l = ap (λ z. z ∷ []) (sym (zero-leaf 0)) ∙ ap (enc 0) (sym (form-none n base x (pairs_end x 0 (omega arith))))

-- one monomial and no variable: its coefficient
pub leaf-code : (n base : ℕ) (x : List ℕ) → n ≡ 0 → 1 < length x → Placed n base (pairs x) → get_or x 1 0 ∷ [] ≡ enc 0 (form_at n base x)
unfolding enc
leaf-code n base x z l h =
    ap (λ v. v ∷ []) (sym (leaf-number 0 (get_or x 1 0) (fits_head 0 x 0 (omega arith) h.fits).coefficient))
    ∙ ap (enc 0) (sym (ap (λ k. form_at k base x) z
    ∙ form-leaf base x (get_or x 0 0, get_or x 1 0) (pairs (drop 2 x)) (pairs-drop x 0 (omega arith))
    (subst (λ k. Placed k base (pairs x)) z h)))

-- 64 to the 3 at most
pub unit-small : (m : ℕ) → m ≤ 3 → 64 ^ m ≤ 262144
unit-small m l = NatL.pow-le-pow_right {n = 64} (omega arith) {i = m} {j = 3} l

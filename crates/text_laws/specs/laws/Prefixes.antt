-- What may stand at the front of an integer's text, and what may not follow it.
use Rattle.std.specs.Prelude.{Bool, true, false, ◌&&◌, ◌||◌, List, [], ◌∷◌, ◌++◌, ◌≡◌, refl, ℕ, zero, suc, eqb, ℤ, pos, negsuc}
use Rattle.std.proofs.Common.{true≢false, append_assoc, sym, ap, ◌∙◌, arith, eqb-true}
use Rattle.std.proofs.Math.Bool.{or-true}
use Rattle.std.proofs.Math.Option.{none, some}
use Rattle.text.specs.definitions.Bytes.{bytes, same, digit, all, canonical, is_empty, value_from, decimal, read_nat, read_int, write_int}
use Rattle.text.specs.definitions.Bytes.{below0}
use Rattle.text.specs.definitions.Bytes.{from0, is_some}
use Rattle.text.specs.definitions.FormReading.{int_begun}
use Rattle.text_laws.specs.laws.Bytes.{and_l, and_r, and_i}
use Rattle.text_laws.specs.laws.Numerals.{no_none, Leading, leading-canonical, leading-decimal, canonical-decimal, decimal-canonical}
use Rattle.text_laws.specs.laws.Numerals.{read-unsigned, decimal-short}

-- ---- digits at the front of digits
all-front : (p : ℕ → Bool) (v w : List ℕ) → all p (v ++ w) ≡ true → all p v ≡ true
all-front p [] w e = refl
all-front p (x ∷ v) w e = and_i (and_l (p x) (all p (v ++ w)) e) (all-front p v w (and_r (p x) (all p (v ++ w)) e))

pub all_back : (p : ℕ → Bool) (v w : List ℕ) → all p (v ++ w) ≡ true → all p w ≡ true
all_back p [] w e = e
all_back p (x ∷ v) w e = all_back p v w (and_r (p x) (all p (v ++ w)) e)

empty-front : (v w : List ℕ) → is_empty (v ++ w) ≡ true → is_empty v ≡ true
empty-front [] w e = refl
empty-front (x ∷ v) w e = absurd (true≢false (sym e))

empty-digits : (v : List ℕ) → is_empty v ≡ true → all digit v ≡ true
empty-digits [] e = refl
empty-digits (x ∷ v) e = absurd (true≢false (sym e))

pub canonical-front : (x : ℕ) (v w : List ℕ) → canonical (x ∷ v ++ w) ≡ true → canonical (x ∷ v) ≡ true
canonical-front x v w e = go (eqb x 48) refl
  where
    go : (b : Bool) → eqb x 48 ≡ b → canonical (x ∷ v) ≡ true
    go true k = rw (k, canonical) (empty-front v w (rw (k, canonical) at e))
    go false k =
        let d : (digit x && all digit (v ++ w)) ≡ true = rw (k, canonical) at e in
        rw (k, canonical) (and_i (and_l (digit x) (all digit (v ++ w)) d) (all-front digit v w (and_r (digit x) (all digit (v ++ w)) d)))

canonical-tail : (x : ℕ) (v : List ℕ) → canonical (x ∷ v) ≡ true → all digit v ≡ true
canonical-tail x v e = go (eqb x 48) refl
  where
    go : (b : Bool) → eqb x 48 ≡ b → all digit v ≡ true
    go true k = empty-digits v (rw (k, canonical) at e)
    go false k = let d : (digit x && all digit v) ≡ true = rw (k, canonical) at e in and_r (digit x) (all digit v) d

leading-front : (x : ℕ) (v w : List ℕ) → Leading (x ∷ v ++ w) → Leading (x ∷ v)
leading-front x v w l = (l.0, l.1, all-front digit v w l.2)

-- ---- what is begun
pub begun-canonical : (w : List ℕ) → canonical w ≡ true → int_begun w ≡ true
unfolding read_nat
begun-canonical w c = rw (read-unsigned w c, c, or-true)

leading-value : (w : List ℕ) → Leading w → (n : ℕ) → value_from 0 w ≡ n → below0 (some n) ≡ none → ⊥
leading-value [] l n e h = l
leading-value (x ∷ w) l zero e h =
    let d : decimal 0 ≡ x ∷ w = ap decimal (sym e) ∙ decimal-canonical (x ∷ w) (leading-canonical (x ∷ w) l) in
    let i : 48 ∷ [] ≡ x ∷ w = sym (decimal-short 0 (omega arith)) ∙ d in
    let j : 48 ≡ x = cc in
    true≢false (let k : eqb 48 48 ≡ false = rw (← j) at l.0 in k)
leading-value (x ∷ w) l (suc n) e h = no_none (sym h)

pub begun-leading : (w : List ℕ) → Leading w → int_begun (45 ∷ w) ≡ true
unfolding read_int read_nat
begun-leading w l = rw (leading-canonical w l) (go (value_from 0 w) refl)
  where
    go : (n : ℕ) → value_from 0 w ≡ n → (same (45 ∷ w) (bytes "-") || is_some (below0 (some n))) ≡ true
    go zero e = absurd (leading-value w l zero e refl)
    go (suc n) e = or-true (same (45 ∷ w) (bytes "-"))

-- ---- behind its first byte an integer's text has digits alone
pub canonical-digits : (w : List ℕ) → canonical w ≡ true → all digit w ≡ true
canonical-digits [] c = refl
canonical-digits (x ∷ w) c = go (eqb x 48) refl
  where
    go : (b : Bool) → eqb x 48 ≡ b → (digit x && all digit w) ≡ true
    go true k = and_i (ap digit (eqb-true x 48 k)) (canonical-tail x w c)
    go false k = rw (k, canonical) at c

some_below : (w : List ℕ) → is_some (below0 (read_nat w)) ≡ true → all digit w ≡ true
unfolding read_nat
some_below w e = go (canonical w) refl
  where
    go : (b : Bool) → canonical w ≡ b → all digit w ≡ true
    go true k = canonical-digits w k
    go false k = absurd (true≢false (sym (rw k at e)))

some-from : (x : ℕ) (w : List ℕ) → is_some (from0 (read_nat (x ∷ w))) ≡ true → all digit w ≡ true
unfolding read_nat
some-from x w e = go (canonical (x ∷ w)) refl
  where
    go : (b : Bool) → canonical (x ∷ w) ≡ b → all digit w ≡ true
    go true k = canonical-tail x w k
    go false k = absurd (true≢false (sym (rw k at e)))

some-int : (x : ℕ) (w : List ℕ) → is_some (read_int (x ∷ w)) ≡ true → all digit w ≡ true
unfolding read_int
some-int x w e = go (eqb x 45) refl
  where
    go : (b : Bool) → eqb x 45 ≡ b → all digit w ≡ true
    go true k = some_below w (rw (k, read_int) at e)
    go false k = some-from x w (rw (k, read_int) at e)

pub begun-tail : (x : ℕ) (w : List ℕ) → int_begun (x ∷ w) ≡ true → all digit w ≡ true
begun-tail x w e = go (same (x ∷ w) (bytes "-")) refl
  where
    lone : (v : List ℕ) → same (x ∷ v) (bytes "-") ≡ true → all digit v ≡ true
    lone [] i = refl
    lone (y ∷ v) i = absurd (true≢false (sym (and_r (eqb x 45) false i)))

    go : (b : Bool) → same (x ∷ w) (bytes "-") ≡ b → all digit w ≡ true
    go true k = lone w k
    go false k = some-int x w (let h : (false || is_some (read_int (x ∷ w))) ≡ true = rw k at e in h)

-- so it does not go on with any other byte
pub begun-stop : (x : ℕ) (w : List ℕ) (b : ℕ) → digit b ≡ false → int_begun (x ∷ w ++ (b ∷ [])) ≡ false
begun-stop x w b d = go (int_begun (x ∷ w ++ (b ∷ []))) refl
  where
    go : (c : Bool) → int_begun (x ∷ w ++ (b ∷ [])) ≡ c → int_begun (x ∷ w ++ (b ∷ [])) ≡ false
    go true k = absurd (true≢false (sym (and_l (digit b) true (all_back digit w (b ∷ []) (begun-tail x (w ++ (b ∷ [])) k))) ∙ d))
    go false k = k

-- ---- byte by byte: behind w each byte of v keeps the test
abbrev pub Grows : (List ℕ → Bool) → List ℕ → List ℕ → Type 0
Grows t w [] = Unit {0}
Grows t w (b ∷ v) = (t (w ++ (b ∷ [])) ≡ true) × Grows t (w ++ (b ∷ [])) v

abbrev Full : List ℕ → Type 0
Full [] = ⊥
Full (x ∷ w) = Unit {0}

full-snoc : (w : List ℕ) (b : ℕ) → Full (w ++ (b ∷ []))
full-snoc [] b = tt
full-snoc (x ∷ w) b = tt

grows : (t : List ℕ → Bool) (P : List ℕ → Type 0) → ((u v : List ℕ) → P (u ++ v) → Full u → P u) → ((u : List ℕ) → P u → t u ≡ true)
    → (v w : List ℕ) → P (w ++ v) → Grows t w v
grows t P front holds [] w p = tt
grows t P front holds (b ∷ v) w p =
    let q : P ((w ++ (b ∷ [])) ++ v) = rw (append_assoc w (b ∷ []) v) p in
    (holds (w ++ (b ∷ [])) (front (w ++ (b ∷ [])) v q (full-snoc w b)), grows t P front holds v (w ++ (b ∷ [])) q)

abbrev Canonical : List ℕ → Type 0
Canonical w = canonical w ≡ true

front-canonical : (u v : List ℕ) → Canonical (u ++ v) → Full u → Canonical u
front-canonical [] v c f = absurd f
front-canonical (x ∷ u) v c f = canonical-front x u v c

-- `-` and digits that do not begin with 0
abbrev Minus : List ℕ → Type 0
Minus [] = ⊥
Minus (x ∷ []) = x ≡ 45
Minus (x ∷ y ∷ v) = (x ≡ 45) × Leading (y ∷ v)

front-minus : (u v : List ℕ) → Minus (u ++ v) → Full u → Minus u
front-minus [] v m f = absurd f
front-minus (x ∷ []) [] m f = m
front-minus (x ∷ []) (y ∷ v) m f = m.0
front-minus (x ∷ y ∷ u) v m f = (m.0, leading-front y u v m.1)

minus-begun : (u : List ℕ) → Minus u → int_begun u ≡ true
minus-begun [] m = absurd m
minus-begun (x ∷ []) m = rw m refl
minus-begun (x ∷ y ∷ v) m = rw m.0 (begun-leading (y ∷ v) m.1)

minus-leading : (w : List ℕ) → Leading w → Minus (45 ∷ w)
minus-leading [] l = absurd l
minus-leading (y ∷ w) l = (refl, l)

pub grows-nat : (n : ℕ) → Grows canonical [] (decimal n)
grows-nat n = grows canonical Canonical front-canonical (λ u c. c) (decimal n) [] (canonical-decimal n)

pub grows-int : (z : ℤ) → Grows int_begun [] (write_int z)
grows-int (pos n) = grows int_begun Canonical front-canonical begun-canonical (decimal n) [] (canonical-decimal n)
grows-int (negsuc n) =
    grows int_begun Minus front-minus minus-begun (write_int (negsuc n)) [] (minus-leading (decimal (suc n)) (leading-decimal n))

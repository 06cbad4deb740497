-- Reading an integer's text gives the integer back, and only its own text does.
use Rattle.std.specs.Prelude.{Bool, true, false, ◌&&◌, ◌≡◌, refl, ℕ, zero, suc, ◌+◌, ◌-◌, ◌*◌, ◌/◌, ◌%◌, ◌≤◌, ◌<◌, ltb, eqb, ℤ, pos, negsuc}
use Rattle.std.proofs.Common.{true≢false, sym, ap, ap₂, ◌∙◌, arith, ltb-true, ltb-false, lt-ltb, le-ltb, eqb-true, ne_eqb}
use mathlib.Core.List.{List, [], ◌∷◌, ◌++◌, append_assoc}
use Rattle.std.proofs.Math.Option.{Option, none, some}
use Rattle.std.proofs.lemmas.Bool.{eqb-false}
use Rattle.text.specs.definitions.Bytes.{digit, all, decimal_f, decimal, write_int, canonical, is_empty, value_from, read_nat, below0, from0}
use Rattle.text.specs.definitions.Bytes.{read_int}
use Rattle.text_laws.specs.laws.Bytes.{and_l, and_r, and_i, digit-range, range-digit, all_append}

pub no_none : {A : Type 0} {a : A} {P : Type 0} → ◌≡◌ {A = Option A} none (some a) → P
no_none e = let z : ◌≡◌ {A = ℕ} 0 1 = cc in absurd (omega arith)

-- ---- writing
dec_f-short : (k n : ℕ) → n < 10 → decimal_f (suc k) n ≡ (48 + n) ∷ []
dec_f-short k n h = rw (lt-ltb n 10 h, decimal_f)

dec_f-long : (k n : ℕ) → 10 ≤ n → decimal_f (suc k) n ≡ decimal_f k (n / 10) ++ ((48 + n % 10) ∷ [])
dec_f-long k n h = rw (le-ltb n 10 h, decimal_f)

-- by the number of digits
pub short-or-long : (n : ℕ) → (P : Type 0) → (n < 10 → P) → (10 ≤ n → P) → P
short-or-long n P f g = go (ltb n 10) refl
  where
    go : (b : Bool) → ltb n 10 ≡ b → P
    go true e = f (ltb-true n 10 e)
    go false e = g (ltb-false n 10 e)

-- any k above n is enough
dec_f-any : (j k n : ℕ) → n < j → n < k → decimal_f j n ≡ decimal_f k n
dec_f-any zero k n h h' = absurd (omega arith)
dec_f-any (suc j) zero n h h' = absurd (omega arith)
dec_f-any (suc j) (suc k) n h h' =
    short-or-long n (decimal_f (suc j) n ≡ decimal_f (suc k) n)
    (λ s. dec_f-short j n s ∙ sym (dec_f-short k n s))
    (λ l. dec_f-long j n l ∙ ap (λ (w : List ℕ). w ++ ((48 + n % 10) ∷ [])) (dec_f-any j k (n / 10) (omega arith) (omega arith))
    ∙ sym (dec_f-long k n l))

pub decimal-short : (n : ℕ) → n < 10 → decimal n ≡ (48 + n) ∷ []
unfolding decimal
decimal-short n h = dec_f-short n n h

pub decimal-long : (n : ℕ) → 10 ≤ n → decimal n ≡ decimal (n / 10) ++ ((48 + n % 10) ∷ [])
unfolding decimal
decimal-long n h =
    dec_f-long n n h ∙ ap (λ (w : List ℕ). w ++ ((48 + n % 10) ∷ [])) (dec_f-any n (suc (n / 10)) (n / 10) (omega arith) (omega arith))

-- one more digit
pub decimal_digit : (a x : ℕ) → 0 < a → 48 ≤ x → x ≤ 57 → decimal (a * 10 + (x - 48)) ≡ decimal a ++ (x ∷ [])
decimal_digit a x h l u =
    decimal-long (a * 10 + (x - 48)) (omega arith)
    ∙ ap₂ (λ (n m : ℕ). decimal n ++ (m ∷ [])) (let e : (a * 10 + (x - 48)) / 10 ≡ a = omega arith in e)
    (let e : 48 + (a * 10 + (x - 48)) % 10 ≡ x = omega arith in e)

-- ---- what was read is written
pub decimal-value : (a : ℕ) (w : List ℕ) → 0 < a → all digit w ≡ true → decimal (value_from a w) ≡ decimal a ++ w
decimal-value a [] h d = sym (mathlib.Core.List.append-nil (decimal a))
decimal-value a (x ∷ w) h d =
    let r = digit-range x (and_l (digit x) (all digit w) d) in
    decimal-value (a * 10 + (x - 48)) w (omega arith) (and_r (digit x) (all digit w) d)
    ∙ ap (λ (v : List ℕ). v ++ w) (decimal_digit a x h r.0 r.1)
    ∙ append_assoc (decimal a) (x ∷ []) w

pub decimal-canonical : (w : List ℕ) → canonical w ≡ true → decimal (value_from 0 w) ≡ w
decimal-canonical [] c = absurd (true≢false (sym c))
decimal-canonical (x ∷ w) c = go (eqb x 48) refl
  where
    from_zero : (v : List ℕ) → x ≡ 48 → is_empty v ≡ true → decimal (value_from (0 * 10 + (x - 48)) v) ≡ x ∷ v
    from_zero [] e h = rw e (decimal-short 0 (omega arith))
    from_zero (y ∷ v) e h = absurd (true≢false (sym h))

    from-digit : (x ≡ 48 → ⊥) → (digit x && all digit w) ≡ true → decimal (value_from (0 * 10 + (x - 48)) w) ≡ x ∷ w
    from-digit n d =
        let r = digit-range x (and_l (digit x) (all digit w) d) in
        decimal-value (0 * 10 + (x - 48)) w (omega arith) (and_r (digit x) (all digit w) d)
        ∙ ap (λ (v : List ℕ). v ++ w) (decimal-short (0 * 10 + (x - 48)) (omega arith)
        ∙ ap (λ (z : ℕ). z ∷ []) (let e : 48 + (0 * 10 + (x - 48)) ≡ x = omega arith in e))

    go : (b : Bool) → eqb x 48 ≡ b → decimal (value_from 0 (x ∷ w)) ≡ x ∷ w
    go true e = from_zero w (eqb-true x 48 e) (rw (e, canonical) at c)
    go false e = from-digit (eqb-false x 48 e) (rw (e, canonical) at c)

-- ---- what was written is read
value-append : (a : ℕ) (v w : List ℕ) → value_from a (v ++ w) ≡ value_from (value_from a v) w
value-append a [] w = refl
value-append a (x ∷ v) w = value-append (a * 10 + (x - 48)) v w

value-dec_f : (k n : ℕ) → n < k → value_from 0 (decimal_f k n) ≡ n
value-dec_f zero n h = absurd (omega arith)
value-dec_f (suc k) n h =
    short-or-long n (value_from 0 (decimal_f (suc k) n) ≡ n)
    (λ s. ap (value_from 0) (dec_f-short k n s) ∙ (let e : 0 * 10 + (48 + n - 48) ≡ n = omega arith in e))
    (λ l. ap (value_from 0) (dec_f-long k n l) ∙ value-append 0 (decimal_f k (n / 10)) ((48 + n % 10) ∷ [])
    ∙ ap (λ (a : ℕ). a * 10 + (48 + n % 10 - 48)) (value-dec_f k (n / 10) (omega arith))
    ∙ (let e : n / 10 * 10 + (48 + n % 10 - 48) ≡ n = omega arith in e))

pub value-decimal : (n : ℕ) → value_from 0 (decimal n) ≡ n
unfolding decimal
value-decimal n = value-dec_f (suc n) n (omega arith)

-- digits that do not begin with 0
abbrev pub Leading : List ℕ → Type 0
Leading [] = ⊥
Leading (x ∷ w) = (eqb x 48 ≡ false) × (digit x ≡ true) × (all digit w ≡ true)

pub leading-more : (w : List ℕ) (x : ℕ) → Leading w → digit x ≡ true → Leading (w ++ (x ∷ []))
leading-more [] x l d = absurd l
leading-more (y ∷ w) x l d = (l.0, l.1, all_append digit w (x ∷ []) l.2 (and_i d refl))

dec_f-leading : (k n : ℕ) → n < k → 0 < n → Leading (decimal_f k n)
dec_f-leading zero n h p = absurd (omega arith)
dec_f-leading (suc k) n h p =
    short-or-long n (Leading (decimal_f (suc k) n))
    (λ s. rw (dec_f-short k n s) (ne_eqb (48 + n) 48 (omega arith), range-digit (48 + n) (omega arith) (omega arith), refl))
    (λ l. rw (dec_f-long k n l) (leading-more (decimal_f k (n / 10)) (48 + n % 10) (dec_f-leading k (n / 10) (omega arith) (omega arith))
    (range-digit (48 + n % 10) (omega arith) (omega arith))))

pub leading-canonical : (w : List ℕ) → Leading w → canonical w ≡ true
leading-canonical [] l = absurd l
leading-canonical (x ∷ w) l = rw (l.0, canonical) (and_i l.1 l.2)

pub canonical-decimal : (n : ℕ) → canonical (decimal n) ≡ true
unfolding decimal
canonical-decimal zero = refl
canonical-decimal (suc n) = leading-canonical (decimal (suc n)) (dec_f-leading (suc (suc n)) (suc n) (omega arith) (omega arith))

pub leading-decimal : (n : ℕ) → Leading (decimal (suc n))
unfolding decimal
leading-decimal n = dec_f-leading (suc (suc n)) (suc n) (omega arith) (omega arith)

pub read-decimal : (n : ℕ) → read_nat (decimal n) ≡ some n
unfolding read_nat
read-decimal n = rw (canonical-decimal n, value-decimal n)

pub decimal-read : (w : List ℕ) (n : ℕ) → read_nat w ≡ some n → decimal n ≡ w
unfolding read_nat
decimal-read w n e = go (canonical w) refl
  where
    go : (b : Bool) → canonical w ≡ b → decimal n ≡ w
    go true c =
        let h : some (value_from 0 w) ≡ some n = rw c at e in ap decimal (let i : n ≡ value_from 0 w = cc in i) ∙ decimal-canonical w c
    go false c = no_none (rw c at e)

-- ---- integers
canonical-front : (x : ℕ) (w : List ℕ) → canonical (x ∷ w) ≡ true → 48 ≤ x
canonical-front x w c = go (eqb x 48) refl
  where
    go : (b : Bool) → eqb x 48 ≡ b → 48 ≤ x
    go true e = omega (arith, eqb-true x 48 e)
    go false e = let d : (digit x && all digit w) ≡ true = rw (e, canonical) at c in (digit-range x (and_l (digit x) (all digit w) d)).0

pub read-unsigned : (w : List ℕ) → canonical w ≡ true → read_int w ≡ from0 (read_nat w)
unfolding read_int
read-unsigned [] c = absurd (true≢false (sym c))
read-unsigned (x ∷ w) c = let h = canonical-front x w c in rw (ne_eqb x 45 (omega arith), read_int)

pub read-int : (z : ℤ) → read_int (write_int z) ≡ some z
unfolding read_int
read-int (pos n) = read-unsigned (decimal n) (canonical-decimal n) ∙ ap from0 (read-decimal n)
read-int (negsuc n) = ap below0 (read-decimal (suc n))

int-below : (w : List ℕ) (z : ℤ) (r : Option ℕ) → read_nat w ≡ r → below0 r ≡ some z → write_int z ≡ 45 ∷ w
int-below w z none e h = no_none h
int-below w z (some zero) e h = no_none h
int-below w z (some (suc n)) e h = ap write_int (let i : z ≡ negsuc n = cc in i) ∙ ap (λ (v : List ℕ). 45 ∷ v) (decimal-read w (suc n) e)

int-from : (w : List ℕ) (z : ℤ) (r : Option ℕ) → read_nat w ≡ r → from0 r ≡ some z → write_int z ≡ w
int-from w z none e h = no_none h
int-from w z (some n) e h = ap write_int (let i : z ≡ pos n = cc in i) ∙ decimal-read w n e

pub int-read : (w : List ℕ) (z : ℤ) → read_int w ≡ some z → write_int z ≡ w
unfolding read_int
int-read [] z e = no_none e
int-read (x ∷ w) z e = go (eqb x 45) refl
  where
    go : (b : Bool) → eqb x 45 ≡ b → write_int z ≡ x ∷ w
    go true t = int-below w z (read_nat w) refl (rw (t, read_int) at e) ∙ ap (λ (y : ℕ). y ∷ w) (sym (eqb-true x 45 t))
    go false f = int-from (x ∷ w) z (read_nat (x ∷ w)) refl (rw (f, read_int) at e)

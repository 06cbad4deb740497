-- The tokens of a text are those that it is parted into, and no others: by what stands at a place, a blank is passed over, a parenthesis
-- is a token, and a longest run is a word.
use Rattle.std.specs.Prelude.{Bool, true, false, List, [], ◌∷◌, ◌++◌, ◌↔◌, ◌≡◌, refl, ℕ, suc, ◌+◌, ◌≤◌, eqb, length}
use Rattle.std.proofs.Common.{true≢false, sym, ◌∙◌, subst, arith, eq-eqb, ne_eqb, eqb-true}
use Rattle.std.proofs.Math.Path.{ap}
use Rattle.text.specs.definitions.Bytes.{all, blank, Token, opening, closing, word, place_of, Class, gap, left, right, plain}
use Rattle.text.specs.definitions.Bytes.{in_word, Ends, Parted, nothing, a-blank, an-opening, a-closing, a_word}
use Rattle.text.specs.definitions.Bytes.{class_of, join, put, tokens}
use Rattle.text_laws.specs.laws.Bytes.{and_l, and_r, and_i}

-- ---- the class of a byte
abbrev class_by : Bool → Bool → Bool → Class
class_by a b c = elim a [ true ↦ gap | false ↦ elim b [ true ↦ left | false ↦ elim c [ true ↦ right | false ↦ plain ] ] ]

class-gap : (x : ℕ) → blank x ≡ true → class_of x ≡ gap
class-gap x h = ap (λ a. class_by a (eqb x 40) (eqb x 41)) h

-- a byte of a word, or what else it is
data Kind (x : ℕ) : Type 0 where
  in-word : in_word x ≡ true → class_of x ≡ plain → Kind x
  a-gap : blank x ≡ true → Kind x
  a-left : x ≡ 40 → Kind x
  a-right : x ≡ 41 → Kind x

kind : (x : ℕ) → Kind x
kind x = at (blank x) refl (eqb x 40) refl (eqb x 41) refl
  where
    at : (a : Bool) → blank x ≡ a → (b : Bool) → eqb x 40 ≡ b → (c : Bool) → eqb x 41 ≡ c → Kind x
    at true ea b eb c ec = a-gap ea
    at false ea true eb c ec = a-left (eqb-true x 40 eb)
    at false ea false eb true ec = a-right (eqb-true x 41 ec)
    at false ea false eb false ec = in-word (simp (ea, eb, ec)) (λ t. class_by (ea t) (eb t) (ec t))

gap_ends : (x : ℕ) → blank x ≡ true → in_word x ≡ false
gap_ends x h = simp h

-- ---- the tokens from a place on, by one byte
module _ (p x : ℕ) (s : List ℕ) where
  pub tokens-gap : blank x ≡ true → tokens p (x ∷ s) ≡ tokens (suc p) s
  unfolding tokens
  tokens-gap h = ap (λ c. put c p x (tokens (suc p) s)) (class-gap x h)

  pub tokens-open : x ≡ 40 → tokens p (x ∷ s) ≡ opening p ∷ tokens (suc p) s
  unfolding tokens
  tokens-open e = ap (λ b. put (class_of b) p x (tokens (suc p) s)) e

  pub tokens-close : x ≡ 41 → tokens p (x ∷ s) ≡ closing p ∷ tokens (suc p) s
  unfolding tokens
  tokens-close e = ap (λ b. put (class_of b) p x (tokens (suc p) s)) e

  tokens-join : class_of x ≡ plain → tokens p (x ∷ s) ≡ join p x (tokens (suc p) s)
  unfolding tokens
  tokens-join h = ap (λ c. put c p x (tokens (suc p) s)) h

-- ---- a text is parted into its tokens
-- the first token stands at p or later
abbrev Starts : ℕ → List Token → Type 0
Starts p [] = Unit {0}
Starts p (k ∷ ks) = p ≤ place_of k

starts-later : (p : ℕ) (ts : List Token) → Starts (suc p) ts → Starts p ts
starts-later p [] h = tt
starts-later p (k ∷ ks) h = omega arith

starts : (p : ℕ) (s : List ℕ) (ts : List Token) → Parted p s ts → Starts p ts
starts p _ _ (nothing _) = tt
starts p _ _ (a-blank _ x s ts b h) = starts-later p ts (starts (suc p) s ts h)
starts p _ _ (an-opening _ s ts h) = omega arith
starts p _ _ (a-closing _ s ts h) = omega arith
starts p _ _ (a_word _ w s ts n a e h) = omega arith

-- a byte does not join a word that stands apart
join_apart : (p x : ℕ) (ts : List Token) → Starts (suc (suc p)) ts → join p x ts ≡ word p (x ∷ []) ∷ ts
join_apart p x [] h = refl
join_apart p x (opening q ∷ ts) h = refl
join_apart p x (closing q ∷ ts) h = refl
join_apart p x (word q w ∷ ts) h =
    ap (λ b. elim b [ true ↦ word p (x ∷ w) ∷ ts | false ↦ word p (x ∷ []) ∷ word q w ∷ ts ]) (ne_eqb q (suc p) (λ e. omega arith))

-- it joins the word that starts right behind it
join-next : (p x : ℕ) (w : List ℕ) (ts : List Token) → join p x (word (suc p) w ∷ ts) ≡ word p (x ∷ w) ∷ ts
join-next p x w ts =
    ap (λ b. elim b [ true ↦ word p (x ∷ w) ∷ ts | false ↦ word p (x ∷ []) ∷ word (suc p) w ∷ ts ]) (eq-eqb (suc p) (suc p) refl)

not-empty : (x : ℕ) (w : List ℕ) → x ∷ w ≡ [] → ⊥
not-empty x w e = let o : suc (length w) ≡ 0 = ap length e in omega arith

-- a word of one byte
lone : (p x : ℕ) (s : List ℕ) (ts : List Token) → in_word x ≡ true → Ends s → Parted (suc p) s ts → Parted p (x ∷ s) (word p (x ∷ []) ∷ ts)
lone p x s ts h e k =
    a_word p (x ∷ []) s ts (not-empty x []) (and_i h refl) e
    (subst (λ q. Parted q s ts) (let o : suc p ≡ p + 1 = omega arith in o) k)

joined : (p x : ℕ) (s : List ℕ) (ts : List Token) → in_word x ≡ true → Parted (suc p) s ts → Parted p (x ∷ s) (join p x ts)
joined p x _ _ h (nothing _) = lone p x [] [] h tt (nothing (suc p))
joined p x _ _ h (a-blank _ y s ts b k) =
    subst (Parted p (x ∷ y ∷ s)) (sym (join_apart p x ts (starts (suc (suc p)) s ts k)))
    (lone p x (y ∷ s) ts h (gap_ends y b) (a-blank (suc p) y s ts b k))
joined p x _ _ h (an-opening _ s ts k) = lone p x (40 ∷ s) (opening (suc p) ∷ ts) h refl (an-opening (suc p) s ts k)
joined p x _ _ h (a-closing _ s ts k) = lone p x (41 ∷ s) (closing (suc p) ∷ ts) h refl (a-closing (suc p) s ts k)
joined p x _ _ h (a_word _ w s ts n a e k) =
    subst (Parted p (x ∷ (w ++ s))) (sym (join-next p x w ts))
    (a_word p (x ∷ w) s ts (not-empty x w) (and_i h a) e
    (subst (λ q. Parted q s ts) (let o : suc p + length w ≡ p + suc (length w) = omega arith in o) k))

-- by its first byte
first_byte : (p x : ℕ) (s : List ℕ) → Kind x → Parted (suc p) s (tokens (suc p) s) → Parted p (x ∷ s) (tokens p (x ∷ s))
unfolding tokens
first_byte p x s (in-word h c) k = subst (Parted p (x ∷ s)) (sym (tokens-join p x s c)) (joined p x s (tokens (suc p) s) h k)
first_byte p x s (a-gap b) k = subst (Parted p (x ∷ s)) (sym (tokens-gap p x s b)) (a-blank p x s (tokens (suc p) s) b k)
first_byte p x s (a-left e) k = subst (λ y. Parted p (y ∷ s) (tokens p (y ∷ s))) (sym e) (an-opening p s (tokens (suc p) s) k)
first_byte p x s (a-right e) k = subst (λ y. Parted p (y ∷ s) (tokens p (y ∷ s))) (sym e) (a-closing p s (tokens (suc p) s) k)

parted : (p : ℕ) (s : List ℕ) → Parted p s (tokens p s)
unfolding tokens
parted p [] = nothing p
parted p (x ∷ s) = first_byte p x s (kind x) (parted (suc p) s)

-- ---- and into no others
-- the last byte of a run
join_last : (p x : ℕ) (s : List ℕ) → Ends s → join p x (tokens (suc p) s) ≡ word p (x ∷ []) ∷ tokens (suc p) s
unfolding tokens
join_last p x [] e = refl
join_last p x (y ∷ s) e = at (kind y)
  where
    at : Kind y → join p x (tokens (suc p) (y ∷ s)) ≡ word p (x ∷ []) ∷ tokens (suc p) (y ∷ s)
    at (in-word h c) = absurd (true≢false (sym h ∙ e))
    at (a-gap b) =
        subst (λ ts. join p x ts ≡ word p (x ∷ []) ∷ ts) (sym (tokens-gap (suc p) y s b))
        (join_apart p x (tokens (suc (suc p)) s) (starts (suc (suc p)) s (tokens (suc (suc p)) s) (parted (suc (suc p)) s)))
    at (a-left i) = subst (λ ts. join p x ts ≡ word p (x ∷ []) ∷ ts) (sym (tokens-open (suc p) y s i)) refl
    at (a-right i) = subst (λ ts. join p x ts ≡ word p (x ∷ []) ∷ ts) (sym (tokens-close (suc p) y s i)) refl

in-word-plain : (x : ℕ) → in_word x ≡ true → class_of x ≡ plain
in-word-plain x h = at (kind x)
  where
    at : Kind x → class_of x ≡ plain
    at (in-word k c) = c
    at (a-gap b) = absurd (true≢false (sym h ∙ gap_ends x b))
    at (a-left e) = absurd (true≢false (sym h ∙ ap in_word e))
    at (a-right e) = absurd (true≢false (sym h ∙ ap in_word e))

-- a longest run is a word
pub tokens-word :
    (p : ℕ) (w s : List ℕ) → (w ≡ [] → ⊥) → all in_word w ≡ true → Ends s → tokens p (w ++ s) ≡ word p w ∷ tokens (p + length w) s
tokens-word p [] s n a e = absurd (n refl)
tokens-word p (x ∷ []) s n a e =
    tokens-join p x s (in-word-plain x (and_l (in_word x) true a)) ∙ join_last p x s e
    ∙ ap (λ q. word p (x ∷ []) ∷ tokens q s) (let o : suc p ≡ p + 1 = omega arith in o)
tokens-word p (x ∷ y ∷ w) s n a e =
    tokens-join p x (y ∷ (w ++ s)) (in-word-plain x (and_l (in_word x) (all in_word (y ∷ w)) a))
    ∙ ap (join p x) (tokens-word (suc p) (y ∷ w) s (not-empty y w) (and_r (in_word x) (all in_word (y ∷ w)) a) e)
    ∙ join-next p x (y ∷ w) (tokens (suc p + suc (length w)) s)
    ∙ ap (λ q. word p (x ∷ y ∷ w) ∷ tokens q s) (let o : suc p + suc (length w) ≡ p + suc (suc (length w)) = omega arith in o)

only : (p : ℕ) (s : List ℕ) (ts : List Token) → Parted p s ts → tokens p s ≡ ts
unfolding tokens
only p _ _ (nothing _) = refl
only p _ _ (a-blank _ x s ts b h) = tokens-gap p x s b ∙ only (suc p) s ts h
only p _ _ (an-opening _ s ts h) = ap (λ (us : List Token). opening p ∷ us) (only (suc p) s ts h)
only p _ _ (a-closing _ s ts h) = ap (λ (us : List Token). closing p ∷ us) (only (suc p) s ts h)
only p _ _ (a_word _ w s ts n a e h) =
    tokens-word p w s n a e ∙ ap (λ (us : List Token). word p w ∷ us) (only (p + length w) s ts h)

pub tokens-are : (p : ℕ) (s : List ℕ) (ts : List Token) → (tokens p s ≡ ts) ↔ Parted p s ts
tokens-are p s ts = (λ e. subst (Parted p s) e (parted p s), only p s ts)

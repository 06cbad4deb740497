-- What stands at a place of a text, and what each answer of the token reader says of it.
use Rattle.std.specs.Prelude.{◌≡◌, refl, ◌⊎◌, Bool, true, false, not, ◌&&◌, List, [], ◌∷◌, ℕ, suc, ◌+◌, ◌-◌, ◌≤◌, ◌<◌, eqb, length, take, drop}
use Rattle.std.proofs.Common.{sym, ◌∙◌, subst, inl, inr, arith, add-one, drop_of_length-le, length-drop, drop-cons, drop-drop, length-take-le, get_or-drop, ne_eqb, eqb-true}
use Rattle.std.proofs.Math.Path.{ap}
use Rattle.std.proofs.Math.ListN.{get_or}
use Rattle.std.proofs.lemmas.Bool.{eqb-false}
use Rattle.horner.proofs.laws.Compare.{lt-or-ge}
use Rattle.text.specs.definitions.Bytes.{blank, Token, opening, closing, word, tokens, in_word}
use Rattle.text_laws.specs.laws.Tokens.{tokens-gap, tokens-open, tokens-close}
use Rattle.term_token.specs.declared.Reader.{Reader}
use Rattle.term_token.specs.declared.Step.{Step}
use Rattle.term_token.specs.declared.Step.TheVariants.{Open, Close, Word, End}
use Rattle.term_token.specs.Steps.{more, lead, step_of}
use Rattle.term_token.specs.Tokens.{lead-le, tokens-run}

-- ---- the bytes that pass a test
-- where they end, the test fails
lead-stop : (t : ℕ → Bool) (xs : List ℕ) → lead t xs < length xs → t (get_or xs (lead t xs) 0) ≡ false
unfolding lead
lead-stop t [] h = absurd (omega arith)
lead-stop t (x ∷ xs) h = at (t x) refl h (lead-stop t xs)
  where
    at :
        (b : Bool) → t x ≡ b → more b (lead t xs) < suc (length xs) → (lead t xs < length xs → t (get_or xs (lead t xs) 0) ≡ false) →
        t (get_or (x ∷ xs) (more b (lead t xs)) 0) ≡ false
    at true e g r = r (omega arith)
    at false e g r = e

tokens-skip : (p : ℕ) (xs : List ℕ) → tokens p xs ≡ tokens (p + lead blank xs) (drop (lead blank xs) xs)
unfolding lead
tokens-skip p [] = ap (λ q. tokens q []) (omega arith)
tokens-skip p (x ∷ xs) = at (blank x) refl (tokens-skip (suc p) xs)
  where
    at : (b : Bool) → blank x ≡ b → tokens (suc p) xs ≡ tokens (suc p + lead blank xs) (drop (lead blank xs) xs)
        → tokens p (x ∷ xs) ≡ tokens (p + more b (lead blank xs)) (drop (more b (lead blank xs)) (x ∷ xs))
    at true e r = tokens-gap p x xs e ∙ r ∙ ap (λ q. tokens q (drop (lead blank xs) xs)) (omega arith)
    at false e r = ap (λ q. tokens q (x ∷ xs)) (omega arith)

-- ---- what stands at a place
module _ (s : List ℕ) where
  -- the tokens from the place i on
  abbrev pub from : ℕ → List Token
  from i = tokens i (drop i s)

  -- the first place from i on that has no blank
  abbrev pub begin : ℕ → ℕ
  begin i = i + lead blank (drop i s)

  from-begin : (i : ℕ) → from i ≡ from (begin i)
  from-begin i = tokens-skip i (drop i s) ∙ ap (tokens (begin i)) (drop-drop (lead blank (drop i s)) i s)

  module _ (b : ℕ) (inside : b < length s) where
    from_cons : from b ≡ tokens b (get_or s b 0 ∷ drop (suc b) s)
    from_cons = ap (tokens b) (drop-cons s b 0 inside)

    from-open : get_or s b 0 ≡ 40 → from b ≡ opening b ∷ from (suc b)
    from-open e = from_cons ∙ tokens-open b (get_or s b 0) (drop (suc b) s) e

    from-close : get_or s b 0 ≡ 41 → from b ≡ closing b ∷ from (suc b)
    from-close e = from_cons ∙ tokens-close b (get_or s b 0) (drop (suc b) s) e

    from-word : (n : ℕ) → lead in_word (drop b s) ≡ suc n → from b ≡ word b (take (suc n) (drop b s)) ∷ from (b + suc n)
    from-word n e =
        tokens-run b (drop b s) n e ∙ ap (λ ys. word b (take (suc n) (drop b s)) ∷ tokens (b + suc n) ys) (drop-drop (suc n) b s)

  from_end : (b : ℕ) → length s ≤ b → from b ≡ []
  unfolding tokens
  from_end b h = ap (tokens b) (drop_of_length-le s {i = b} h)

  -- at the first place that has no blank there is none
  begin-no-blank : (i : ℕ) → i ≤ length s → begin i < length s → blank (get_or s (begin i) 0) ≡ false
  begin-no-blank i l h =
      ap blank (sym (get_or-drop i s (lead blank (drop i s)) 0)) ∙ lead-stop blank (drop i s) (omega (arith, length-drop i s))

  -- a byte that is neither blank nor parenthesis begins a word
  lead-some : (b : ℕ) → b < length s → blank (get_or s b 0) ≡ false → (get_or s b 0 ≡ 40 → ⊥) → (get_or s b 0 ≡ 41 → ⊥)
      → lead in_word (drop b s) ≡ suc (lead in_word (drop (suc b) s))
  unfolding lead
  lead-some b h g l r =
      ap (lead in_word) (drop-cons s b 0 h)
      ∙ ap (λ c. more c (lead in_word (drop (suc b) s))) (three (blank x) (eqb x 40) (eqb x 41) g (ne_eqb x 40 l) (ne_eqb x 41 r))
    where
      x : ℕ
      x = get_or s b 0

      three : (a b c : Bool) → a ≡ false → b ≡ false → c ≡ false → (not a && (not b && not c)) ≡ true
      three a b c p q r = simp (p, q, r)

-- ---- what the answers say
-- the reader stands past a token at p
pub record Past (s : List ℕ) (at p past : ℕ) : Type 0 where
  pub later : at ≤ p
  pub more : p < past
  pub inside : past ≤ length s

pub record Opened (s : List ℕ) (at p : ℕ) (nx : Reader) : Type 0 where
  pub first : from s at ≡ opening p ∷ from s nx.at
  pub past : Past s at p nx.at

pub record Closed (s : List ℕ) (at p : ℕ) (nx : Reader) : Type 0 where
  pub first : from s at ≡ closing p ∷ from s nx.at
  pub past : Past s at p nx.at

pub record Worded (s : List ℕ) (at p : ℕ) (nx : Reader) : Type 0 where
  pub first : from s at ≡ word p (take (nx.at - p) (drop p s)) ∷ from s nx.at
  pub past : Past s at p nx.at

-- by the answer
abbrev pub Says : List ℕ → ℕ → Step → Type 0
Says s at (Open p nx) = Opened s at p nx
Says s at (Close p nx) = Closed s at p nx
Says s at (Word p nx) = Worded s at p nx
Says s at End = from s at ≡ []

-- ---- the answer is what it says
module _ (s : List ℕ) (at : ℕ) (l : at ≤ length s) where
  begin-le : begin s at ≤ length s
  begin-le = omega (arith, lead-le blank (drop at s), length-drop at s)

  pub says-end : length s ≤ begin s at → from s at ≡ []
  says-end h = from-begin s at ∙ from_end s (begin s at) h

  one-past : begin s at < length s → Past s at (begin s at) (begin s at + 1)
  one-past h = record { later = omega arith; more = omega arith; inside = omega arith }

  pub says-open : begin s at < length s → get_or s (begin s at) 0 ≡ 40 → Opened s at (begin s at) (record { at = begin s at + 1 })
  says-open h e =
      record {
        first = from-begin s at ∙ from-open s (begin s at) h e
            ∙ ap (λ q. opening (begin s at) ∷ from s q) (sym (add-one (begin s at)));
        past = one-past h;
      }

  pub says-close : begin s at < length s → get_or s (begin s at) 0 ≡ 41 → Closed s at (begin s at) (record { at = begin s at + 1 })
  says-close h e =
      record {
        first = from-begin s at ∙ from-close s (begin s at) h e
            ∙ ap (λ q. closing (begin s at) ∷ from s q) (sym (add-one (begin s at)));
        past = one-past h;
      }

  -- the run from the first place that has no blank
  abbrev pub width : ℕ
  width = lead in_word (drop (begin s at) s)

  width-le : begin s at + width ≤ length s
  width-le = omega (arith, lead-le in_word (drop (begin s at) s), length-drop (begin s at) s, begin-le)

  pub says-word : begin s at < length s → (get_or s (begin s at) 0 ≡ 40 → ⊥) → (get_or s (begin s at) 0 ≡ 41 → ⊥)
      → Worded s at (begin s at) (record { at = begin s at + width })
  says-word h n m =
      let e : width ≡ suc (lead in_word (drop (suc (begin s at)) s)) = lead-some s (begin s at) h (begin-no-blank s at l h) n m in
      let f : begin s at + width - begin s at ≡ suc (lead in_word (drop (suc (begin s at)) s)) = omega arith in
      record {
        first =
            from-begin s at ∙ from-word s (begin s at) h (lead in_word (drop (suc (begin s at)) s)) e
            ∙ ap (λ q. word (begin s at) (take (suc (lead in_word (drop (suc (begin s at)) s))) (drop (begin s at) s)) ∷ from s
            (begin s at + q)) (sym e)
            ∙ ap (λ q. word (begin s at) (take q (drop (begin s at) s)) ∷ from s (begin s at + width)) (sym f);
        past = record { later = omega arith; more = omega arith; inside = width-le };
      }

-- ---- and the reader gives it
module _ (s : List ℕ) (at p : ℕ) (nx : Reader) where
  pub step-open : Opened s at p nx → nx.at ≡ p + 1 → step_of (from s at) ≡ Open p (record { at = p + 1 })
  step-open o e = ap step_of o.first

  pub step-close : Closed s at p nx → nx.at ≡ p + 1 → step_of (from s at) ≡ Close p (record { at = p + 1 })
  step-close o e = ap step_of o.first

  pub step-word : Worded s at p nx → step_of (from s at) ≡ Word p (record { at = nx.at })
  step-word o =
      ap step_of o.first
      ∙ ap (λ q. Word p (record { at = q })) (ap (λ m. p + m)
      (length-take-le (nx.at - p) (drop p s) (omega (arith, length-drop p s, o.past.inside))) ∙ omega (arith, o.past.more))

pub step_end : (s : List ℕ) (at : ℕ) → from s at ≡ [] → step_of (from s at) ≡ End
step_end s at e = ap step_of e

-- what the reader's answer says, whichever it is
pub says : (s : List ℕ) (at : ℕ) → at ≤ length s → Says s at (step_of (from s at))
says s at l = by_place (lt-or-ge (begin s at) (length s))
  where
    b : ℕ
    b = begin s at

    answer : (r : Step) → step_of (from s at) ≡ r → Says s at r → Says s at (step_of (from s at))
    answer r e h = subst (Says s at) (sym e) h

    by_byte : b < length s → (x y : Bool) → eqb (get_or s b 0) 40 ≡ x → eqb (get_or s b 0) 41 ≡ y → Says s at (step_of (from s at))
    by_byte h true y e f =
        let o = says-open s at l h (eqb-true (get_or s b 0) 40 e) in
        answer (Open b (record { at = b + 1 })) (step-open s at b (record { at = b + 1 }) o refl) o
    by_byte h false true e f =
        let o = says-close s at l h (eqb-true (get_or s b 0) 41 f) in
        answer (Close b (record { at = b + 1 })) (step-close s at b (record { at = b + 1 }) o refl) o
    by_byte h false false e f =
        let o = says-word s at l h (eqb-false (get_or s b 0) 40 e) (eqb-false (get_or s b 0) 41 f) in
        answer (Word b (record { at = b + width s at l })) (step-word s at b (record { at = b + width s at l }) o) o

    by_place : (b < length s) ⊎ (length s ≤ b) → Says s at (step_of (from s at))
    by_place (inl h) = by_byte h (eqb (get_or s b 0) 40) (eqb (get_or s b 0) 41) refl refl
    by_place (inr h) = let e = says-end s at l h in answer End (step_end s at e) e

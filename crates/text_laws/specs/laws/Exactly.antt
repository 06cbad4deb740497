-- The refusals of a term's text are exactly those that are described, with number, place and end.
use Rattle.std.specs.Prelude.{Bool, true, false, List, [], ◌∷◌, ◌++◌, ◌↔◌, ◌≡◌, refl, ℕ, suc, pred, ◌+◌, ◌≤◌, ◌<◌, ℤ, pos, length}
use Rattle.std.proofs.Common.{true≢false, append_assoc, append-nil, sym, ap, ◌∙◌, arith}
use Rattle.std.proofs.Math.Option.{some}
use Rattle.dialect.specs.declared.Dialect.{Dialect}
use Rattle.text.specs.definitions.Answer.{Reading, read, refused, past_of}
use Rattle.text.specs.definitions.Bytes.{capital, is_in_row, decimal, Token, opening, closing, word, place_of, tokens}
use Rattle.text.specs.definitions.Integers.{integer_of}
use Rattle.text.specs.definitions.Meaning.{IsTerm, Begun, open_after, Allowed, Clean, EndsEarly, RefusedAs, too_long, no-term-so, ended}
use Rattle.text.specs.definitions.Meaning.{unknown-letter, too-deep}
use Rattle.text.specs.definitions.Reading.{read_term}
use Rattle.text.specs.definitions.Tree.{Sign, add, sub, mul, sign_text, Tree, num, letter, neg, two, power, placed, Proper, letters}
use Rattle.text.specs.definitions.Tree.{nesting}
use Rattle.text_laws.specs.laws.Bytes.{and_l, and_r}
use Rattle.text_laws.specs.laws.Lists.{Places, same_place, earlier, later, places}
use Rattle.text_laws.specs.laws.Numerals.{no_none, read-int}
use Rattle.text_laws.specs.laws.Reading.{reads}
use Rattle.text_laws.specs.laws.Refused.{why}
use Rattle.text_laws.specs.laws.Words.{capital-no-integer, decimal-integer}

module _ (D : Dialect) where
  begun-front : (ks us : List Token) → Begun D (ks ++ us) → Begun D ks
  begun-front ks us b = record { term = b.term; rest = us ++ b.rest; proper = b.proper; is = b.is ∙ append_assoc ks us b.rest }

  begun-with : (ks : List Token) (k : Token) (us : List Token) → Begun D (ks ++ (k ∷ us)) → Begun D (ks ++ (k ∷ []))
  begun-with ks k us b = begun-front (ks ++ (k ∷ [])) us (rw (append_assoc ks (k ∷ []) us) b)

-- ---- tokens that pass, up to a depth
module _ (row : List ℕ) (limit : ℕ) where
  clean_at :
      (d : ℕ) (ks : List Token) (k : Token) (us : List Token) → Clean row limit d (ks ++ (k ∷ us)) → Allowed row limit (open_after d ks) k
  clean_at d [] k us c = c.0
  clean_at d (opening p ∷ ks) k us c = clean_at (suc d) ks k us c.1
  clean_at d (closing p ∷ ks) k us c = clean_at (pred d) ks k us c.1
  clean_at d (word p w ∷ ks) k us c = clean_at d ks k us c.1

  allowed-by : (d : ℕ) (k j : Token) → k ≡ j → Allowed row limit d k → Allowed row limit d j
  allowed-by d k j e h = rw e at h

  clean-by : (d : ℕ) (ks js : List Token) → ks ≡ js → Clean row limit d js → Clean row limit d ks
  clean-by d ks js e c = rw e c

  allowed-int : (h : Bool) (p d : ℕ) (w : List ℕ) (z : ℤ) → integer_of h w ≡ some z → Allowed row limit d (word p w)
  allowed-int h p d [] z e = tt
  allowed-int h p d (b ∷ []) z e = λ c. no_none (sym (capital-no-integer h b c) ∙ e)
  allowed-int h p d (b ∷ c ∷ w) z e = tt

  allowed-sign : (o d : ℕ) (g : Sign) → Allowed row limit d (word o (sign_text g))
  allowed-sign o d add = λ c. absurd (true≢false (sym c))
  allowed-sign o d sub = λ c. absurd (true≢false (sym c))
  allowed-sign o d mul = λ c. absurd (true≢false (sym c))

module _ (D : Dialect) (row : List ℕ) where
  -- those of a term within the limits pass
  clean-placed :
      (t : Tree) (d : ℕ) (ts : List Token) → Proper D t → letters (is_in_row row) t ≡ true → d + nesting t ≤ D.depth →
      Clean row D.depth d ts → Clean row D.depth d (placed t ++ ts)
  clean-placed (num p w z) d ts a l h c = (allowed-int row D.depth D.hex p d w z a, c)
  clean-placed (letter p b) d ts a l h c = (λ k. l, c)
  clean-placed (neg p o e x) d ts a l h c = (
    omega arith,
    (
      allowed-sign row D.depth o (suc d) sub,
      clean-by row D.depth (suc d) ((placed x ++ (closing e ∷ [])) ++ ts) (placed x ++ (closing e ∷ ts))
          (append_assoc (placed x) (closing e ∷ []) ts) (clean-placed x (suc d) (closing e ∷ ts) a l (omega arith) (tt, c)),
    ),
  )
  clean-placed (two p o e g x y) d ts a l h c = (
    omega arith,
    (
      allowed-sign row D.depth o (suc d) g,
      clean-by row D.depth (suc d) ((placed x ++ (placed y ++ (closing e ∷ []))) ++ ts) (placed x ++ (placed y ++ (closing e ∷ ts)))
          (append_assoc (placed x) (placed y ++ (closing e ∷ [])) ts
          ∙ ap (λ (z : List Token). placed x ++ z) (append_assoc (placed y) (closing e ∷ []) ts))
          (clean-placed x (suc d) (placed y ++ (closing e ∷ ts)) a.1.0 (and_l (letters (is_in_row row) x) (letters (is_in_row row) y) l)
          (omega arith) (clean-placed y (suc d) (closing e ∷ ts) a.1.1 (and_r (letters (is_in_row row) x) (letters (is_in_row row) y) l)
          (omega arith) (tt, c))),
    ),
  )
  clean-placed (power p o e x q n) d ts a l h c = (
    omega arith,
    (
      tt,
      clean-by row D.depth (suc d) ((placed x ++ (word q (decimal n) ∷ closing e ∷ [])) ++ ts)
          (placed x ++ (word q (decimal n) ∷ closing e ∷ ts)) (append_assoc (placed x) (word q (decimal n) ∷ closing e ∷ []) ts)
          (clean-placed x (suc d) (word q (decimal n) ∷ closing e ∷ ts) a.1 l (omega arith) (
            allowed-int row D.depth D.hex q (suc d) (decimal n) (pos n)
                (decimal-integer D.hex (decimal n) (pos n) (read-int (pos n))),
            (tt, c),
          )),
    ),
  )

  -- ---- what is wrong with the token k behind the tokens ks
  data Fault (c : ℕ) (ks : List Token) (k : Token) : Type 0 where
    four : c ≡ D.wrong → (Begun D (ks ++ (k ∷ [])) → ⊥) → Fault c ks k
    five : (p b : ℕ) → c ≡ 5 → k ≡ word p (b ∷ []) → capital b ≡ true → is_in_row row b ≡ false → Begun D (ks ++ (k ∷ [])) → Fault c ks k
    six : (p : ℕ) → c ≡ 6 → k ≡ opening p → D.depth ≤ open_after 0 ks → Begun D (ks ++ (k ∷ [])) → Fault c ks k

  -- it would not be there in tokens that pass and begin a term
  no-fault :
      (c : ℕ) (ks : List Token) (k : Token) (us : List Token) → Fault c ks k → Begun D (ks ++ (k ∷ us)) →
      Clean row D.depth 0 (ks ++ (k ∷ us)) → ⊥
  no-fault c ks k us (four i n) b a = n (begun-with D ks k us b)
  no-fault c ks k us (five p x i j h o n) b a =
      true≢false
      (sym (allowed-by row D.depth (open_after 0 ks) k (word p (x ∷ [])) j (clean_at row D.depth 0 ks k us a) h) ∙ o)
  no-fault c ks k us (six p i j h n) b a =
      let l = allowed-by row D.depth (open_after 0 ks) k (opening p) j (clean_at row D.depth 0 ks k us a) in
      omega (arith, l)

  one-fault : (c c' : ℕ) (ks : List Token) (k : Token) → Fault c ks k → Fault c' ks k → c ≡ c'
  one-fault c c' ks k (four i n) (four i' n') = i ∙ sym i'
  one-fault c c' ks k (four i n) (five p x i' j h o m) = absurd (n m)
  one-fault c c' ks k (four i n) (six p i' j h m) = absurd (n m)
  one-fault c c' ks k (five p x i j h o m) (four i' n') = absurd (n' m)
  one-fault c c' ks k (five p x i j h o m) (five p' x' i' j' h' o' m') = i ∙ sym i'
  one-fault c c' ks k (five p x i j h o m) (six p' i' j' h' m') = let z : ◌≡◌ {A = ℕ} 0 1 = cc in absurd (omega arith)
  one-fault c c' ks k (six p i j h m) (four i' n') = absurd (n' m)
  one-fault c c' ks k (six p i j h m) (five p' x' i' j' h' o' m') = let z : ◌≡◌ {A = ℕ} 0 1 = cc in absurd (omega arith)
  one-fault c c' ks k (six p i j h m) (six p' i' j' h' m') = i ∙ sym i'

  record Stop (ts : List Token) (c p e : ℕ) : Type 0 where
    before : List Token
    token : Token
    behind : List Token
    parts : ts ≡ before ++ (token ∷ behind)
    place : p ≡ place_of token
    end : e ≡ past_of token
    clean : Clean row D.depth 0 before
    begun : Begun D before
    fault : Fault c before token

  one-stop : (ts : List Token) (c p e c' p' e' : ℕ) → Stop ts c p e → Stop ts c' p' e' → (c ≡ c') × (p ≡ p') × (e ≡ e')
  one-stop ts c p e c' p' e' a b =
      go (places a.before a.token a.behind b.before b.token b.behind (sym a.parts ∙ b.parts))
    where
      fault-by : (ks js : List Token) (k j : Token) → ks ≡ js → k ≡ j → Fault c ks k → Fault c js j
      fault-by ks js k j x y f = rw y at (rw x at f)

      begun-by : (ks js : List Token) → ks ≡ js → Begun D ks → Begun D js
      begun-by ks js x f = rw x at f

      go : Places a.before a.token b.before b.token → (c ≡ c') × (p ≡ p') × (e ≡ e')
      go (same_place x y) = (
        one-fault c c' b.before b.token (fault-by a.before b.before a.token b.token x y a.fault) b.fault,
        a.place ∙ ap place_of y ∙ sym b.place,
        a.end ∙ ap past_of y ∙ sym b.end,
      )
      go (earlier us x) =
          absurd (no-fault c a.before a.token us a.fault (begun-by b.before (a.before ++ (a.token ∷ us)) x b.begun)
          (clean-by row D.depth 0 (a.before ++ (a.token ∷ us)) b.before (sym x) b.clean))
      go (later us x) =
          absurd (no-fault c' b.before b.token us b.fault (begun-by a.before (b.before ++ (b.token ∷ us)) x a.begun)
          (clean-by row D.depth 0 (b.before ++ (b.token ∷ us)) a.before (sym x) a.clean))

-- ---- the whole text
module _ (D : Dialect) (row s : List ℕ) where
  -- a refusal, as a token that stops the reading, or otherwise
  data Reason (c p e : ℕ) : Type 0 where
    by_length : c ≡ 3 → p ≡ 0 → e ≡ 0 → D.bytes < length s → Reason c p e
    by_end : c ≡ D.wrong → length s ≤ D.bytes → EndsEarly D row (tokens 0 s) → p ≡ length s → e ≡ length s → Reason c p e
    by_token : length s ≤ D.bytes → Stop D row (tokens 0 s) c p e → Reason c p e

  reason : (c p e : ℕ) → RefusedAs D row s c p e → Reason c p e
  reason c p e (too_long i j k h) = by_length i j k h
  reason c p e (ended i h x j k) = by_end i h x j k
  reason c p e (no-term-so i h x) =
      by_token h (record {
        before = x.before;
        token = x.token;
        behind = x.behind;
        parts = x.parts;
        place = x.place;
        end = x.end;
        clean = x.clean;
        begun = x.begun;
        fault = four i x.ends;
      })
  reason c p e (unknown-letter i h x) =
      by_token h (record {
        before = x.before;
        token = word p (x.letter ∷ []);
        behind = x.behind;
        parts = x.parts;
        place = refl;
        end = omega (arith, x.end);
        clean = x.clean;
        begun = begun-front D x.before (word p (x.letter ∷ []) ∷ []) x.begun;
        fault = five p x.letter i refl x.is-capital x.not-in-row x.begun;
      })
  reason c p e (too-deep i h x) =
      by_token h (record {
        before = x.before;
        token = opening p;
        behind = x.behind;
        parts = x.parts;
        place = refl;
        end = x.end;
        clean = x.clean;
        begun = begun-front D x.before (opening p ∷ []) x.begun;
        fault = six p i refl x.open-before x.begun;
      })

  -- tokens that pass and begin a term have no stop among them
  no_stop : (c p e : ℕ) → Begun D (tokens 0 s) → Clean row D.depth 0 (tokens 0 s) → Stop D row (tokens 0 s) c p e → ⊥
  no_stop c p e b a x = no-fault D row c x.before x.token x.behind x.fault (rw x.parts at b) (rw x.parts at a)

  one-reason : (c p e c' p' e' : ℕ) → Reason c p e → Reason c' p' e' → (c ≡ c') × (p ≡ p') × (e ≡ e')
  one-reason c p e c' p' e' (by_length i j k h) (by_length i' j' k' h') = (i ∙ sym i', j ∙ sym j', k ∙ sym k')
  one-reason c p e c' p' e' (by_length i j k h) (by_end i' h' x j' k') = absurd (omega arith)
  one-reason c p e c' p' e' (by_length i j k h) (by_token h' x) = absurd (omega arith)
  one-reason c p e c' p' e' (by_end i h x j k) (by_length i' j' k' h') = absurd (omega arith)
  one-reason c p e c' p' e' (by_end i h x j k) (by_end i' h' x' j' k') = (i ∙ sym i', j ∙ sym j', k ∙ sym k')
  one-reason c p e c' p' e' (by_end i h x j k) (by_token h' y) = absurd (no_stop c' p' e' x.begun x.clean y)
  one-reason c p e c' p' e' (by_token h x) (by_length i' j' k' h') = absurd (omega arith)
  one-reason c p e c' p' e' (by_token h x) (by_end i' h' y j' k') = absurd (no_stop c p e y.begun y.clean x)
  one-reason c p e c' p' e' (by_token h x) (by_token h' y) = one-stop D row (tokens 0 s) c p e c' p' e' x y

  -- what is said of a refused text is true of one number, one place and one end alone
  pub one-refusal : (c p e c' p' e' : ℕ) → RefusedAs D row s c p e → RefusedAs D row s c' p' e' → (c ≡ c') × (p ≡ p') × (e ≡ e')
  one-refusal c p e c' p' e' a b = one-reason c p e c' p' e' (reason c p e a) (reason c' p' e' b)

  term-begun : (t : Tree) → IsTerm D row s t → Begun D (tokens 0 s)
  term-begun t m = record { term = t; rest = []; proper = m.proper; is = sym (append-nil (tokens 0 s) ∙ m.tokens-are) }

  term-clean : (t : Tree) → IsTerm D row s t → Clean row D.depth 0 (tokens 0 s)
  term-clean t m =
      clean-by row D.depth 0 (tokens 0 s) (placed t ++ []) (m.tokens-are ∙ sym (append-nil (placed t)))
      (clean-placed D row t 0 [] m.proper m.in_row (omega (arith, m.shallow)) tt)

  not-refused : (t : Tree) (c p e : ℕ) → IsTerm D row s t → Reason c p e → ⊥
  not-refused t c p e m (by_length i j k h) = omega (arith, m.short)
  not-refused t c p e m (by_end i h x j k) = x.no-term t m.proper (sym m.tokens-are)
  not-refused t c p e m (by_token h x) = no_stop c p e (term-begun t m) (term-clean t m) x

  answer : (c p e : ℕ) → RefusedAs D row s c p e → (x : Reading Tree) → read_term D row s ≡ x → read_term D row s ≡ refused c p e
  answer c p e a (read t) h = absurd (not-refused t c p e ((reads D row s t).0 h) (reason c p e a))
  answer c p e a (refused c' p' e') h =
      let q = one-refusal c' p' e' c p e (why D row s c' p' e' h) a in
      h ∙ (λ i. refused (q.0 i) (q.1 i) (q.2 i))

  -- a text is refused with this number, place and end exactly when that is what is described
  pub refused-exactly : (c p e : ℕ) → (read_term D row s ≡ refused c p e) ↔ RefusedAs D row s c p e
  refused-exactly c p e = (why D row s c p e, λ a. answer c p e a (read_term D row s) refl)

-- What the readings are for, said without reading: a text is the text of a term of the dialect when its tokens are the term's tokens at
-- their places.
use Rattle.std.specs.Prelude.{true, false, List, [], ◌∷◌, ◌++◌, ◌≡◌, ℕ, suc, pred, ◌≤◌, ◌<◌, length}
use Rattle.dialect.specs.Dialects.{ordinary}
use Rattle.dialect.specs.declared.Dialect.{Dialect}
use Rattle.horner.specs.definitions.Measures.{weight_of, degrees_of, terms_of, AllLe}
use Rattle.text.specs.definitions.Answer.{past_of}
use Rattle.text.specs.definitions.Bytes.{capital, is_in_row, Token, opening, closing, word, place_of, tokens}
use Rattle.text.specs.definitions.Limits.{exponent_fits, finishing, over_limit}
use Rattle.text.specs.definitions.Tree.{Tree, placed, Proper, letters, nesting, Sign, neg, two, power, start_of, end_of, term_of}

-- how many parentheses are open behind the tokens, d being open before them
abbrev pub open_after : ℕ → List Token → ℕ
open_after d [] = d
open_after d (opening p ∷ ts) = open_after (suc d) ts
open_after d (closing p ∷ ts) = open_after (pred d) ts
open_after d (word p w ∷ ts) = open_after d ts

-- the token is no parenthesis beyond the limit, d being open before it, and no capital letter outside the row
abbrev pub Allowed : List ℕ → ℕ → ℕ → Token → Type 0
Allowed row limit d (opening p) = d < limit
Allowed row limit d (closing p) = Unit {0}
Allowed row limit d (word p []) = Unit {0}
Allowed row limit d (word p (b ∷ [])) = capital b ≡ true → is_in_row row b ≡ true
Allowed row limit d (word p (b ∷ c ∷ w)) = Unit {0}

-- all of them pass: where a refusal stands behind them, it is "at the earliest place"
abbrev pub Clean : List ℕ → ℕ → ℕ → List Token → Type 0
Clean row limit d [] = Unit {0}
Clean row limit d (k ∷ ks) = Allowed row limit d k × Clean row limit (open_after d (k ∷ [])) ks

module _ (D : Dialect) where
  -- s is the text of the term t over the row (text_laws/Reading, reads: exactly then it is read as t)
  pub record IsTerm (row s : List ℕ) (t : Tree) : Type 0 where
    pub short : length s ≤ D.bytes
    pub tokens-are : tokens 0 s ≡ placed t
    pub proper : Proper D t
    pub in_row : letters (is_in_row row) t ≡ true
    pub shallow : nesting t ≤ D.depth

  -- "a term of any size begins with the tokens so far (an unknown capital counts as a letter here)": the tokens, some tokens behind them,
  -- are a term's; the places in a tree are any numbers
  pub record Begun (ks : List Token) : Type 0 where
    pub term : Tree
    pub rest : List Token
    pub proper : Proper D term
    pub is : placed term ≡ ks ++ rest

  -- "place 4 is the first token such that no term of any size begins with the tokens so far"; the end is "the byte after the offending
  -- token"
  pub record FirstBad (row : List ℕ) (ts : List Token) (p e : ℕ) : Type 0 where
    pub before : List Token
    pub token : Token
    pub behind : List Token
    pub parts : ts ≡ before ++ (token ∷ behind)
    pub place : p ≡ place_of token
    pub end : e ≡ past_of token
    pub clean : Clean row D.depth 0 before
    pub begun : Begun before
    pub ends : Begun (before ++ (token ∷ [])) → ⊥

  -- "or the text's length if it ends early"
  pub record EndsEarly (row : List ℕ) (ts : List Token) : Type 0 where
    pub clean : Clean row D.depth 0 ts
    pub begun : Begun ts
    pub no-term : (t : Tree) → Proper D t → placed t ≡ ts → ⊥

  -- "5: a capital letter not in the row, where a letter may stand", at "its token"
  pub record Unknown (row : List ℕ) (ts : List Token) (p e : ℕ) : Type 0 where
    pub before : List Token
    pub letter : ℕ
    pub behind : List Token
    pub parts : ts ≡ before ++ (word p (letter ∷ []) ∷ behind)
    pub end : e ≡ suc p
    pub clean : Clean row D.depth 0 before
    pub is-capital : capital letter ≡ true
    pub not-in-row : is_in_row row letter ≡ false
    pub begun : Begun (before ++ (word p (letter ∷ []) ∷ []))

  -- "6: a parenthesis opened beyond the limit", at "that byte"
  pub record TooDeep (row : List ℕ) (ts : List Token) (p e : ℕ) : Type 0 where
    pub before : List Token
    pub behind : List Token
    pub parts : ts ≡ before ++ (opening p ∷ behind)
    pub end : e ≡ suc p
    pub clean : Clean row D.depth 0 before
    pub open-before : D.depth ≤ open_after 0 before
    pub begun : Begun (before ++ (opening p ∷ []))

  -- The refusals of a term's text before it is measured, "3; then 4, 5, 6 at the earliest place": exactly these (text_laws/Exactly). The
  -- end of 3, and of 4 where the text ended early, is "the place itself"
  pub data RefusedAs (row s : List ℕ) (c p e : ℕ) : Type 0 where
    too_long : c ≡ 3 → p ≡ 0 → e ≡ 0 → D.bytes < length s → RefusedAs row s c p e
    no-term-so : c ≡ D.wrong → length s ≤ D.bytes → FirstBad row (tokens 0 s) p e → RefusedAs row s c p e
    ended : c ≡ D.wrong → length s ≤ D.bytes → EndsEarly row (tokens 0 s) → p ≡ length s → e ≡ length s → RefusedAs row s c p e
    unknown-letter : c ≡ 5 → length s ≤ D.bytes → Unknown row (tokens 0 s) p e → RefusedAs row s c p e
    too-deep : c ≡ 6 → length s ≤ D.bytes → TooDeep row (tokens 0 s) p e → RefusedAs row s c p e

-- ---- the subterms of a term, and what it is for one to be over a limit
-- x is a subterm of the other
pub data Part (x : Tree) : Tree → Type 0 where
  itself : {y : Tree} → x ≡ y → Part x y
  in-neg : (p o c : ℕ) (y : Tree) → Part x y → Part x (neg p o c y)
  in_left : (p o c : ℕ) (g : Sign) (y z : Tree) → Part x y → Part x (two p o c g y z)
  in_right : (p o c : ℕ) (g : Sign) (y z : Tree) → Part x z → Part x (two p o c g y z)
  in-base : (p o c : ℕ) (y : Tree) (q n : ℕ) → Part x y → Part x (power p o c y q n)

-- "exponent n and each degree at most 63, weight at most 1,073,741,823, terms at most 256"
pub record Fits (row : List ℕ) (t : Tree) : Type 0 where
  pub exponent : exponent_fits t ≡ true
  pub degrees : AllLe 63 (degrees_of (length row) (term_of row t))
  pub weight : weight_of (term_of row t) ≤ 1073741823
  pub terms : terms_of (length row) (term_of row t) ≤ 256

-- no refusal's number at any of them
abbrev pub AllWithin : List ℕ → List Tree → Type 0
AllWithin row [] = Unit {0}
AllWithin row (t ∷ ts) = (over_limit row t ≡ 0) × AllWithin row ts

-- "the first offending node in order of finishing decides", with the number c, at the place p where it begins and the end e behind it
pub record FirstOver (row : List ℕ) (t : Tree) (c p e : ℕ) : Type 0 where
  pub before : List Tree
  pub node : Tree
  pub behind : List Tree
  pub parts : finishing t ≡ before ++ (node ∷ behind)
  pub within : AllWithin row before
  pub number : over_limit row node ≡ c
  pub over : c ≡ 0 → ⊥
  pub place : p ≡ start_of node
  pub end : e ≡ end_of node

-- All the refusals of a term's text: "3; then 4, 5, 6 at the earliest place; .. then 8, 9, 10": exactly these (text_laws/Accepted)
pub data TermRefused (D : Dialect) (row s : List ℕ) (c p e : ℕ) : Type 0 where
  no-term : RefusedAs D row s c p e → TermRefused D row s c p e
  over-limit : (t : Tree) → IsTerm D row s t → FirstOver row t c p e → TermRefused D row s c p e

-- document 01's own terms are refused by number and place; some end goes with them
pub record OrdinaryRefused (row s : List ℕ) (c p : ℕ) : Type 0 where
  pub end : ℕ
  pub why : TermRefused ordinary row s c p end

-- What is found of the parts of a term's text: the tree that a part has, with its words, and that the reading of the text goes on behind
-- it; or the refusal that it ends in.
use Rattle.std.specs.Prelude.{◌≡◌, Bool, true, false, Result, Ok, Err, List, [], ◌∷◌, ℕ, ◌+◌, ◌*◌, ◌-◌, ◌≤◌, ◌<◌, length, take, drop}
use Rattle.refusal.specs.declared.Flaw.{Flaw}
use Rattle.text.specs.definitions.Bytes.{Token, opening, closing, word, is_in_row}
use Rattle.text.specs.definitions.Tree.{Sign, add, sub, mul, letters, Tree}
use Rattle.term_token.specs.Views.{from}
use Rattle.dialect.specs.declared.Dialect.{Dialect}
use Rattle.text.specs.definitions.Answer.{Reading, read, refused}
use Rattle.term_tree.specs.Coding.{span_of, enc, Short}
use Rattle.text.specs.definitions.Reading.{Frame, operand, operator, exponent, a_letter, Next, on, whole, off, after_first, after_expt}
use Rattle.text.specs.definitions.Reading.{deliver, close_short, wrong_at, only_end, read_term, run_in}
use Rattle.term_leaf.specs.Leaf.{Part, On, Off}
use Rattle.term_leaf.specs.Leaf.{TokenAt}
use Rattle.term_leaf.specs.declared.Kind.{Kind}
use Rattle.text_word.specs.declared.Operator.{Operator}
use Rattle.text_word.specs.declared.Operator.TheVariants.{Plus, Minus, Times, Power}

-- ---- parts
-- what every function asks: the text is short, at lies in it, and out has room for what stands from the place base on
pub record Ready (D : Dialect) (row s : List ℕ) (base at n : ℕ) : Type 0 where
  pub fits : D.depth < 18446744073709551616
  pub four : length row ≤ 4
  pub short : length s ≤ 65535
  pub inside : at ≤ length s
  pub below : base ≤ at
  pub room : 3 * (length s - base) + 1 ≤ 2 * n

-- where the token from a to e begins a term
pub record TokenReady (D : Dialect) (row s : List ℕ) (kind : Kind) (a e n : ℕ) : Type 0 where
  pub fits : D.depth < 18446744073709551616
  pub four : length row ≤ 4
  pub short : length s ≤ 65535
  pub at : ℕ
  pub token : TokenAt s at kind a e
  pub room : 3 * (length s - a) + 1 ≤ 2 * n

-- and behind the `(` at p, with depth parentheses open before it
pub record ListReady (D : Dialect) (row s : List ℕ) (p at depth n : ℕ) : Type 0 where
  pub ready : Ready D row s p at n
  pub deeper : depth < D.depth
  pub past : p < at

-- behind `(EXPT`
pub record PowerReady (D : Dialect) (row s : List ℕ) (p at depth n : ℕ) : Type 0 where
  pub ready : Ready D row s p at n
  pub deeper : depth < D.depth
  pub past : p + 2 ≤ at

-- behind an operand of k words, before which there are a `(` and an operator
pub record OperandReady (D : Dialect) (row s : List ℕ) (p k at n : ℕ) : Type 0 where
  pub ready : Ready D row s p at n
  pub bound : 2 * k + 5 ≤ 3 * (at - p)

-- where a second may follow: the operator is no power
pub record SecondReady (D : Dialect) (row s : List ℕ) (p : ℕ) (g : Operator) (k at depth n : ℕ) : Type 0 where
  pub first : OperandReady D row s p k at n
  pub deeper : depth < D.depth
  pub sign : g ≡ Power → ⊥

-- where a node's `)` has to stand
pub record ClosedReady (s : List ℕ) (p size at n : ℕ) : Type 0 where
  pub inside : at ≤ length s
  pub short : length s ≤ 65535
  pub below : p ≤ at
  pub room : 2 ≤ n
  pub small : size < 1048576

-- what is asked of a dialect, a row and the room for a tree of n words
pub record ParseReady (D : Dialect) (row : List ℕ) (n : ℕ) : Type 0 where
  pub four : length row ≤ 4
  pub short : D.bytes ≤ 65535
  pub room : 3 * D.bytes + 1 ≤ 2 * n

-- the number that begins a node's head word, by its operator
abbrev pub code_of : Operator → ℕ
code_of Plus = 2147483650
code_of Minus = 2147483651
code_of Times = 2147483652
code_of Power = 2147483653

module _ (D : Dialect) (row : List ℕ) where
  -- the reading goes on at the tokens ts of a text of n bytes
  abbrev pub go_on : ℕ → Next → List Token → Reading Tree
  go_on n off ts = refused D.wrong n n
  go_on n (on sp fs) ts = run_in D row n sp fs ts
  go_on n (whole t) ts = only_end D t ts

  -- no token leads on
  abbrev pub stopped : ℕ → List Token → Reading Tree
  stopped n [] = refused D.wrong n n
  stopped n (k ∷ ks) = wrong_at D k

  -- a tree of k words was made at the front of out, from the text between base and nx: wherever the reading f stood, it goes on behind
  pub record Made (s : List ℕ) (base : ℕ) (out : List ℕ) (k nx : ℕ) (Fits : List Frame → Type 0) (f : List Frame → Reading Tree)
      (g : Tree → List Frame → Next) : Type 0 where
    pub tree : Tree
    pub size : k ≡ length (enc row tree)
    pub is : take k out ≡ enc row tree
    pub more : base < nx
    pub inside : nx ≤ length s
    pub bound : 2 * k ≤ 3 * (nx - base) + 1
    pub known : letters (is_in_row row) tree ≡ true
    pub short : Short tree
    pub leads : (fs : List Frame) → Fits fs → f fs ≡ go_on (length s) (g tree fs) (from s nx)

  -- by the answer: the tree, or the refusal that the reading ends in
  abbrev pub Says : (s : List ℕ) (base : ℕ) (out : List ℕ) (Fits : List Frame → Type 0) (f : List Frame → Reading Tree)
      (g : Tree → List Frame → Next) → Part → Type 0
  Says s base out Fits f g (On k nx) = Made s base out k nx Fits f g
  Says s base out Fits f g (Off n p e) = (fs : List Frame) → Fits fs → f fs ≡ refused n p e

  -- a `)` that stands at the place closes no `(- x`
  abbrev pub Shut : List ℕ → ℕ → List Frame → Type 0
  Shut s at fs = (c : ℕ) (ks : List Token) → from s at ≡ closing c ∷ ks → close_short D c fs ≡ off

  -- a term, with depth parentheses open
  abbrev pub TermSays : (s : List ℕ) (at depth : ℕ) (out : List ℕ) → Part → Type 0
  TermSays s at depth out =
      Says s at out (λ fs. (length fs ≡ depth) × Shut s at fs) (λ fs. run_in D row (length s) operand fs (from s at)) (deliver D)

  pub record TermAt (s : List ℕ) (at depth : ℕ) (out : List ℕ) (r : Part) : Type 0 where
    pub says : TermSays s at depth out r

  -- a term whose first token is known, wherever it is read from
  pub record OperandOf (s : List ℕ) (kind : Kind) (a e depth : ℕ) (out : List ℕ) (r : Part) : Type 0 where
    pub says : (at : ℕ) → TokenAt s at kind a e → TermAt s at depth out r

  -- what follows the `(` at p
  pub record ListAt (s : List ℕ) (p at depth : ℕ) (out : List ℕ) (r : Part) : Type 0 where
    pub says : Says s p out (λ fs. length fs ≡ depth) (λ fs. run_in D row (length s) (operator p) fs (from s at)) (deliver D) r

  -- what follows `(EXPT`
  pub record PowerAt (s : List ℕ) (p at depth : ℕ) (out : List ℕ) (r : Part) : Type 0 where
    pub says : (o : ℕ) → Says s p out (λ fs. length fs ≡ depth) (λ fs. go_on (length s) (after_expt D.panel p o fs) (from s at))
        (deliver D) r

  -- a panel term's base
  pub record LetterAt (s : List ℕ) (at : ℕ) (out : List ℕ) (r : Part) : Type 0 where
    pub says : (p o : ℕ) → Says s at out (λ fs. Unit {0}) (λ fs. run_in D row (length s) (a_letter p o) fs (from s at))
        (λ t fs. on (exponent p o t) fs) r

  -- an operand of k words at the front of l, from the text between p and at, where a `(` and an operator stand before it
  pub record Operand (x : Tree) (k : ℕ) (l : List ℕ) : Type 0 where
    pub size : k ≡ length (enc row x)
    pub is : take k l ≡ enc row x
    pub known : letters (is_in_row row) x ≡ true
    pub short : Short x

  -- behind the first operand only a `)` may stand
  abbrev pub closes_only : Operator → Bool
  closes_only Plus = false
  closes_only Minus = D.panel
  closes_only Times = false
  closes_only Power = false

  -- the sign, by the operator
  abbrev pub sign_of : Operator → Sign
  sign_of Plus = add
  sign_of Minus = sub
  sign_of Times = mul
  sign_of Power = mul

  -- what follows the first operand
  pub record SecondAt (s : List ℕ) (p : ℕ) (g : Operator) (k at depth : ℕ) (before out : List ℕ) (r : Part) : Type 0 where
    pub says : (o : ℕ) (x : Tree) → Operand x k (drop 2 before)
        → Says s p out (λ fs. length fs ≡ depth) (λ fs. go_on (length s) (after_first D.panel p o (sign_of g) x fs) (from s at))
        (deliver D) r

  -- what follows the base of a power
  pub record ExponentAt (s : List ℕ) (p k at : ℕ) (before out : List ℕ) (r : Part) : Type 0 where
    pub says : (o : ℕ) (x : Tree) → Operand x k (drop 2 before)
        → Says s p out (λ fs. Unit {0}) (λ fs. run_in D row (length s) (exponent p o x) fs (from s at)) (deliver D) r

-- a `)` stands at the place, and the node's first two words are put
pub record Closing (s : List ℕ) (p head size at : ℕ) (before out : List ℕ) (k nx : ℕ) : Type 0 where
  pub c : ℕ
  pub is-size : k ≡ size
  pub first : from s at ≡ closing c ∷ from s nx
  pub past : nx ≡ c + 1
  pub later : at < nx
  pub inside : nx ≤ length s
  pub words : out ≡ head ∷ (span_of p (c + 1) ∷ drop 2 before)

-- no `)` stands first
abbrev pub NoClosing : List Token → Type 0
NoClosing [] = Unit {0}
NoClosing (opening p ∷ ks) = Unit {0}
NoClosing (closing p ∷ ks) = ⊥
NoClosing (word p w ∷ ks) = Unit {0}

-- by the answer
abbrev pub ClosedCase : Dialect → List ℕ → ℕ → ℕ → ℕ → ℕ → List ℕ → List ℕ → Part → Type 0
ClosedCase D s p head size at before out (On k nx) = Closing s p head size at before out k nx
ClosedCase D s p head size at before out (Off n a e) = NoClosing (from s at) × (stopped D [] (length s) (from s at) ≡ refused n a e)

-- what is answered of a node's `)`
pub record ClosedAt (D : Dialect) (s : List ℕ) (p head size at : ℕ) (before out : List ℕ) (r : Part) : Type 0 where
  pub case : ClosedCase D s p head size at before out r

-- ---- the whole text
-- the text is read as a tree of k words, at the front of out
pub record Parse (D : Dialect) (row s out : List ℕ) (k : ℕ) : Type 0 where
  pub tree : Tree
  pub reads : read_term D row s ≡ read tree
  pub size : k ≡ length (enc row tree)
  pub is : take k out ≡ enc row tree
  pub bound : 2 * k ≤ 3 * length s + 1
  pub known : letters (is_in_row row) tree ≡ true
  pub short : Short tree

-- what is answered of the whole text
abbrev pub ParsedAs : Dialect → List ℕ → List ℕ → List ℕ → Result ℕ Flaw → Type 0
ParsedAs D row s out (Ok k) = Parse D row s out k
ParsedAs D row s out (Err f) = read_term D row s ≡ refused f.number f.place f.end

-- The code of a term: words of 32 bits in prefix order. A node is a head word and a word for its place and end, and then its operands.
use Rattle.std.specs.Prelude.{cond, List, [], ◌∷◌, ◌++◌, ℕ, zero, suc, ◌+◌, ◌*◌, ◌-◌, ◌/◌, ◌%◌, ◌<◌, min, ltb, eqb, ℤ, pos, negsuc, nat_abs, length, take, drop}
use Rattle.text.specs.definitions.Bytes.{index_in}
use Rattle.text.specs.definitions.Tree.{Sign, add, sub, mul, Tree, num, letter, neg, two, power}

-- an integer within the limit of weights is its remainder by 2,147,483,647; any other is that number itself
abbrev pub remainder_of : ℤ → ℕ
remainder_of (pos n) = n
remainder_of (negsuc n) = 2147483647 - suc n

-- the head word of an integer
unfoldable pub int_code : ℤ → ℕ
int_code z = cond (ltb 1073741823 (nat_abs z)) 2147483647 (remainder_of z)

-- both are at most 65,535, the longest text
abbrev pub span_of : ℕ → ℕ → ℕ
span_of p e = p + 65536 * e

-- the head word of `(+ x y)`, `(- x y)` and `(* x y)`, without the words of x
abbrev pub sign_code : Sign → ℕ
sign_code add = 2147483650
sign_code sub = 2147483651
sign_code mul = 2147483652

-- the words of a tree, over the row
unfoldable pub enc : List ℕ → Tree → List ℕ
unfolding int_code
enc row (num p w z) = int_code z ∷ span_of p (p + length w) ∷ []
enc row (letter p b) = (2147483648 + 8 * index_in row b) ∷ span_of p (p + 1) ∷ []
enc row (neg p o c x) = 2147483649 ∷ span_of p (c + 1) ∷ enc row x
enc row (two p o c g x y) = (sign_code g + 8 * length (enc row x)) ∷ span_of p (c + 1) ∷ (enc row x ++ enc row y)
enc row (power p o c x q n) = (2147483653 + 8 * min n 64) ∷ span_of p (c + 1) ∷ enc row x

-- ---- what a code shows of a tree: each node's place and end, letters by their index, integers and exponents cut down above their limits
pub data Node : Type 0 where
  int : (p e r : ℕ) → Node
  var : (p e i : ℕ) → Node
  minus : (p e : ℕ) → Node → Node
  both : (p e : ℕ) → Sign → Node → Node → Node
  expt : (p e : ℕ) → Node → (n : ℕ) → Node

-- what the words of a tree show
abbrev pub seen : List ℕ → Tree → Node
seen row (num p w z) = int p (p + length w) (int_code z)
seen row (letter p b) = var p (p + 1) (index_in row b)
seen row (neg p o c x) = minus p (c + 1) (seen row x)
seen row (two p o c g x y) = both p (c + 1) g (seen row x) (seen row y)
seen row (power p o c x q n) = expt p (c + 1) (seen row x) (min n 64)

-- place and end in the second word
abbrev pub place_in : ℕ → ℕ
place_in v = v % 65536

abbrev pub end_in : ℕ → ℕ
end_in v = v / 65536

-- the node with this head, by its tag: 0 a letter, 1 `(- x)`, 2 to 4 `+`, `-` and `*`, 5 a power
abbrev pub node_of : ℕ → ℕ → ℕ → Node → Node → Node → Node
node_of tag v k all x y =
    cond (eqb tag 0) (var (place_in v) (end_in v) k)
    (cond (eqb tag 1) (minus (place_in v) (end_in v) all)
    (cond (eqb tag 2) (both (place_in v) (end_in v) add x y)
    (cond (eqb tag 3) (both (place_in v) (end_in v) sub x y)
    (cond (eqb tag 4) (both (place_in v) (end_in v) mul x y) (expt (place_in v) (end_in v) all k)))))

-- the node that stands in the words, whatever they are; n bounds the depth
unfoldable pub decn : ℕ → List ℕ → Node
decn zero l = int 0 0 0
decn (suc n) [] = int 0 0 0
decn (suc n) (h ∷ []) = int 0 0 0
decn (suc n) (h ∷ v ∷ l) =
    cond (ltb h 2147483648) (int (place_in v) (end_in v) h)
    (node_of ((h - 2147483648) % 8) v ((h - 2147483648) / 8) (decn n l) (decn n (take ((h - 2147483648) / 8) l))
    (decn n (drop ((h - 2147483648) / 8) l)))

-- what the words show, whatever they are
unfoldable pub dec : List ℕ → Node
unfolding decn
dec l = decn (length l) l

-- ---- the places are those of a text of at most 65,535 bytes
abbrev pub Short : Tree → Type 0
Short (num p w z) = p < 65536
Short (letter p b) = p < 65536
Short (neg p o c x) = (p < 65536) × Short x
Short (two p o c g x y) = (p < 65536) × (Short x × Short y)
Short (power p o c x q n) = (p < 65536) × Short x

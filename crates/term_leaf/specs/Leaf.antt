-- What is found of a token and of a word: the leaf that a word is, with its words, or why it is none.
use Rattle.std.specs.Prelude.{◌≡◌, Bool, true, false, cond, ◌⊎◌, List, [], ◌∷◌, ℕ, suc, ◌+◌, ◌-◌, ◌/◌, ◌%◌, ◌≤◌, ◌<◌, eqb, leb, ℤ, length, take, drop}
use Rattle.std.proofs.Math.Option.{Option, none, some}
use Rattle.text.specs.definitions.Bytes.{is_in_row, read_int, opening, closing, word}
use Rattle.text.specs.definitions.Tree.{letters, Tree}
use Rattle.term_token.specs.Views.{from}
use Rattle.dialect.specs.declared.Dialect.{Dialect}
use Rattle.text.specs.definitions.Integers.{is_hex}
use Rattle.term_tree.specs.Coding.{int_code, enc, Short}
use Rattle.text.specs.definitions.Reading.{lone, leaf, letter_check}
use Rattle.term_leaf.specs.declared.Answer.{Answer}
use Rattle.term_leaf.specs.declared.Kind.{Kind}
use Rattle.term_leaf.specs.declared.Kind.TheVariants.{Open, Close, Word, End}

-- ---- answers
-- the words of a subterm's tree and the place behind the subterm, or the refusal
pub data Part : Type 0 where
  On : ℕ → ℕ → Part
  Off : ℕ → ℕ → ℕ → Part

-- a refusal's number: 0 is the dialect's own
abbrev pub number_in : Dialect → ℕ → ℕ
number_in D c = cond (eqb c 0) D.wrong c

-- which answers are refusals; and of the others the words of the tree, and the place behind it
abbrev pub is_refusal : Answer → Bool
is_refusal x = leb 9223372036854775808 x.packed

abbrev pub words : Answer → ℕ
words x = x.packed % 1048576

abbrev pub past : Answer → ℕ
past x = x.packed / 1048576

-- what an answer stands for
unfoldable pub part_in : Dialect → Answer → Part
part_in D x =
    cond (is_refusal x) (Off (number_in D (x.packed % 8)) (x.packed / 8 % 65536) (x.packed / 524288 % 65536)) (On (words x) (past x))

-- r stands for the answer q in every dialect
pub record AnswerIs (q : Part) (r : Answer) : Type 0 where
  pub is : (D : Dialect) → part_in D r ≡ q

-- r stands for the refusal with the number c, the place p and the end e
pub record RefusalIs (c p e : ℕ) (r : Answer) : Type 0 where
  pub is : (D : Dialect) → part_in D r ≡ Off (number_in D c) p e

-- ---- tokens
-- the bytes from a place to an end
abbrev pub part : List ℕ → ℕ → ℕ → List ℕ
part s a e = take (e - a) (drop a s)

-- the token at a place, from a to e
pub record TokenAt (s : List ℕ) (at : ℕ) (kind : Kind) (a e : ℕ) : Type 0 where
  pub inside : e ≤ length s
  pub later : at ≤ a
  pub more : (kind ≡ End → ⊥) → a < e
  pub none_left : kind ≡ End → (from s at ≡ []) × ((a ≡ length s) × (e ≡ length s))
  pub opens : kind ≡ Open → (from s at ≡ opening a ∷ from s e) × (e ≡ suc a)
  pub closes : kind ≡ Close → (from s at ≡ closing a ∷ from s e) × (e ≡ suc a)
  pub worded : kind ≡ Word → (from s at ≡ word a (part s a e) ∷ from s e) × (e ≡ a + length (part s a e))

-- ---- words
-- the dialect has hexadecimal integers, and the word is one
abbrev pub hex_here : Dialect → List ℕ → Bool
hex_here D w = cond D.hex (is_hex w) false

-- r is the code of the integer that the word is
abbrev pub CodeOf : List ℕ → ℕ → Type 0
CodeOf w r = (z : ℤ) → read_int w ≡ some z → r ≡ int_code z

-- the leaf that a word is where an operand may stand
abbrev pub word_tree : Dialect → ℕ → List ℕ → Option Tree
word_tree D p w = leaf D p w

-- and where a letter may stand
abbrev pub letter_tree : ℕ → List ℕ → Option Tree
letter_tree p w = lone p w

-- what is asked of a word from p to e, and of the n words that are free
pub record WordReady (row w : List ℕ) (p e n : ℕ) : Type 0 where
  pub four : length row ≤ 4
  pub ends : e ≡ p + length w
  pub small : e ≤ 65535
  pub room : 2 ≤ n
  pub some_byte : p < e

-- the word is the leaf t, whose words are at the front of out
pub record WordMade (D : Dialect) (row : List ℕ) (L : Option Tree) (w : List ℕ) (p e : ℕ) (out : List ℕ) (k nx : ℕ) : Type 0 where
  pub tree : Tree
  pub found : L ≡ some tree
  pub fine : letter_check (is_in_row row) w ≡ 0
  pub two : k ≡ 2
  pub past : nx ≡ e
  pub size : length (enc row tree) ≡ 2
  pub is : take 2 out ≡ enc row tree
  pub known : letters (is_in_row row) tree ≡ true
  pub short : Short tree

-- the word is no leaf L, or a letter that is not in the row
pub record WordOff (D : Dialect) (row : List ℕ) (L : Option Tree) (w : List ℕ) (p e n a b : ℕ) : Type 0 where
  pub place : a ≡ p
  pub end : b ≡ e
  pub why : ((L ≡ none) × (n ≡ D.wrong)) ⊎ ((Tree × (n ≡ 5)) × ((letter_check (is_in_row row) w ≡ 5) × (L ≡ none → ⊥)))

-- by the answer
abbrev pub WordCase : Dialect → List ℕ → Option Tree → List ℕ → ℕ → ℕ → List ℕ → Part → Type 0
WordCase D row L w p e out (On k nx) = WordMade D row L w p e out k nx
WordCase D row L w p e out (Off n a b) = WordOff D row L w p e n a b

-- what is answered of the word
pub record WordSays (D : Dialect) (row : List ℕ) (L : Option Tree) (w : List ℕ) (p e : ℕ) (out : List ℕ) (r : Part) : Type 0 where
  pub case : WordCase D row L w p e out r

-- What is read of two terms' texts, the left one first.
use Rattle.std.specs.Prelude.{Result, Ok, Err, List, ◌≡◌, ℕ, ◌≤◌, length, take, drop}
use Rattle.refusal.specs.Refusal.{on_side}
use Rattle.refusal.specs.declared.Fault.{Fault}
use Rattle.horner.specs.definitions.Term.{norm_p}
use Rattle.code.specs.Lengths.{table}
use Rattle.code.specs.Coding.{Good, Begins, Made, enc}
use Rattle.run_code.specs.Decoding.{form_at, Placed, Even}
use Rattle.run_form.specs.Forms.{run_words}
use Rattle.run_merge.specs.Words.{pairs}
use Rattle.text.specs.definitions.Bytes.{read, refused}
use Rattle.text.specs.definitions.Limits.{accept_term}
use Rattle.text.specs.definitions.Tree.{Tree, term_of}
use Rattle.refusal.specs.declared.Refusal.{Refusal}
use Rattle.refusal.specs.declared.Side.TheVariants.{Left, Right}
use Rattle.door_terms.specs.declared.Sizes.{Sizes}

-- both are accepted: the left run stands in the first k words of l, the right one in the m words behind it
pub record IsPair (row s t : List ℕ) (k m : ℕ) (l : List ℕ) : Type 0 where
  pub f : Tree
  pub g : Tree
  pub left-accepted : accept_term row s ≡ read f
  pub right-accepted : accept_term row t ≡ read g
  pub left-made : Begins k (run_words (length row) (norm_p (term_of row f))) l
  pub right-made : Begins m (run_words (length row) (norm_p (term_of row g))) (drop k l)

-- "A refusal of the left text ends the call before the right one is read"
pub data PairRead (row s t : List ℕ) (r : Result Sizes Refusal) (l : List ℕ) : Type 0 where
  left-refusal : (bad : Fault) → accept_term row s ≡ refused bad → r ≡ Err (on_side Left bad) → PairRead row s t r l
  right-refusal :
      (f : Tree) (bad : Fault) → accept_term row s ≡ read f → accept_term row t ≡ refused bad → r ≡ Err (on_side Right bad) →
      PairRead row s t r l
  runs : (z : Sizes) → IsPair row s t z.left z.right l → r ≡ Ok z → PairRead row s t r l

-- ---- from runs to forms
-- the words w are a run in n variables, and its form takes at most 3,073 words
pub record Codable (n : ℕ) (w : List ℕ) : Type 0 where
  pub placed : Placed n 0 (pairs w)
  pub even : Even (length w)
  pub words : length (enc 0 (form_at n 0 w)) ≤ 3073

-- the first k words of l are, and so are those behind them; out has room for both codes
pub record Coding (n k : ℕ) (l : List ℕ) (out : ℕ) : Type 0 where
  pub four : n ≤ 4
  pub inside : k ≤ length l
  pub left : Codable n (take k l)
  pub right : Codable n (drop k l)
  pub room : 6154 ≤ out
  pub small : out ≤ 33554432

-- their codes, of x and y words, at the front of out
pub record CodedSides (n k : ℕ) (l : List ℕ) (x y : ℕ) (out : List ℕ) : Type 0 where
  pub left : Made 0 (form_at n 0 (take k l)) x out
  pub right : Made 0 (form_at n 0 (drop k l)) y (drop x out)

-- two runs in n variables side by side in the first e words of d, one in the first k: their forms are good, and a table has room for their codes
pub record Paired (n k e : ℕ) (d : List ℕ) : Type 0 where
  pub inside : e ≤ length d
  pub coding : Coding n k (take e d) table
  pub left-good : Good 0 (form_at n 0 (take k (take e d)))
  pub right-good : Good 0 (form_at n 0 (drop k (take e d)))

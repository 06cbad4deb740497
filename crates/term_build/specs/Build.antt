-- What building asks, and what it leaves: the run of the term that the words are the code of, the environment's terms for its letters.
use Rattle.std.specs.Prelude.{List, [], ◌∷◌, ◌≡◌, ℕ, suc, ◌+◌, ◌*◌, ◌≤◌, ◌<◌, length, get_or, take, drop}
use Rattle.horner.specs.definitions.Term.{Term, norm_p}
use Rattle.code.specs.Coding.{Begins}
use Rattle.run_merge.specs.Words.{pairs, summed, Fits}
use Rattle.run_stack.specs.Stack.{multiplied, ProductRoom}
use Rattle.run_form.specs.Forms.{run_words}
use Rattle.text.specs.definitions.Tree.{term_of, nesting, Tree}
use Rattle.term_tree.specs.Shapes.{Codes}
use Rattle.term_build.specs.Terms.{put, AllSized}
use Rattle.term_build.specs.declared.Letters.{Letters}
use Rattle.term_tree.specs.declared.Operation.{Operation}
use Rattle.term_tree.specs.declared.Operation.TheVariants.{Add, Subtract, Multiply}

-- the environment in the runs of the letters
abbrev pub env_of : Letters → List (List ℕ)
env_of l = l.e0.now ∷ l.e1.now ∷ l.e2.now ∷ l.e3.now ∷ []

-- the environment E has for each letter of a row of n the run of the term τ i
pub record Env (n : ℕ) (τ : ℕ → Term) (E : List (List ℕ)) : Type 0 where
  pub each : (i : ℕ) → i < n → get_or E i [] ≡ run_words n (norm_p (τ i))

-- the term of a tree, τ i in the place of its i-th letter
abbrev pub term_in : (ℕ → Term) → List ℕ → Tree → Term
term_in τ row t = put τ (term_of row t)

-- it is within the limits with all of its subterms
abbrev pub SizedIn : (ℕ → Term) → List ℕ → Tree → Type 0
SizedIn τ row t = AllSized (length row) (term_in τ row t)

-- the words of its run
abbrev pub run_in : (ℕ → Term) → List ℕ → Tree → List ℕ
run_in τ row t = run_words (length row) (norm_p (term_in τ row t))

-- w is the code of a tree within the limits: 512 words for each run that waits and for the one that is built, 1,024 for one on its way
pub record Given (w : List ℕ) (E : List (List ℕ)) (stack out other : ℕ) : Type 0 where
  pub row : List ℕ
  pub tree : Tree
  pub τ : ℕ → Term
  pub codes : Codes row tree w
  pub env : Env (length row) τ E
  pub sized : SizedIn τ row tree
  pub room : 512 * suc (nesting tree) ≤ stack
  pub more : 1024 ≤ other
  pub most : other ≤ out

-- the run of whatever tree w is the code of, over whatever environment E is
pub record Built (w : List ℕ) (E : List (List ℕ)) (r : ℕ) (l : List ℕ) : Type 0 where
  pub is :
      (row : List ℕ) (t : Tree) (τ : ℕ → Term) → Codes row t w → Env (length row) τ E → SizedIn τ row t → Begins r (run_in τ row t) l

-- ---- two runs side by side
-- the first, of a words
abbrev pub left_run : ℕ → List ℕ → List ℕ
left_run a l = take a l

-- the second, of b words
abbrev pub right_run : ℕ → ℕ → List ℕ → List ℕ
right_run a b l = take b (drop a l)

-- the words that an operator makes of them
abbrev pub joined : Operation → ℕ → ℕ → List ℕ → List ℕ
joined Add a b l = summed 0 1 (left_run a l) (right_run a b l)
joined Subtract a b l = summed 0 2147483646 (left_run a l) (right_run a b l)
joined Multiply a b l = multiplied (left_run a l) (right_run a b l)

-- there is room for what the operator makes of them
pub record Joining (o : Operation) (a b : ℕ) (l : List ℕ) (out other : ℕ) : Type 0 where
  pub both : a + b ≤ length l
  pub sum_room : a + b ≤ out
  pub most : other ≤ out
  pub left-fits : Fits 0 (pairs (left_run a l))
  pub right-fits : Fits 0 (pairs (right_run a b l))
  pub product-room : o ≡ Multiply → ProductRoom (left_run a l) (right_run a b l) other
  pub product-fits : o ≡ Multiply → length (multiplied (left_run a l) (right_run a b l)) ≤ length l

-- ---- over a row of n letters, each of which stands for itself
-- w is the code of a tree within the limits
pub record Plain (n : ℕ) (w : List ℕ) (stack out other : ℕ) : Type 0 where
  pub row : List ℕ
  pub tree : Tree
  pub letters : length row ≡ n
  pub some : 1 ≤ n
  pub codes : Codes row tree w
  pub sized : AllSized n (term_of row tree)
  pub room : 512 * suc (nesting tree) ≤ stack
  pub more : 1024 ≤ other
  pub most : other ≤ out

-- the run of whatever tree w is the code of
pub record PlainBuilt (n : ℕ) (w : List ℕ) (r : ℕ) (l : List ℕ) : Type 0 where
  pub is :
      (row : List ℕ) (t : Tree) → length row ≡ n → Codes row t w → AllSized n (term_of row t) →
      Begins r (run_words n (norm_p (term_of row t))) l

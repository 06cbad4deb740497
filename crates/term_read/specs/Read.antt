-- What is read of a term's text.
use Rattle.std.specs.Prelude.{List, ◌≡◌, Result, Ok, Err, ℕ, ◌≤◌, length}
use Rattle.refusal.specs.declared.Fault.{Fault}
use Rattle.horner.specs.definitions.Term.{norm_p}
use Rattle.code.specs.Coding.{Begins, Made}
use Rattle.run_form.specs.Forms.{run_words}
use Rattle.text.specs.definitions.Bytes.{read, refused}
use Rattle.text.specs.definitions.Limits.{accept_term}
use Rattle.text.specs.definitions.Tree.{Tree, term_of}

-- a run of 512 words for each of 16 open parentheses and one more; the words of a tree; a sum or a product on its way
pub record Roomy (stack tree out other : ℕ) : Type 0 where
  pub waits : 8704 ≤ stack
  pub nodes : 6145 ≤ tree
  pub first : 1024 ≤ out
  pub second : 1024 ≤ other

-- the form of the accepted term t stands in the first n words of l
pub record IsTerm (row s : List ℕ) (n : ℕ) (l : List ℕ) : Type 0 where
  pub t : Tree
  pub accepted : accept_term row s ≡ read t
  pub made : Made 0 (norm_p (term_of row t)) n l

-- its run does
pub record IsRun (row s : List ℕ) (n : ℕ) (l : List ℕ) : Type 0 where
  pub t : Tree
  pub accepted : accept_term row s ≡ read t
  pub made : Begins n (run_words (length row) (norm_p (term_of row t))) l

-- the term s is refused, or what is made of it stands in the first words of l
pub data ReadAs (Is : ℕ → List ℕ → Type 0) (row s : List ℕ) (r : Result ℕ Fault) (l : List ℕ) : Type 0 where
  refusal : (bad : Fault) → accept_term row s ≡ refused bad → r ≡ Err bad → ReadAs Is row s r l
  words : (n : ℕ) → Is n l → r ≡ Ok n → ReadAs Is row s r l

-- its form
abbrev pub TermRead : List ℕ → List ℕ → Result ℕ Fault → List ℕ → Type 0
TermRead row s r l = ReadAs (IsTerm row s) row s r l

-- its run
abbrev pub RunRead : List ℕ → List ℕ → Result ℕ Fault → List ℕ → Type 0
RunRead row s r l = ReadAs (IsRun row s) row s r l

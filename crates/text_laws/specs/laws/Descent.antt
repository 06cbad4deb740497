-- The measuring of a node, from that of its parts: as a program works it out, part by part.
use Rattle.std.specs.Prelude.{List, [], ◌∷◌, ◌++◌, ◌≡◌, ℕ, zero, suc, ℤ}
use Rattle.std.proofs.Math.Path.{refl, ap}
use Rattle.std.proofs.Common.{sym, ◌∙◌}
use Rattle.text.specs.definitions.Answer.{Reading, read, refused, fine}
use Rattle.text.specs.definitions.Limits.{finishing, over_limit, first_past, measured}
use Rattle.text.specs.definitions.Tree.{Sign, Tree, num, letter, neg, two, power, start_of, end_of}

-- the first answer where it refuses, else the second
abbrev pub and_then : {A B : Type 0} → Reading A → Reading B → Reading B
and_then (refused c p e) r = refused c p e
and_then (read a) r = r

fine-then :
    {A B : Type 0} (c p e : ℕ) (r : Unit {0} → Reading A) (s : Reading B) →
    and_then (fine c p e r) s ≡ fine c p e (λ u. and_then (r tt) s)
fine-then zero p e r s = refl
fine-then (suc c) p e r s = refl

module _ (row : List ℕ) where
  past-append :
      (t : Tree) (r : Reading Tree) (ts us : List Tree) →
      first_past row r (ts ++ us) ≡ and_then (first_past row (read t) ts) (first_past row r us)
  past-append t r [] us = refl
  past-append t r (x ∷ ts) us =
      ap (λ (z : Reading Tree). fine (over_limit row x) (start_of x) (end_of x) (λ u. z)) (past-append t r ts us)
      ∙ sym (fine-then (over_limit row x) (start_of x) (end_of x) (λ u. first_past row (read t) ts) (first_past row r us))

  -- the node itself, behind its parts
  abbrev pub own : Tree → Reading Tree
  own t = fine (over_limit row t) (start_of t) (end_of t) (λ u. read t)

  -- a leaf is measured alone
  pub measured-num : (p : ℕ) (w : List ℕ) (z : ℤ) → measured row (num p w z) ≡ own (num p w z)
  unfolding measured
  measured-num p w z = refl

  pub measured-letter : (p b : ℕ) → measured row (letter p b) ≡ own (letter p b)
  unfolding measured
  measured-letter p b = refl

  -- a node behind its operands
  pub measured-neg : (p o c : ℕ) (x : Tree) → measured row (neg p o c x) ≡ and_then (measured row x) (own (neg p o c x))
  unfolding measured
  measured-neg p o c x = past-append x (read (neg p o c x)) (finishing x) (neg p o c x ∷ [])

  pub measured-two :
      (p o c : ℕ) (g : Sign) (x y : Tree) →
      measured row (two p o c g x y) ≡ and_then (measured row x) (and_then (measured row y) (own (two p o c g x y)))
  unfolding measured
  measured-two p o c g x y =
      past-append x (read (two p o c g x y)) (finishing x) (finishing y ++ (two p o c g x y ∷ []))
      ∙ ap (and_then (first_past row (read x) (finishing x))) (past-append y (read (two p o c g x y)) (finishing y) (two p o c g x y ∷ []))

  pub measured-power :
      (p o c : ℕ) (x : Tree) (q n : ℕ) → measured row (power p o c x q n) ≡ and_then (measured row x) (own (power p o c x q n))
  unfolding measured
  measured-power p o c x q n = past-append x (read (power p o c x q n)) (finishing x) (power p o c x q n ∷ [])

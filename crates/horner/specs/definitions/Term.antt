-- Terms, their values and their normal forms: Definitions 1, 2, 3 and 13.
-- A row V = (v_0 .. v_(n-1)) enters by its length alone: the letter v_i is `var i`, and an alist ((v_0 n_0) .. (v_(n-1) n_(n-1))) of
-- Definition 2 is the list of its values (n_0 .. n_(n-1)).
use Rattle.std.specs.Prelude.{List, ℕ, ℤ}
use Rattle.horner.specs.definitions.Form.{Form, int, sum, negate, prod, raise, letter, after, hd}
use Rattle.horner.specs.definitions.Rings.{ℤ_ring, Res, red_ℤ, prime, prime-pos, p_ring, Ring, power}

-- Definition 1: "(a) An integer; (b) A member of V; (c) A list (- x); (d) A list (op x y), op one of +, -, *; (e) A list (EXPT x n)"
pub data Term : Type 0 where
  num : ℤ → Term
  var : ℕ → Term
  minus : Term → Term
  plus : Term → Term → Term
  diff : Term → Term → Term
  times : Term → Term → Term
  expt : Term → ℕ → Term

-- over a ring, with ι z in it for the integer z
module _ {A : Type 0} (R : Ring A) (ι : ℤ → A) where
  open R use {◌⊞◌, neg, ◌·◌}

  -- Definition 3, clause by clause; (b): "If q is a member of V and A associates q with n, then evalp(q, A) = n"
  abbrev pub evalp : Term → List A → A
  evalp (num z) N = ι z
  evalp (var i) N = hd R (after i N)
  evalp (minus s) N = neg (evalp s N)
  evalp (plus s t) N = evalp s N ⊞ evalp t N
  evalp (diff s t) N = evalp s N ⊞ neg (evalp t N)
  evalp (times s t) N = evalp s N · evalp t N
  evalp (expt s k) N = power R (evalp s N) k

  -- Definition 13, clause by clause
  abbrev pub norm : Term → Form A
  norm (num z) = int (ι z)
  norm (var i) = letter R i
  norm (minus s) = negate R (norm s)
  norm (plus s t) = sum R (norm s) (norm t)
  norm (diff s t) = sum R (norm s) (negate R (norm t))
  norm (times s t) = prod R (norm s) (norm t)
  norm (expt s k) = raise R (norm s) k

-- over the integers, as document 000 has them
abbrev pub norm_ℤ : Term → Form ℤ
norm_ℤ t = norm ℤ_ring (λ z. z) t

abbrev pub eval_ℤ : Term → List ℤ → ℤ
eval_ℤ t N = evalp ℤ_ring (λ z. z) t N

-- over the remainders by P
abbrev pub norm_p : Term → Form (Res prime)
norm_p t = norm p_ring (red_ℤ prime prime-pos) t

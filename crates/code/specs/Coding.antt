-- The code of a form: a list of words in prefix order. A leaf is its number; a node is 2^31 + 64 s + i, where s is 0 for a POP, and for a
-- POW the number of words that its p takes; its parts follow.
use Rattle.std.specs.Prelude.{◌≡◌, ℕ, zero, suc, ◌+◌, ◌-◌, ◌*◌, ◌/◌, ◌%◌, ◌≤◌, cond, List, [], ◌∷◌, ◌++◌, length, take, drop, ◌==◌, nat_lt}
use Rattle.horner.specs.definitions.Form.{Form, int, pop, pow, Normal}
use Rattle.horner.specs.laws.Degree.{Bounded}
use Rattle.code.specs.Widths.{Leaf, ring_of, leaf}

unfoldable pub enc : (w : ℕ) → Form (Leaf w) → List ℕ
enc w (int c) = c.0 ∷ []
enc w (pop i p) = (2147483648 + i) ∷ enc w p
enc w (pow i p q) = (2147483648 + 64 * length (enc w p) + i) ∷ (enc w p ++ enc w q)

-- 63 for each of n variables
abbrev pub limits : ℕ → List ℕ
limits zero = []
limits (suc n) = 63 ∷ limits n

-- a normal form in four variables, of degree at most 63 in each
pub record Good (w : ℕ) (h : Form (Leaf w)) : Type 0 where
  pub normal : Normal (ring_of w) 4 h
  pub bounded : Bounded (limits 4) h

-- l is the code of h, which is good
pub record Codes (w : ℕ) (h : Form (Leaf w)) (l : List ℕ) : Type 0 where
  pub is : l ≡ enc w h
  pub good : Good w h

-- the form that l is the code of, if it is a code; n bounds the depth
unfoldable pub decn : (w : ℕ) → ℕ → List ℕ → Form (Leaf w)
decn w zero l = int (leaf w 0)
decn w (suc n) [] = int (leaf w 0)
decn w (suc n) (x ∷ l) =
    cond (nat_lt x 2147483648) (int (leaf w x))
    (cond ((x - 2147483648) / 64 == 0) (pop (x % 64) (decn w n l))
    (pow (x % 64) (decn w n (take ((x - 2147483648) / 64) l)) (decn w n (drop ((x - 2147483648) / 64) l))))

unfoldable pub dec : (w : ℕ) → List ℕ → Form (Leaf w)
dec w l = decn w (length l) l

-- l is the code of a good form
abbrev pub Coded : ℕ → List ℕ → Type 0
Coded w l = Codes w (dec w l) l

-- the first r words of d are l
pub record Begins (r : ℕ) (l d : List ℕ) : Type 0 where
  pub size : r ≡ length l
  pub is : take r d ≡ l

-- the first r words of d are the code of h
abbrev pub Made : (w : ℕ) → Form (Leaf w) → ℕ → List ℕ → Type 0
Made w h r d = Begins r (enc w h) d

-- d has room for n - 1 words, and is no longer than a node's word can say
pub record RoomUnder (n : ℕ) (d : List ℕ) : Type 0 where
  pub fits : n ≤ length d + 1
  pub small : length d ≤ 33554432

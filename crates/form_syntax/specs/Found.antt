-- What is found of the parts of a form's text: where the walk over the text (text/program/FormKinds) goes on behind a part, or the refusal
-- that it ends in.
use Rattle.std.specs.Prelude.{Result, Ok, Err, ◌≡◌, Bool, false, ◌&&◌, cond, List, ◌∷◌, ℕ, suc, ◌≤◌, ◌<◌, eqb, ltb, length, get_or, drop}
use Rattle.refusal.specs.declared.Fault.{Fault}
use Rattle.text.specs.definitions.Bytes.{Reading, refused}
use Rattle.text.specs.definitions.FormReading.{Kind, pop_kind, pow_kind}
use Rattle.text.specs.program.FormKinds.{Stand, start, sign, digits, open0, open_po, open_pop, open_pow, before-i, zero-i, digits-i, done}
use Rattle.text.specs.program.FormKinds.{Wait, pop_wait, rest_wait, moved, stuck, pushed, move, is_whole, check, walk}

-- "Forms nest at most 256 deep."
abbrev pub room : ℕ → Bool
room d = ltb d 256

-- the walk over the bytes from the place p on
unfoldable pub from : List ℕ → ℕ → Stand → List Wait → Reading (Unit {0})
from s p a us = walk room p a us (drop p s)

-- the byte b stands at the place p
unfoldable pub is_at : List ℕ → ℕ → ℕ → Bool
is_at s p b = ltb p (length s) && eqb (get_or s p 0) b

-- a part lies within the text and is not empty
abbrev pub Within : List ℕ → ℕ → Result ℕ Fault → Type 0
Within s at (Ok e) = (at < e) × (e ≤ length s)
Within s at (Err bad) = Unit {0}

abbrev pub after : Result ℕ Fault → (ℕ → Reading (Unit {0})) → Reading (Unit {0})
after (Ok e) f = f e
after (Err bad) f = refused bad

-- the part leads the walk from the stand a to the stand b, or ends it; us and vs are what the open parentheses wait for
pub record Takes (s : List ℕ) (at : ℕ) (r : Result ℕ Fault) (a : Stand) (us : List Wait) (b : Stand) (vs : List Wait) : Type 0 where
  pub leads : from s at a us ≡ after r (λ e. from s e b vs)

-- at the stand a the byte x leads on, and no other does
pub record Wants (x : ℕ) (a : Stand) (us : List Wait) (b : Stand) (vs : List Wait) : Type 0 where
  pub is : (y : ℕ) → move a us y ≡ cond (eqb y x) (moved b vs) stuck
  pub free : (y : ℕ) → check room a (length us) y ≡ 0
  pub more : is_whole a us ≡ false

pub record Expects (s : List ℕ) (at x : ℕ) (r : Result ℕ Fault) : Type 0 where
  pub within : Within s at r
  pub takes : {a b : Stand} {us vs : List Wait} → Wants x a us b vs → Takes s at r a us b vs

-- behind the digits an integer is whole, and an index may only be followed by a space
pub record DigitsAt (s : List ℕ) (at e : ℕ) : Type 0 where
  pub more : at ≤ e
  pub inside : e ≤ length s
  pub number : (ws : List Wait) → from s at digits ws ≡ from s e done ws
  pub index : (k : Kind) (ws : List Wait) → from s at (digits-i k) ws ≡ from s e (zero-i k) ws

pub record NaturalAt (s : List ℕ) (at : ℕ) (r : Result ℕ Fault) : Type 0 where
  pub within : Within s at r
  pub index : (k : Kind) (ws : List Wait) → Takes s at r (before-i k) ws (zero-i k) ws
  pub number : is_at s at 40 ≡ false → is_at s at 45 ≡ false → (ws : List Wait) → Takes s at r start ws done ws
  pub signed : is_at s at 48 ≡ false → (ws : List Wait) → Takes s at r sign ws done ws

pub record IntAt (s : List ℕ) (at : ℕ) (r : Result ℕ Fault) : Type 0 where
  pub within : Within s at r
  pub takes : (ws : List Wait) → Takes s at r start ws done ws

abbrev pub named : Kind → Stand
named pop_kind = open_pop
named pow_kind = open_pow

pub record IndexAt (s : List ℕ) (at : ℕ) (r : Result ℕ Fault) : Type 0 where
  pub within : Within s at r
  pub takes : (k : Kind) (ws : List Wait) → Takes s at r (named k) ws start (pushed k ws)

pub record LettersAt (s : List ℕ) (at : ℕ) (r : Result ℕ Fault) : Type 0 where
  pub within : Within s at r
  pub takes : (ws : List Wait) → Takes s at r open0 ws open_po ws

pub record FormAt (s : List ℕ) (at depth : ℕ) (r : Result ℕ Fault) : Type 0 where
  pub within : Within s at r
  pub takes : (ws : List Wait) → length ws ≡ depth → Takes s at r start ws done ws

pub record LastAt (s : List ℕ) (at depth : ℕ) (r : Result ℕ Fault) : Type 0 where
  pub within : Within s at r
  pub of-pop : (ws : List Wait) → suc (length ws) ≡ depth → Takes s at r start (pop_wait ∷ ws) done ws
  pub of_pow : (ws : List Wait) → suc (length ws) ≡ depth → Takes s at r start (rest_wait ∷ ws) done ws

pub record PopAt (s : List ℕ) (at depth : ℕ) (r : Result ℕ Fault) : Type 0 where
  pub within : Within s at r
  pub takes : (ws : List Wait) → suc (length ws) ≡ depth → Takes s at r open_pop ws done ws

pub record PowAt (s : List ℕ) (at depth : ℕ) (r : Result ℕ Fault) : Type 0 where
  pub within : Within s at r
  pub takes : (ws : List Wait) → suc (length ws) ≡ depth → Takes s at r open_pow ws done ws

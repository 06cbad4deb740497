-- What a program keeps of a state while it reads a form: where it stands, and what each open parenthesis waits for. text_laws/FormKinds:
-- the refusals are the same.
use Rattle.std.specs.Prelude.{Bool, true, false, ◌&&◌, cond, not, List, [], ◌∷◌, ℕ, suc, eqb, leb, ltb, length}
use Rattle.text.specs.definitions.Bytes.{Reading, read, refused, refused_at, fine, bytes, same, digit}
use Rattle.text.specs.definitions.FormReading.{Frame, in_pop, in_pow, in_rest, Kind, pop_kind, pow_kind, Spot, before, number, head}
use Rattle.text.specs.definitions.FormReading.{index, behind}

-- before a form; behind `-`; behind the integer `0`; behind other digits; behind `(`, `(P`, `(PO`, `(POP`, `(POW`; before i, behind an i
-- that is `0`, behind other digits of i; behind a `)`
pub data Stand : Type 0 where
  start : Stand
  sign : Stand
  zero_int : Stand
  digits : Stand
  open0 : Stand
  open_p : Stand
  open_po : Stand
  open_pop : Stand
  open_pow : Stand
  before-i : Kind → Stand
  zero-i : Kind → Stand
  digits-i : Kind → Stand
  done : Stand

pub data Wait : Type 0 where
  pop_wait : Wait
  pow_wait : Wait
  rest_wait : Wait

abbrev pub number_stand : List ℕ → Stand
number_stand [] = start
number_stand (x ∷ []) = cond (eqb x 45) sign (cond (eqb x 48) zero_int digits)
number_stand (x ∷ y ∷ w) = digits

abbrev pub head_stand : List ℕ → Stand
head_stand w =
    cond (same w (bytes "P")) open_p
    (cond (same w (bytes "PO")) open_po (cond (same w (bytes "POP")) open_pop (cond (same w (bytes "POW")) open_pow open0)))

abbrev pub index_stand : Kind → List ℕ → Stand
index_stand k [] = before-i k
index_stand k (x ∷ []) = cond (eqb x 48) (zero-i k) (digits-i k)
index_stand k (x ∷ y ∷ w) = digits-i k

abbrev pub stand_of : Spot → Stand
stand_of before = start
stand_of (number w) = number_stand w
stand_of (head w) = head_stand w
stand_of (index k w) = index_stand k w
stand_of (behind f) = done

abbrev pub wait_of : Frame → Wait
wait_of (in_pop i) = pop_wait
wait_of (in_pow i) = pow_wait
wait_of (in_rest i p) = rest_wait

pub data Move : Type 0 where
  moved : Stand → List Wait → Move
  stuck : Move

-- a byte behind a whole form
abbrev pub leave : List Wait → ℕ → Move
leave [] b = stuck
leave (pop_wait ∷ ws) b = cond (eqb b 41) (moved done ws) stuck
leave (pow_wait ∷ ws) b = cond (eqb b 32) (moved start (rest_wait ∷ ws)) stuck
leave (rest_wait ∷ ws) b = cond (eqb b 41) (moved done ws) stuck

abbrev pub pushed : Kind → List Wait → List Wait
pushed pop_kind ws = pop_wait ∷ ws
pushed pow_kind ws = pow_wait ∷ ws

-- the first byte of an integer
abbrev pub first : List Wait → ℕ → Move
first ws b = cond (eqb b 45) (moved sign ws) (cond (eqb b 48) (moved zero_int ws) (cond (digit b) (moved digits ws) stuck))

abbrev pub move : Stand → List Wait → ℕ → Move
move start ws b = cond (eqb b 40) (moved open0 ws) (first ws b)
move sign ws b = cond (digit b && not (eqb b 48)) (moved digits ws) stuck
move zero_int ws b = leave ws b
move digits ws b = cond (digit b) (moved digits ws) (leave ws b)
move open0 ws b = cond (eqb b 80) (moved open_p ws) stuck
move open_p ws b = cond (eqb b 79) (moved open_po ws) stuck
move open_po ws b = cond (eqb b 80) (moved open_pop ws) (cond (eqb b 87) (moved open_pow ws) stuck)
move open_pop ws b = cond (eqb b 32) (moved (before-i pop_kind) ws) stuck
move open_pow ws b = cond (eqb b 32) (moved (before-i pow_kind) ws) stuck
move (before-i k) ws b = cond (eqb b 48) (moved (zero-i k) ws) (cond (digit b) (moved (digits-i k) ws) stuck)
move (zero-i k) ws b = cond (eqb b 32) (moved start (pushed k ws)) stuck
move (digits-i k) ws b = cond (eqb b 32) (moved start (pushed k ws)) (cond (digit b) (moved (digits-i k) ws) stuck)
move done ws b = leave ws b

-- may the text end here?
abbrev pub is_whole : Stand → List Wait → Bool
is_whole start ws = false
is_whole sign ws = false
is_whole zero_int [] = true
is_whole zero_int (w ∷ ws) = false
is_whole digits [] = true
is_whole digits (w ∷ ws) = false
is_whole open0 ws = false
is_whole open_p ws = false
is_whole open_po ws = false
is_whole open_pop ws = false
is_whole open_pow ws = false
is_whole (before-i k) ws = false
is_whole (zero-i k) ws = false
is_whole (digits-i k) ws = false
is_whole done [] = true
is_whole done (w ∷ ws) = false

abbrev pub case_move : {B : Type 0} → Move → B → (Stand → List Wait → B) → B
case_move stuck a f = a
case_move (moved s ws) a f = f s ws

module _ (room : ℕ → Bool) where
  -- "a parenthesis opened beyond the limit": asked where a form may begin
  abbrev pub check : Stand → ℕ → ℕ → ℕ
  check start d b = cond (eqb b 40) (cond (room d) 0 6) 0
  check sign d b = 0
  check zero_int d b = 0
  check digits d b = 0
  check open0 d b = 0
  check open_p d b = 0
  check open_po d b = 0
  check open_pop d b = 0
  check open_pow d b = 0
  check (before-i k) d b = 0
  check (zero-i k) d b = 0
  check (digits-i k) d b = 0
  check done d b = 0

  abbrev pub ended : Bool → ℕ → Reading (Unit {0})
  ended true p = read tt
  ended false p = refused_at 4 p

  abbrev pub walk : ℕ → Stand → List Wait → List ℕ → Reading (Unit {0})
  walk p s ws [] = ended (is_whole s ws) p
  walk p s ws (b ∷ bs) = case_move (move s ws b) (refused_at 4 p) (λ s' ws'. fine (check s (length ws) b) p (λ u. walk (suc p) s' ws' bs))

-- the answer without what was read
abbrev pub verdict : {A : Type 0} → Reading A → Reading (Unit {0})
verdict (read a) = read tt
verdict (refused bad) = refused bad

-- the syntax of a form's text (text_laws/FormWalk, syntax-verdict)
unfoldable pub syntax : List ℕ → Reading (Unit {0})
syntax s = elim (leb (length s) 65535) [ true ↦ walk (λ d. ltb d 256) 0 start [] s | false ↦ refused_at 3 0 ]

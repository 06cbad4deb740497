-- What the answers to request lines share: how many fields are wanted, numbers and coordinates in fields, and the line of a remainder.
use Rattle.std.specs.Prelude.{Option, Some, None, Ok, Err, cond, List, [], ◌∷◌, ℕ, zero, suc, ◌+◌, ◌-◌, min, eqb, ltb, ℤ, take}
use Rattle.reply.specs.definitions.Reply.{Remaindered, Reply, gives, refuses}
use Rattle.desk_field.specs.Fields.{field_of, rest_of, count_of, natural_of, signed_of, coordinate_of, coordinates_of}
use Rattle.desk_reply.specs.Reply.{wrong_text, refused_text, remainder_text}

-- a request of k fields: w, or the number of the first field that is missing or too many
abbrev pub counted : ℕ → List ℕ → List ℕ → List ℕ
counted k line w = cond (eqb (count_of line) k) w (wrong_text (min (count_of line) k))

-- ---- a request whose field k is a number of 32 bits
-- w of the number, or that field k is wrong
abbrev pub number_or : ℕ → (ℕ → List ℕ) → Option ℕ → List ℕ
number_or k w (Some m) = w m
number_or k w None = wrong_text k

-- the same where the line has a field k; else the number of the first field that is missing
abbrev pub numbered : ℕ → List ℕ → (ℕ → List ℕ) → List ℕ
numbered k line w = cond (ltb (count_of line) (suc k)) (wrong_text (count_of line)) (number_or k w (natural_of (field_of line k)))

-- ---- a request with coordinates, from field 3 on
-- the first wrong field: one that is missing, or one that is no coordinate; 0 where none is
unfoldable pub point_fault : List ℕ → ℕ
point_fault line =
    cond (ltb (count_of line) 3) (count_of line)
    (cond (ltb (coordinates_of (count_of line - 3) (rest_of (rest_of (rest_of line)))) (count_of line - 3))
    (3 + coordinates_of (count_of line - 3) (rest_of (rest_of (rest_of line))))
    0)

-- the same, where 0 is no field
abbrev pub some_fault : ℕ → Option ℕ
some_fault zero = None
some_fault (suc n) = Some (suc n)

-- the numbers of the fields 3 to 7
abbrev pub five_of : List ℕ → List ℤ
five_of line =
    coordinate_of (signed_of (field_of line 3)) ∷ coordinate_of (signed_of (field_of line 4)) ∷ coordinate_of (signed_of (field_of line 5))
    ∷ coordinate_of (signed_of (field_of line 6)) ∷ coordinate_of (signed_of (field_of line 7)) ∷ []

-- the point: the coordinates, or the first five of them, since no row has more than four letters
abbrev pub point_of : List ℕ → List ℤ
point_of line = take (min (count_of line - 3) 5) (five_of line)

-- w, or the number of the first wrong field
abbrev pub pointed : List ℕ → List ℕ → List ℕ
pointed line w = cond (eqb (point_fault line) 0) w (wrong_text (point_fault line))

-- ---- the line of a remainder
abbrev pub remaindered_text : Reply ℕ → List ℕ
remaindered_text (gives n) = remainder_text n
remaindered_text (refuses bad) = refused_text bad

-- the same of the answer that the call gives
abbrev pub remaindered_line : Remaindered → List ℕ
remaindered_line (Ok n) = remainder_text n
remaindered_line (Err bad) = refused_text bad

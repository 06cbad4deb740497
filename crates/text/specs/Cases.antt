-- The starred cases of document 01 and those that the requests name, in one table under one claim, by computation: from text to text.
use Rattle.std.specs.Prelude.{Bool, true, false, ◌&&◌, List, [], ◌∷◌, ℕ, T, eqb, length}
use Prim.Native.String.{String}
use Rattle.dialect.specs.Dialects.{ordinary, with_hex, panel_terms}
use Rattle.dialect.specs.declared.Dialect.{Dialect}
use Rattle.horner.specs.definitions.Points.{point_of, leaves}
use Rattle.horner.specs.definitions.Rings.{prime}
use Rattle.horner.specs.definitions.Term.{Term, norm_ℤ}
use Rattle.text.specs.definitions.Answer.{Reading, read, refused}
use Rattle.text.specs.definitions.Bytes.{bytes, same, decimal}
use Rattle.text.specs.definitions.FormReading.{text}
use Rattle.text.specs.definitions.Limits.{accept}
use Rattle.text.specs.definitions.Tree.{Tree, term_of}

-- in a dialect over a row: a term's text and its form's text; a term's text and its refusal, with place and end; and of document 01's
-- terms, two texts, the first point at which their remainders differ, and those
pub data Case : Type 0 where
  has : Dialect → (row term form : String) → Case
  refuses : Dialect → (row term : String) (number place end : ℕ) → Case
  differ : (row left right : String) (point : List ℕ) (leftThere rightThere : ℕ) → Case

abbrev pub is_text : List ℕ → Reading Tree → List ℕ → Bool
is_text row (read t) s = same (text (norm_ℤ (term_of row t))) s
is_text row (refused c p e) s = false

abbrev pub is_refused : Reading Tree → ℕ → ℕ → ℕ → Bool
is_refused (read t) c p e = false
is_refused (refused c' p' e') c p e = eqb c' c && (eqb p' p && eqb e' e)

abbrev pub is_point : ℕ → Term → Term → List ℕ → ℕ → ℕ → Bool
is_point n f g N l r = same (point_of prime n f g) N && (eqb (leaves prime f N) l && eqb (leaves prime g N) r)

abbrev pub are_different : List ℕ → Reading Tree → Reading Tree → List ℕ → ℕ → ℕ → Bool
are_different row (read t) (read u) N l r = is_point (length row) (term_of row t) (term_of row u) N l r
are_different row (read t) (refused c p e) N l r = false
are_different row (refused c p e) (read u) N l r = false
are_different row (refused c p e) (refused c' p' e') N l r = false

abbrev pub holds : Case → Bool
unfolding accept decimal
holds (has D row s t) = is_text (bytes row) (accept D (bytes row) (bytes s)) (bytes t)
holds (refuses D row s c p e) = is_refused (accept D (bytes row) (bytes s)) c p e
holds (differ row s t N l r) =
    are_different (bytes row) (accept ordinary (bytes row) (bytes s)) (accept ordinary (bytes row) (bytes t)) N l r

abbrev pub all_hold : List Case → Bool
unfolding accept decimal
all_hold [] = true
all_hold (c ∷ cs) = holds c && all_hold cs

abbrev pub cases : List Case
cases =
    has ordinary "XY" "Y" "(POP 1 (POW 1 1 0))" ∷
    has ordinary "XY" "(* (+ X Y) (- X Y))" "(POW 2 1 (POW 2 -1 0))" ∷
    has ordinary "X" "(* (+ (EXPT X 2) 5) (+ X 7))" "(POW 1 (POW 1 (POW 1 1 7) 5) 35)" ∷
    has ordinary "XYZ" "(+ (* X Z) (EXPT X 3))" "(POW 1 (POW 2 1 (POP 1 (POW 1 1 0))) 0)" ∷
    has ordinary "X" "(- X X)" "0" ∷
    has ordinary "X" "(EXPT 0 0)" "1" ∷
    has ordinary "X" "(EXPT 2 29)" "536870912" ∷
    refuses ordinary "X" "(EXPT 2 30)" 9 0 11 ∷
    has ordinary "X" "(EXPT X 63)" "(POW 63 1 0)" ∷
    refuses ordinary "X" "(EXPT X 64)" 8 0 11 ∷
    differ "X" "(EXPT X 2)" "X" (2 ∷ []) 4 2 ∷
    differ "X" "X" "(- X)" (1 ∷ []) 1 2147483646 ∷
    -- request 102: "case B's fourth line ends `7 8`"
    refuses ordinary "XY" "(+ X Y Z)" 4 7 8 ∷
    refuses ordinary "XY" "" 4 0 0 ∷
    refuses ordinary "XY" "(+X Y)" 4 1 3 ∷
    refuses ordinary "XY" "Q" 5 0 1 ∷
    refuses ordinary "XY" "(+ X Y" 4 6 6 ∷
    refuses ordinary "XY" "(- (EXPT 2 30) (EXPT 2 30))" 9 3 14 ∷
    -- request 106: "`0x3FFFFFFF` stands and `0x40000000` is 9"; "Exponents .. stay decimal"
    refuses ordinary "X" "0x1F" 4 0 4 ∷
    has with_hex "X" "0x1F" "31" ∷
    has with_hex "X" "0x3FFFFFFF" "1073741823" ∷
    refuses with_hex "X" "0x40000000" 9 0 10 ∷
    refuses with_hex "X" "(EXPT X 0x2)" 4 8 11 ∷
    -- request 101: "no binary minus, no EXPT of anything but a letter"; "15, not a panel term, replaces 4"
    refuses panel_terms "XY" "(- X Y)" 15 5 6 ∷
    has panel_terms "X" "(- X)" "(POW 1 -1 0)" ∷
    refuses panel_terms "X" "(EXPT 2 3)" 15 6 7 ∷
    []

pub cases-hold : T (all_hold cases)
unfolding accept decimal
cases-hold = tt

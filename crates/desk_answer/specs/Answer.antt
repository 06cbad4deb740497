-- What a request line is answered with: the ten words, each by the fields of its line; tables lists the lengths of the work tables.
use Rattle.std.specs.Prelude.{cond, List, [], ◌∷◌, ℕ, leb}
use Rattle.text.specs.definitions.Bytes.{bytes, same}
use Rattle.desk_field.specs.Fields.{field_of}
use Rattle.desk_reply.specs.Reply.{room, wrong_text}
use Rattle.desk_term.specs.Term.{form_line, remainder_line}
use Rattle.desk_compare.specs.Compare.{compare_line, counters_line}
use Rattle.desk_form.specs.Form.{judge_line, negate_line, raise_line, form_remainder_line}
use Rattle.desk_operation.specs.Operation.{add_line, multiply_line}
use Rattle.desk_answer.specs.declared.Word.{Word}
use Rattle.desk_answer.specs.declared.Word.TheVariants.{Form, Remainder, Judge, Negate, Add, Multiply, Raise, FormRemainder}
use Rattle.desk_answer.specs.declared.Word.TheVariants.{Compare, Counters, Unknown}

-- how each word is spelt
abbrev pub words : List (List ℕ × Word)
words =
    (bytes "form", Form)
    ∷ (bytes "remainder", Remainder)
    ∷ (bytes "judge", Judge)
    ∷ (bytes "negate", Negate)
    ∷ (bytes "add", Add)
    ∷ (bytes "multiply", Multiply)
    ∷ (bytes "raise", Raise)
    ∷ (bytes "formremainder", FormRemainder)
    ∷ (bytes "compare", Compare)
    ∷ (bytes "counters", Counters)
    ∷ []

-- the word of the first row of the table that v spells
abbrev pub word_in : List ℕ → List (List ℕ × Word) → Word
word_in v [] = Unknown
word_in v (r ∷ rs) = cond (same v r.0) r.1 (word_in v rs)

unfoldable pub word_of : List ℕ → Word
word_of v = word_in v words

-- what a line with the word is answered with; field 0 is wrong where it is no word at all
abbrev pub answer_by : Word → (tables line : List ℕ) → List ℕ
answer_by Form tables line = form_line tables line
answer_by Remainder tables line = remainder_line tables line
answer_by Judge tables line = judge_line line
answer_by Negate tables line = negate_line tables line
answer_by Add tables line = add_line tables line
answer_by Multiply tables line = multiply_line tables line
answer_by Raise tables line = raise_line tables line
answer_by FormRemainder tables line = form_remainder_line tables line
answer_by Compare tables line = compare_line tables line
answer_by Counters tables line = counters_line tables line
answer_by Unknown tables line = wrong_text 0

unfoldable pub line_answer : (tables line : List ℕ) → List ℕ
line_answer tables line = answer_by (word_of (field_of line 0)) tables line

-- the same into a buffer of n bytes: nothing where these are fewer than `FORM ` and a result of 65,535 bytes may take
abbrev pub answer_in : ℕ → (tables line : List ℕ) → List ℕ
answer_in n tables line = cond (leb room n) (line_answer tables line) []

-- What `judge`, `negate`, `raise` and `formremainder` are answered with, by the fields of their lines; tables lists the lengths of the
-- work tables.
use Rattle.std.specs.Prelude.{Ok, Err, List, ℕ}
use Rattle.text.specs.definitions.Bytes.{bytes}
use Rattle.reply.specs.definitions.Calls.{judge_reply, negate_reply, raise_reply, form_remainder_reply}
use Rattle.reply.specs.definitions.Reply.{Judged, Reply, gives, refuses}
use Rattle.desk_field.specs.Fields.{field_of}
use Rattle.desk_reply.specs.Reply.{refused_text, result_text}
use Rattle.desk_serve.specs.Serve.{counted, numbered, point_of, pointed, remaindered_text}

-- the line of a judgement
abbrev pub judged_text : Reply (Unit {0}) → List ℕ
judged_text (gives u) = bytes "YES"
judged_text (refuses bad) = refused_text bad

-- the same of the answer that the call gives
abbrev pub judged_line : Judged → List ℕ
judged_line (Ok u) = bytes "YES"
judged_line (Err bad) = refused_text bad

-- `judge ROW FORM`, with no work tables
abbrev pub judge_line : List ℕ → List ℕ
judge_line line = counted 3 line (judged_text (judge_reply (field_of line 1) (field_of line 2)))

-- `negate ROW FORM`
abbrev pub negate_line : List ℕ → List ℕ → List ℕ
negate_line tables line = counted 3 line (result_text (negate_reply (field_of line 1) tables (field_of line 2) 65535))

-- `raise ROW FORM N`, where N is the number k
abbrev pub raise_by : List ℕ → List ℕ → ℕ → List ℕ
raise_by tables line k = counted 4 line (result_text (raise_reply (field_of line 1) tables (field_of line 2) k 65535))

-- `raise ROW FORM N`
abbrev pub raise_line : List ℕ → List ℕ → List ℕ
raise_line tables line = numbered 3 line (raise_by tables line)

-- `formremainder ROW FORM X1 ..`
abbrev pub form_remainder_line : List ℕ → List ℕ → List ℕ
form_remainder_line tables line = pointed line (remaindered_text (form_remainder_reply (field_of line 1) tables (field_of line 2) (point_of line)))

-- What `form` and `remainder` are answered with, by the fields of their lines; tables lists the lengths of the work tables.
use Rattle.std.specs.Prelude.{List, ℕ}
use Rattle.reply.specs.definitions.Calls.{form_reply, remainder_reply}
use Rattle.desk_field.specs.Fields.{field_of}
use Rattle.desk_reply.specs.Reply.{result_text}
use Rattle.desk_serve.specs.Serve.{counted, point_of, pointed, remaindered_text}

-- `form ROW TERM`
abbrev pub form_line : List ℕ → List ℕ → List ℕ
form_line tables line = counted 3 line (result_text (form_reply (field_of line 1) tables (field_of line 2) 65535))

-- `remainder ROW TERM X1 ..`
abbrev pub remainder_line : List ℕ → List ℕ → List ℕ
remainder_line tables line = pointed line (remaindered_text (remainder_reply (field_of line 1) tables (field_of line 2) (point_of line)))

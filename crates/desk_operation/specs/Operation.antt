-- What `add` and `multiply` are answered with, by the fields of their lines; tables lists the lengths of the work tables.
use Rattle.std.specs.Prelude.{List, ℕ}
use Rattle.reply.specs.definitions.Calls.{add_reply, multiply_reply}
use Rattle.desk_field.specs.Fields.{field_of}
use Rattle.desk_reply.specs.Reply.{result_text}
use Rattle.desk_serve.specs.Serve.{counted}

-- `add ROW FORM FORM`
abbrev pub add_line : List ℕ → List ℕ → List ℕ
add_line tables line = counted 4 line (result_text (add_reply (field_of line 1) tables (field_of line 2) (field_of line 3) 65535))

-- `multiply ROW FORM FORM`
abbrev pub multiply_line : List ℕ → List ℕ → List ℕ
multiply_line tables line = counted 4 line (result_text (multiply_reply (field_of line 1) tables (field_of line 2) (field_of line 3) 65535))

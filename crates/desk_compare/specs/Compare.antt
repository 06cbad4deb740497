-- What `compare` and `counters` are answered with, by the fields of their lines; tables lists the lengths of the work tables.
use Rattle.reply.specs.declared.Comparison.TheVariants.{Same, Different}
use Rattle.std.specs.Prelude.{Ok, Err, Bool, true, false, cond, List, ℕ}
use Rattle.text.specs.definitions.Bytes.{bytes}
use Rattle.reply.specs.definitions.Calls.{Compared, Verdict, equal, different, compare_reply, counters_reply}
use Rattle.reply.specs.definitions.Reply.{Counted, Reply, gives, refuses}
use Rattle.desk_field.specs.Fields.{field_of}
use Rattle.text_line.specs.Line.{different_text}
use Rattle.desk_reply.specs.Reply.{refused_text}
use Rattle.desk_serve.specs.Serve.{counted, numbered}

-- ---- over the whole numbers
-- the line of a comparison
abbrev pub compared_text : Reply Verdict → List ℕ
compared_text (gives equal) = bytes "SAME"
compared_text (gives (different N l r)) = different_text N l r
compared_text (refuses bad) = refused_text bad

-- the same of the answer that the call gives, and of the point
abbrev pub compared_line : Compared → List ℕ → List ℕ
compared_line (Ok Same) N = bytes "SAME"
compared_line (Ok (Different l r)) N = different_text N l r
compared_line (Err bad) N = refused_text bad

-- `compare ROW TERM TERM`, with a point buffer of four numbers
abbrev pub compare_line : List ℕ → List ℕ → List ℕ
compare_line tables line = counted 4 line (compared_text (compare_reply (field_of line 1) tables 4 (field_of line 2) (field_of line 3)))

-- ---- as counters
-- the line of a comparison as counters
abbrev pub counted_text : Reply Bool → List ℕ
counted_text (gives b) = cond b (bytes "SAME") (bytes "DIFF")
counted_text (refuses bad) = refused_text bad

-- the same of the answer that the call gives
abbrev pub counted_line : Counted → List ℕ
counted_line (Ok true) = bytes "SAME"
counted_line (Ok false) = bytes "DIFF"
counted_line (Err bad) = refused_text bad

-- `counters ROW WIDTH TERM TERM`, where WIDTH is the number w
abbrev pub counters_by : List ℕ → List ℕ → ℕ → List ℕ
counters_by tables line w = counted 5 line (counted_text (counters_reply (field_of line 1) tables w (field_of line 3) (field_of line 4)))

-- `counters ROW WIDTH TERM TERM`
abbrev pub counters_line : List ℕ → List ℕ → List ℕ
counters_line tables line = numbered 2 line (counters_by tables line)

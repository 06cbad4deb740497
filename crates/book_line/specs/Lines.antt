-- The lines as they are written: piece by piece, each number with the space or the line feed behind it.
use Rattle.reply.specs.declared.Comparison.TheVariants.{Same, Different}
use Rattle.reply.specs.definitions.Calls.{Compared}
use Rattle.std.specs.Prelude.{Ok, Err, List, [], ◌∷◌, ◌++◌, ℕ}
use Rattle.text.specs.definitions.Bytes.{bytes, decimal}
use Rattle.text_line.specs.Line.{different_text}
use Rattle.refusal.specs.declared.Fault.{Fault}
use Rattle.refusal.specs.declared.Refusal.{Refusal}
use Rattle.refusal.specs.declared.Side.{Side}
use Rattle.refusal.specs.declared.Side.TheVariants.{Left, Right, Neither}

-- a number and a space; a number and a line feed
abbrev pub spaced : ℕ → List ℕ
spaced n = decimal n ++ (32 ∷ [])

abbrev pub ended : ℕ → List ℕ
ended n = decimal n ++ (10 ∷ [])

abbrev pub refused_start : Side → List ℕ
refused_start Left = bytes "REFUSED E "
refused_start Right = bytes "REFUSED C "
refused_start Neither = bytes "REFUSED  "

abbrev pub refused_text : Refusal → List ℕ
refused_text bad = (refused_start bad.side ++ spaced bad.number) ++ ended bad.place

abbrev pub answer_text : Compared → List ℕ → List ℕ
answer_text (Ok Same) N = bytes "SAME\n"
answer_text (Ok (Different l r)) N = different_text N l r ++ (10 ∷ [])
answer_text (Err bad) N = refused_text bad

unfoldable pub entry_text : ℕ → Compared → List ℕ → List ℕ
entry_text i c N = spaced i ++ answer_text c N

unfoldable pub head_text : ℕ → ℕ → List ℕ
head_text n m = (bytes "BOOK " ++ spaced n) ++ ended m

unfoldable pub refusal_text : Fault → List ℕ
refusal_text bad = (bytes "BOOK REFUSED " ++ spaced bad.number) ++ ended bad.place

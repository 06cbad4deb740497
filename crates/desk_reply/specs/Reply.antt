-- The lines that answer requests, as texts, and what it is to have written one.
use Rattle.std.specs.Prelude.{Ok, Err, List, ◌++◌, ◌≡◌, ℕ, ◌+◌, ◌≤◌}
use Rattle.text.specs.definitions.Bytes.{bytes, decimal}
use Rattle.form_write.specs.Write.{Wrote}
use Rattle.reply.specs.definitions.Reply.{Written, Reply, gives, refuses}
use Rattle.refusal.specs.declared.Refusal.{Refusal}
use Rattle.refusal.specs.declared.Side.{Side}
use Rattle.refusal.specs.declared.Side.TheVariants.{Left, Right, Neither}

-- the bytes that an answer may take: `FORM `, and a result of at most 65,535 bytes
abbrev pub room : ℕ
room = 65540

-- `? n`
abbrev pub wrong_text : ℕ → List ℕ
wrong_text n = bytes "? " ++ decimal n

abbrev pub side_text : Side → List ℕ
side_text Left = bytes " left "
side_text Right = bytes " right "
side_text Neither = bytes " neither "

-- `REFUSED number side place`
abbrev pub refused_text : Refusal → List ℕ
refused_text bad = ((bytes "REFUSED " ++ decimal bad.number) ++ side_text bad.side) ++ decimal bad.place

-- the line of a call with a result text: `FORM text`, or its refusal
abbrev pub result_text : Reply (List ℕ) → List ℕ
result_text (gives w) = bytes "FORM " ++ w
result_text (refuses bad) = refused_text bad

-- `REMAINDER n`
abbrev pub remainder_text : ℕ → List ℕ
remainder_text n = bytes "REMAINDER " ++ decimal n

-- a buffer of k bytes has room for the line of an answer
abbrev pub LineFits : Written → ℕ → Type 0
LineFits (Ok n) k = (5 + n ≤ k) × (64 ≤ k)
LineFits (Err bad) k = 64 ≤ k

-- the line of an answer: where there is a result text, `FORM ` is written in front of it
abbrev pub Replied : Written → ℕ → List ℕ → List ℕ → Type 0
Replied (Ok n) r old new = (r ≡ 5 + n) × Wrote 5 (bytes "FORM ") old new
Replied (Err bad) r old new = Wrote r (refused_text bad) old new

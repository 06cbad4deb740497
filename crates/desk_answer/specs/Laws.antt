-- The answer by the tests that the code makes: of the word, and of the room.
use Rattle.std.specs.Prelude.{Bool, true, false, cond, List, [], ◌∷◌, ◌≡◌, refl, ℕ, ◌≤◌, ◌<◌, length, drop}
use Rattle.std.proofs.Common.{sym, ap, ◌∙◌, le-leb}
use Rattle.std.proofs.lemmas.Bool.{lt-leb}
use Rattle.text.specs.definitions.Bytes.{same}
use Rattle.text_laws.specs.laws.Bytes.{same-eq, same_refl}
use Rattle.form_write.specs.Write.{Wrote}
use Rattle.form_write.specs.laws.Wrote.{wrote_as, wrote_none}
use Rattle.desk_field.specs.Fields.{field_of}
use Rattle.desk_answer.specs.Answer.{word_in, word_of, answer_by, line_answer, answer_in}
use Rattle.desk_answer.specs.declared.Word.{Word}
use Rattle.desk_answer.specs.declared.Word.TheVariants.{Unknown}
use Rattle.desk_reply.specs.Reply.{room}

-- ---- one test of a word: b tells whether v is the word w
abbrev pub Tells : List ℕ → Bool → List ℕ → Type 0
Tells v b w = (b ≡ true → v ≡ w) × (v ≡ w → b ≡ true)

is_word : (v w : List ℕ) {b : Bool} → Tells v b w → b ≡ true → same v w ≡ true
is_word v w t e = ap (λ l. same l w) (t.0 e) ∙ same_refl w

not-word : (v w : List ℕ) {b : Bool} → Tells v b w → b ≡ false → same v w ≡ false
not-word v w t e = go (same v w) refl
  where
    go : (c : Bool) → same v w ≡ c → c ≡ false
    go false q = refl
    go true q = sym (t.1 (same-eq v w q)) ∙ e

-- ---- the first row of a table of words: it is passed over, or its word is the one
abbrev pub top : List (List ℕ × Word) → List ℕ × Word
top [] = ([], Unknown)
top (r ∷ rs) = r

pub passed : (v : List ℕ) (rs : List (List ℕ × Word)) {b : Bool} → Tells v b (top rs).0 → b ≡ false → word_in v rs ≡ word_in v (drop 1 rs)
passed v [] t e = refl
passed v (r ∷ rs) t e = ap (λ z. cond z r.1 (word_in v rs)) (not-word v r.0 t e)

pub found : (v : List ℕ) (rs : List (List ℕ × Word)) {b : Bool} → Tells v b (top rs).0 → b ≡ true → word_in v rs ≡ (top rs).1
found v [] t e = refl
found v (r ∷ rs) t e = ap (λ z. cond z r.1 (word_in v rs)) (is_word v r.0 t e)

-- ---- the line of the word that was found
pub by_word :
    (tables line : List ℕ) {v : List ℕ} {k : Word} {r : ℕ} {old new : List ℕ} (word : Word) → v ≡ field_of line 0 → word ≡ word_of v →
    word ≡ k
    → Wrote r (answer_by k tables line) old new → Wrote r (line_answer tables line) old new
unfolding line_answer
by_word tables line {v} word f w k h = wrote_as h (ap (λ x. answer_by x tables line) (sym k ∙ w ∙ ap word_of f))

-- ---- the room
module _ (tables line : List ℕ) where
  pub answer-none : (old : List ℕ) → length old < room → Wrote 0 (answer_in (length old) tables line) old old
  answer-none old h = wrote_as (wrote_none old) (sym (ap (λ b. cond b (line_answer tables line) []) (lt-leb room (length old) h)))

  pub answer-some :
      {r : ℕ} {old new : List ℕ} → room ≤ length old → Wrote r (line_answer tables line) old new →
      Wrote r (answer_in (length old) tables line) old new
  answer-some {r} {old} h w = wrote_as w (sym (ap (λ b. cond b (line_answer tables line) []) (le-leb room (length old) h)))

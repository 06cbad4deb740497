-- What the printer writes for a book: its whole answer, where that fits the page.
use Rattle.std.specs.Prelude.{Ok, Err, cond, List, [], ℕ, leb, length, take}
use Rattle.book.specs.definitions.Book.{printed}
use Rattle.book_print.specs.Print.{page}
use Rattle.reply.specs.definitions.Reply.{Written, Reply, gives, refuses, fitted}

-- the text that is given, and none where it is refused
abbrev pub text_given : Reply (List ℕ) → List ℕ
text_given (gives w) = w
text_given (refuses bad) = []

-- the text that an answer tells to stand at the front of out, and none where it is refused
abbrev pub text_told : Written → (out : List ℕ) → List ℕ
text_told (Ok n) out = cond (leb n (length out)) (take n out) []
text_told (Err bad) out = []

-- what is written for a book
unfoldable pub shown : (book : List ℕ) → List ℕ
shown book = text_given (fitted page (printed book))

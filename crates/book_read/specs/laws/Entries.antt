-- Entries, one by one.
use Rattle.std.specs.Prelude.{List, [], ◌∷◌, ◌≡◌, ℕ, suc, ◌+◌, ◌-◌}
use Rattle.std.proofs.Common.{ap, ◌∙◌}
use Rattle.text.specs.definitions.Bytes.{onward, Reading, read}
use Rattle.book.specs.definitions.Book.{Entry, body, entries, part}

module _ (book : List ℕ) (p at : ℕ) where
  -- ---- the first of k entries
  abbrev pub rest : (k m n : ℕ) → Reading (List Entry)
  rest k m n =
      onward (entries book (p + 8) (at + m + n) k) (λ es. read (record { panel = part book at m; cloud = part book (at + m) n } ∷ es))

  abbrev pub clouds : (k m : ℕ) → Reading (List Entry)
  clouds k m = onward (body book (p + 4) (at + m)) (rest k m)

  pub entries-then : (k m n : ℕ) → body book p at ≡ read m → body book (p + 4) (at + m) ≡ read n → entries book p at (suc k) ≡ rest k m n
  entries-then k m n h i = ap (λ x. onward x (clouds k)) h ∙ ap (λ x. onward x (rest k m)) i

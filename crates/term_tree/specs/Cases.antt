-- Texts over the row XY and the words of their trees, in one table under one claim, by computation: a place and an end beside each head.
use Rattle.std.specs.Prelude.{Bool, true, false, ◌&&◌, List, [], ◌∷◌, ℕ, T}
use Prim.Native.String.{String}
use Rattle.dialect.specs.Dialects.{ordinary, with_hex, panel_terms}
use Rattle.dialect.specs.declared.Dialect.{Dialect}
use Rattle.text.specs.definitions.Answer.{Reading, read, refused}
use Rattle.text.specs.definitions.Bytes.{bytes, same}
use Rattle.text.specs.definitions.Limits.{accept}
use Rattle.text.specs.definitions.Tree.{Tree}
use Rattle.term_tree.specs.Coding.{enc}

pub data Case : Type 0 where
  has : Dialect → (term : String) → (words : List ℕ) → Case

abbrev pub is_words : Reading Tree → List ℕ → Bool
unfolding enc
is_words (read t) ws = same (enc (bytes "XY") t) ws
is_words (refused c p e) ws = false

abbrev pub all_hold : List Case → Bool
unfolding accept
all_hold [] = true
all_hold (has D s ws ∷ cs) = is_words (accept D (bytes "XY") (bytes s)) ws && all_hold cs

abbrev pub cases : List Case
cases =
    has ordinary "(+ X -5)" (2147483666 ∷ 524288 ∷ 2147483648 ∷ 262147 ∷ 2147483642 ∷ 458757 ∷ []) ∷
    has with_hex "0x1F" (31 ∷ 262144 ∷ []) ∷
    has with_hex "0x3FFFFFFF" (1073741823 ∷ 655360 ∷ []) ∷
    has panel_terms "(- X)" (2147483649 ∷ 327680 ∷ 2147483648 ∷ 262147 ∷ []) ∷
    []

pub cases-hold : T (all_hold cases)
unfolding accept enc
cases-hold = tt

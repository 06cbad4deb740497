-- How long the text of a node is, from the lengths that the calls on its parts returned.
use Rattle.std.proofs.Common.{List, ◌≡◌, ℕ, ◌+◌, ◌%◌, arith, length}
use Rattle.std.proofs.Math.ListN.{get_or}
use Rattle.code.specs.Coding.{dec}
use Rattle.code.specs.laws.Parts.{inner, first, rest, PopAt, PowAt}
use Rattle.form_write.specs.Write.{text_of, numeral}
use Rattle.form_write.specs.laws.Sizes.{head-length, pop-length, pow-length}

pub pop-total :
    {l : List ℕ} {d n : ℕ} → PopAt 0 l → d ≡ length (numeral (get_or l 0 0 % 64)) → n ≡ length (text_of (dec 0 (inner l))) →
    6 + d + n + 1 ≡ length (text_of (dec 0 l))
pop-total {l} v e f = omega (arith, pop-length v, head-length 80 (get_or l 0 0 % 64))

pub pow-total :
    {l : List ℕ} {d n m : ℕ} → PowAt 0 l → d ≡ length (numeral (get_or l 0 0 % 64)) → n ≡ length (text_of (dec 0 (first l))) →
    m ≡ length (text_of (dec 0 (rest l))) → 6 + d + n + 1 + m + 1 ≡ length (text_of (dec 0 l))
pow-total {l} v e f g = omega (arith, pow-length v, head-length 87 (get_or l 0 0 % 64))

-- What write_text leaves of a node: its head, then the text of p through the rest of the buffer, and for a POW a space and the text of q
-- through what is left. l is the code, old the buffer before, a after the head, e and f what the calls left in their parts. Assumes
-- nothing.
use Rattle.std.proofs.Common.{List, [], ◌∷◌, ◌++◌, ℕ, ◌+◌, ◌-◌, ◌%◌, ◌≤◌, arith, length}
use Rattle.std.specs.Prelude.{take, drop, set}
use Rattle.std.proofs.Math.ListN.{get_or}
use borrow.Rule.Slice.PartMut.{put_mid}
use Rattle.code.specs.Coding.{dec}
use Rattle.code.specs.laws.Parts.{inner, first, rest, PopAt, PowAt}
use Rattle.form_write.specs.Write.{text_of, head_text, Wrote}
use Rattle.form_write.specs.laws.Sizes.{pop-length, pow-length}
use Rattle.form_write.specs.laws.Texts.{text-pop-at, text-pow-at}
use Rattle.form_write.specs.laws.Wrote.{wrote_as, wrote-byte, wrote_on, wrote-room}

-- the part `&mut a[h..]`
abbrev tail : ℕ → List ℕ → List ℕ
tail h a = take (length a - h) (drop h a)

-- that part put back as e
abbrev pub put : ℕ → List ℕ → List ℕ → List ℕ
put h a e = put_mid h (length a - h) a e

module _ {l old a : List ℕ} {h : ℕ} (v : PopAt 0 l) (fits : length (text_of (dec 0 l)) ≤ length old)
    (head : Wrote h (head_text 80 (get_or l 0 0 % 64)) old a) where
  pub pop-room : length (text_of (dec 0 (inner l))) ≤ length (tail h a)
  pop-room = omega (arith, fits, pop-length v, head.size, wrote-room head)

  module _ {e : List ℕ} {n : ℕ} (p : Wrote n (text_of (dec 0 (inner l))) (tail h a) e) where
    pub pop-size : h + n + 1 ≤ length old
    pop-size = omega (arith, fits, pop-length v, head.size, p.size)

    pub wrote-pop : Wrote (h + n + 1) (text_of (dec 0 l)) old (set (put h a e) (h + n) 41)
    wrote-pop = wrote_as (wrote-byte (wrote_on head p) 41 (omega (arith, pop-size))) (text-pop-at v)

module _ {l old a : List ℕ} {h : ℕ} (v : PowAt 0 l) (fits : length (text_of (dec 0 l)) ≤ length old)
    (head : Wrote h (head_text 87 (get_or l 0 0 % 64)) old a) where
  pub pow_room : length (text_of (dec 0 (first l))) ≤ length (tail h a)
  pow_room = omega (arith, fits, pow-length v, head.size, wrote-room head)

  module _ {e : List ℕ} {n : ℕ} (p : Wrote n (text_of (dec 0 (first l))) (tail h a) e) where
    pub pow-size : h + n + 1 + length (text_of (dec 0 (rest l))) + 1 ≤ length old
    pow-size = omega (arith, fits, pow-length v, head.size, p.size)

    abbrev pub spaced : List ℕ
    spaced = set (put h a e) (h + n) 32

    pub wrote-left : Wrote (h + n + 1) ((head_text 87 (get_or l 0 0 % 64) ++ text_of (dec 0 (first l))) ++ (32 ∷ [])) old spaced
    wrote-left = wrote-byte (wrote_on head p) 32 (omega (arith, pow-size))

    pub pow-room-right : length (text_of (dec 0 (rest l))) ≤ length (tail (h + n + 1) spaced)
    pow-room-right = omega (arith, pow-size, wrote-room wrote-left)

    module _ {f : List ℕ} {m : ℕ} (q : Wrote m (text_of (dec 0 (rest l))) (tail (h + n + 1) spaced) f) where
      pub pow-whole : h + n + 1 + m + 1 ≤ length old
      pow-whole = omega (arith, pow-size, q.size)

      pub wrote-pow : Wrote (h + n + 1 + m + 1) (text_of (dec 0 l)) old (set (put (h + n + 1) spaced f) (h + n + 1 + m) 41)
      wrote-pow = wrote_as (wrote-byte (wrote_on wrote-left q) 41 (omega (arith, pow-whole))) (text-pow-at v)

-- What stands besides: theorems of this crate that no other proof leans on.
use Rattle.std.specs.Prelude.{Result, Ok, Err, List, ◌≡◌, ℕ, ◌+◌, ◌<◌, ◌≤◌, length}
use Rattle.std.proofs.Common.{sym, ◌∙◌, arith, le-leb, eq-eqb, ne_eqb}
use Rattle.std.proofs.lemmas.Bool.{lt-leb}
use Rattle.refusal.specs.declared.Fault.{Fault}
use Rattle.text.specs.definitions.Bytes.{Reading, read, refused, refused_at}
use Rattle.book.specs.definitions.Book.{must, number16, body}
use Rattle.book_read.specs.Heads.{body_of}
use Rattle.book_read.specs.laws.Fields.{is-must, is-wrong, is_whole, is_cut}
use Rattle.book_read.specs.laws.Bodies.{length_right, length_field, offset_right, offset_field}
use Rattle.std.specs.Prelude.{[], refl, zero, suc, ◌-◌}
use Rattle.std.proofs.Common.{ap, ap₂}
use Rattle.refusal.specs.Refusal.{fault}
use Rattle.text.specs.definitions.Bytes.{onward}
use Rattle.book.specs.definitions.Book.{entries, part}
use Rattle.book_read.specs.Heads.{head_of, both_of}
use Rattle.book_read.specs.laws.Fields.{no_read}
use Rattle.book_read.specs.laws.Bodies.{body_is}
use Rattle.book_read.specs.laws.Entries.{rest, clouds, entries-then}
use Rattle.std.specs.Prelude.{Bool, true, false, ◌*◌, take, drop}
use Rattle.text.specs.definitions.Bytes.{is_row}
use Rattle.book.specs.definitions.Book.{letters, contents}
use Rattle.book_read.specs.laws.Whole.{within, under, above, count, listed, counted}

module _ (book : List ℕ) (p at : ℕ) where
  pub offset-cut : length book < p + 2 → body book p at ≡ refused_at 13 (length book)
  offset-cut h = is_cut (offset_field book p at) book p 2 h

  module _ (whole-offset : p + 2 ≤ length book) where
    offset-there : body book p at ≡ (offset_field book p at) tt
    offset-there = is_whole (offset_field book p at) book p 2 whole-offset

    pub offset-wrong : (number16 book p ≡ at → ⊥) → body book p at ≡ refused_at 13 p
    offset-wrong h = offset-there ∙ is-wrong (offset_right book p at) p (ne_eqb (number16 book p) at h)

    module _ (is-offset : number16 book p ≡ at) where
      offset-fine : body book p at ≡ (offset_right book p at) tt
      offset-fine = offset-there ∙ is-must (offset_right book p at) p (eq-eqb (number16 book p) at is-offset)

      pub length_cut : length book < p + 2 + 2 → body book p at ≡ refused_at 13 (length book)
      length_cut h = offset-fine ∙ is_cut (length_field book p at) book (p + 2) 2 h

      module _ (whole_length : p + 2 + 2 ≤ length book) where
        length-there : body book p at ≡ (length_field book p at) tt
        length-there = offset-fine ∙ is_whole (length_field book p at) book (p + 2) 2 whole_length

        pub length-wrong : length book < at + number16 book (p + 2) → body book p at ≡ refused_at 13 (p + 2)
        length-wrong h = length-there ∙ is-wrong (length_right book p at) (p + 2) (lt-leb (at + number16 book (p + 2)) (length book) h)

        pub length-fine : at + number16 book (p + 2) ≤ length book → body book p at ≡ read (number16 book (p + 2))
        length-fine h = length-there ∙ is-must (length_right book p at) (p + 2) (le-leb (at + number16 book (p + 2)) (length book) h)

-- what was answered of a reading
pub was_read : (x : Reading ℕ) {r : Result ℕ Fault} {n : ℕ} → r ≡ body_of x → r ≡ Ok n → x ≡ read n
was_read (read m) {r} {n} e f = let h : Ok m ≡ Ok n = sym e ∙ f in cc
was_read (refused bad) e f = let z : ◌≡◌ {A = ℕ} 0 1 = cc in absurd (omega arith)

pub was-refused : (x : Reading ℕ) {r : Result ℕ Fault} {bad : Fault} → r ≡ body_of x → r ≡ Err bad → x ≡ refused bad
was-refused (read m) e f = let z : ◌≡◌ {A = ℕ} 0 1 = cc in absurd (omega arith)
was-refused (refused worse) {r} {bad} e f = let h : Err worse ≡ Err bad = sym e ∙ f in cc

module _ (book : List ℕ) (p at : ℕ) where
  pub end-fine : {k : ℕ} → k ≡ 0 → length book ≤ at → head_of (entries book p at k) ≡ Ok tt
  end-fine {k} e h = ap (λ n. head_of (entries book p at n)) e ∙ ap head_of (is-must (λ u. read []) at (le-leb (length book) at h))

  pub end-long : {k : ℕ} → k ≡ 0 → at < length book → head_of (entries book p at k) ≡ Err (fault 13 at)
  end-long {k} e h = ap (λ n. head_of (entries book p at n)) e ∙ ap head_of (is-wrong (λ u. read []) at (lt-leb (length book) at h))

  pub panel-refused : {bad : Fault} → body book p at ≡ refused bad → both_of book p at ≡ refused bad
  panel-refused h = ap (λ x. onward x (λ m. onward (body book (p + 4) (at + m)) (λ n. read (m + n)))) h

  pub cloud-then : (m : ℕ) → body book p at ≡ read m → both_of book p at ≡ onward (body book (p + 4) (at + m)) (λ n. read (m + n))
  cloud-then m h = ap (λ x. onward x (λ m. onward (body book (p + 4) (at + m)) (λ n. read (m + n)))) h

  pub cloud-refused :
      (m : ℕ) {bad : Fault} → body book p at ≡ read m → body book (p + 4) (at + m) ≡ refused bad → both_of book p at ≡ refused bad
  cloud-refused m h i = cloud-then m h ∙ ap (λ x. onward x (λ n. read (m + n))) i

  pub both_read : (m n : ℕ) → body book p at ≡ read m → body book (p + 4) (at + m) ≡ read n → both_of book p at ≡ read (m + n)
  both_read m n h i = cloud-then m h ∙ ap (λ x. onward x (λ n. read (m + n))) i

  -- what was read of both
  pub record Both (s : ℕ) : Type 0 where
    pub panel : ℕ
    pub cloud : ℕ
    pub first : body book p at ≡ read panel
    pub second : body book (p + 4) (at + panel) ≡ read cloud
    pub total : s ≡ panel + cloud

  pub both_is : (s : ℕ) → both_of book p at ≡ read s → Both s
  both_is s e = first (body book p at) refl
    where
      second : (m : ℕ) → body book p at ≡ read m → (y : Reading ℕ) → body book (p + 4) (at + m) ≡ y → Both s
      second m h (refused bad) i = no_read (sym (cloud-refused m h i) ∙ e)
      second m h (read n) i =
          let f : read (m + n) ≡ read s = sym (both_read m n h i) ∙ e in
          record { panel = m; cloud = n; first = h; second = i; total = (let g : s ≡ m + n = cc in g) }

      first : (x : Reading ℕ) → body book p at ≡ x → Both s
      first (refused bad) h = no_read (sym (panel-refused h) ∙ e)
      first (read m) h = second m h (body book (p + 4) (at + m)) refl

  pub both-inside : (s : ℕ) → both_of book p at ≡ read s → at + s ≤ length book
  both-inside s e =
      let b = both_is s e in
      omega (arith, b.total, (body_is book (p + 4) (at + b.panel) b.cloud b.second).inside)

  both-refused : (k : ℕ) {bad : Fault} → both_of book p at ≡ refused bad → entries book p at (suc k) ≡ refused bad
  both-refused k {bad} b = first (body book p at) refl
    where
      second :
          (m : ℕ) → body book p at ≡ read m → (y : Reading ℕ) → body book (p + 4) (at + m) ≡ y → entries book p at (suc k) ≡ refused bad
      second m h (refused worse) i =
          ap (λ x. onward x (clouds book p at k)) h ∙ ap (λ x. onward x (rest book p at k m)) i
          ∙ (let f : refused worse ≡ refused bad = sym (cloud-refused m h i) ∙ b in cc)
      second m h (read n) i = no_read (sym b ∙ both_read m n h i)

      first : (x : Reading ℕ) → body book p at ≡ x → entries book p at (suc k) ≡ refused bad
      first (refused worse) h = ap (λ x. onward x (clouds book p at k)) h ∙ (let f : refused worse ≡ refused bad = sym (panel-refused h) ∙ b in cc)
      first (read m) h = second m h (body book (p + 4) (at + m)) refl

module _ (book : List ℕ) (p at : ℕ) {r : Result ℕ Fault} (a : r ≡ body_of (body book p at)) where
  pub panel-stops : {bad : Fault} → r ≡ Err bad → r ≡ body_of (both_of book p at)
  panel-stops h = h ∙ ap body_of (sym (panel-refused book p at (was-refused (body book p at) a h)))

  module _ {m : ℕ} (h : r ≡ Ok m) where
    was-panel : body book p at ≡ read m
    was-panel = was_read (body book p at) a h

    pub body-within : at + m ≤ length book
    body-within = (body_is book p at m was-panel).inside

    module _ {s : Result ℕ Fault} (b : s ≡ body_of (body book (p + 4) (at + m))) where
      pub cloud-stops : {bad : Fault} → s ≡ Err bad → s ≡ body_of (both_of book p at)
      cloud-stops i = i ∙ ap body_of (sym (cloud-refused book p at m was-panel (was-refused (body book (p + 4) (at + m)) b i)))

      pub both-lengths : {n : ℕ} → s ≡ Ok n → Ok (m + n) ≡ body_of (both_of book p at)
      both-lengths {n} i = ap body_of (sym (both_read book p at m n was-panel (was_read (body book (p + 4) (at + m)) b i)))

pub both-within : (book : List ℕ) (p at : ℕ) {r : Result ℕ Fault} {n : ℕ} → r ≡ body_of (both_of book p at) → r ≡ Ok n → at + n ≤ length book
both-within book p at {r} {n} a h = both-inside book p at n (was_read (both_of book p at) a h)

-- the answer does not look at what is put in front
head-onward : {A B : Type 0} (x : Reading A) (f : A → B) → head_of (onward x (λ a. read (f a))) ≡ head_of x
head-onward (read a) f = refl
head-onward (refused bad) f = refl

pub entries-refused :
    (book : List ℕ) (p at k : ℕ) {b : Result ℕ Fault} {bad : Fault} → (k ≡ 0 → ⊥) → b ≡ body_of (both_of book p at) → b ≡ Err bad →
    Err bad ≡ head_of (entries book p at k)
entries-refused book p at zero h i j = absurd (h refl)
entries-refused book p at (suc k) h i j = ap head_of (sym (both-refused book p at k (was-refused (both_of book p at) i j)))

pub entries-on :
    (book : List ℕ) (p at k : ℕ) {b : Result ℕ Fault} {n : ℕ} → (k ≡ 0 → ⊥) → b ≡ body_of (both_of book p at) → b ≡ Ok n →
    head_of (entries book (p + 8) (at + n) (k - 1)) ≡ head_of (entries book p at k)
entries-on book p at zero h i j = absurd (h refl)
entries-on book p at (suc k) {b} {n} h i j =
    let w = both_is book p at n (was_read (both_of book p at) i j) in
    ap₂ (λ z j. head_of (entries book (p + 8) z j)) (let g : at + n ≡ at + w.panel + w.cloud = omega (arith, w.total) in g)
    (let g : suc k - 1 ≡ k = omega arith in g)
    ∙ sym (head-onward (entries book (p + 8) (at + w.panel + w.cloud) k) _)
    ∙ ap head_of (sym (entries-then book p at k w.panel w.cloud w.first w.second))

module _ (book : List ℕ) (i : ℕ) where
  abbrev others : ℕ → Unit {0} → Reading (Unit {0})
  others k v = letters book (1 + i) k

  abbrev letter : ℕ → Unit {0} → Reading (Unit {0})
  letter k u = must (is_row (take (1 + i) (drop 1 book))) (1 + i) (others k)

  -- the letters so far, as the part that is lent on
  pub letters-part : {r : Bool} → r ≡ is_row (take (1 + i + 1 - 1) (drop 1 book)) → r ≡ is_row (take (1 + i) (drop 1 book))
  letters-part e = e ∙ ap (λ k. is_row (take k (drop 1 book))) (let g : 1 + i + 1 - 1 ≡ 1 + i = omega arith in g)

  pub letters-none : {k : ℕ} → k ≡ 0 → head_of (letters book i k) ≡ Ok tt
  letters-none e = ap (λ n. head_of (letters book i n)) e

  pub letters-cut : (k : ℕ) → (k ≡ 0 → ⊥) → length book < 1 + i + 1 → head_of (letters book i k) ≡ Err (fault 13 (length book))
  letters-cut zero h l = absurd (h refl)
  letters-cut (suc k) h l = ap head_of (is_cut (letter k) book (1 + i) 1 l)

  pub letters-wrong :
      (k : ℕ) → (k ≡ 0 → ⊥) → 1 + i + 1 ≤ length book → is_row (take (1 + i) (drop 1 book)) ≡ false →
      head_of (letters book i k) ≡ Err (fault 13 (1 + i))
  letters-wrong zero h l e = absurd (h refl)
  letters-wrong (suc k) h l e = ap head_of (is_whole (letter k) book (1 + i) 1 l ∙ is-wrong (others k) (1 + i) e)

  pub letters-on :
      (k : ℕ) → (k ≡ 0 → ⊥) → 1 + i + 1 ≤ length book → is_row (take (1 + i) (drop 1 book)) ≡ true →
      head_of (letters book (1 + i) (k - 1)) ≡ head_of (letters book i k)
  letters-on zero h l e = absurd (h refl)
  letters-on (suc k) h l e =
      ap (λ n. head_of (letters book (1 + i) n)) (let g : suc k - 1 ≡ k = omega arith in g)
      ∙ ap head_of (sym (is_whole (letter k) book (1 + i) 1 l ∙ is-must (others k) (1 + i) e))

module _ (book : List ℕ) (n : ℕ) where
  pub contents-cut : length book < 1 + n + 1 → head_of (contents book n) ≡ Err (fault 13 (length book))
  contents-cut h = ap head_of (is_cut (counted book n) book (1 + n) 1 h)

  module _ (there : 1 + n + 1 ≤ length book) where
    pub contents-few : (count book n) < 1 → head_of (contents book n) ≡ Err (fault 13 (1 + n))
    contents-few h = ap head_of (is_whole (counted book n) book (1 + n) 1 there ∙ is-wrong (listed book n) (1 + n) (under 64 (count book n) h))

    pub contents-many : 1 ≤ (count book n) → 64 < (count book n) → head_of (contents book n) ≡ Err (fault 13 (1 + n))
    contents-many i h = ap head_of (is_whole (counted book n) book (1 + n) 1 there ∙ is-wrong (listed book n) (1 + n) (above 64 (count book n) i h))

    pub contents-on : 1 ≤ (count book n) → (count book n) ≤ 64 → head_of (entries book (1 + n + 1) (1 + n + 1 + 8 * (count book n)) (count book n)) ≡ head_of (contents book n)
    contents-on i h =
        ap (λ p. head_of (entries book p (p + 8 * (count book n)) (count book n))) (let g : 1 + n + 1 ≡ 2 + n = omega arith in g)
        ∙ sym (head-onward (entries book (2 + n) (2 + n + 8 * (count book n)) (count book n)) (λ es. record { row = part book 1 n; all = es }))
        ∙ ap head_of (sym (is_whole (counted book n) book (1 + n) 1 there ∙ is-must (listed book n) (1 + n) (within 64 (count book n) i h)))

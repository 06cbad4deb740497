-- Entries that are fine, one by one.
use Rattle.std.specs.Prelude.{Ok, Bool, true, false, List, [], ◌∷◌, ◌++◌, ◌≡◌, refl, ℕ, zero, suc, ◌+◌, ◌-◌, ◌≤◌, leb, length}
use Rattle.std.proofs.Common.{sym, ap, ap₂, subst, ◌∙◌, add-one, arith}
use Rattle.text.specs.definitions.Bytes.{onward, Reading, read, refused}
use Rattle.book.specs.definitions.Book.{Entry, must, number16, part, body, entries, entry_line, entry_lines}
use Rattle.book_read.specs.Heads.{head_of}
use Rattle.book_read.specs.laws.Bodies.{body_is}
use Rattle.book_read.specs.laws.Entries.{entries-then}
use Rattle.book_print.specs.Print.{Here, Left, list_of, line_at, lines_from}

-- ---- what is fine was read
pub record WasRead {A : Type 0} (x : Reading A) : Type 0 where
  pub value : A
  pub is : x ≡ read value

pub fine-must :
    {A : Type 0} (b : Bool) (p : ℕ) (r : Unit {0} → Reading A) → head_of (must b p r) ≡ Ok tt → (b ≡ true) × (head_of (r tt) ≡ Ok tt)
fine-must true p r h = (refl, h)
fine-must false p r h = let z : ◌≡◌ {A = ℕ} 0 1 = cc in absurd (omega arith)

pub record Onward {A B : Type 0} (x : Reading A) (r : A → Reading B) : Type 0 where
  pub value : A
  pub is : x ≡ read value
  pub then : head_of (r value) ≡ Ok tt

pub fine-onward : {A B : Type 0} (x : Reading A) (r : A → Reading B) → head_of (onward x r) ≡ Ok tt → Onward x r
fine-onward (read a) r h = record { value = a; is = refl; then = h }
fine-onward (refused bad) r h = let z : ◌≡◌ {A = ℕ} 0 1 = cc in absurd (omega arith)

-- ---- the first of k entries
module _ (book : List ℕ) (p at : ℕ) where
  pub record First (k m n : ℕ) : Type 0 where
    pub is : list_of (entries book p at (suc k)) ≡ record { panel = part book at m; cloud = part book (at + m) n } ∷ list_of
        (entries book (p + 8) (at + m + n) k)
    pub fine : head_of (entries book (p + 8) (at + m + n) k) ≡ Ok tt

  list-onward : {x : Reading (List Entry)} (e : Entry) → WasRead x → list_of (onward x (λ es. read (e ∷ es))) ≡ e ∷ list_of x
  list-onward e r = ap (λ z. list_of (onward z (λ es. read (e ∷ es)))) r.is ∙ ap (λ z. e ∷ list_of z) (sym r.is)

  first_rest :
      (k m n : ℕ) → body book p at ≡ read m → body book (p + 4) (at + m) ≡ read n → WasRead (entries book (p + 8) (at + m + n) k) →
      First k m n
  first_rest k m n h i r = record {
    is = ap list_of (entries-then book p at k m n h i) ∙ list-onward (record { panel = part book at m; cloud = part book (at + m) n }) r;
    fine = ap head_of r.is;
  }

  pub first_of :
      (k : ℕ) → head_of (entries book p at (suc k)) ≡ Ok tt → Here book p at × First k (number16 book (p + 2)) (number16 book (p + 6))
  first_of k h =
      let a = fine-onward (body book p at) _ h in
      let b = fine-onward (body book (p + 4) (at + a.value)) _ a.then in
      let c = fine-onward (entries book (p + 8) (at + a.value + b.value) k) _ b.then in
      let x = body_is book p at a.value a.is in
      let y = body_is book (p + 4) (at + a.value) b.value b.is in
      let e : b.value ≡ number16 book (p + 6) = y.size ∙ ap (number16 book) (let g : p + 4 + 2 ≡ p + 6 = omega arith in g) in (
        record { fields = omega (arith, y.field); bodies = omega (arith, x.size, e, y.inside) },
        subst (λ m. First k m (number16 book (p + 6))) x.size
            (subst (λ n. First k a.value n) e
            (first_rest k a.value b.value a.is b.is (record { value = c.value; is = c.is }))),
      )

-- ---- as the printing goes: m and l are the lengths of the entry's two bodies
pub here_of : (book : List ℕ) (p at i k : ℕ) → (k ≡ 0 → ⊥) → Left book p at i k → Here book p at
here_of book p at i zero z l = absurd (z refl)
here_of book p at i (suc k) z l = (first_of book p at k l.fine).0

pub record Step (book : List ℕ) (n p at i k m l : ℕ) : Type 0 where
  pub left : Left book (p + 8) (at + m + l) (i + 1) (k - 1)
  pub lines : line_at book n p at i ++ lines_from book n (p + 8) (at + m + l) (i + 1) (k - 1) ≡ lines_from book n p at i k

step-on :
    (book : List ℕ) (n p at i k : ℕ) → length book ≤ 65535 → (k ≡ 0 → ⊥) → Left book p at i k →
    Step book n p at i k (number16 book (p + 2)) (number16 book (p + 6))
unfolding line_at lines_from
step-on book n p at i zero s z l = absurd (z refl)
step-on book n p at i (suc k) s z l =
    let f = first_of book p at k l.fine in
    let g : suc k - 1 ≡ k = omega arith in
    let q = at + number16 book (p + 2) + number16 book (p + 6) in
    record {
      left =
          record {
            fine = ap (λ j. head_of (entries book (p + 8) q j)) g
                ∙ f.1.fine;
            fields = omega (arith, l.fields);
            start = omega (arith, f.0.bodies);
            number = omega (arith, l.number);
          };
      lines =
          ap₂ (λ x j. entry_line (part book 1 n) i (part book at (number16 book (p + 2)))
          (part book (at + number16 book (p + 2)) (number16 book (p + 6))) ++ entry_lines (part book 1 n) x
          (list_of (entries book (p + 8) q j))) (add-one i) g
          ∙ ap (entry_lines (part book 1 n) i) (sym f.1.is);
    }

pub step :
    (book : List ℕ) (n p at i k : ℕ) {m l : ℕ} → length book ≤ 65535 → (k ≡ 0 → ⊥) → Left book p at i k → m ≡ number16 book (p + 2) →
    l ≡ number16 book (p + 6) → Step book n p at i k m l
step book n p at i k {m} {l} s z h e f =
    subst (λ x. Step book n p at i k x l) (sym e)
    (subst (λ x. Step book n p at i k (number16 book (p + 2)) x) (sym f) (step-on book n p at i k s z h))

pub no_lines : (book : List ℕ) (n p at i : ℕ) {k : ℕ} → k ≡ 0 → [] ≡ lines_from book n p at i k
unfolding lines_from
no_lines book n p at i {k} e =
    sym (ap (λ j. entry_lines (part book 1 n) i (list_of (entries book p at j))) e
    ∙ ap (entry_lines (part book 1 n) i) (none (leb (length book) at)))
  where
    none : (b : Bool) → list_of (must b at (λ u. read [])) ≡ []
    none true = refl
    none false = refl

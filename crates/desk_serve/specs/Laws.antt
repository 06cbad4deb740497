-- The answers by the tests that the code makes.
use Rattle.std.proofs.Math.Bool.{cond}
use Rattle.std.specs.Prelude.{Option, Some, None, List, ◌≡◌, refl, ℕ, zero, suc, ◌+◌, ◌-◌, ◌≤◌, ◌<◌, min, ltb, ℤ, length, take}
use Rattle.std.proofs.Math.Path.{sym, ap}
use Rattle.std.proofs.Common.{◌∙◌, arith, length-take-le, eq-eqb, ne_eqb, le-ltb, lt-ltb}
use Rattle.reply.specs.definitions.Reply.{Remaindered, Reply, gives, refuses}
use Rattle.desk_field.specs.Fields.{field_of, rest_of, count_of, natural_of, coordinates_of}
use Rattle.desk_reply.specs.Reply.{wrong_text}
use Rattle.door_point.specs.Point.{remaindered_of}
use Rattle.desk_serve.specs.Serve.{counted, number_or, numbered, point_fault, some_fault, five_of, point_of, pointed, remaindered_text}
use Rattle.desk_serve.specs.Serve.{remaindered_line}

-- ---- the number of fields
module _ (k : ℕ) (line w : List ℕ) where
  pub counted_is : count_of line ≡ k → w ≡ counted k line w
  counted_is e = sym (ap (λ b. cond b w (wrong_text (min (count_of line) k))) (eq-eqb (count_of line) k e))

  pub counted-not : {n : ℕ} → n ≡ count_of line → (n ≡ k → ⊥) → wrong_text (min n k) ≡ counted k line w
  counted-not {n} e h =
      ap (λ m. wrong_text (min m k)) e
      ∙ sym (ap (λ b. cond b w (wrong_text (min (count_of line) k))) (ne_eqb (count_of line) k (λ q. h (e ∙ q))))

-- answers made of the fields 1 and 2, and 1 to 3, where k fields are wanted
module _ (k : ℕ) (line : List ℕ) {n : ℕ} (is : n ≡ count_of line) (right : n ≡ k) {row s : List ℕ} (row_is : row ≡ field_of line 1)
    (s-is : s ≡ field_of line 2) where
  pub two_fields : (g : List ℕ → List ℕ → List ℕ) → g row s ≡ counted k line (g (field_of line 1) (field_of line 2))
  two_fields g =
      ap (λ v. g v s) row_is ∙ ap (g (field_of line 1)) s-is ∙ counted_is k line (g (field_of line 1) (field_of line 2)) (sym is ∙ right)

  pub three-fields :
      {t : List ℕ} → t ≡ field_of line 3 → (g : List ℕ → List ℕ → List ℕ → List ℕ) →
      g row s t ≡ counted k line (g (field_of line 1) (field_of line 2) (field_of line 3))
  three-fields {t} t-is g =
      ap (λ v. g v s t) row_is ∙ ap (λ v. g (field_of line 1) v t) s-is ∙ ap (g (field_of line 1) (field_of line 2)) t-is
      ∙ counted_is k line (g (field_of line 1) (field_of line 2) (field_of line 3)) (sym is ∙ right)

-- ---- a number in field k
module _ (k : ℕ) (line : List ℕ) (w : ℕ → List ℕ) {n : ℕ} (is : n ≡ count_of line) where
  pub numbered-missing : n < suc k → wrong_text n ≡ numbered k line w
  numbered-missing h =
      ap wrong_text is
      ∙ sym (ap (λ b. cond b (wrong_text (count_of line)) (number_or k w (natural_of (field_of line k))))
      (lt-ltb (count_of line) (suc k) (omega arith)))

  module _ (there : suc k ≤ n) {field : List ℕ} {x : Option ℕ} (read : x ≡ natural_of field) (at : field ≡ field_of line k) where
    numbered-by : number_or k w x ≡ numbered k line w
    numbered-by =
        ap (number_or k w) (read ∙ ap natural_of at)
        ∙ sym (ap (λ b. cond b (wrong_text (count_of line)) (number_or k w (natural_of (field_of line k))))
        (le-ltb (count_of line) (suc k) (omega arith)))

    pub numbered-wrong : x ≡ None → wrong_text k ≡ numbered k line w
    numbered-wrong e = sym (ap (number_or k w) e) ∙ numbered-by

    pub numbered_is : {m : ℕ} → x ≡ Some m → w m ≡ numbered k line w
    numbered_is e = sym (ap (number_or k w) e) ∙ numbered-by

-- ---- coordinates
module _ (line : List ℕ) {n : ℕ} (is : n ≡ count_of line) where
  pub fault-missing : n < 3 → n ≡ point_fault line
  unfolding point_fault
  fault-missing h =
      is
      ∙ sym (ap (λ b. cond b (count_of line) (cond
      (ltb (coordinates_of (count_of line - 3) (rest_of (rest_of (rest_of line)))) (count_of line - 3))
      (3 + coordinates_of (count_of line - 3) (rest_of (rest_of (rest_of line)))) 0)) (lt-ltb (count_of line) 3 (omega arith)))

  module _ {k : ℕ} (read : k ≡ coordinates_of (n - 3) (rest_of (rest_of (rest_of line)))) (more : 3 ≤ n) where
    as-counted : k ≡ coordinates_of (count_of line - 3) (rest_of (rest_of (rest_of line)))
    as-counted = read ∙ ap (λ m. coordinates_of (m - 3) (rest_of (rest_of (rest_of line)))) is

    rest-of : {x : ℕ} → cond (ltb k (count_of line - 3)) (3 + k) 0 ≡ x → point_fault line ≡ x
    unfolding point_fault
    rest-of e =
        ap (λ b. cond b (count_of line) (cond (ltb (coordinates_of (count_of line - 3) (rest_of (rest_of (rest_of line)))) (count_of line - 3))
        (3 + coordinates_of (count_of line - 3) (rest_of (rest_of (rest_of line)))) 0)) (le-ltb (count_of line) 3 (omega arith))
        ∙ ap (λ v. cond (ltb v (count_of line - 3)) (3 + v) 0) (sym as-counted)
        ∙ e

    pub fault-wrong : k < n - 3 → 3 + k ≡ point_fault line
    fault-wrong h = sym (rest-of (ap (λ b. cond b (3 + k) 0) (lt-ltb k (count_of line - 3) (omega arith))))

    pub fault-none : n - 3 ≤ k → 0 ≡ point_fault line
    fault-none h = sym (rest-of (ap (λ b. cond b (3 + k) 0) (le-ltb k (count_of line - 3) (omega arith))))

-- a field that is wrong is not 0
pub fault-some : (n : ℕ) {f : ℕ} {x : Option ℕ} → x ≡ some_fault n → x ≡ Some f → (f ≡ n) × (f ≡ 0 → ⊥)
fault-some zero e h = absurd (some-none (sym h ∙ e))
  where
    some-none : {f : ℕ} → ◌≡◌ {A = Option ℕ} (Some f) None → ⊥
    some-none q = let z : ◌≡◌ {A = ℕ} 0 1 = cc in omega arith
fault-some (suc n) {f} e h =
    let q : Some f ≡ Some (suc n) = sym h ∙ e in
    let g : f ≡ suc n = cc in
    (g, λ z. omega arith)

pub fault-no : (n : ℕ) {x : Option ℕ} → x ≡ some_fault n → x ≡ None → 0 ≡ n
fault-no zero e h = refl
fault-no (suc n) e h = let q : Some (suc n) ≡ None = sym e ∙ h in let z : ◌≡◌ {A = ℕ} 0 1 = cc in absurd (omega arith)

pub some-fault : {n m : ℕ} → (n ≡ 0 → ⊥) → n ≡ m → Some n ≡ some_fault m
some-fault {n = zero} h e = absurd (h refl)
some-fault {n = suc n} h e = ap some_fault e

module _ (line w : List ℕ) {f : ℕ} (is : f ≡ point_fault line) where
  pub pointed-not : (f ≡ 0 → ⊥) → wrong_text f ≡ pointed line w
  pointed-not h = ap wrong_text is ∙ sym (ap (λ b. cond b w (wrong_text (point_fault line))) (ne_eqb (point_fault line) 0 (λ q. h (is ∙ q))))

  pub pointed-is : f ≡ 0 → w ≡ pointed line w
  pointed-is e = sym (ap (λ b. cond b w (wrong_text (point_fault line))) (eq-eqb (point_fault line) 0 (sym is ∙ e)))

remaindered-is : (x : Reply ℕ) → remaindered_line (remaindered_of x) ≡ remaindered_text x
remaindered-is (gives n) = refl
remaindered-is (refuses bad) = refl

-- the point is the first e of the five numbers
module _ (line : List ℕ) {five : List ℤ} {e : ℕ} (five-is : five ≡ five_of line) (e-is : e ≡ min (count_of line - 3) 5) where
  pub point-length : e ≡ length (take e five)
  point-length = sym (length-take-le e five (omega (arith, ap length five-is)))

  point-is : take e five ≡ point_of line
  point-is = ap (λ k. take k five) e-is ∙ ap (take (min (count_of line - 3) 5)) five-is

  -- the answer of a call g that replies a remainder there
  pub remainder-fields :
      (g : List ℕ → List ℕ → List ℤ → Reply ℕ) {f : ℕ} {row s : List ℕ} {x : Remaindered} →
      f ≡ point_fault line → f ≡ 0 → row ≡ field_of line 1 → s ≡ field_of line 2 → x ≡ remaindered_of (g row s (take e five)) →
      remaindered_line x ≡ pointed line (remaindered_text (g (field_of line 1) (field_of line 2) (point_of line)))
  remainder-fields g {f} {row} {s} {x} i h r t a =
      ap remaindered_line a
      ∙ remaindered-is (g row s (take e five))
      ∙ ap (λ v. remaindered_text (g v s (take e five))) r
      ∙ ap (λ v. remaindered_text (g (field_of line 1) v (take e five))) t
      ∙ ap (λ v. remaindered_text (g (field_of line 1) (field_of line 2) v)) point-is
      ∙ pointed-is line (remaindered_text (g (field_of line 1) (field_of line 2) (point_of line))) i h

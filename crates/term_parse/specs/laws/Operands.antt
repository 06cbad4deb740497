-- Words in a slice, signs, and an operand that was made behind two free words.
use Rattle.std.specs.Prelude.{◌≡◌, refl, Bool, true, false, List, [], ◌∷◌, ◌++◌, ℕ, suc, ◌+◌, ◌-◌, ◌≤◌, length, take, drop}
use Rattle.std.proofs.Common.{sym, ap, ◌∙◌, true≢false, arith, length-take}
use Rattle.std.proofs.lemmas.List.{take-append-le}
use Rattle.std.proofs.Math.Seq.{take-append-add}
use borrow.Rule.Slice.PartMut.{put_mid}
use Rattle.text.specs.definitions.Bytes.{Token}
use Rattle.text.specs.definitions.Tree.{sub, Tree}
use Rattle.dialect.specs.declared.Dialect.{Dialect}
use Rattle.text.specs.definitions.Answer.{Reading}
use Rattle.term_tree.specs.Coding.{sign_code, enc}
use Rattle.text.specs.definitions.Reading.{Frame, Next}
use denote.Enum.Bare.{sameb, same_true, same_false}
use Rattle.text_word.specs.contracts.Operator.{the_type}
use Rattle.text_word.specs.declared.Operator.{Operator}
use Rattle.text_word.specs.declared.Operator.TheVariants.{Plus, Minus, Times, Power}
use Rattle.term_parse.specs.Found.{stopped, Made, Operand, code_of, sign_of, closes_only}

-- ---- words in a slice

-- as many words as were taken are there
pub taken-le : (k : ℕ) (l x : List ℕ) → take k l ≡ x → k ≡ length x → k ≤ length l
taken-le k l x e f = omega (arith, length-take k l, ap length e, f)

-- what is put behind two words
behind-two : (k : ℕ) (w e x post : List ℕ) → 2 ≤ length w → take k e ≡ x → k ≤ length e → take k (drop 2 (take 2 w ++ (e ++ post))) ≡ x
behind-two k [] e x post h f l = absurd (omega arith)
behind-two k (a ∷ []) e x post h f l = absurd (omega arith)
behind-two k (a ∷ b ∷ w) e x post h f l = take-append-le k e post l ∙ f

-- what is put behind the first operand
pub behind-first : (k j : ℕ) (w e x y post : List ℕ) → 2 + k ≤ length w → take k (drop 2 w) ≡ x → k ≡ length x → take j e ≡ y →
    j ≤ length e
    → take (k + j) (drop 2 (take (2 + k) w ++ (e ++ post))) ≡ x ++ y
behind-first k j [] e x y post h f s g l = absurd (omega arith)
behind-first k j (a ∷ []) e x y post h f s g l = absurd (omega arith)
behind-first k j (a ∷ b ∷ w) e x y post h f s g l =
    let c : 2 + k ≡ suc (suc k) = omega arith in
    let d : length x + j ≡ k + j = omega (arith, s) in
    ap (λ n. take (k + j) (drop 2 (take n (a ∷ b ∷ w) ++ (e ++ post)))) c
    ∙ ap (λ z. take (k + j) (z ++ (e ++ post))) f
    ∙ ap (λ n. take n (x ++ (e ++ post))) (sym d)
    ∙ take-append-add x (e ++ post) j
    ∙ ap (λ z. x ++ z) (take-append-le j e post l ∙ g)

-- a node's two words before those of its operands
pub node-words : (h v k n : ℕ) (l x : List ℕ) → n ≡ 2 + k → take k l ≡ x → take n (h ∷ (v ∷ l)) ≡ h ∷ (v ∷ x)
node-words h v k n l x e f =
    let c : n ≡ suc (suc k) = omega (arith, e) in
    ap (λ m. take m (h ∷ (v ∷ l))) c ∙ ap (λ z. h ∷ (v ∷ z)) f

-- ---- signs
-- only `-` is the sign of a difference
pub sign-two : (D : Dialect) (g : Operator) → g ≡ Minus → sign_of D [] g ≡ sub
sign-two D g e = ap (λ n. sign_of D [] n) e

-- what the derived `==` says of operators
pub operator-same : (g h : Operator) → true ≡ sameb the_type g h → g ≡ h
operator-same g h e = same_true the_type tt g h (sym e)

pub operator-other : (g h : Operator) → false ≡ sameb the_type g h → g ≡ h → ⊥
operator-other g h e = same_false the_type g h (sym e)

-- the head word of two operands
pub sign-head : (D : Dialect) (g : Operator) → (g ≡ Power → ⊥) → sign_code (sign_of D [] g) ≡ code_of g
sign-head D Plus n = refl
sign-head D Minus n = refl
sign-head D Times n = refl
sign-head D Power n = absurd (n refl)

-- behind the first operand only a `)` may stand, or a second operand may
pub data Only (D : Dialect) (g : Operator) : Bool → Type 0 where
  is-only : g ≡ Minus → D.panel ≡ true → Only D g true
  not-only : (sign_of D [] g ≡ sub → D.panel ≡ false) → Only D g false

-- by the test
pub only : (D : Dialect) (g : Operator) (b : Bool) → closes_only D [] g ≡ b → Only D g b
only D Minus true e = is-only refl e
only D Minus false e = not-only (λ s. e)
only D Plus true e = absurd (true≢false (sym e))
only D Plus false e = not-only (λ s. cc)
only D Times true e = absurd (true≢false (sym e))
only D Times false e = not-only (λ s. cc)
only D Power true e = absurd (true≢false (sym e))
only D Power false e = not-only (λ s. cc)

-- the row makes no difference where nothing leads on
pub stopped-row : (D : Dialect) (row : List ℕ) (n : ℕ) (ts : List Token) → stopped D row n ts ≡ stopped D [] n ts
stopped-row D row n [] = refl
stopped-row D row n (k ∷ ts) = refl

module _ (D : Dialect) (row s : List ℕ) where
  -- an operand that was made in the part `&mut out[2..]`
  pub made-operand : {b k nx : ℕ} {e : List ℕ} {Fits : List Frame → Type 0} {f : List Frame → Reading Tree} {g : Tree → List Frame → Next}
      (m : Made D row s b e k nx Fits f g) (w : List ℕ) → 2 ≤ length w
      → Operand D row m.tree k (drop 2 (put_mid 2 (length w - 2) w e))
  made-operand {b} {k} {nx} {e} m w h = record {
    size = m.size;
    is = behind-two k w e (enc row m.tree) _ h m.is (taken-le k e (enc row m.tree) m.is m.size);
    known = m.known;
    short = m.short;
  }

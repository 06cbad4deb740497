-- A reply that is made of tests, of the reading of one text or two, and of tests again, refuses exactly as Order.antt says.
use Rattle.std.specs.Prelude.{Bool, true, false, List, [], ◌∷◌, ◌↔◌, ◌≡◌, refl, ℕ}
use Rattle.std.proofs.Common.{sym, ap, ◌∙◌, arith}
use Rattle.refusal.specs.Refusal.{fault, on_side, of_neither}
use Rattle.refusal.specs.declared.Refusal.{Refusal}
use Rattle.refusal.specs.declared.Side.{Side}
use Rattle.refusal.specs.declared.Side.TheVariants.{Left, Right}
use Rattle.text.specs.definitions.Bytes.{Reading, read, refused, refused_at}
use Rattle.reply.specs.definitions.Reply.{Reply, gives, refuses, asked, read_as}
use Rattle.demands.specs.Order.{Test, AllPass, FirstFails, this, later, RefusedOne, RefusedTwo}

-- one test after the other, then the rest
abbrev pub tested : {A : Type 0} → List Test → (Unit {0} → Reply A) → Reply A
tested [] k = k tt
tested (t ∷ ts) k = asked t.passes t.number (λ u. tested ts k)

one-refusal : {A : Type 0} {r q : Refusal} → ◌≡◌ {A = Reply A} (refuses r) (refuses q) → q ≡ r
one-refusal h = cc

not-given : {A : Type 0} {a : A} {r : Refusal} {P : Type 0} → ◌≡◌ {A = Reply A} (gives a) (refuses r) → P
not-given h = let z : ◌≡◌ {A = ℕ} 0 1 = cc in absurd (omega arith)

-- ---- tests
module _ {A : Type 0} (k : Unit {0} → Reply A) where
  all_pass : (ts : List Test) → AllPass ts → tested ts k ≡ k tt
  all_pass [] h = refl
  all_pass (t ∷ ts) h = ap (λ b. asked b t.number (λ u. tested ts k)) h.0 ∙ all_pass ts h.1

  first-fails : (e : ℕ) (ts : List Test) → FirstFails e ts → tested ts k ≡ refuses (of_neither e)
  first-fails e _ (this t ts h i) =
      ap (λ b. asked b t.number (λ u. tested ts k)) h ∙ ap (λ n. refuses (of_neither n)) (sym i)
  first-fails e _ (later t ts h i) = ap (λ b. asked b t.number (λ u. tested ts k)) h ∙ first-fails e ts i

  -- where the reply is the refusal r, a test stopped it, or all passed and the rest is that refusal
  data Tested (ts : List Test) (r : Refusal) : Type 0 where
    stops : (e : ℕ) → FirstFails e ts → r ≡ of_neither e → Tested ts r
    goes : AllPass ts → k tt ≡ refuses r → Tested ts r

  further : (t : Test) (ts : List Test) (r : Refusal) → t.passes ≡ true → Tested ts r → Tested (t ∷ ts) r
  further t ts r h (stops e f i) = stops e (later t ts h f) i
  further t ts r h (goes a i) = goes (h, a) i

  at_test :
      (t : Test) (ts : List Test) (r : Refusal) (b : Bool) → t.passes ≡ b → (tested ts k ≡ refuses r → Tested ts r) →
      asked b t.number (λ u. tested ts k) ≡ refuses r → Tested (t ∷ ts) r
  at_test t ts r true h f i = further t ts r h (f i)
  at_test t ts r false h f i = stops t.number (this t ts h refl) (one-refusal i)

  tests : (ts : List Test) (r : Refusal) → tested ts k ≡ refuses r → Tested ts r
  tests [] r h = goes tt h
  tests (t ∷ ts) r h = at_test t ts r t.passes refl (tests ts r) h

-- ---- a text
-- what a text is read as, and what is wrong with it, said without reading
pub record Reads {A : Type 0} (x : Reading A) (Is : A → Type 0) (Wrong : ℕ → ℕ → Type 0) : Type 0 where
  pub accepts : (a : A) → (x ≡ read a) ↔ Is a
  pub wrong : (e p : ℕ) → (x ≡ refused_at e p) ↔ Wrong e p

module _ {A B : Type 0} {Is : A → Type 0} {Wrong : ℕ → ℕ → Type 0} (s : Side) (x : Reading A) (m : Reads x Is Wrong) (k : A → Reply B) where
  at-text : (e p : ℕ) → Wrong e p → read_as s x k ≡ refuses (on_side s (fault e p))
  at-text e p w = ap (λ (y : Reading A). read_as s y k) ((m.wrong e p).1 w)

  past-text : (a : A) → Is a → read_as s x k ≡ k a
  past-text a i = ap (λ (y : Reading A). read_as s y k) ((m.accepts a).1 i)

  -- where the reply is the refusal r, the text is wrong so, or it is read and the rest is that refusal
  data TextRead (r : Refusal) : Type 0 where
    ends : (e p : ℕ) → Wrong e p → r ≡ on_side s (fault e p) → TextRead r
    passes : (a : A) → Is a → k a ≡ refuses r → TextRead r

  reads : (y : Reading A) (r : Refusal) → x ≡ y → read_as s y k ≡ refuses r → TextRead r
  reads (read a) r h i = passes a ((m.accepts a).0 h) i
  reads (refused bad) r h i = ends bad.number bad.place ((m.wrong bad.number bad.place).0 h) (one-refusal i)

-- ---- calls
module _ {A B : Type 0} (lent : List Test) (Is : List ℕ → A → Type 0) (Wrong : List ℕ → ℕ → ℕ → Type 0) (reader : List ℕ → Reading A)
    (m : (s : List ℕ) → Reads (reader s) (Is s) (Wrong s)) (s : List ℕ) (r : Refusal) where
  -- with one text: tests of what is lent, the text, tests of the result
  module _ (result : A → List Test) (value : A → B) where
    abbrev ending : A → Reply B
    ending x = tested (result x) (λ u. gives (value x))

    abbrev reading : Unit {0} → Reply B
    reading u = read_as Left (reader s) ending

    one-result : (x : A) → AllPass lent → Is s x → Tested (λ u. gives (value x)) (result x) r → RefusedOne lent Is Wrong s result r
    one-result x a i (stops e f j) = RefusedOne.result-wrong x e a i f j
    one-result x a i (goes b j) = not-given j

    one-read : AllPass lent → TextRead Left (reader s) (m s) ending r → RefusedOne lent Is Wrong s result r
    one-read a (ends e p w j) = RefusedOne.text-wrong e p a w j
    one-read a (passes x i j) = one-result x a i (tests (λ u. gives (value x)) (result x) r j)

    one_lent : Tested reading lent r → RefusedOne lent Is Wrong s result r
    one_lent (stops e f j) = RefusedOne.lent-wrong e f j
    one_lent (goes a j) = one-read a (reads Left (reader s) (m s) ending (reader s) r refl j)

    one-back : RefusedOne lent Is Wrong s result r → tested lent reading ≡ refuses r
    one-back (RefusedOne.lent-wrong e f j) = first-fails reading e lent f ∙ ap refuses (sym j)
    one-back (RefusedOne.text-wrong e p a w j) =
        all_pass reading lent a ∙ at-text Left (reader s) (m s) ending e p w ∙ ap refuses (sym j)
    one-back (RefusedOne.result-wrong x e a i f j) =
        all_pass reading lent a ∙ past-text Left (reader s) (m s) ending x i
        ∙ first-fails (λ u. gives (value x)) e (result x) f ∙ ap refuses (sym j)

    pub one-text : (tested lent reading ≡ refuses r) ↔ RefusedOne lent Is Wrong s result r
    one-text = (λ h. one_lent (tests reading lent r h), one-back)

  -- with two: the right text behind the left
  module _ (t : List ℕ) (result : A → A → List Test) (value : A → A → B) where
    abbrev ending₂ : A → A → Reply B
    ending₂ x y = tested (result x y) (λ u. gives (value x y))

    abbrev right : A → Reply B
    right x = read_as Right (reader t) (ending₂ x)

    abbrev left : Unit {0} → Reply B
    left u = read_as Left (reader s) right

    two-result :
        (x y : A) → AllPass lent → Is s x → Is t y → Tested (λ u. gives (value x y)) (result x y) r →
        RefusedTwo lent Is Wrong s t result r
    two-result x y a i j (stops e f h) = RefusedTwo.result-wrong x y e a i j f h
    two-result x y a i j (goes b h) = not-given h

    two-right : (x : A) → AllPass lent → Is s x → TextRead Right (reader t) (m t) (ending₂ x) r → RefusedTwo lent Is Wrong s t result r
    two-right x a i (ends e p w h) = RefusedTwo.right-wrong x e p a i w h
    two-right x a i (passes y j h) = two-result x y a i j (tests (λ u. gives (value x y)) (result x y) r h)

    two-left : AllPass lent → TextRead Left (reader s) (m s) right r → RefusedTwo lent Is Wrong s t result r
    two-left a (ends e p w h) = RefusedTwo.left-wrong e p a w h
    two-left a (passes x i h) = two-right x a i (reads Right (reader t) (m t) (ending₂ x) (reader t) r refl h)

    two_lent : Tested left lent r → RefusedTwo lent Is Wrong s t result r
    two_lent (stops e f h) = RefusedTwo.lent-wrong e f h
    two_lent (goes a h) = two-left a (reads Left (reader s) (m s) right (reader s) r refl h)

    two_back : RefusedTwo lent Is Wrong s t result r → tested lent left ≡ refuses r
    two_back (RefusedTwo.lent-wrong e f h) = first-fails left e lent f ∙ ap refuses (sym h)
    two_back (RefusedTwo.left-wrong e p a w h) = all_pass left lent a ∙ at-text Left (reader s) (m s) right e p w ∙ ap refuses (sym h)
    two_back (RefusedTwo.right-wrong x e p a i w h) =
        all_pass left lent a ∙ past-text Left (reader s) (m s) right x i ∙ at-text Right (reader t) (m t) (ending₂ x) e p w
        ∙ ap refuses (sym h)
    two_back (RefusedTwo.result-wrong x y e a i j f h) =
        all_pass left lent a ∙ past-text Left (reader s) (m s) right x i ∙ past-text Right (reader t) (m t) (ending₂ x) y j
        ∙ first-fails (λ u. gives (value x y)) e (result x y) f ∙ ap refuses (sym h)

    pub two-texts : (tested lent left ≡ refuses r) ↔ RefusedTwo lent Is Wrong s t result r
    two-texts = (λ h. two_lent (tests left lent r h), two_back)

-- The parts of a term: from what is found of a part to what is found of the whole.
use Rattle.std.specs.Prelude.{◌≡◌, refl, Bool, true, false, List, ◌∷◌, ℕ, ◌+◌, length}
use Rattle.std.proofs.Common.{sym, ap, ◌∙◌, subst, arith}
use Rattle.text.specs.definitions.Bytes.{word, is_in_row}
use Rattle.term_token.specs.Views.{from}
use Rattle.std.specs.Prelude.{Option as Maybe, Some}
use Rattle.term_leaf.specs.declared.Kind.{Kind}
use Rattle.term_leaf.specs.declared.Kind.TheVariants as K
use Rattle.text_word.specs.declared.Operator.{Operator}
use Rattle.text_word.specs.declared.Operator.TheVariants.{Power}
use Rattle.text_word.specs.Words.{operator_of}
use Rattle.dialect.specs.declared.Dialect.{Dialect}
use Rattle.text.specs.definitions.Answer.{Reading, refused, fine}
use Rattle.text.specs.definitions.Reading.{Frame, first, operand, operator, Next, after_expt, case_next, deliver}
use Rattle.text.specs.definitions.Reading.{letter_check, wrong_at, only_end, run_in}
use Rattle.text.specs.definitions.Tree.{Tree}
use Rattle.term_leaf.specs.Leaf.{Part, On, Off}
use Rattle.term_leaf.specs.Leaf.{part, TokenAt}
use Rattle.term_parse.specs.Found.{TermSays, go_on, stopped, Says, Shut, TermAt, ListAt, PowerAt, sign_of, NoClosing}
use Rattle.term_parse.specs.laws.Steps.{by_code, by-sign, operates}

-- ---- tokens
-- the kinds of tokens
pub data Four (k : Kind) : Type 0 where
  k0 : k ≡ K.End → Four k
  k1 : k ≡ K.Open → Four k
  k2 : k ≡ K.Close → Four k
  k3 : k ≡ K.Word → Four k

pub four : (k : Kind) → Four k
four K.End = k0 refl
four K.Open = k1 refl
four K.Close = k2 refl
four K.Word = k3 refl

module _ (D : Dialect) (row s : List ℕ) (at : ℕ) (kind : Kind) (a e : ℕ) (t : TokenAt s at kind a e) where
  -- no `)` is here
  pub no-closing : (kind ≡ K.Close → ⊥) → NoClosing (from s at)
  no-closing n = by (four kind)
    where
      by : Four kind → NoClosing (from s at)
      by (k0 h) = subst NoClosing (sym (t.none_left h).0) tt
      by (k1 h) = subst NoClosing (sym (t.opens h).0) tt
      by (k2 h) = absurd (n h)
      by (k3 h) = subst NoClosing (sym (t.worded h).0) tt

  -- the refusal of the token that is here
  pub stopped-is : stopped D row (length s) (from s at) ≡ refused D.wrong a e
  stopped-is = by (four kind)
    where
      by : Four kind → stopped D row (length s) (from s at) ≡ refused D.wrong a e
      by (k0 h) =
          ap (stopped D row (length s)) (t.none_left h).0
          ∙ (λ i. refused D.wrong (sym (t.none_left h).1.0 i) (sym (t.none_left h).1.1 i))
      by (k1 h) = ap (stopped D row (length s)) (t.opens h).0 ∙ ap (refused D.wrong a) (sym (t.opens h).1)
      by (k2 h) = ap (stopped D row (length s)) (t.closes h).0 ∙ ap (refused D.wrong a) (sym (t.closes h).1)
      by (k3 h) = ap (stopped D row (length s)) (t.worded h).0 ∙ ap (refused D.wrong a) (sym (t.worded h).1)

-- ---- the same claim of another reading, or from an earlier place
module _ (D : Dialect) (row s : List ℕ) (b : ℕ) (out : List ℕ) (g : Tree → List Frame → Next) {Fits Fits' : List Frame → Type 0}
    {f f' : List Frame → Reading Tree} where
  -- of a reading that comes to the same
  pub says-as : (r : Part) → ((fs : List Frame) → Fits' fs → (Fits fs) × (f' fs ≡ f fs)) → Says D row s b out Fits f g r →
      Says D row s b out Fits' f' g r
  says-as (On k nx) h m = record {
    tree = m.tree;
    size = m.size;
    is = m.is;
    more = m.more;
    inside = m.inside;
    bound = m.bound;
    known = m.known;
    short = m.short;
    leads = λ fs o. (h fs o).1 ∙ m.leads fs (h fs o).0;
  }
  says-as (Off n p e) h m = λ fs o. (h fs o).1 ∙ m fs (h fs o).0

module _ (D : Dialect) (row s : List ℕ) where
  -- the reading of what stands behind the word from a to e, which has led to x; z is the word's check
  abbrev pub behind : (a e z : ℕ) → Next → Reading Tree
  behind a e z x =
      case_next x (wrong_at D (word a (part s a e)))
      (λ s' fs'. fine z a (a + length (part s a e)) (λ u. run_in D row (length s) s' fs' (from s e)))
      (λ t'. fine z a (a + length (part s a e)) (λ u. only_end D t' (from s e)))

  -- ---- behind `(`
  module _ (p at depth : ℕ) (kind : Kind) (a e : ℕ) (t : TokenAt s at kind a e) where
    module _ (h : kind ≡ K.Word) where
      pub operator-run : (g : Maybe Operator) → operator_of (part s a e) ≡ g → (fs : List Frame) → run_in D row (length s) (operator p) fs (from s at)
          ≡ behind a e (letter_check (is_in_row row) (part s a e)) (by_code D row g p a fs)
      operator-run g op fs =
          ap (run_in D row (length s) (operator p) fs) (t.worded h).0
          ∙ ap (λ x. behind a e (letter_check (is_in_row row) (part s a e)) x)
          ((operates D row p a (part s a e)).is fs ∙ ap (λ m. by_code D row m p a fs) op)

      -- an operator
      module _ (g : Operator) (op : operator_of (part s a e) ≡ Some g) where
        checked : letter_check (is_in_row row) (part s a e) ≡ 0
        checked = (operates D row p a (part s a e)).checked (λ z. cc)

        expt-run : (b : Bool) → b ≡ D.panel → g ≡ Power → (fs : List Frame) → run_in D row (length s) (operator p) fs (from s at)
            ≡ go_on D row (length s) (after_expt b p a fs) (from s e)
        expt-run b q f fs =
            operator-run (Some g) op fs
            ∙ (λ i. behind a e (checked i) (by_code D row (Some (f i)) p a fs))
            ∙ by b q
          where
            by : (c : Bool) → c ≡ D.panel → behind a e 0 (after_expt D.panel p a fs)
                ≡ go_on D row (length s) (after_expt c p a fs) (from s e)
            by true q' =
                ap (λ c. behind a e 0 (after_expt c p a fs)) (sym q')
            by false q' =
                ap (λ c. behind a e 0 (after_expt c p a fs)) (sym q')

        -- `EXPT`
        pub list-power : g ≡ Power → (out : List ℕ) (r : Part) → PowerAt D row s p e depth out r → ListAt D row s p at depth out r
        list-power f out r P =
            record { says = says-as D row s p out (deliver D) r (λ fs o. (o, expt-run D.panel refl f fs)) (P.says a) }

        -- `+`, `-` or `*`
        pub sign-run : (g ≡ Power → ⊥) → (fs : List Frame) → run_in D row (length s) (operator p) fs (from s at)
            ≡ run_in D row (length s) operand (first p a (sign_of D row g) ∷ fs) (from s e)
        sign-run f fs =
            operator-run (Some g) op fs
            ∙ (λ i. behind a e (checked i) (by-sign D row g f p a fs i))

        -- its first operand
        module _ (f : g ≡ Power → ⊥) (outx : List ℕ) (x : Part) (X : TermAt D row s e (depth + 1) outx x) where
          pub ok : (fs : List Frame) → length fs ≡ depth →
              (length (first p a (sign_of D row g) ∷ fs) ≡ depth + 1) × Shut D row s e (first p a (sign_of D row g) ∷ fs)
          ok fs o = (omega (arith, o), λ c ks q. refl)

          -- it is refused
          pub first_off : (n q q' : ℕ) → x ≡ Off n q q' → (out : List ℕ) → ListAt D row s p at depth out x
          first_off n q q' E out =
              let F : (fs : List Frame) → (length fs ≡ depth + 1) × Shut D row s e fs → run_in D row (length s) operand fs (from s e)
              ≡ refused n q q' = subst (TermSays D row s e (depth + 1) outx) E X.says in
              subst (ListAt D row s p at depth out) (sym E)
              (record { says = λ fs o. sign-run f fs ∙ F (first p a (sign_of D row g) ∷ fs) (ok fs o) })

          -- it is there
          pub first_made : (k nx : ℕ) → x ≡ On k nx →
              TermSays D row s e (depth + 1) outx (On k nx)
          first_made k nx E =
              subst (TermSays D row s e (depth + 1) outx) E X.says

-- What stands besides: theorems of this crate that no other proof leans on.
use Rattle.std.specs.Prelude.{◌≡◌, refl, Bool, true, false, cond, List, [], ◌∷◌, ℕ, ◌+◌}
use Rattle.std.proofs.Common.{sym, ◌∙◌, subst, true≢false}
use Rattle.std.proofs.Math.Path.{ap}
use Rattle.std.proofs.Math.Option.{none, some}
use Rattle.std.proofs.Math.ListN.{length}
use Rattle.text.specs.definitions.Bytes.{Token, opening, closing, word, is_in_row}
use Rattle.text.specs.definitions.Tree.{Sign, add, sub, mul, Tree, two}
use Rattle.std.specs.Prelude.{None}
use Rattle.text_word.specs.declared.Operator.{Operator}
use Rattle.text_word.specs.declared.Operator.TheVariants.{Plus, Minus, Times, Power}
use Rattle.text_word.specs.Words.{operator_of}
use Rattle.dialect.specs.declared.Dialect.{Dialect}
use Rattle.text.specs.definitions.Answer.{Reading, fine}
use Rattle.text.specs.definitions.Reading.{Frame, first, operand, operator, exponent, a_letter, Next}
use Rattle.text.specs.definitions.Reading.{after_first, case_next, deliver, letter_check, wrong_at, only_end}
use Rattle.text.specs.definitions.Reading.{run_in}
use Rattle.term_parse.specs.Found.{go_on, stopped, NoClosing, sign_of}
use Rattle.std.specs.Prelude.{◌-◌, ◌≤◌, take, drop}
use Rattle.std.proofs.Common.{arith, length-drop, take_all}
use Rattle.term_parse.specs.Found.{closes_only}
use Rattle.std.specs.Prelude.{◌⊎◌, ◌<◌, ltb}
use Rattle.std.proofs.Common.{inl, inr, lt-ltb, le-ltb}
use Rattle.std.proofs.Math.Option.{Option}
use Rattle.term_token.specs.Views.{from}
use Rattle.term_leaf.specs.declared.Kind.{Kind}
use Rattle.term_leaf.specs.declared.Kind.TheVariants as K
use Rattle.text.specs.definitions.Answer.{refused}
use Rattle.text.specs.definitions.Reading.{leaf, deliver_some}
use Rattle.term_leaf.specs.Leaf.{Part, On, Off}
use Rattle.term_leaf.specs.Leaf.{part, TokenAt, word_tree, WordSays}
use Rattle.term_parse.specs.Found.{Says, Shut, TermAt, ListAt}
use Rattle.term_parse.specs.laws.Steps.{delivered}
use Rattle.term_parse.specs.laws.Parts.{Four, k0, k1, k2, k3, four, stopped-is, behind, operator-run}
use Rattle.std.specs.Prelude.{◌*◌}
use Rattle.term_parse.specs.Found.{SecondAt, ClosedAt}
use Rattle.term_parse.specs.laws.Parts.{no-closing}
use Rattle.term_parse.specs.laws.Operands.{is-only, sign-two}
use Rattle.term_parse.specs.laws.Operands.{Only, only}
use Rattle.text.specs.definitions.Reading.{lone}
use Rattle.text.specs.definitions.Reading.{raise_letter}
use Rattle.term_leaf.specs.Leaf.{letter_tree}
use Rattle.term_parse.specs.Found.{LetterAt, ExponentAt}

module _ (D : Dialect) (row : List ℕ) where
  close-off : (b : Bool) (p o c : ℕ) (g : Sign) (x : Tree) (fs : List Frame) (n : ℕ) (ks : List Token) → (g ≡ sub → ⊥)
      → go_on D row n (after_first b p o g x fs) (closing c ∷ ks) ≡ wrong_at D (closing c)
  close-off false p o c add x fs n ks h = refl
  close-off false p o c sub x fs n ks h = absurd (h refl)
  close-off false p o c mul x fs n ks h = refl
  close-off true p o c add x fs n ks h = refl
  close-off true p o c sub x fs n ks h = absurd (h refl)
  close-off true p o c mul x fs n ks h = refl

  -- of one operand where there have to be two
  pub close-binary : (p o c : ℕ) (g : Sign) (x : Tree) (fs : List Frame) (n : ℕ) (ks : List Token) → (g ≡ sub → ⊥)
      → go_on D row n (after_first D.panel p o g x fs) (closing c ∷ ks) ≡ wrong_at D (closing c)
  close-binary p o c g x fs n ks h = close-off D.panel p o c g x fs n ks h

  negated-by : (b : Bool) → b ≡ true → (p o : ℕ) (x : Tree) (fs : List Frame) (n : ℕ) (ts : List Token) → NoClosing ts →
      go_on D row n (after_first b p o sub x fs) ts ≡ stopped D row n ts
  negated-by false e p o x fs n ts h = absurd (true≢false (sym e))
  negated-by true e p o x fs n [] h = refl
  negated-by true e p o x fs n (opening r ∷ ts) h = refl
  negated-by true e p o x fs n (closing r ∷ ts) h = absurd h
  negated-by true e p o x fs n (word r w ∷ ts) h = refl

  -- behind a panel term's `(- x`
  pub negated-stops : D.panel ≡ true → (p o : ℕ) (x : Tree) (fs : List Frame) (n : ℕ) (ts : List Token) → NoClosing ts →
      go_on D row n (after_first D.panel p o sub x fs) ts ≡ stopped D row n ts
  negated-stops e p o x fs n ts h = negated-by D.panel e p o x fs n ts h

  abbrev pub NoWord : List Token → Type 0
  NoWord [] = Unit {0}
  NoWord (opening p ∷ ks) = Unit {0}
  NoWord (closing p ∷ ks) = Unit {0}
  NoWord (word p w ∷ ks) = ⊥

  -- for an exponent
  pub exponent-stops : (p o : ℕ) (x : Tree) (fs : List Frame) (n : ℕ) (ts : List Token) → NoWord ts → run_in D row n (exponent p o x) fs ts
      ≡ stopped D row n ts
  exponent-stops p o x fs n [] h = refl
  exponent-stops p o x fs n (opening r ∷ ts) h = refl
  exponent-stops p o x fs n (closing r ∷ ts) h = refl
  exponent-stops p o x fs n (word r w ∷ ts) h = absurd h

  -- for a letter
  pub letter-stops : (p o : ℕ) (fs : List Frame) (n : ℕ) (ts : List Token) → NoWord ts → run_in D row n (a_letter p o) fs ts
      ≡ stopped D row n ts
  letter-stops p o fs n [] h = refl
  letter-stops p o fs n (opening r ∷ ts) h = refl
  letter-stops p o fs n (closing r ∷ ts) h = refl
  letter-stops p o fs n (word r w ∷ ts) h = absurd h

  -- for an operator
  pub operator-stops : (p : ℕ) (fs : List Frame) (n : ℕ) (ts : List Token) → NoWord ts → run_in D row n (operator p) fs ts
      ≡ stopped D row n ts
  operator-stops p fs n [] h = refl
  operator-stops p fs n (opening r ∷ ts) h = refl
  operator-stops p fs n (closing r ∷ ts) h = refl
  operator-stops p fs n (word r w ∷ ts) h = absurd h

pub length-tail : (a : ℕ) (w : List ℕ) → length (take (length w - a) (drop a w)) ≡ length w - a
length-tail a w = ap length (take_all (length w - a) (drop a w) (omega (arith, length-drop a w))) ∙ length-drop a w

pub sign-not : (D : Dialect) (g : Operator) → (g ≡ Minus → ⊥) → sign_of D [] g ≡ sub → ⊥
sign-not D Plus n e = cc
sign-not D Minus n e = n refl
sign-not D Times n e = cc
sign-not D Power n e = cc

module _ (D : Dialect) (row s : List ℕ) (at : ℕ) (kind : Kind) (a e : ℕ) (t : TokenAt s at kind a e) where
  -- no word is here
  pub no_word : (kind ≡ K.Word → ⊥) → NoWord D row (from s at)
  no_word n = by (four kind)
    where
      by : Four kind → NoWord D row (from s at)
      by (k0 h) = subst (NoWord D row) (sym (t.none_left h).0) tt
      by (k1 h) = subst (NoWord D row) (sym (t.opens h).0) tt
      by (k2 h) = subst (NoWord D row) (sym (t.closes h).0) tt
      by (k3 h) = absurd (n h)

module _ (D : Dialect) (row s : List ℕ) (b : ℕ) (out : List ℕ) (g : Tree → List Frame → Next) {Fits Fits' : List Frame → Type 0}
    {f f' : List Frame → Reading Tree} where
  -- from an earlier place
  pub says-from : (b' : ℕ) → b' ≤ b → (r : Part) → ((fs : List Frame) → Fits' fs → (Fits fs) × (f' fs ≡ f fs)) → Says D row s b out Fits f g r →
      Says D row s b' out Fits' f' g r
  says-from b' l (On k nx) h m = record {
    tree = m.tree;
    size = m.size;
    is = m.is;
    more = omega (arith, m.more);
    inside = m.inside;
    bound = omega (arith, m.bound, m.more);
    known = m.known;
    short = m.short;
    leads = λ fs o. (h fs o).1 ∙ m.leads fs (h fs o).0;
  }
  says-from b' l (Off n p e) h m = λ fs o. (h fs o).1 ∙ m fs (h fs o).0

module _ (D : Dialect) (row s : List ℕ) where
  module _ (at depth : ℕ) (kind : Kind) (a e : ℕ) (t : TokenAt s at kind a e) where
    leaf-run : kind ≡ K.Word → (L : Option Tree) → leaf D a (part s a e) ≡ L → (fs : List Frame) →
        run_in D row (length s) operand fs (from s at)
        ≡ behind D row s a e (letter_check (is_in_row row) (part s a e)) (deliver_some D L fs)
    leaf-run h L q fs =
        ap (run_in D row (length s) operand fs) (t.worded h).0
        ∙ ap (λ L'. behind D row s a e (letter_check (is_in_row row) (part s a e)) (deliver_some D L' fs)) q

    leaf-some : kind ≡ K.Word → (x : Tree) → leaf D a (part s a e) ≡ some x → (z : ℕ) → letter_check (is_in_row row) (part s a e) ≡ z →
        (fs : List Frame)
        → run_in D row (length s) operand fs (from s at) ≡ fine z a e (λ u. go_on D row (length s) (deliver D x fs) (from s e))
    leaf-some h x q z c fs =
        leaf-run h (some x) q fs
        ∙ delivered D row x fs (length s) (letter_check (is_in_row row) (part s a e)) a (a + length (part s a e)) (from s e)
        (wrong_at D (word a (part s a e)))
        ∙ (λ i. fine (c i) a (sym (t.worded h).1 i) (λ u. go_on D row (length s) (deliver D x fs) (from s e)))

    -- a word
    pub term-word : kind ≡ K.Word → (out : List ℕ) (r : Part) → WordSays D row (word_tree D a (part s a e)) (part s a e) a e out r →
        TermAt D row s at depth out r
    term-word h out (On k nx) W =
        let w = W.case in
        record {
          says = record {
            tree = w.tree;
            size = omega (arith, w.two, w.size);
            is = ap (λ n. take n out) w.two ∙ w.is;
            more = omega (arith, w.past, t.later, t.more (λ z. cc));
            inside = omega (arith, w.past, t.inside);
            bound = omega (arith, w.two, w.past, t.later, t.more (λ z. cc));
            known = w.known;
            short = w.short;
            leads =
                λ fs o. leaf-some h w.tree w.found 0 w.fine fs
                ∙ ap (λ n. go_on D row (length s) (deliver D w.tree fs) (from s n)) (sym w.past);
          };
        }
    term-word h out (Off n p q) W = record { says = λ fs o. by (leaf D a (part s a e)) refl W.case.why fs }
      where
        by : (L : Option Tree) → leaf D a (part s a e) ≡ L →
            ((leaf D a (part s a e) ≡ none) × (n ≡ D.wrong))
            ⊎ ((Tree × (n ≡ 5)) × ((letter_check (is_in_row row) (part s a e) ≡ 5) × (leaf D a (part s a e) ≡ none → ⊥))) → (fs : List Frame)
            → run_in D row (length s) operand fs (from s at) ≡ refused n p q
        by L l (inl (x, y)) fs =
            leaf-run h none x fs ∙ (λ i. refused (sym y i) (sym W.case.place i) ((sym (t.worded h).1 ∙ sym W.case.end) i))
        by none l (inr (x, y)) fs = absurd (y.1 l)
        by (some z) l (inr (x, y)) fs =
            leaf-some h z l 5 y.0 fs ∙ (λ i. refused (sym x.1 i) (sym W.case.place i) (sym W.case.end i))

    -- no term begins so
    pub term-none : (kind ≡ K.Word → ⊥) → (kind ≡ K.Open → ⊥) → (out : List ℕ) → TermAt D row s at depth out (Off D.wrong a e)
    term-none n m out = record { says = λ fs o. by (four kind) fs o.1 }
      where
        by : Four kind → (fs : List Frame) → Shut D row s at fs → run_in D row (length s) operand fs (from s at) ≡ refused D.wrong a e
        by (k0 h) fs o =
            ap (run_in D row (length s) operand fs) (t.none_left h).0
            ∙ (λ i. refused D.wrong (sym (t.none_left h).1.0 i) (sym (t.none_left h).1.1 i))
        by (k1 h) fs o = absurd (m h)
        by (k2 h) fs o =
            ap (run_in D row (length s) operand fs) (t.closes h).0
            ∙ ap (λ x. case_next x (wrong_at D (closing a)) (λ s' fs'. run_in D row (length s) s' fs' (from s e))
            (λ t'. only_end D t' (from s e))) (o a (from s e) (t.closes h).0)
            ∙ ap (refused D.wrong a) (sym (t.closes h).1)
        by (k3 h) fs o = absurd (n h)

    open-run : kind ≡ K.Open → (b : Bool) → ltb depth D.depth ≡ b → (fs : List Frame) → length fs ≡ depth
        → run_in D row (length s) operand fs (from s at) ≡ fine (cond b 0 6) a e (λ u. run_in D row (length s) (operator a) fs (from s e))
    open-run h b l fs o =
        ap (run_in D row (length s) operand fs) (t.opens h).0
        ∙ (λ i. fine (cond ((ap (λ n. ltb n D.depth) o ∙ l) i) 0 6) a (sym (t.opens h).1 i)
        (λ u. run_in D row (length s) (operator a) fs (from s e)))

    -- a `(` too many
    pub term-deep : kind ≡ K.Open → D.depth ≤ depth → (out : List ℕ) → TermAt D row s at depth out (Off 6 a e)
    term-deep h l out = record { says = λ fs o. open-run h false (le-ltb depth D.depth l) fs o.0 }

    -- a `(`
    pub term-list : kind ≡ K.Open → depth < D.depth → (out : List ℕ) (r : Part) → ListAt D row s a e depth out r →
        TermAt D row s at depth out r
    term-list h l out r L =
        record {
          says = says-from D row s a out (deliver D) at t.later r
              (λ fs o. (o.0, open-run h true (lt-ltb depth D.depth l) fs o.0)) L.says;
        }

  module _ (p at depth : ℕ) (kind : Kind) (a e : ℕ) (t : TokenAt s at kind a e) where
    -- no word
    pub list-none : (kind ≡ K.Word → ⊥) → (out : List ℕ) → ListAt D row s p at depth out (Off D.wrong a e)
    list-none n out =
        record {
          says = λ fs o. operator-stops D row p fs (length s) (from s at) (no_word D row s at kind a e t n)
              ∙ stopped-is D row s at kind a e t;
        }

    module _ (h : kind ≡ K.Word) where
      -- no operator
      pub list-wrong : operator_of (part s a e) ≡ None → (out : List ℕ) → ListAt D row s p at depth out (Off D.wrong a e)
      list-wrong z out = record {
        says =
            λ fs o. operator-run D row s p at depth kind a e t h None z fs
            ∙ ap (refused D.wrong a) (sym (t.worded h).1);
      }

  module _ (p : ℕ) (g : Operator) (k at depth : ℕ) (kind : Kind) (a e : ℕ) (t : TokenAt s at kind a e) (before : List ℕ) (short : length s ≤ 65535) (below : p ≤ at)
      (bound : 2 * k + 5 ≤ 3 * (at - p)) where
    -- `(+ x)` or `(* x)`
    pub second-wrong : kind ≡ K.Close → (g ≡ Minus → ⊥) → (out : List ℕ) → SecondAt D row s p g k at depth before out (Off D.wrong a e)
    second-wrong h q out = record {
      says = λ o x X fs z.
          ap (go_on D row (length s) (after_first D.panel p o (sign_of D row g) x fs)) (t.closes h).0
          ∙ close-binary D row p o a (sign_of D row g) x fs (length s) (from s e) (sign-not D g q)
          ∙ ap (refused D.wrong a) (sym (t.closes h).1);
    }

    -- a panel term's `(- x` without its `)`
    pub second-only : (kind ≡ K.Close → ⊥) → closes_only D [] g ≡ true → (out : List ℕ) →
        SecondAt D row s p g k at depth before out (Off D.wrong a e)
    second-only n c out = by (only D g true c)
      where
        by : Only D g true → SecondAt D row s p g k at depth before out (Off D.wrong a e)
        by (is-only q r) = record {
          says = λ o x X fs z.
              ap (λ y. go_on D row (length s) (after_first D.panel p o y x fs) (from s at)) (sign-two D g q)
              ∙ negated-stops D row r p o x fs (length s) (from s at) (no-closing D row s at kind a e t n)
              ∙ stopped-is D row s at kind a e t;
        }

  module _ (p k at : ℕ) (kind : Kind) (a e : ℕ) (t : TokenAt s at kind a e) (before : List ℕ) where
    -- no word
    pub exp-none : (kind ≡ K.Word → ⊥) → (out : List ℕ) → ExponentAt D row s p k at before out (Off D.wrong a e)
    exp-none n out =
        record {
          says = λ o x X fs z. exponent-stops D row p o x fs (length s) (from s at) (no_word D row s at kind a e t n)
              ∙ stopped-is D row s at kind a e t;
        }

  module _ (at : ℕ) (kind : Kind) (a e : ℕ) (t : TokenAt s at kind a e) where
    -- no word
    pub base-none : (kind ≡ K.Word → ⊥) → (out : List ℕ) → LetterAt D row s at out (Off D.wrong a e)
    base-none n out =
        record {
          says = λ p o fs z. letter-stops D row p o fs (length s) (from s at) (no_word D row s at kind a e t n)
              ∙ stopped-is D row s at kind a e t;
        }

    lone-run : kind ≡ K.Word → (L : Option Tree) → lone a (part s a e) ≡ L → (p o : ℕ) (fs : List Frame) →
        run_in D row (length s) (a_letter p o) fs (from s at)
        ≡ behind D row s a e (letter_check (is_in_row row) (part s a e)) (raise_letter p o L fs)
    lone-run h L q p o fs =
        ap (run_in D row (length s) (a_letter p o) fs) (t.worded h).0
        ∙ ap (λ L'. behind D row s a e (letter_check (is_in_row row) (part s a e)) (raise_letter p o L' fs)) q

    lone-some : kind ≡ K.Word → (x : Tree) → lone a (part s a e) ≡ some x → (z : ℕ) → letter_check (is_in_row row) (part s a e) ≡ z →
        (p o : ℕ) (fs : List Frame)
        → run_in D row (length s) (a_letter p o) fs (from s at) ≡ fine z a e (λ u. run_in D row (length s) (exponent p o x) fs (from s e))
    lone-some h x q z c p o fs =
        lone-run h (some x) q p o fs ∙ (λ i. fine (c i) a (sym (t.worded h).1 i)
        (λ u. run_in D row (length s) (exponent p o x) fs (from s e)))

    -- what is answered of the word
    pub base_word : kind ≡ K.Word → (out : List ℕ) (r : Part) → WordSays D row (letter_tree a (part s a e)) (part s a e) a e out r →
        LetterAt D row s at out r
    base_word h out (On k nx) W =
        let w = W.case in
        record {
          says = λ p o. record {
            tree = w.tree;
            size = omega (arith, w.two, w.size);
            is = ap (λ n. take n out) w.two ∙ w.is;
            more = omega (arith, w.past, t.later, t.more (λ z. cc));
            inside = omega (arith, w.past, t.inside);
            bound = omega (arith, w.two, w.past, t.later, t.more (λ z. cc));
            known = w.known;
            short = w.short;
            leads =
                λ fs z. lone-some h w.tree w.found 0 w.fine p o fs
                ∙ ap (λ n. run_in D row (length s) (exponent p o w.tree) fs (from s n)) (sym w.past);
          };
        }
    base_word h out (Off n p' q) W = record { says = λ p o fs z. by (lone a (part s a e)) refl W.case.why p o fs }
      where
        by : (L : Option Tree) → lone a (part s a e) ≡ L →
            ((lone a (part s a e) ≡ none) × (n ≡ D.wrong))
            ⊎ ((Tree × (n ≡ 5)) × ((letter_check (is_in_row row) (part s a e) ≡ 5) × (lone a (part s a e) ≡ none → ⊥))) → (p o : ℕ)
            (fs : List Frame)
            → run_in D row (length s) (a_letter p o) fs (from s at) ≡ refused n p' q
        by L l (inl (x, y)) p o fs =
            lone-run h none x p o fs ∙ (λ i. refused (sym y i) (sym W.case.place i) ((sym (t.worded h).1 ∙ sym W.case.end) i))
        by none l (inr (x, y)) p o fs = absurd (y.1 l)
        by (some z) l (inr (x, y)) p o fs =
            lone-some h z l 5 y.0 p o fs ∙ (λ i. refused (sym x.1 i) (sym W.case.place i) (sym W.case.end i))

module _ (D : Dialect) (s : List ℕ) (p head size at : ℕ) (kind : Kind) (a e : ℕ) (t : TokenAt s at kind a e) (before : List ℕ) where
  -- none is here
  pub closed-off : (kind ≡ K.Close → ⊥) → (out : List ℕ) → ClosedAt D s p head size at before out (Off D.wrong a e)
  closed-off n out = record { case = (no-closing D [] s at kind a e t n, stopped-is D [] s at kind a e t) }

  -- one is here
  pub closed_on : kind ≡ K.Close → (out : List ℕ) → out ≡ head ∷ ((p + 65536 * e) ∷ drop 2 before) →
      ClosedAt D s p head size at before out (On size e)
  closed_on h out w =
      let c : e ≡ a + 1 = omega (arith, (t.closes h).1) in
      record {
        case = record {
          c = a;
          is-size = refl;
          first = (t.closes h).0;
          past = c;
          later = omega (arith, t.later, t.more (λ z. cc));
          inside = t.inside;
          words = w ∙ ap (λ n. head ∷ ((p + 65536 * n) ∷ drop 2 before)) c;
        };
      }

-- Building, node by node: what each call on the way is given, and that its run is the node's.
use Rattle.std.specs.Prelude.{List, [], ◌≡◌, ℕ, suc, ◌*◌, ◌≤◌, length, get_or, take}
use Rattle.std.proofs.Common.{sym, ap, ◌∙◌, subst, arith}
use Rattle.code.proofs.Lists.{begins-le}
use Rattle.code.specs.Coding.{Begins}
use Rattle.horner.specs.definitions.Form.{raise}
use Rattle.horner.specs.definitions.Measures.{degrees_of, multiples, AllLe}
use Rattle.horner.specs.definitions.Rings.{red_ℤ, prime, prime-pos, p_ring}
use Rattle.horner.specs.definitions.Term.{Term, expt, norm_p}
use Rattle.run_form.specs.Forms.{run_words, Low}
use Rattle.run_form.proofs.laws.Powers.{raise-run, power-room}
use Rattle.run_form.specs.laws.Powers.{FewPowers}
use Rattle.run_form.proofs.laws.Sums.{negate-run}
use Rattle.run_form.proofs.laws.Under.{run_fits, run_length}
use Rattle.run_merge.specs.Words.{pairs, pushed, Fits, Wrote, summed}
use Rattle.run_stack.specs.Stack.{raised, PowerRoom}
use Rattle.text.specs.definitions.Bytes.{index_in}
use Rattle.text.specs.definitions.Tree.{nesting, Tree, power}
use Rattle.text_laws.specs.laws.Rows.{index_below}
use Rattle.term_tree.specs.Shapes.{Codes, long, head_of, tag_of, number_of, operand, IsNum, is-num, IsLetter, is-letter}
use Rattle.term_tree.proofs.Shapes.{num_of, letter-of}
use Rattle.term_tree.specs.Shapes.{IsNeg, is-neg, IsPower, is-power, IsOne, one-neg, one_power, OneTag}
use Rattle.term_tree.proofs.Shapes.{neg_of, power-of, one_of}
use Rattle.term_tree.specs.Heads.{HeadIs}
use Rattle.term_tree.specs.declared.Head.TheVariants.{Integer, Letter}
use Rattle.term_build.specs.Build.{Env, Given, Built, term_in, SizedIn, run_in}
use Rattle.term_build.specs.Terms.{AllSized}
use Rattle.term_build.specs.laws.Leaves.{int-run, code_is, wrote-begins}
use Rattle.term_build.specs.laws.Sized.{sized-low, sized-count, few-power}

-- ---- of every node
module _ {w : List ℕ} {E : List (List ℕ)} {S O T : ℕ} (G : Given w E S O T) where
  abbrev n : ℕ
  n = length G.row

  abbrev term : Term
  term = term_in G.τ G.row G.tree

  low : Low n (degrees_of n term) (norm_p term)
  low = sized-low n term G.sized G.codes.four

  -- a node has a head word and a span
  pub two-words : 2 ≤ length w
  two-words = long G.codes

  -- there is room for its run
  pub stack-room : 512 ≤ S
  stack-room = omega (arith, G.room)

  module _ {a : ℕ} {l : List ℕ} (B : Built w E a l) where
    made : Begins a (run_words n (norm_p term)) l
    made = B.is G.row G.tree G.τ G.codes G.env G.sized

    -- a run takes at most 512 words
    pub built-size : a ≤ 512
    built-size = omega (arith, made.size, run_length n (norm_p term), sized-count n term G.sized)

    -- it stands on the stack
    pub built-inside : a ≤ length l
    built-inside = begins-le made

    -- its keys and coefficients are such that it can be worked with
    pub built-fits : Fits 0 (pairs (take a l))
    built-fits = subst (λ q. Fits 0 (pairs q)) (sym made.is) (run_fits low)

-- the tables keep their lengths
pub given-as : {w : List ℕ} {E : List (List ℕ)} {S S' O O' T T' : ℕ} → S ≡ S' → O ≡ O' → T ≡ T' → Given w E S O T → Given w E S' O' T'
given-as {S = S} {S'} {O} {O'} {T} {T'} s o t G = record {
  row = G.row;
  tree = G.tree;
  τ = G.τ;
  codes = G.codes;
  env = G.env;
  sized = G.sized;
  room = omega (arith, G.room, s);
  more = omega (arith, G.more, t);
  most = omega (arith, G.most, o, t);
}

-- ---- by the head word
module _ (w : List ℕ) (E : List (List ℕ)) where
  -- an integer
  pub built-int : {m : ℕ} → HeadIs (head_of w) (Integer m) → {r : ℕ} {l d : List ℕ} → Wrote (pushed 0 m) d 0 r l → Built w E r l
  built-int h {r} {l} W = record { is = λ row t τ C ρ S. by row t τ (num_of C h.1) S }
    where
      by : (row : List ℕ) (t : Tree) (τ : ℕ → Term) → IsNum w t → SizedIn τ row t → Begins r (run_in τ row t) l
      by row t τ (is-num p u z a b) S =
          subst (λ q. Begins r q l) (ap (pushed 0) (sym h.0 ∙ a ∙ code_is z S) ∙ int-run (length row) (red_ℤ prime prime-pos z))
          (wrote-begins W)

  -- ---- a letter
  module _ (i : ℕ) (h : HeadIs (head_of w) (Letter i)) where
    letter-is :
        (row : List ℕ) (t : Tree) (τ : ℕ → Term) → Codes row t w → IsLetter row w t → Env (length row) τ E → get_or E i [] ≡ run_in τ row t
    letter-is row t τ C (is-letter p b e c) ρ =
        ap (λ j. get_or E j []) (sym h.1.1 ∙ e) ∙ ρ.each (index_in row b) (index_below row b C.known)

    -- there is room for its run
    pub letter-room : {S O T : ℕ} → Given w E S O T → length (get_or E i []) ≤ S
    letter-room G =
        let e = letter-is G.row G.tree G.τ G.codes (letter-of h.0 G.codes h.1.0) G.env in
        omega (arith, ap length e, run_length (n G) (norm_p (term G)), sized-count (n G) (term G) G.sized, stack-room G)

    -- that is the environment's
    pub built-letter : {r : ℕ} {l : List ℕ} → Begins r (get_or E i []) l → Built w E r l
    built-letter {r} {l} B =
        record { is = λ row t τ C ρ S. subst (λ q. Begins r q l) (letter-is row t τ C (letter-of h.0 C h.1.0) ρ) B }

  module _ (node : 2147483648 ≤ head_of w) where
    -- ---- one operand: `(- x)` or a power
    -- it is built first, with the same tables
    pub given-one : {S O T : ℕ} → OneTag w → Given w E S O T → Given (operand w) E S O T
    given-one {S} {O} {T} tag G = by G.tree (one_of node G.tree G.codes tag) G.sized G.room
      where
        by : (t : Tree) → IsOne G.row w t → SizedIn G.τ G.row t → 512 * suc (nesting t) ≤ S → Given (operand w) E S O T
        by t (one-neg p o c x C) s r = record {
          row = G.row;
          tree = x;
          τ = G.τ;
          codes = C;
          env = G.env;
          sized = s;
          room = omega (arith, r);
          more = G.more;
          most = G.most;
        }
        by t (one_power p o c x q k C) s r = record {
          row = G.row;
          tree = x;
          τ = G.τ;
          codes = C;
          env = G.env;
          sized = s.1.1;
          room = omega (arith, r);
          more = G.more;
          most = G.most;
        }

    -- `(- x)`
    pub built-neg :
        tag_of w ≡ 1 → {a r : ℕ} {l d : List ℕ} → Built (operand w) E a d → Begins r (summed 0 2147483646 [] (take a d)) l → Built w E r l
    built-neg tag {a} {r} {l} {d} B R = record { is = λ row t τ C ρ S. by row t τ C.four (neg_of node C tag) ρ S }
      where
        by :
            (row : List ℕ) (t : Tree) (τ : ℕ → Term) → length row ≤ 4 → IsNeg row w t → Env (length row) τ E →
            SizedIn τ row t → Begins r (run_in τ row t) l
        by row t τ four (is-neg p o c x b C) ρ S =
            subst (λ q. Begins r q l)
            (ap (summed 0 2147483646 []) (B.is row x τ C ρ S).is ∙ negate-run (sized-low (length row) (term_in τ row x) S four)) R

    module _ (tag : tag_of w ≡ 5) where
      -- the tree is a power, with the exponent of the head word
      record Power (row : List ℕ) (t : Tree) (τ : ℕ → Term) : Type 0 where
        p : ℕ
        o : ℕ
        c : ℕ
        x : Tree
        q : ℕ
        is : t ≡ power p o c x q (number_of w)
        codes : Codes row x (operand w)
        sized : AllSized (length row) (expt (term_in τ row x) (number_of w))

      power-by : (row : List ℕ) (t : Tree) (τ : ℕ → Term) → IsPower row w t → SizedIn τ row t → Power row t τ
      power-by row t τ (is-power p o c x q k a b C) S =
          let e : k ≡ number_of w = omega (arith, a, S.1.0) in
          record {
            p = p;
            o = o;
            c = c;
            x = x;
            q = q;
            is = ap (power p o c x q) e;
            codes = C;
            sized = subst (λ j. AllSized (length row) (expt (term_in τ row x) j)) e S;
          }

      power_in : (row : List ℕ) (t : Tree) (τ : ℕ → Term) → Codes row t w → SizedIn τ row t → Power row t τ
      power_in row t τ C S = power-by row t τ (power-of node C tag) S

      -- by 0
      pub built-one : number_of w ≡ 0 → {r : ℕ} {l d : List ℕ} → Wrote (pushed 0 1) d 0 r l → Built w E r l
      built-one none {r} {l} W = record { is = λ row t τ C ρ S. by row t τ (power_in row t τ C S) }
        where
          by : (row : List ℕ) (t : Tree) (τ : ℕ → Term) → Power row t τ → Begins r (run_in τ row t) l
          by row t τ P =
              subst (λ q. Begins r q l)
              (int-run (length row) p_ring.unit
              ∙ ap (λ j. run_words (length row) (raise p_ring (norm_p (term_in τ row P.x)) j)) (sym none)
              ∙ ap (run_in τ row) (sym P.is)) (wrote-begins W)

      module _ (j : ℕ) (ej : number_of w ≡ suc j) {a : ℕ} {d : List ℕ} (B : Built (operand w) E a d) where
        module _ (row : List ℕ) (t : Tree) (τ : ℕ → Term) (P : Power row t τ) where
          of-base : Env (length row) τ E → take a d ≡ run_in τ row P.x
          of-base ρ = (B.is row P.x τ P.codes ρ P.sized.1.1).is

          low-base : length row ≤ 4 → Low (length row) (degrees_of (length row) (term_in τ row P.x)) (norm_p (term_in τ row P.x))
          low-base four = sized-low (length row) (term_in τ row P.x) P.sized.1.1 four

          degrees : AllLe 63 (multiples (suc j) (degrees_of (length row) (term_in τ row P.x)))
          degrees = subst (λ k. AllLe 63 (multiples k (degrees_of (length row) (term_in τ row P.x)))) ej P.sized.0.degrees

        -- there is room for it and for what is on its way
        pub room-power : {S O T : ℕ} → Given w E S O T → PowerRoom (take a d) j T S
        room-power {S} {O} {T} G = by (power_in G.row G.tree G.τ G.codes G.sized)
          where
            by : Power G.row G.tree G.τ → PowerRoom (take a d) j T S
            by P =
                let m = length G.row in
                let s = term_in G.τ G.row P.x in
                let twice : 1024 ≤ S = omega (arith, G.room, ap (λ u. nesting u) P.is) in
                subst (λ q. PowerRoom q j T S) (sym (of-base G.row G.tree G.τ P G.env))
                (power-room (low-base G.row G.tree G.τ P G.codes.four) j (degrees G.row G.tree G.τ P)
                (subst (FewPowers (degrees_of m s) (norm_p s)) ej (few-power m s (number_of w) P.sized))
                (sized-count m s P.sized.1.1) T S G.more twice)

        -- by more than 0
        pub built-power : {r : ℕ} {l : List ℕ} → Begins r (raised j (take a d)) l → Built w E r l
        built-power {r} {l} R = record { is = λ row t τ C ρ S. by row t τ C.four ρ (power_in row t τ C S) }
          where
            by :
                (row : List ℕ) (t : Tree) (τ : ℕ → Term) → length row ≤ 4 → Env (length row) τ E → Power row t τ →
                Begins r (run_in τ row t) l
            by row t τ four ρ P =
                subst (λ q. Begins r q l)
                (ap (raised j) (of-base row t τ P ρ)
                ∙ raise-run (low-base row t τ P four) j (degrees row t τ P)
                ∙ ap (λ k. run_words (length row) (raise p_ring (norm_p (term_in τ row P.x)) k)) (sym ej)
                ∙ ap (run_in τ row) (sym P.is)) R

-- Building a node with two operands: their runs stand side by side on the stack, and its own is made of them in their place.
use Rattle.std.specs.Prelude.{List, ◌≡◌, refl, ℕ, suc, ◌+◌, ◌*◌, ◌-◌, ◌≤◌, ◌<◌, max, length, take, drop}
use Rattle.std.proofs.Common.{sym, ap, ap₂, ◌∙◌, subst, arith}
use borrow.Rule.Slice.PartMut.{put_mid, same_len_mid, take_put}
use Rattle.code.proofs.Lists.{length-tail-part}
use Rattle.code.proofs.Regions.{region-put}
use Rattle.code.specs.Coding.{Begins}
use Rattle.horner.specs.definitions.Term.{Term, times, norm_p}
use Rattle.run_form.specs.Forms.{run_words}
use Rattle.run_form.proofs.laws.Products.{multiply-run, both-room}
use Rattle.run_form.proofs.laws.Sums.{sum-run, difference-run}
use Rattle.run_form.proofs.laws.Under.{run_length}
use Rattle.run_merge.specs.Words.{pairs, Fits, summed}
use Rattle.run_stack.specs.Stack.{multiplied, ProductRoom}
use Rattle.text.specs.definitions.Tree.{mul, signed, term_of, nesting, Tree, two}
use Rattle.term_tree.specs.Heads.{sign_of, HeadIs, first_of, second_of, Operands}
use Rattle.term_tree.specs.Shapes.{head_of}
use Rattle.term_tree.specs.declared.Head.TheVariants.{Pair}
use Rattle.term_tree.specs.declared.Operation.{Operation}
use Rattle.term_tree.specs.declared.Operation.TheVariants.{Add, Subtract, Multiply}
use Rattle.term_tree.proofs.Heads.{operands, first-shorter, second-shorter}
use Rattle.term_build.specs.Build.{Env, Given, Built, SizedIn, run_in, left_run, right_run, joined, Joining}
use Rattle.term_build.specs.Terms.{put, AllSized}
use Rattle.term_build.specs.laws.Nodes.{built-size, built-fits, given-as}
use Rattle.term_build.specs.laws.Sized.{sized-low, sized-count, few-times}

-- both operands are within the limits
operands-sized :
    (n : ℕ) (τ : ℕ → Term) (o : Operation) (s t : Term) → AllSized n (put τ (signed (sign_of o) s t)) → AllSized n (put τ s) × AllSized n (put τ t)
operands-sized n τ Add s t h = h.1
operands-sized n τ Subtract s t h = h.1
operands-sized n τ Multiply s t h = h.1

-- there is room for a product of two runs, on a table of m words
abbrev Room : ℕ → List ℕ → List ℕ → Type 0
Room m x y = ProductRoom x y m × (length (multiplied x y) ≤ 512)

-- ---- the runs of two operands
module _ (n : ℕ) (four : n ≤ 4) (τ : ℕ → Term) (s t : Term) where
  abbrev X : Term
  X = put τ s

  abbrev Y : Term
  Y = put τ t

  -- the run that an operator makes of them
  makes :
      (o : Operation) → AllSized n (put τ (signed (sign_of o) s t)) → (a b : ℕ) (d : List ℕ) → left_run a d ≡ run_words n (norm_p X) →
      right_run a b d ≡ run_words n (norm_p Y) → joined o a b d ≡ run_words n (norm_p (put τ (signed (sign_of o) s t)))
  makes Add z a b d l r = ap₂ (summed 0 1) l r ∙ sum-run (sized-low n X z.1.0 four) (sized-low n Y z.1.1 four)
  makes Subtract z a b d l r = ap₂ (summed 0 2147483646) l r ∙ difference-run (sized-low n X z.1.0 four) (sized-low n Y z.1.1 four)
  makes Multiply z a b d l r = ap₂ multiplied l r ∙ multiply-run (sized-low n X z.1.0 four) (sized-low n Y z.1.1 four) z.0.degrees

  -- there is room for a product
  room : AllSized n (put τ (signed mul s t)) → (m : ℕ) → 1024 ≤ m → Room m (run_words n (norm_p X)) (run_words n (norm_p Y))
  room z m l = (
    both-room (sized-low n X z.1.0 four) (sized-low n Y z.1.1 four) z.0.degrees (few-times n X Y z)
        (sized-count n X z.1.0) (sized-count n Y z.1.1) m l,
    omega (
      arith,
      ap length (multiply-run (sized-low n X z.1.0 four) (sized-low n Y z.1.1 four) z.0.degrees),
      run_length n (norm_p (times X Y)),
      sized-count n (times X Y) z,
    ),
  )

module _ (w : List ℕ) (E : List (List ℕ)) (o : Operation) (k : ℕ) (h : HeadIs (head_of w) (Pair o k)) where
  module _ {S O T : ℕ} (G : Given w E S O T) where
    abbrev P : Operands G.row w o k G.tree
    P = operands h G.codes

    whole : SizedIn G.τ G.row (two P.p P.o P.c (sign_of o) P.x P.y)
    whole = subst (SizedIn G.τ G.row) P.is G.sized

    sized : SizedIn G.τ G.row P.x × SizedIn G.τ G.row P.y
    sized = operands-sized (length G.row) G.τ o (term_of G.row P.x) (term_of G.row P.y) whole

    deep : 512 * suc (suc (max (nesting P.x) (nesting P.y))) ≤ S
    deep = omega (arith, G.room, ap (λ t. nesting t) P.is)

    -- both lie inside the words
    pub pair_inside : 2 + k + 2 ≤ length w
    pair_inside = P.inside

    -- the words of the first are fewer
    pub fewer-left : length (first_of k w) < length w
    fewer-left = first-shorter o h G.codes

    -- so are those of the second
    pub fewer-right : length (second_of k w) < length w
    fewer-right = second-shorter o h G.codes

    -- the first is built
    pub given-left : Given (first_of k w) E S O T
    given-left = record {
      row = G.row;
      tree = P.x;
      τ = G.τ;
      codes = P.first;
      env = G.env;
      sized = sized.0;
      room = omega (arith, deep);
      more = G.more;
      most = G.most;
    }

    -- the second, behind a run of a words
    pub given-right : (a : ℕ) → a ≤ 512 → (S' : ℕ) → S' ≡ S - a → Given (second_of k w) E S' O T
    given-right a f S' q = record {
      row = G.row;
      tree = P.y;
      τ = G.τ;
      codes = P.second;
      env = G.env;
      sized = sized.1;
      room = omega (arith, deep, q);
      more = G.more;
      most = G.most;
    }

    -- in tables of the same lengths
    pub given-behind :
        {a : ℕ} {d : List ℕ} → Built (first_of k w) E a d → length d ≡ S → {O' T' : ℕ} → O' ≡ O → T' ≡ T →
        Given (second_of k w) E (length (take (length d - a) (drop a d))) O' T'
    given-behind {a} {d} L ld eo et =
        given-as refl (sym eo) (sym et)
        (given-right a (built-size given-left L) _ (length-tail-part a d ∙ ap (λ n. n - a) ld))

    module _
        {a b : ℕ} {d m : List ℕ} (L : Built (first_of k w) E a d) (R : Built (second_of k w) E b m)
        (ld : length d ≡ S) (lt : length m ≡ length (take (length d - a) (drop a d))) where
      lm : length m ≡ S - a
      lm = lt ∙ length-tail-part a d ∙ ap (λ n. n - a) ld

      abbrev stack : List ℕ
      stack = put_mid a (length d - a) d m

      ls : length stack ≡ S
      ls = same_len_mid a (length d - a) d m lt ∙ ld

      left-size : a ≤ 512
      left-size = built-size given-left L

      right-size : b ≤ 512
      right-size = built-size (given-right a left-size (S - a) refl) R

      at_left : left_run a stack ≡ take a d
      at_left = take_put a (length d - a) d m (omega (arith, left-size, deep, ld))

      at_right : right_run a b stack ≡ take b m
      at_right =
          let z : a ≡ a + 0 = omega arith in
          ap (λ i. take b (drop i stack)) z
          ∙ region-put a 0 b d m (omega (arith, left-size, deep, ld)) (omega (arith, right-size, left-size, deep, lm))

      left_is : left_run a stack ≡ run_in G.τ G.row P.x
      left_is = at_left ∙ (L.is G.row P.x G.τ P.first G.env sized.0).is

      right_is : right_run a b stack ≡ run_in G.τ G.row P.y
      right_is = at_right ∙ (R.is G.row P.y G.τ P.second G.env sized.1).is

      product : o ≡ Multiply → Room T (left_run a stack) (right_run a b stack)
      product q =
          let x = term_of G.row P.x in
          let y = term_of G.row P.y in
          let n = length G.row in
          subst (λ k. Room T k (right_run a b stack)) (sym left_is)
          (subst (λ k. Room T (run_in G.τ G.row P.x) k) (sym right_is)
          (room n G.codes.four G.τ x y (subst (λ f. SizedIn G.τ G.row (two P.p P.o P.c (sign_of f) P.x P.y)) q whole) T G.more))

      -- there is room for what the operator makes of the two runs
      pub joining : Joining o a b stack O T
      joining = record {
        both = omega (arith, left-size, right-size, deep, ls);
        sum_room = omega (arith, left-size, right-size, G.more, G.most);
        most = G.most;
        left-fits = subst (λ q. Fits 0 (pairs q)) (sym at_left) (built-fits given-left L);
        right-fits = subst (λ q. Fits 0 (pairs q)) (sym at_right) (built-fits (given-right a left-size (S - a) refl) R);
        product-room = λ q. (product q).0;
        product-fits = λ q. omega (arith, (product q).1, ls, deep);
      }

      -- and it is the node's run
      pub built-two : {r : ℕ} {l : List ℕ} → Begins r (joined o a b stack) l → Built w E r l
      built-two {r} {l} B = record { is = λ row t τ C ρ z. by row t τ (operands h C) ρ z C.four }
        where
          by :
              (row : List ℕ) (t : Tree) (τ : ℕ → Term) → Operands row w o k t → Env (length row) τ E → SizedIn τ row t → length row ≤ 4 →
              Begins r (run_in τ row t) l
          by row t τ Q ρ z four =
              let x = term_of row Q.x in
              let y = term_of row Q.y in
              let z' : AllSized (length row) (put τ (signed (sign_of o) x y)) = subst (SizedIn τ row) Q.is z in
              let zs = operands-sized (length row) τ o x y z' in
              subst (λ q. Begins r q l)
              (makes (length row) four τ x y o z' a b stack
              (at_left ∙ (L.is row Q.x τ Q.first ρ zs.0).is)
              (at_right ∙ (R.is row Q.y τ Q.second ρ zs.1).is)
              ∙ ap (run_in τ row) (sym Q.is)) B

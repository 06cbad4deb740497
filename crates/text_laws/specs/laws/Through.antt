-- The reading goes through the tokens of every term of the dialect.
use Rattle.std.specs.Prelude.{Bool, true, false, List, [], ◌∷◌, ◌++◌, ◌≡◌, refl, ℕ, suc, ◌+◌, pos, length}
use Rattle.std.proofs.Common.{append_assoc, append-nil, sym, ap, ◌∙◌}
use Rattle.std.proofs.Math.Option.{some}
use Rattle.dialect.specs.declared.Dialect.{Dialect}
use Rattle.text.specs.definitions.Answer.{Reading, read, refused, fine}
use Rattle.text.specs.definitions.Bytes.{bytes, capital, decimal, Token, opening, closing, word}
use Rattle.text.specs.definitions.Reading.{Frame, first, second, base, operand, exponent, a_letter, Next, after_first, after_expt, case_next}
use Rattle.text.specs.definitions.Reading.{deliver, leaf, letter_check, wrong_at, only_end, run}
use Rattle.text.specs.definitions.Tree.{Sign, add, sub, mul, sign_text, Tree, num, letter, neg, two, power, placed, Joins, Raises}
use Rattle.text_laws.specs.laws.Numerals.{read-decimal}
use Rattle.text_laws.specs.laws.Sofar.{Admits}
use Rattle.text_laws.specs.laws.Words.{num-leaf, letter-leaf, check-int, check-num, check-letter}

module _ (D : Dialect) (known room : ℕ → Bool) (n : ℕ) where
  -- the reading from a state on
  abbrev pub go_on : Next → List Token → Reading Tree
  go_on x ks = case_next x (refused D.wrong n n) (λ s fs. run D known room n s fs ks) (λ t. only_end D t ks)

  -- one token, let through, that finishes an operand
  arrive-first :
      (b : Bool) (q o : ℕ) (g : Sign) (t : Tree) (fs : List Frame) (c p e : ℕ) (a : Reading Tree) (ks : List Token) → c ≡ 0 →
      case_next (after_first b q o g t fs) a (λ s' fs'. fine c p e (λ u. run D known room n s' fs' ks))
      (λ t'. fine c p e (λ u. only_end D t' ks)) ≡ go_on (after_first b q o g t fs) ks
  arrive-first false q o g t fs c p e a ks z = rw z
  arrive-first true q o add t fs c p e a ks z = rw z
  arrive-first true q o sub t fs c p e a ks z = rw z
  arrive-first true q o mul t fs c p e a ks z = rw z

  arrive :
      (t : Tree) (fs : List Frame) (c p e : ℕ) (a : Reading Tree) (ks : List Token) → c ≡ 0 →
      case_next (deliver D t fs) a (λ s' fs'. fine c p e (λ u. run D known room n s' fs' ks)) (λ t'. fine c p e (λ u. only_end D t' ks))
      ≡ go_on (deliver D t fs) ks
  arrive t [] c p e a ks z = rw z
  arrive t (first q o g ∷ fs) c p e a ks z = arrive-first D.panel q o g t fs c p e a ks z
  arrive t (second q o g x ∷ fs) c p e a ks z = rw z
  arrive t (base q o ∷ fs) c p e a ks z = rw z

  through-leaf :
      (t : Tree) (p : ℕ) (w : List ℕ) (fs : List Frame) (ks : List Token) → leaf D p w ≡ some t → letter_check known w ≡ 0 →
      run D known room n operand fs (word p w ∷ ks) ≡ go_on (deliver D t fs) ks
  through-leaf t p w fs ks e c = rw e (arrive t fs (letter_check known w) p (p + length w) (wrong_at D (word p w)) ks c)

  -- ---- `(`, where there is room, and the operator
  through-open :
      (p o : ℕ) (g : Sign) (fs : List Frame) (ks : List Token) → room (length fs) ≡ true →
      run D known room n operand fs (opening p ∷ word o (sign_text g) ∷ ks) ≡ run D known room n operand (first p o g ∷ fs) ks
  through-open p o add fs ks r = rw r
  through-open p o sub fs ks r = rw r
  through-open p o mul fs ks r = rw r

  expt-on :
      (b : Bool) (p o : ℕ) (fs : List Frame) (ks : List Token) (a : Reading Tree) →
      case_next (after_expt b p o fs) a (λ s' fs'. run D known room n s' fs' ks) (λ t'. only_end D t' ks) ≡ go_on (after_expt b p o fs) ks
  expt-on true p o fs ks a = refl
  expt-on false p o fs ks a = refl

  through-base :
      (p o : ℕ) (fs : List Frame) (ks : List Token) → room (length fs) ≡ true →
      run D known room n operand fs (opening p ∷ word o (bytes "EXPT") ∷ ks) ≡ go_on (after_expt D.panel p o fs) ks
  through-base p o fs ks r = rw r (expt-on D.panel p o fs ks (wrong_at D (word o (bytes "EXPT"))))

  through-exponent :
      (p o c : ℕ) (x : Tree) (q m : ℕ) (fs : List Frame) (ks : List Token) →
      run D known room n (exponent p o x) fs (word q (decimal m) ∷ closing c ∷ ks) ≡ go_on (deliver D (power p o c x q m) fs) ks
  through-exponent p o c x q m fs ks =
      rw (read-decimal m, check-num known (pos m)) (arrive (power p o c x q m) fs 0 c (suc c) (wrong_at D (closing c)) ks refl)

  -- ---- behind the first operand: the end of `(- x)`, or a second operand
  through-close :
      (b : Bool) (p o c : ℕ) (x : Tree) (fs : List Frame) (ks : List Token) →
      go_on (after_first b p o sub x fs) (closing c ∷ ks) ≡ go_on (deliver D (neg p o c x) fs) ks
  through-close false p o c x fs ks = arrive (neg p o c x) fs 0 c (suc c) (wrong_at D (closing c)) ks refl
  through-close true p o c x fs ks = arrive (neg p o c x) fs 0 c (suc c) (wrong_at D (closing c)) ks refl

  through-second :
      (b : Bool) (p o : ℕ) (g : Sign) (x : Tree) (fs : List Frame) (ks : List Token) → Joins b g →
      go_on (after_first b p o g x fs) ks ≡ run D known room n operand (second p o g x ∷ fs) ks
  through-second false p o g x fs ks j = refl
  through-second true p o add x fs ks j = refl
  through-second true p o sub x fs ks j = absurd j
  through-second true p o mul x fs ks j = refl

  -- ---- what is raised: a letter, behind a panel term's `(EXPT`
  through-letter :
      (p o q b : ℕ) (fs : List Frame) (ks : List Token) → capital b ≡ true → known b ≡ true →
      run D known room n (a_letter p o) fs (word q (b ∷ []) ∷ ks) ≡ run D known room n (exponent p o (letter q b)) fs ks
  through-letter p o q b fs ks k l = rw (k, l)

  through-raised :
      (x : Tree) (fs : List Frame) (p o : ℕ) (ks : List Token) →
      ((ks' : List Token) → run D known room n operand (base p o ∷ fs) (placed x ++ ks') ≡ go_on (deliver D x (base p o ∷ fs)) ks') →
      (b : Bool) → Raises b x → Admits D known room (suc (length fs)) x →
      go_on (after_expt b p o fs) (placed x ++ ks) ≡ run D known room n (exponent p o x) fs ks
  through-raised x fs p o ks ih false r a = ih ks
  through-raised (num p' w z) fs p o ks ih true r a = absurd r
  through-raised (letter p' b) fs p o ks ih true r a = through-letter p o p' b fs ks a.0 a.1
  through-raised (neg p' o' c x) fs p o ks ih true r a = absurd r
  through-raised (two p' o' c g x y) fs p o ks ih true r a = absurd r
  through-raised (power p' o' c x q' m) fs p o ks ih true r a = absurd r

  -- the tokens of a term lead to where the term is delivered
  pub through :
      (t : Tree) (fs : List Frame) (ks : List Token) → Admits D known room (length fs) t →
      run D known room n operand fs (placed t ++ ks) ≡ go_on (deliver D t fs) ks
  through (num p w z) fs ks a = through-leaf (num p w z) p w fs ks (num-leaf D p w z a) (check-int known D.hex w z a)
  through (letter p b) fs ks a = through-leaf (letter p b) p (b ∷ []) fs ks (letter-leaf D p b a.0) (check-letter known b a.1)
  through (neg p o c x) fs ks a =
      through-open p o sub fs ((placed x ++ (closing c ∷ [])) ++ ks) a.0
      ∙ ap (run D known room n operand (first p o sub ∷ fs)) (append_assoc (placed x) (closing c ∷ []) ks)
      ∙ through x (first p o sub ∷ fs) (closing c ∷ ks) a.1
      ∙ through-close D.panel p o c x fs ks
  through (two p o c g x y) fs ks a =
      through-open p o g fs ((placed x ++ (placed y ++ (closing c ∷ []))) ++ ks) a.0.0
      ∙ ap (run D known room n operand (first p o g ∷ fs)) (append_assoc (placed x) (placed y ++ (closing c ∷ [])) ks
      ∙ ap (λ (z : List Token). placed x ++ z) (append_assoc (placed y) (closing c ∷ []) ks))
      ∙ through x (first p o g ∷ fs) (placed y ++ (closing c ∷ ks)) a.1.0
      ∙ through-second D.panel p o g x fs (placed y ++ (closing c ∷ ks)) a.0.1
      ∙ through y (second p o g x ∷ fs) (closing c ∷ ks) a.1.1
      ∙ arrive (two p o c g x y) fs 0 c (suc c) (wrong_at D (closing c)) ks refl
  through (power p o c x q m) fs ks a =
      through-base p o fs ((placed x ++ (word q (decimal m) ∷ closing c ∷ [])) ++ ks) a.0.0
      ∙ ap (go_on (after_expt D.panel p o fs)) (append_assoc (placed x) (word q (decimal m) ∷ closing c ∷ []) ks)
      ∙ through-raised x fs p o (word q (decimal m) ∷ closing c ∷ ks) (λ ks'. through x (base p o ∷ fs) ks' a.1) D.panel a.0.1
      a.1
      ∙ through-exponent p o c x q m fs ks

  -- the whole text
  pub through-all : (t : Tree) → Admits D known room 0 t → run D known room n operand [] (placed t) ≡ read t
  through-all t a = ap (run D known room n operand []) (sym (append-nil (placed t))) ∙ through t [] [] a

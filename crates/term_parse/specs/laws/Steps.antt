-- What one token does to the reading.
use Rattle.std.specs.Prelude.{◌≡◌, refl, Bool, true, false, cond, List, [], ◌∷◌, ℕ, suc, ◌+◌}
use Rattle.std.proofs.Common.{sym, ◌∙◌, subst, true≢false}
use Rattle.std.proofs.Math.Path.{ap}
use Rattle.std.proofs.Math.Option.{none, some}
use Rattle.std.proofs.Math.ListN.{length}
use Rattle.text.specs.definitions.Bytes.{bytes, same, canonical, read_nat, value_from, Token, opening, closing, word, is_in_row}
use Rattle.text.specs.definitions.Tree.{Sign, add, sub, mul, Tree, neg, two, power}
use Rattle.text_laws.specs.laws.Bytes.{same-eq, same_refl, not-both}
use Rattle.std.specs.Prelude.{Option as Maybe, Some, None}
use Rattle.text_word.specs.declared.Operator.{Operator}
use Rattle.text_word.specs.declared.Operator.TheVariants.{Plus, Minus, Times, Power}
use Rattle.text_word.specs.Words.{operator_of}
use Rattle.text_word.specs.Laws.{operator-0}
use Rattle.dialect.specs.declared.Dialect.{Dialect}
use Rattle.text.specs.definitions.Answer.{Reading, fine}
use Rattle.text.specs.definitions.Reading.{Frame, first, second, base, operand, exponent, ending, raised, Next, on, off}
use Rattle.text.specs.definitions.Reading.{after_first, after_expt, raise, case_next, deliver, operator_word, letter_check, wrong_at, only_end}
use Rattle.text.specs.definitions.Reading.{run_in}
use Rattle.term_leaf.specs.laws.Words.{check-natural}
use Rattle.term_parse.specs.Found.{go_on, stopped, NoClosing, sign_of}

module _ (D : Dialect) (row : List ℕ) where
  -- ---- a finished operand
  delivered-first : (b : Bool) (p o : ℕ) (g : Sign) (t : Tree) (fs : List Frame) (n z P E : ℕ) (ks : List Token) (a : Reading Tree)
      → case_next (after_first b p o g t fs) a (λ s' fs'. fine z P E (λ u. run_in D row n s' fs' ks))
      (λ t'. fine z P E (λ u. only_end D t' ks))
      ≡ fine z P E (λ u. go_on D row n (after_first b p o g t fs) ks)
  delivered-first false p o g t fs n z P E ks a = refl
  delivered-first true p o add t fs n z P E ks a = refl
  delivered-first true p o sub t fs n z P E ks a = refl
  delivered-first true p o mul t fs n z P E ks a = refl

  -- it leads on, or is the whole term
  pub delivered : (t : Tree) (fs : List Frame) (n z P E : ℕ) (ks : List Token) (a : Reading Tree)
      → case_next (deliver D t fs) a (λ s' fs'. fine z P E (λ u. run_in D row n s' fs' ks)) (λ t'. fine z P E (λ u. only_end D t' ks))
      ≡ fine z P E (λ u. go_on D row n (deliver D t fs) ks)
  delivered t [] n z P E ks a = refl
  delivered t (first p o g ∷ fs) n z P E ks a = delivered-first D.panel p o g t fs n z P E ks a
  delivered t (second p o g x ∷ fs) n z P E ks a = refl
  delivered t (base p o ∷ fs) n z P E ks a = refl

  -- ---- a closing parenthesis
  -- of two operands
  pub close-two : (p o c : ℕ) (g : Sign) (x y : Tree) (fs : List Frame) (n : ℕ) (ks : List Token) →
      run_in D row n (ending p o g x y) fs (closing c ∷ ks) ≡ go_on D row n (deliver D (two p o c g x y) fs) ks
  close-two p o c g x y fs n ks = delivered (two p o c g x y) fs n 0 c (suc c) ks (wrong_at D (closing c))

  -- of a power
  pub close-power : (p o c : ℕ) (x : Tree) (q m : ℕ) (fs : List Frame) (n : ℕ) (ks : List Token) →
      run_in D row n (raised p o x q m) fs (closing c ∷ ks) ≡ go_on D row n (deliver D (power p o c x q m) fs) ks
  close-power p o c x q m fs n ks = delivered (power p o c x q m) fs n 0 c (suc c) ks (wrong_at D (closing c))

  close-neg : (b : Bool) (p o c : ℕ) (x : Tree) (fs : List Frame) (n : ℕ) (ks : List Token)
      → go_on D row n (after_first b p o sub x fs) (closing c ∷ ks) ≡ go_on D row n (deliver D (neg p o c x) fs) ks
  close-neg false p o c x fs n ks = delivered (neg p o c x) fs n 0 c (suc c) ks (wrong_at D (closing c))
  close-neg true p o c x fs n ks = delivered (neg p o c x) fs n 0 c (suc c) ks (wrong_at D (closing c))

  -- of `(- x)`
  pub close-minus : (p o c : ℕ) (x : Tree) (fs : List Frame) (n : ℕ) (ks : List Token)
      → go_on D row n (after_first D.panel p o sub x fs) (closing c ∷ ks) ≡ go_on D row n (deliver D (neg p o c x) fs) ks
  close-minus p o c x fs n ks = close-neg D.panel p o c x fs n ks

  -- ---- where only a `)` may stand
  -- behind two operands
  pub ending-stops : (p o : ℕ) (g : Sign) (x y : Tree) (fs : List Frame) (n : ℕ) (ts : List Token) → NoClosing ts →
      run_in D row n (ending p o g x y) fs ts ≡ stopped D row n ts
  ending-stops p o g x y fs n [] h = refl
  ending-stops p o g x y fs n (opening q ∷ ts) h = refl
  ending-stops p o g x y fs n (closing q ∷ ts) h = absurd h
  ending-stops p o g x y fs n (word q w ∷ ts) h = refl

  -- behind an exponent
  pub raised-stops : (p o : ℕ) (x : Tree) (q m : ℕ) (fs : List Frame) (n : ℕ) (ts : List Token) → NoClosing ts →
      run_in D row n (raised p o x q m) fs ts ≡ stopped D row n ts
  raised-stops p o x q m fs n [] h = refl
  raised-stops p o x q m fs n (opening r ∷ ts) h = refl
  raised-stops p o x q m fs n (closing r ∷ ts) h = absurd h
  raised-stops p o x q m fs n (word r w ∷ ts) h = refl

  -- a second operand may stand
  second-by : (b : Bool) (p o : ℕ) (g : Sign) (x : Tree) (fs : List Frame) → (g ≡ sub → b ≡ false) → after_first b p o g x fs
      ≡ on operand (second p o g x ∷ fs)
  second-by false p o g x fs h = refl
  second-by true p o add x fs h = refl
  second-by true p o sub x fs h = absurd (true≢false (h refl))
  second-by true p o mul x fs h = refl

  -- unless it is that
  pub second-on : (p o : ℕ) (g : Sign) (x : Tree) (fs : List Frame) → (g ≡ sub → D.panel ≡ false) → after_first D.panel p o g x fs
      ≡ on operand (second p o g x ∷ fs)
  second-on p o g x fs h = second-by D.panel p o g x fs h

  -- ---- an exponent
  -- it is one
  pub exponent-good : (p o : ℕ) (x : Tree) (q : ℕ) (w : List ℕ) (fs : List Frame) (n : ℕ) (ks : List Token) → canonical w ≡ true
      → run_in D row n (exponent p o x) fs (word q w ∷ ks) ≡ run_in D row n (raised p o x q (value_from 0 w)) fs ks
  unfolding read_nat
  exponent-good p o x q w fs n ks e =
      ap (λ b. case_next (raise p o x q (cond b (some (value_from 0 w)) none) fs) (wrong_at D (word q w))
      (λ s' fs'. fine (letter_check (is_in_row row) w) q (q + length w) (λ u. run_in D row n s' fs' ks))
      (λ t. fine (letter_check (is_in_row row) w) q (q + length w) (λ u. only_end D t ks))) e
      ∙ ap (λ z. fine z q (q + length w) (λ u. run_in D row n (raised p o x q (value_from 0 w)) fs ks)) (check-natural D row w e)

  -- it is none
  pub exponent-bad : (p o : ℕ) (x : Tree) (q : ℕ) (w : List ℕ) (fs : List Frame) (n : ℕ) (ks : List Token) → canonical w ≡ false
      → run_in D row n (exponent p o x) fs (word q w ∷ ks) ≡ stopped D row n (word q w ∷ ks)
  unfolding read_nat
  exponent-bad p o x q w fs n ks e =
      ap (λ b. case_next (raise p o x q (cond b (some (value_from 0 w)) none) fs) (wrong_at D (word q w))
      (λ s' fs'. fine (letter_check (is_in_row row) w) q (q + length w) (λ u. run_in D row n s' fs' ks))
      (λ t. fine (letter_check (is_in_row row) w) q (q + length w) (λ u. only_end D t ks))) e

  -- ---- an operator's word, by what it says
  abbrev pub by_code : Maybe Operator → ℕ → ℕ → List Frame → Next
  by_code None p o fs = off
  by_code (Some Plus) p o fs = on operand (first p o (sign_of D row Plus) ∷ fs)
  by_code (Some Minus) p o fs = on operand (first p o (sign_of D row Minus) ∷ fs)
  by_code (Some Times) p o fs = on operand (first p o (sign_of D row Times) ∷ fs)
  by_code (Some Power) p o fs = after_expt D.panel p o fs

  -- an operator that is no power
  pub by-sign : (g : Operator) → (g ≡ Power → ⊥) → (p o : ℕ) (fs : List Frame)
      → by_code (Some g) p o fs ≡ on operand (first p o (sign_of D row g) ∷ fs)
  by-sign Plus n p o fs = refl
  by-sign Minus n p o fs = refl
  by-sign Times n p o fs = refl
  by-sign Power n p o fs = absurd (n refl)

  -- the word by its operator, if it is one
  pub record Operates (p o : ℕ) (w : List ℕ) : Type 0 where
    pub is : (fs : List Frame) → operator_word D p o w fs ≡ by_code (operator_of w) p o fs
    pub checked : (operator_of w ≡ None → ⊥) → letter_check (is_in_row row) w ≡ 0

  -- every word
  pub operates : (p o : ℕ) (w : List ℕ) → Operates p o w
  operates p o w = at (same w (bytes "+")) refl (same w (bytes "-")) refl (same w (bytes "*")) refl (same w (bytes "EXPT")) refl
    where
      hit : (v : List ℕ) → same w v ≡ true → Operates p o v → Operates p o w
      hit v e h = subst (Operates p o) (sym (same-eq w v e)) h

      miss : (v : List ℕ) → same w v ≡ false → w ≡ v → ⊥
      miss v e f = not-both (ap (λ z. same z v) f ∙ same_refl v) e

      at : (a : Bool) → same w (bytes "+") ≡ a → (b : Bool) → same w (bytes "-") ≡ b → (c : Bool) → same w (bytes "*") ≡ c → (d : Bool) →
          same w (bytes "EXPT") ≡ d → Operates p o w
      at true e b f c g d h = hit (bytes "+") e (record { is = λ fs. refl; checked = λ z. refl })
      at false e true f c g d h = hit (bytes "-") f (record { is = λ fs. refl; checked = λ z. refl })
      at false e false f true g d h = hit (bytes "*") g (record { is = λ fs. refl; checked = λ z. refl })
      at false e false f false g true h = hit (bytes "EXPT") h (record { is = λ fs. refl; checked = λ z. refl })
      at false e false f false g false h =
          let k : operator_of w ≡ None = operator-0 w (miss (bytes "+") e) (miss (bytes "-") f) (miss (bytes "*") g) (miss (bytes "EXPT") h) in
          record {
            is = λ fs.
                (λ t. cond (e t) (on operand (first p o add ∷ fs))
                (cond (f t) (on operand (first p o sub ∷ fs))
                (cond (g t) (on operand (first p o mul ∷ fs)) (cond (h t) (after_expt D.panel p o fs) off))))
                ∙ sym (ap (λ m. by_code m p o fs) k);
            checked = λ z. absurd (z k);
          }

-- The environment in which each letter stands for itself.
use Rattle.std.specs.Prelude.{List, [], ◌∷◌, ◌≡◌, refl, ℕ, zero, suc, ◌-◌, ◌*◌, ◌≤◌, ◌<◌, length, get_or, take, drop}
use Rattle.std.proofs.Common.{sym, subst, arith}
use Rattle.code.specs.Coding.{Begins}
use Rattle.horner.specs.definitions.Term.{var, norm_p}
use Rattle.run_form.specs.Forms.{run_words}
use Rattle.text.specs.definitions.Tree.{term_of, Tree}
use Rattle.term_tree.specs.Shapes.{Codes}
use Rattle.term_build.specs.Build.{Env, Given, Built, Plain, PlainBuilt}
use Rattle.term_build.specs.Terms.{AllSized, put_self}

-- two words for each letter of a row of four, and behind them nothing that is read
abbrev pub table : List ℕ
table = 262144 ∷ 1 ∷ 4096 ∷ 1 ∷ 64 ∷ 1 ∷ 1 ∷ 1 ∷ 0 ∷ 0 ∷ 0 ∷ 0 ∷ 0 ∷ 0 ∷ []

-- the words of l from a up to e
abbrev pub part : List ℕ → ℕ → ℕ → List ℕ
part l a e = take (e - a) (drop a l)

-- the runs of the letters of a row of n, in the words of a table
abbrev pub letters_in : List ℕ → ℕ → List (List ℕ)
letters_in l n =
    let own = part l (8 - 2 * n) (length l) in
    take 2 own ∷ part own 2 4 ∷ part own 4 6 ∷ part own 6 8 ∷ []

-- in those of the table
abbrev pub letters : ℕ → List (List ℕ)
letters n = letters_in table n

-- the run of a letter is that of the term that it is
letter-is : (n i : ℕ) → n ≤ 4 → i < n → get_or (letters n) i [] ≡ run_words n (norm_p (var i))
unfolding run_words
letter-is zero i h l = absurd (omega arith)
letter-is (suc zero) zero h l = refl
letter-is (suc zero) (suc i) h l = absurd (omega arith)
letter-is (suc (suc zero)) zero h l = refl
letter-is (suc (suc zero)) (suc zero) h l = refl
letter-is (suc (suc zero)) (suc (suc i)) h l = absurd (omega arith)
letter-is (suc (suc (suc zero))) zero h l = refl
letter-is (suc (suc (suc zero))) (suc zero) h l = refl
letter-is (suc (suc (suc zero))) (suc (suc zero)) h l = refl
letter-is (suc (suc (suc zero))) (suc (suc (suc i))) h l = absurd (omega arith)
letter-is (suc (suc (suc (suc zero)))) zero h l = refl
letter-is (suc (suc (suc (suc zero)))) (suc zero) h l = refl
letter-is (suc (suc (suc (suc zero)))) (suc (suc zero)) h l = refl
letter-is (suc (suc (suc (suc zero)))) (suc (suc (suc zero))) h l = refl
letter-is (suc (suc (suc (suc zero)))) (suc (suc (suc (suc i)))) h l = absurd (omega arith)
letter-is (suc (suc (suc (suc (suc n))))) i h l = absurd (omega arith)

-- each letter stands for itself
pub own-letters : (n : ℕ) → n ≤ 4 → Env n var (letters n)
own-letters n h = record { each = λ i l. letter-is n i h l }

-- there are at most four
pub plain-few : {n S O T : ℕ} {w : List ℕ} → Plain n w S O T → n ≤ 4
plain-few P = omega (arith, P.letters, P.codes.four)

-- what is asked of building over the environment of the letters
pub plain-given : {n S O T : ℕ} {w : List ℕ} (E : List (List ℕ)) → E ≡ letters n → Plain n w S O T → Given w E S O T
plain-given {n} {S} {O} {T} {w} E e P = subst (λ k. Given w k S O T) (sym e) record {
  row = P.row;
  tree = P.tree;
  τ = var;
  codes = P.codes;
  env = subst (λ m. Env m var (letters n)) (sym P.letters) (own-letters n (plain-few P));
  sized =
      subst (AllSized (length P.row)) (sym (put_self (term_of P.row P.tree)))
      (subst (λ m. AllSized m (term_of P.row P.tree)) (sym P.letters) P.sized);
  room = P.room;
  more = P.more;
  most = P.most;
}

-- and what it leaves
pub plain-built : {n r : ℕ} {w l : List ℕ} (E : List (List ℕ)) → E ≡ letters n → n ≤ 4 → Built w E r l → PlainBuilt n w r l
plain-built {n} {r} {w} {l} E q four A = record { is = by }
  where
    B : Built w (letters n) r l
    B = subst (λ m. Built w m r l) q A

    by : (row : List ℕ) (t : Tree) → length row ≡ n → Codes row t w → AllSized n (term_of row t)
        → Begins r (run_words n (norm_p (term_of row t))) l
    by row t e C S =
        let T = term_of row t in
        subst (λ m. Begins r (run_words m (norm_p T)) l) e
        (subst (λ u. Begins r (run_words (length row) (norm_p u)) l) (put_self T)
        (B.is row t var C (subst (λ m. Env m var (letters n)) (sym e) (own-letters n four))
        (subst (AllSized (length row)) (sym (put_self T)) (subst (λ m. AllSized m T) (sym e) S))))

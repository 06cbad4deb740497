-- Forms, and the whole text.
use Rattle.std.specs.Prelude.{Result, Ok, Err, ◌≡◌, refl, ◌⊎◌, Bool, cond, ℕ, suc, ◌+◌, ◌-◌, ◌≤◌, ◌<◌, leb, ltb, ℤ, length}
use Rattle.std.proofs.Common.{sym, ap₂, ◌∙◌, inl, inr, arith, lt-ltb, le-ltb, le-leb}
use Rattle.std.proofs.Math.Path.{ap}
use Rattle.std.proofs.Math.Bool.{true, false}
use mathlib.Core.List.{List, [], ◌∷◌}
use Rattle.std.proofs.lemmas.Bool.{lt-leb}
use Rattle.refusal.specs.Refusal.{fault}
use Rattle.refusal.specs.declared.Fault.{Fault}
use Rattle.horner.specs.definitions.Form.{Form as HForm}
use Rattle.horner.proofs.laws.Compare.{lt-or-ge}
use Rattle.text.specs.definitions.Bytes.{Reading, read, refused, refused_at}
use Rattle.text.specs.definitions.FormReading.{pop_kind, pow_kind, read_form}
use Rattle.text.specs.program.FormKinds.{start, open0, open_po, open_pop, open_pow, done, Wait, pow_wait, rest_wait, moved, stuck}
use Rattle.text.specs.program.FormKinds.{move, check, verdict, syntax}
use Rattle.text_laws.specs.laws.FormWalk.{syntax-verdict}
use Rattle.form_syntax.specs.Answer.{form_syntax_of}
use Rattle.form_syntax.specs.Found.{room, from, is_at, after, Takes, Expects, IndexAt, LettersAt, FormAt, LastAt, PopAt, PowAt}
use Rattle.form_syntax.specs.laws.Steps.{at-inside, at_byte, is_byte, within-from, within_on, on, off, goes, opened, closed, stops}
use Rattle.form_syntax.specs.laws.Steps.{ends, step-at}

-- ---- behind `(POP` and `(POW`
module _ (s : List ℕ) (at depth : ℕ) (x : Result ℕ Fault) (h : IndexAt s at x) where
  pub pop-off : {bad : Fault} → x ≡ Err bad → PopAt s at depth x
  pop-off e = record { within = h.within; takes = λ ws l. off e (h.takes pop_kind ws) }

  pub pow-off : {bad : Fault} → x ≡ Err bad → PowAt s at depth x
  pow-off e = record { within = h.within; takes = λ ws l. off e (h.takes pow_kind ws) }

  module _ (i : ℕ) (e : x ≡ Ok i) where
    later : at ≤ i
    later = omega (arith, within_on s at i x e h.within)

    pub pop-all : (r : Result ℕ Fault) → LastAt s i depth r → PopAt s at depth r
    pop-all r g = record { within = within-from s at i r later g.within; takes = λ ws l. on e (h.takes pop_kind ws) (g.of-pop ws l) }

    module _ (y : Result ℕ Fault) (f : FormAt s i depth y) where
      first-takes : (ws : List Wait) → suc (length ws) ≡ depth → Takes s at y open_pow ws done (pow_wait ∷ ws)
      first-takes ws l = on e (h.takes pow_kind ws) (f.takes (pow_wait ∷ ws) l)

      pub first_off : {bad : Fault} → y ≡ Err bad → PowAt s at depth y
      first_off g = record { within = within-from s at i y later f.within; takes = λ ws l. off g (first-takes ws l) }

      module _ (j : ℕ) (g : y ≡ Ok j) (z : Result ℕ Fault) (o : Expects s j 32 z) where
        pub behind : at ≤ j
        behind = omega (arith, later, within_on s i j y g f.within)

        space-takes : (ws : List Wait) → suc (length ws) ≡ depth → Takes s at z open_pow ws start (rest_wait ∷ ws)
        space-takes ws l = on g (first-takes ws l) (o.takes (record { is = λ y. refl; free = λ y. refl; more = refl }))

        pub space-off : {bad : Fault} → z ≡ Err bad → PowAt s at depth z
        space-off k = record { within = within-from s at j z behind o.within; takes = λ ws l. off k (space-takes ws l) }

        pub pow-all : {p : ℕ} → z ≡ Ok p → (r : Result ℕ Fault) → LastAt s p depth r → PowAt s at depth r
        pow-all {p} k r m = record {
          within = within-from s at p r (omega (arith, behind, within_on s j p z k o.within)) m.within;
          takes = λ ws l. on k (space-takes ws l) (m.of_pow ws l);
        }

-- ---- a form

module _ (s : List ℕ) (at depth : ℕ) (o : is_at s at 40 ≡ true) where
  -- at `(`
  opens :
      (ws : List Wait) (b : Bool) → length ws ≡ depth → ltb depth 256 ≡ b → from s at start ws ≡ goes s at (moved open0 ws) (cond b 0 6)
  opens ws b l k =
      opened s at start ws (at-inside s at 40 o)
      ∙ ap (λ (x : ℕ). goes s at (move start ws x) (check room start (length ws) x)) (at_byte s at 40 o)
      ∙ ap (λ (z : Bool). goes s at (moved open0 ws) (cond z 0 6)) (ap room l ∙ k)

  pub form-deep : 256 ≤ depth → FormAt s at depth (Err (fault 6 at))
  form-deep h = record { within = tt; takes = λ ws l. record { leads = opens ws false l (le-ltb depth 256 h) } }

  module _ (h : depth < 256) (x : Result ℕ Fault) (t : LettersAt s (at + 1) x) where
    name-takes : (ws : List Wait) → length ws ≡ depth → Takes s at x start ws open_po ws
    name-takes ws l = record { leads = opens ws true l (lt-ltb depth 256 h) ∙ (t.takes ws).leads }

    pub form-off : {bad : Fault} → x ≡ Err bad → FormAt s at depth x
    form-off e = record { within = within-from s at (at + 1) x (omega arith) t.within; takes = λ ws l. off e (name-takes ws l) }

    module _ (n : ℕ) (e : x ≡ Ok n) where
      named-at : at ≤ n + 1
      named-at = omega (arith, within_on s (at + 1) n x e t.within)

      pub form-pop : is_at s n 80 ≡ true → (r : Result ℕ Fault) → PopAt s (n + 1) (depth + 1) r → FormAt s at depth r
      form-pop k r p = record {
        within = within-from s at (n + 1) r named-at p.within;
        takes =
            λ ws l. on e (name-takes ws l)
            (record { leads = step-at s n open_po ws 80 k refl refl ∙ (p.takes ws (omega (arith, l))).leads });
      }

      pub form-pow : is_at s n 87 ≡ true → (r : Result ℕ Fault) → PowAt s (n + 1) (depth + 1) r → FormAt s at depth r
      form-pow k r p = record {
        within = within-from s at (n + 1) r named-at p.within;
        takes =
            λ ws l. on e (name-takes ws l)
            (record { leads = step-at s n open_po ws 87 k refl refl ∙ (p.takes ws (omega (arith, l))).leads });
      }

      pub form-none : is_at s n 80 ≡ false → is_at s n 87 ≡ false → FormAt s at depth (Err (fault 4 n))
      form-none p w = record { within = tt; takes = λ ws l. on e (name-takes ws l) (record { leads = by ws (lt-or-ge n (length s)) }) }
        where
          by : (ws : List Wait) → (n < length s) ⊎ (length s ≤ n) → from s n open_po ws ≡ refused_at 4 n
          by ws (inl i) =
              stops s n open_po ws i
              (ap₂ (λ (a b : Bool). cond a (moved open_pop ws) (cond b (moved open_pow ws) stuck)) (sym (is_byte s n 80 i) ∙ p)
              (sym (is_byte s n 87 i) ∙ w))
          by ws (inr i) = ends s n open_po ws i refl

-- ---- the whole text
abbrev answer_of : Reading (Unit {0}) → Result (Unit {0}) Fault
answer_of (read u) = Ok tt
answer_of (refused bad) = Err bad

answer-verdict : (r : Reading (HForm ℤ)) → form_syntax_of r ≡ answer_of (verdict r)
answer-verdict (read f) = refl
answer-verdict (refused bad) = refl

module _ (s : List ℕ) where
  answer-syntax : form_syntax_of (read_form s) ≡ answer_of (syntax s)
  answer-syntax = answer-verdict (read_form s) ∙ ap answer_of (syntax-verdict s)

  syntax-from : (b : Bool) → leb (length s) 65535 ≡ b → syntax s ≡ elim b [ true ↦ from s 0 start [] | false ↦ refused_at 3 0 ]
  unfolding syntax from
  syntax-from b e = ap (λ (b : Bool). elim b [ true ↦ from s 0 start [] | false ↦ refused_at 3 0 ]) e

  pub too_long : 65535 < length s → Err (fault 3 0) ≡ form_syntax_of (read_form s)
  too_long h = sym (answer-syntax ∙ ap answer_of (syntax-from false (lt-leb (length s) 65535 h)))

  module _ (h : length s ≤ 65535) (x : Result ℕ Fault) (f : FormAt s 0 0 x) where
    answers : form_syntax_of (read_form s) ≡ answer_of (after x (λ e. from s e done []))
    answers = answer-syntax ∙ ap answer_of (syntax-from true (le-leb (length s) 65535 h) ∙ (f.takes [] refl).leads)

    pub judge-off : {bad : Fault} → x ≡ Err bad → Err bad ≡ form_syntax_of (read_form s)
    judge-off e = sym (answers ∙ ap (λ (z : Result ℕ Fault). answer_of (after z (λ p. from s p done []))) e)

    pub judge-whole : {e : ℕ} → x ≡ Ok e → e ≡ length s → Ok tt ≡ form_syntax_of (read_form s)
    judge-whole {e} q w =
        sym (answers ∙ ap (λ (z : Result ℕ Fault). answer_of (after z (λ p. from s p done []))) q
        ∙ ap answer_of (closed s e done [] (omega arith)))

    pub judge-more : {e : ℕ} → x ≡ Ok e → (e ≡ length s → ⊥) → Err (fault 4 e) ≡ form_syntax_of (read_form s)
    judge-more {e} q w =
        let i : e < length s = omega (arith, within_on s 0 e x q f.within) in
        sym (answers ∙ ap (λ (z : Result ℕ Fault). answer_of (after z (λ p. from s p done []))) q ∙ ap answer_of (stops s e done [] i refl))

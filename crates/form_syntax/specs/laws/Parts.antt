-- Parts of fixed bytes, and the index with its spaces.
use Rattle.std.specs.Prelude.{Result, Ok, Err, ◌≡◌, refl, ◌⊎◌, Bool, true, false, cond, List, ℕ, ◌+◌, ◌≤◌, ◌<◌, length, get_or}
use Rattle.std.proofs.Common.{sym, ap, ◌∙◌, inl, inr, arith, eq-eqb}
use Rattle.refusal.specs.Refusal.{fault}
use Rattle.refusal.specs.declared.Fault.{Fault}
use Rattle.horner.proofs.laws.Compare.{lt-or-ge}
use Rattle.text.specs.definitions.Bytes.{refused_at}
use Rattle.text.specs.definitions.FormReading.{Kind, pop_kind, pow_kind}
use Rattle.text.specs.program.FormKinds.{Stand, open0, open_p, before-i, zero-i, Wait, moved, stuck}
use Rattle.form_syntax.specs.Found.{from, is_at, Takes, Wants, Expects, NaturalAt, IndexAt, LettersAt, named}
use Rattle.form_syntax.specs.laws.Steps.{at-inside, is_byte, within-from, within_on, on, off, stops, ends, step-at}

-- ---- one byte
module _ (s : List ℕ) (at x : ℕ) where
  pub expect-yes : is_at s at x ≡ true → Expects s at x (Ok (at + 1))
  expect-yes h = record {
    within = (omega arith, omega (arith, at-inside s at x h));
    takes =
        λ {a} {b} {us} {vs} w. record
        { leads = step-at s at a us x h (w.is x ∙ ap (λ (t : Bool). cond t (moved b vs) stuck) (eq-eqb x x refl)) (w.free x) };
  }

  pub expect-no : is_at s at x ≡ false → Expects s at x (Err (fault 4 at))
  expect-no h = record { within = tt; takes = λ {a} {b} {us} {vs} w. record { leads = by a b us vs w (lt-or-ge at (length s)) } }
    where
      by : (a b : Stand) (us vs : List Wait) → Wants x a us b vs → (at < length s) ⊎ (length s ≤ at) → from s at a us ≡ refused_at 4 at
      by a b us vs w (inl i) =
          stops s at a us i (w.is (get_or s at 0) ∙ ap (λ (t : Bool). cond t (moved b vs) stuck) (sym (is_byte s at x i) ∙ h))
      by a b us vs w (inr i) = ends s at a us i w.more

-- ---- `PO`
module _ (s : List ℕ) (at : ℕ) (x : Result ℕ Fault) (p : Expects s at 80 x) where
  wants-P : (ws : List Wait) → Wants 80 open0 ws open_p ws
  wants-P ws = record { is = λ y. refl; free = λ y. refl; more = refl }

  pub letters-off : {bad : Fault} → x ≡ Err bad → LettersAt s at x
  letters-off e = record { within = p.within; takes = λ ws. off e (p.takes (wants-P ws)) }

  pub letters : {i : ℕ} → x ≡ Ok i → (r : Result ℕ Fault) → Expects s i 79 r → LettersAt s at r
  letters {i} e r o = record {
    within = within-from s at i r (omega (arith, within_on s at i x e p.within)) o.within;
    takes = λ ws. on e (p.takes (wants-P ws)) (o.takes (record { is = λ y. refl; free = λ y. refl; more = refl }));
  }

-- ---- a space, i, a space
module _ (s : List ℕ) (at : ℕ) (x : Result ℕ Fault) (p : Expects s at 32 x) where
  wants-space : (k : Kind) (ws : List Wait) → Wants 32 (named k) ws (before-i k) ws
  wants-space pop_kind ws = record { is = λ y. refl; free = λ y. refl; more = refl }
  wants-space pow_kind ws = record { is = λ y. refl; free = λ y. refl; more = refl }

  pub index-off : {bad : Fault} → x ≡ Err bad → IndexAt s at x
  index-off e = record { within = p.within; takes = λ k ws. off e (p.takes (wants-space k ws)) }

  module _ (i : ℕ) (e : x ≡ Ok i) (y : Result ℕ Fault) (m : NaturalAt s i y) where
    natural-takes : (k : Kind) (ws : List Wait) → Takes s at y (named k) ws (zero-i k) ws
    natural-takes k ws = on e (p.takes (wants-space k ws)) (m.index k ws)

    pub index-none : {bad : Fault} → y ≡ Err bad → IndexAt s at y
    index-none f = record {
      within = within-from s at i y (omega (arith, within_on s at i x e p.within)) m.within;
      takes = λ k ws. off f (natural-takes k ws);
    }

    pub index-all : {j : ℕ} → y ≡ Ok j → (r : Result ℕ Fault) → Expects s j 32 r → IndexAt s at r
    index-all {j} f r o = record {
      within = within-from s at j r (omega (arith, within_on s at i x e p.within, within_on s i j y f m.within)) o.within;
      takes = λ k ws. on f (natural-takes k ws) (o.takes (record { is = λ y. refl; free = λ y. refl; more = refl }));
    }

-- The walk over a form's text, one byte on.
use Rattle.std.specs.Prelude.{Result, Ok, Err, ◌≡◌, Bool, true, false, ◌&&◌, ℕ, ◌+◌, ◌≤◌, ◌<◌, ltb, length, get_or, drop}
use Rattle.std.proofs.Common.{sym, ap₂, subst, ◌∙◌, arith, add-one, drop_of_length-le}
use Rattle.std.proofs.Math.Path.{ap}
use mathlib.Core.List.{List}
use Rattle.std.proofs.Math.Dec.{eqb}
use borrow.Author.Tests.{ltb-true, lt-ltb, le-ltb, eqb-true}
use Rattle.refusal.specs.declared.Fault.{Fault}
use Rattle.text.specs.definitions.Bytes.{Reading, refused_at, fine}
use Rattle.text.specs.program.FormKinds.{Stand, Wait, Move, moved, stuck, move, is_whole, case_move, check, ended, walk}
use Rattle.text_laws.specs.laws.Bytes.{and_l, and_r}
use Rattle.text_word.proofs.Walk.{one_on}
use Rattle.form_syntax.specs.Found.{room, from, is_at, after, Within, Takes}

-- ---- a byte at a place
module _ (s : List ℕ) (p x : ℕ) where
  pub at-inside : is_at s p x ≡ true → p < length s
  unfolding is_at
  at-inside h = ltb-true p (length s) (and_l (ltb p (length s)) (eqb (get_or s p 0) x) h)

  pub at_byte : is_at s p x ≡ true → get_or s p 0 ≡ x
  unfolding is_at
  at_byte h = eqb-true (get_or s p 0) x (and_r (ltb p (length s)) (eqb (get_or s p 0) x) h)

  pub is_byte : p < length s → is_at s p x ≡ eqb (get_or s p 0) x
  unfolding is_at
  is_byte h = ap (λ (b : Bool). b && eqb (get_or s p 0) x) (lt-ltb p (length s) h)

  pub is-end : length s ≤ p → is_at s p x ≡ false
  unfolding is_at
  is-end h = ap (λ (b : Bool). b && eqb (get_or s p 0) x) (le-ltb p (length s) h)

-- ---- a part
pub within-from : (s : List ℕ) (at p : ℕ) (r : Result ℕ Fault) → at ≤ p → Within s p r → Within s at r
within-from s at p (Ok e) h w = (omega (arith, w.0), w.1)
within-from s at p (Err bad) h w = tt

pub within_on : (s : List ℕ) (at e : ℕ) (x : Result ℕ Fault) → x ≡ Ok e → Within s at x → (at < e) × (e ≤ length s)
within_on s at e x q w = subst (Within s at) q w

-- the part x, and then the part r; or x is refused
module _ {s : List ℕ} {at : ℕ} {x : Result ℕ Fault} {a b c : Stand} {us vs ws : List Wait} where
  pub on : {p : ℕ} {r : Result ℕ Fault} → x ≡ Ok p → Takes s at x a us b vs → Takes s p r b vs c ws → Takes s at r a us c ws
  on q t u = record { leads = t.leads ∙ ap (λ z. after z (λ e. from s e b vs)) q ∙ u.leads }

  pub off : {bad : Fault} → x ≡ Err bad → Takes s at x a us b vs → Takes s at x a us c ws
  off q t = record { leads = t.leads ∙ ap (λ z. after z (λ e. from s e b vs)) q ∙ sym (ap (λ z. after z (λ e. from s e c ws)) q) }

-- ---- the walk at a place
abbrev pub goes : List ℕ → ℕ → Move → ℕ → Reading (Unit {0})
goes s p m c = case_move m (refused_at 4 p) (λ b vs. fine c p (λ u. from s (p + 1) b vs))

module _ (s : List ℕ) (p : ℕ) (a : Stand) (us : List Wait) where
  pub opened : p < length s → from s p a us ≡ goes s p (move a us (get_or s p 0)) (check room a (length us) (get_or s p 0))
  unfolding from
  opened h =
      ap (λ (l : List ℕ). walk room p a us l) (one_on s p h)
      ∙ ap (λ (q : ℕ). case_move (move a us (get_or s p 0)) (refused_at 4 p)
      (λ b vs. fine (check room a (length us) (get_or s p 0)) p (λ u. walk room q b vs (drop (p + 1) s)))) (sym (add-one p))

  pub closed : length s ≤ p → from s p a us ≡ ended room (is_whole a us) p
  unfolding from
  closed h = ap (λ (l : List ℕ). walk room p a us l) (drop_of_length-le s {i = p} h)

  pub step :
      {b : Stand} {vs : List Wait} → p < length s → move a us (get_or s p 0) ≡ moved b vs → check room a (length us) (get_or s p 0) ≡ 0 →
      from s p a us ≡ from s (p + 1) b vs
  step h m c = opened h ∙ ap₂ (goes s p) m c

  pub stops : p < length s → move a us (get_or s p 0) ≡ stuck → from s p a us ≡ refused_at 4 p
  stops h m = opened h ∙ ap (λ (z : Move). goes s p z (check room a (length us) (get_or s p 0))) m

  pub ends : length s ≤ p → is_whole a us ≡ false → from s p a us ≡ refused_at 4 p
  ends h w = closed h ∙ ap (λ (b : Bool). ended room b p) w

  -- at a byte that is known
  pub step-at :
      (x : ℕ) {b : Stand} {vs : List Wait} → is_at s p x ≡ true → move a us x ≡ moved b vs → check room a (length us) x ≡ 0 →
      from s p a us ≡ from s (p + 1) b vs
  step-at x h m c =
      let e = at_byte s p x h in
      step (at-inside s p x h) (ap (move a us) e ∙ m) (ap (check room a (length us)) e ∙ c)

-- ---- two stands that no byte and no end tells apart
module _ (s : List ℕ) (p : ℕ) (a b : Stand) (us : List Wait) where
  pub alike :
      p < length s → move a us (get_or s p 0) ≡ move b us (get_or s p 0) →
      check room a (length us) (get_or s p 0) ≡ check room b (length us) (get_or s p 0) → from s p a us ≡ from s p b us
  alike h m c = opened s p a us h ∙ ap₂ (goes s p) m c ∙ sym (opened s p b us h)

  pub alike_end : length s ≤ p → is_whole a us ≡ is_whole b us → from s p a us ≡ from s p b us
  alike_end h w = closed s p a us h ∙ ap (λ (z : Bool). ended room z p) w ∙ sym (closed s p b us h)

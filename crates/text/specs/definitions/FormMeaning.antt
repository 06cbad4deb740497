-- What the readings of forms are for, said without reading.
use Rattle.std.specs.Prelude.{true, false, List, [], ◌∷◌, ◌++◌, ◌≡◌, ℕ, suc, pred, ◌+◌, ◌≤◌, ◌<◌, eqb, ℤ, length}
use Rattle.horner.specs.definitions.Form.{Form, Normal}
use Rattle.horner.specs.definitions.Rings.{ℤ_ring}
use Rattle.horner.specs.definitions.Measures.{AllLe, degrees, weight, terms, nest}
use Rattle.text.specs.definitions.FormReading.{Node, nodes, stands, text}

-- s is the text of the form f (text_laws/FormReading, reads: exactly then it is read as f)
pub record IsFormText (s : List ℕ) (f : Form ℤ) : Type 0 where
  pub short : length s ≤ 65535
  pub is : s ≡ text f
  pub shallow : nest f ≤ 256

-- s is the text of a normal form f over a row of m, within the limits (text_laws/FormAccepted, accepts: exactly then it is accepted as f)
pub record IsForm (m : ℕ) (s : List ℕ) (f : Form ℤ) : Type 0 where
  pub written : IsFormText s f
  pub normal : Normal ℤ_ring m f
  pub degrees-fit : AllLe 63 (degrees m f)
  pub weight-fits : weight f ≤ 1073741823
  pub terms-fit : terms ℤ_ring f ≤ 256

-- "no form text begins with the bytes so far": some form's text does
pub record Begun (bs : List ℕ) : Type 0 where
  pub form : Form ℤ
  pub rest : List ℕ
  pub is : text form ≡ bs ++ rest

-- how many parentheses are open behind the bytes, d being open before them
abbrev pub open_after : ℕ → List ℕ → ℕ
open_after d [] = d
open_after d (b ∷ bs) =
    elim (eqb b 40) [ true ↦ open_after (suc d) bs | false ↦ elim (eqb b 41) [ true ↦ open_after (pred d) bs | false ↦ open_after d bs ] ]

-- no parenthesis among them is opened beyond the limit, d being open before: a refusal behind them is "at the earliest place"
abbrev pub Clean : ℕ → ℕ → List ℕ → Type 0
Clean limit d [] = Unit {0}
Clean limit d (b ∷ bs) = (b ≡ 40 → d < limit) × Clean limit (open_after d (b ∷ [])) bs

-- "In a form it is the first such byte."
pub record FirstBad (limit : ℕ) (s : List ℕ) (p : ℕ) : Type 0 where
  pub before : List ℕ
  pub byte : ℕ
  pub behind : List ℕ
  pub parts : s ≡ before ++ (byte ∷ behind)
  pub place : p ≡ length before
  pub clean : Clean limit 0 before
  pub begun : Begun before
  pub ends : Begun (before ++ (byte ∷ [])) → ⊥

-- the text ends early
pub record EndsEarly (limit : ℕ) (s : List ℕ) : Type 0 where
  pub clean : Clean limit 0 s
  pub begun : Begun s
  pub no-form : (f : Form ℤ) → text f ≡ s → ⊥

-- "6: a parenthesis opened beyond the limit", at "that byte"
pub record TooDeep (limit : ℕ) (s : List ℕ) (p : ℕ) : Type 0 where
  pub before : List ℕ
  pub behind : List ℕ
  pub parts : s ≡ before ++ (40 ∷ behind)
  pub place : p ≡ length before
  pub clean : Clean limit 0 before
  pub open-before : limit ≤ open_after 0 before
  pub begun : Begun (before ++ (40 ∷ []))

-- The refusals of a form's text before it is judged, "3; then 4, .. 6 at the earliest place": exactly these (text_laws/FormExactly)
pub data RefusedAs (s : List ℕ) (e p : ℕ) : Type 0 where
  too_long : e ≡ 3 → p ≡ 0 → 65535 < length s → RefusedAs s e p
  no-form-so : e ≡ 4 → length s ≤ 65535 → FirstBad 256 s p → RefusedAs s e p
  ended : e ≡ 4 → length s ≤ 65535 → EndsEarly 256 s → p ≡ length s → RefusedAs s e p
  too-deep : e ≡ 6 → length s ≤ 65535 → TooDeep 256 s p → RefusedAs s e p

-- every node stands
abbrev pub AllStand : ℕ → List Node → Type 0
AllStand m [] = Unit {0}
AllStand m (k ∷ ks) = (stands m k.level k.form ≡ true) × AllStand m ks

-- "7: form text not normal", at "the node": "the first offending node in order of finishing"
pub record WrongNode (m : ℕ) (f : Form ℤ) (p : ℕ) : Type 0 where
  pub before : List Node
  pub node : Node
  pub behind : List Node
  pub parts : nodes 0 0 f ≡ before ++ (node ∷ behind)
  pub place : p ≡ node.place
  pub stand : AllStand m before
  pub falls : stands m node.level node.form ≡ false

-- A call that gives something was lent what it asks for, read its texts, and found the measures of its result within the limits.
use Rattle.std.specs.Prelude.{Bool, true, false, List, ◌↔◌, ◌≡◌, refl, ℕ, ◌≤◌, min, leb, ℤ, length}
use Rattle.std.proofs.Common.{sym, ap, ◌∙◌, arith, leb-true, le-leb}
use Rattle.refusal.specs.declared.Side.{Side}
use Rattle.horner.specs.definitions.Form.{Form, negate}
use Rattle.horner.specs.definitions.Measures.{box}
use Rattle.horner.specs.definitions.Rings.{ℤ_ring}
use Rattle.horner.specs.laws.Table as Table
use Rattle.horner.proofs.laws.Table.{negate-fits}
use Rattle.text.specs.definitions.Bytes.{Reading, read, refused, is_row, all}
use Rattle.text.specs.definitions.FormMeaning.{IsForm}
use Rattle.text_laws.specs.laws.Bytes.{all-le, le-all}
use Rattle.text_laws.specs.laws.FormAccepted.{Fits}
use Rattle.text_laws.specs.laws.Result.{table_fits}
use Rattle.reply.specs.definitions.Calls.{Measured, limited}
use Rattle.reply.specs.definitions.Reply.{Reply, gives, asked, read_as, enough, opened, fitted}
use Rattle.demands.specs.Demands.{Lent}
use Rattle.demands.specs.Order.{Inside}

-- a test that was asked held
pub asked-gives : {A : Type 0} (b : Bool) (e : ℕ) (r : Unit {0} → Reply A) (a : A) → asked b e r ≡ gives a → (b ≡ true) × (r tt ≡ gives a)
asked-gives true e r a h = (refl, h)
asked-gives false e r a h = absurd (let z : ◌≡◌ {A = ℕ} 0 1 = cc in omega arith)

-- the row and the work tables were proper
pub opened-gives :
    {A : Type 0} (row tables : List ℕ) (r : Unit {0} → Reply A) (a : A) → opened row tables r ≡ gives a → Lent row tables × (r tt ≡ gives a)
opened-gives row tables r a h =
    let p = asked-gives (is_row row) 1 (λ u. asked (enough tables) 2 r) a h in
    let q = asked-gives (enough tables) 2 r a p.1 in
    (record { proper = p.0; long = q.0 }, q.1)

-- what was read, and that this gives it
pub record Read {A B : Type 0} (x : Reading A) (k : A → Reply B) (b : B) : Type 0 where
  pub what : A
  pub is : x ≡ read what
  pub so : k what ≡ gives b

pub read-gives : {A B : Type 0} (s : Side) (x : Reading A) (k : A → Reply B) (b : B) → read_as s x k ≡ gives b → Read x k b
read-gives s (read a) k b h = record { what = a; is = refl; so = h }
read-gives s (refused bad) k b h = absurd (let z : ◌≡◌ {A = ℕ} 0 1 = cc in omega arith)

-- what is given is the text that had room
pub fitted-gives : (n : ℕ) (w v : List ℕ) → fitted n w ≡ gives v → v ≡ w
fitted-gives n w v h =
    let k : gives w ≡ gives v = (asked-gives (leb (length w) n) 11 (λ u. gives w) v h).1 in
    let e : w ≡ v = cc in
    sym e

-- and a text that has room is given
pub fitted-goes : (n : ℕ) (w : List ℕ) → length w ≤ n → fitted n w ≡ gives w
fitted-goes n w h = ap (λ b. asked b 11 (λ u. gives w)) (le-leb (length w) n h)

-- a result z that the table bounds by measures within the limits is within them
pub made-fits : (k : ℕ) (m : Measured) (z : Form ℤ) → Table.Fits k m.heavy m.powers m.many z → Inside m → Fits k z
made-fits k m z f i = table_fits k m.heavy m.powers m.many z f i.degrees-fit i.weight-fits i.terms-fit

-- and so is a negation: "(- x)" is measured "as x"
pub negate-within : (k : ℕ) (s : List ℕ) (x : Form ℤ) → IsForm k s x → Fits k (negate ℤ_ring x)
negate-within k s x is =
    table_fits k _ _ _ (negate ℤ_ring x) (negate-fits k x is.normal) is.degrees-fit is.weight-fits (omega (arith, is.terms-fit))

module _ {A : Type 0} (m : Measured) (r : Unit {0} → Reply A) where
  abbrev few : Bool
  few = leb (min m.many (box m.powers)) 256

  abbrev light : Unit {0} → Reply A
  light v = asked few 10 r

  abbrev low : Unit {0} → Reply A
  low u = asked (leb m.heavy 1073741823) 9 light

  -- a result that is given is within them
  pub limited-gives : (a : A) → limited m r ≡ gives a → Inside m × (r tt ≡ gives a)
  limited-gives a h =
      let d = asked-gives (all (λ d. leb d 63) m.powers) 8 low a h in
      let w = asked-gives (leb m.heavy 1073741823) 9 light a d.1 in
      let t = asked-gives few 10 r a w.1 in (
        record {
          degrees-fit = all-le m.powers d.0;
          weight-fits = leb-true m.heavy 1073741823 w.0;
          terms-fit = leb-true (min m.many (box m.powers)) 256 t.0;
        },
        t.1,
      )

  -- and nothing within them is refused for its measures
  pub limited-goes : Inside m → limited m r ≡ r tt
  limited-goes i =
      ap (λ b. asked b 8 low) (le-all m.powers i.degrees-fit) ∙ ap (λ b. asked b 9 light) (le-leb m.heavy 1073741823 i.weight-fits)
      ∙ ap (λ b. asked b 10 r) (le-leb (min m.many (box m.powers)) 256 i.terms-fit)

-- with room for it whenever it is within them, a text is given exactly then
pub limited-exactly : (n : ℕ) (m : Measured) (w : List ℕ) → (Inside m → length w ≤ n) → (limited m (λ v. fitted n w) ≡ gives w) ↔ Inside m
limited-exactly n m w room = (
  λ h. (limited-gives m (λ v. fitted n w) w h).0,
  λ i. limited-goes m (λ v. fitted n w) i ∙ fitted-goes n w (room i),
)

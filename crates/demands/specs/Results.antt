-- "form texts in, form text out", and "the operations on forms: their results are the forms of the sum, negation, product, power". Whatever
-- text a call gives, the texts that it was given are forms, and it is the text of the form that the operation makes of them: a normal form
-- within the limits again, of which every other call says what the operation on whole numbers says.
use Rattle.std.specs.Prelude.{true, List, ◌≡◌, ℕ, ◌≤◌, leb, ℤ, length}
use Rattle.std.proofs.Common.{sym, ap, ◌∙◌, subst, arith, eq-eqb}
use Rattle.refusal.specs.declared.Side.TheVariants.{Left, Right}
use Rattle.horner.specs.definitions.Form.{Form, sum, negate, prod, raise, Normal, evalh}
use Rattle.horner.specs.definitions.Rings.{ℤ_ring, power}
use Rattle.horner.proofs.laws.Evalh.{evalh-sum, evalh-negate, evalh-prod, evalh-raise}
use Rattle.horner.proofs.laws.Normal.{normal-sum, normal-negate, normal-prod, normal-raise}
use Rattle.horner.specs.laws.Table as Table
use Rattle.horner.proofs.laws.Table.{sum_fits, prod-fits, raise-fits}
use Rattle.text.specs.definitions.Bytes.{Reading, read, is_row}
use Rattle.text.specs.definitions.FormMeaning.{IsForm}
use Rattle.text.specs.definitions.FormReading.{accept_form, text}
use Rattle.text_laws.specs.laws.FormAccepted.{Fits, accepts}
use Rattle.text_laws.specs.laws.Result.{text-short}
use Rattle.text_laws.proofs.laws.Result.{text-form}
use Rattle.text_laws.specs.laws.Rows.{row-length}
use Rattle.reply.specs.definitions.Calls.{Measured, of_sum, of_product, of_power, limited, negate_of, two_of, raise_of}
use Rattle.reply.specs.definitions.Calls.{negate_reply, add_reply, multiply_reply, raise_reply, judge_reply}
use Rattle.reply.specs.definitions.Calls.{form_remainder_of, form_remainder_reply, remainder}
use Rattle.reply.specs.definitions.Reply.{gives, asked, read_as, enough, opened, fitted}
use Rattle.demands.specs.Demands.{Lent, goes, judge-exactly}
use Rattle.demands.specs.laws.Given.{made-fits, negate-within, asked-gives, opened-gives, read-gives, fitted-gives, limited-gives}

-- at every assignment of whole numbers the form z has this value
abbrev pub HasValue : ℕ → Form ℤ → (List ℤ → ℤ) → Type 0
HasValue m z v = (N : List ℤ) → length N ≡ m → evalh ℤ_ring z N ≡ v N

-- w is the text of the form z, whose value is v
pub record Out (row w : List ℕ) (z : Form ℤ) (v : List ℤ → ℤ) : Type 0 where
  -- it has at most 65,535 bytes, z is normal, nests at most 256 deep, and its measures are within the limits
  pub is : IsForm (length row) w z
  pub value : HasValue (length row) z v
  pub short : length w ≤ 13529
  -- "judges whether a text is a form": it is
  pub judged : judge_reply row w ≡ gives tt
  -- "Read back, the form has .. value"
  pub read_back : accept_form (length row) w ≡ read z
  -- "the remainder of .. a form at a point"
  pub remainders :
      (tables : List ℕ) → enough tables ≡ true → (N : List ℤ) → length N ≡ length row →
      form_remainder_reply row tables w N ≡ gives (remainder (v N))

-- of one text, of two: the forms that they are, and what was made of them
pub record OfOne (row s w : List ℕ) (op : Form ℤ → Form ℤ) (on : ℤ → ℤ) : Type 0 where
  pub x : Form ℤ
  pub x-is : IsForm (length row) s x
  pub out : Out row w (op x) (λ N. on (evalh ℤ_ring x N))

pub record OfTwo (row s t w : List ℕ) (op : Form ℤ → Form ℤ → Form ℤ) (on : ℤ → ℤ → ℤ) : Type 0 where
  pub x : Form ℤ
  pub x-is : IsForm (length row) s x
  pub y : Form ℤ
  pub y-is : IsForm (length row) t y
  pub out : Out row w (op x y) (λ N. on (evalh ℤ_ring x N) (evalh ℤ_ring y N))

-- ---- a normal form within the limits, written
-- "gives the remainder of .. a form at a point"
pub form-remainder-is :
    (row tables w : List ℕ) (l : Lent row tables) (z : Form ℤ) → accept_form (length row) w ≡ read z →
    (N : List ℤ) → length N ≡ length row → form_remainder_reply row tables w N ≡ gives (remainder (evalh ℤ_ring z N))
unfolding form_remainder_reply
form-remainder-is row tables w l z is N e =
    goes _ l ∙ ap (λ b. asked b 12 (λ u. form_remainder_of row w N)) (eq-eqb (length N) (length row) e)
    ∙ ap (λ (a : Reading (Form ℤ)). read_as Left a (λ x. gives (remainder (evalh ℤ_ring x N)))) is

module _ (row w : List ℕ) (r : is_row row ≡ true) (z : Form ℤ) (v : List ℤ → ℤ) where
  abbrev m : ℕ
  m = length row

  written : w ≡ text z → Normal ℤ_ring m z → Fits m z → HasValue m z v → Out row w z v
  written e h f value =
      let l = (row-length row r).1 in
      let is : IsForm m w z = subst (λ u. IsForm m u z) (sym e) (text-form m z l h f) in
      let back : accept_form m w ≡ read z = (accepts m w z).1 is in
      record {
        is = is;
        value = value;
        short = omega (arith, text-short m z l h f, ap length e);
        judged = (judge-exactly row w r).1 (record { form = z; is = is });
        read_back = back;
        remainders = λ tables long N k. form-remainder-is row tables w (record { proper = r; long = long }) z back N k
            ∙ ap (λ a. gives (remainder a)) (value N k);
      }

-- ---- the four calls
module _ (row tables s w : List ℕ) (n : ℕ) where
  pub negate-out : negate_reply row tables s n ≡ gives w → OfOne row s w (negate ℤ_ring) ℤ_ring.neg
  unfolding negate_reply
  negate-out g =
      let o = opened-gives row tables (λ u. negate_of row s n) w g in
      let a = read-gives Left (accept_form (length row) s) (λ x. fitted n (text (negate ℤ_ring x))) w o.1 in
      let x = a.what in
      let is = (accepts (length row) s x).0 a.is in
      record {
        x = x;
        x-is = is;
        out = written row w o.0.proper (negate ℤ_ring x) (λ N. ℤ_ring.neg (evalh ℤ_ring x N))
            (fitted-gives n (text (negate ℤ_ring x)) w a.so)
            (normal-negate ℤ_ring (length row) x is.normal) (negate-within (length row) s x is)
            (λ N e. evalh-negate ℤ_ring (length row) N (omega (arith, e)) x is.normal);
      }

  pub raise-out : (k : ℕ) → raise_reply row tables s k n ≡ gives w → OfOne row s w (λ x. raise ℤ_ring x k) (λ a. power ℤ_ring a k)
  unfolding raise_reply
  raise-out k g =
      let o = opened-gives row tables (λ u. raise_of row s k n) w g in
      let a = read-gives Left (accept_form (length row) s)
      (λ x. asked (leb k 63) 8 (λ v. limited (of_power (length row) x k) (λ u. fitted n (text (raise ℤ_ring x k))))) w o.1 in
      let x = a.what in
      let is = (accepts (length row) s x).0 a.is in
      let z = raise ℤ_ring x k in
      let of = of_power (length row) x k in
      let b = asked-gives (leb k 63) 8 (λ v. limited of (λ u. fitted n (text z))) w a.so in
      let c = limited-gives of (λ u. fitted n (text z)) w b.1 in
      record {
        x = x;
        x-is = is;
        out = written row w o.0.proper z (λ N. power ℤ_ring (evalh ℤ_ring x N) k) (fitted-gives n (text z) w c.1)
            (normal-raise ℤ_ring (length row) x k is.normal)
            (made-fits (length row) of z (raise-fits (length row) x is.normal k) c.0)
            (λ N e. evalh-raise ℤ_ring (length row) N (omega (arith, e)) x k is.normal);
      }

  module _ (t : List ℕ) where
    -- an operation on two forms that keeps them normal, keeps to its row of the table, and keeps the values
    two_out :
        (of : Form ℤ → Form ℤ → Measured) (op : Form ℤ → Form ℤ → Form ℤ) (on : ℤ → ℤ → ℤ)
        → ((x y : Form ℤ) → Normal ℤ_ring (length row) x → Normal ℤ_ring (length row) y → Normal ℤ_ring (length row) (op x y))
        → ((x y : Form ℤ) → Normal ℤ_ring (length row) x → Normal ℤ_ring (length row) y
        → Table.Fits (length row) (of x y).heavy (of x y).powers (of x y).many (op x y))
        → ((N : List ℤ) → length row ≤ length N → (x y : Form ℤ) → Normal ℤ_ring (length row) x → Normal ℤ_ring (length row) y
        → evalh ℤ_ring (op x y) N ≡ on (evalh ℤ_ring x N) (evalh ℤ_ring y N))
        → opened row tables (λ u. two_of of op row s t n) ≡ gives w → OfTwo row s t w op on
    two_out of op on normal fits value g =
        let o = opened-gives row tables (λ u. two_of of op row s t n) w g in
        let a = read-gives Left (accept_form (length row) s)
        (λ x. read_as Right (accept_form (length row) t) (λ y. limited (of x y) (λ v. fitted n (text (op x y))))) w o.1 in
        let x = a.what in
        let b = read-gives Right (accept_form (length row) t) (λ y. limited (of x y) (λ v. fitted n (text (op x y)))) w a.so in
        let y = b.what in
        let is = (accepts (length row) s x).0 a.is in
        let is' = (accepts (length row) t y).0 b.is in
        let c = limited-gives (of x y) (λ u. fitted n (text (op x y))) w b.so in
        record {
          x = x;
          x-is = is;
          y = y;
          y-is = is';
          out = written row w o.0.proper (op x y) (λ N. on (evalh ℤ_ring x N) (evalh ℤ_ring y N))
              (fitted-gives n (text (op x y)) w c.1) (normal x y is.normal is'.normal)
              (made-fits (length row) (of x y) (op x y) (fits x y is.normal is'.normal) c.0)
              (λ N e. value N (omega (arith, e)) x y is.normal is'.normal);
        }

    pub add-out : add_reply row tables s t n ≡ gives w → OfTwo row s t w (sum ℤ_ring) ℤ_ring.◌⊞◌
    unfolding add_reply
    add-out =
        two_out (of_sum (length row)) (sum ℤ_ring) ℤ_ring.◌⊞◌
        (normal-sum ℤ_ring (length row)) (sum_fits (length row)) (evalh-sum ℤ_ring (length row))

    pub multiply-out : multiply_reply row tables s t n ≡ gives w → OfTwo row s t w (prod ℤ_ring) ℤ_ring.◌·◌
    unfolding multiply_reply
    multiply-out =
        two_out (of_product (length row)) (prod ℤ_ring) ℤ_ring.◌·◌
        (normal-prod ℤ_ring (length row)) (prod-fits (length row)) (evalh-prod ℤ_ring (length row))

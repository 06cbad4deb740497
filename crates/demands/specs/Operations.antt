-- "adds, negates, multiplies and raises forms (to an unsigned power), form texts in, form text out": what the four calls reply to texts
-- that are forms, and that none is refused whose result the table keeps within the limits. (Results has what a text that they write is.)
use Rattle.std.specs.Prelude.{List, ◌↔◌, ◌≡◌, ℕ, ◌≤◌, leb, ℤ, length}
use Rattle.std.proofs.Common.{sym, ◌∙◌, arith, leb-true, le-leb}
use Rattle.std.proofs.Math.Path.{ap}
use Rattle.refusal.specs.declared.Side.TheVariants.{Left, Right}
use Rattle.horner.specs.definitions.Form.{Form, sum, negate, prod, raise, Normal, evalh}
use Rattle.horner.specs.definitions.Rings.{ℤ_ring, power}
use Rattle.horner.proofs.laws.Evalh.{evalh-sum, evalh-negate, evalh-prod, evalh-raise}
use Rattle.horner.proofs.laws.Normal.{normal-sum, normal-negate, normal-prod, normal-raise}
use Rattle.horner.specs.laws.Table as Table
use Rattle.horner.proofs.laws.Table.{sum_fits, prod-fits, raise-fits}
use Rattle.text.specs.definitions.Bytes.{Reading, read}
use Rattle.text.specs.definitions.FormMeaning.{IsForm}
use Rattle.text.specs.definitions.FormReading.{accept_form, text}
use Rattle.text_laws.specs.laws.FormAccepted.{Fits, accepts}
use Rattle.text_laws.specs.laws.Result.{text-short}
use Rattle.text_laws.specs.laws.Rows.{row-length}
use Rattle.reply.specs.definitions.Calls.{Measured, of_sum, of_product, of_power, limited, negate_reply, add_reply, multiply_reply, raise_reply}
use Rattle.reply.specs.definitions.Reply.{Reply, gives, asked, read_as, fitted}
use Rattle.demands.specs.Demands.{Lent, goes}
use Rattle.demands.specs.Order.{Inside}
use Rattle.demands.specs.laws.Given.{made-fits, negate-within, asked-gives, fitted-goes, limited-exactly}

-- ---- one form
module _ (row tables s : List ℕ) (l : Lent row tables) (x : Form ℤ) (is : IsForm (length row) s x) (n : ℕ) where
  abbrev m : ℕ
  m = length row

  accepted : accept_form m s ≡ read x
  accepted = (accepts m s x).1 is

  pub negate-is : negate_reply row tables s n ≡ fitted n (text (negate ℤ_ring x))
  unfolding negate_reply
  negate-is = goes _ l ∙ ap (λ (r : Reading (Form ℤ)). read_as Left r (λ x. fitted n (text (negate ℤ_ring x)))) accepted

  pub raise-is :
      (k : ℕ) → raise_reply row tables s k n ≡ asked (leb k 63) 8 (λ v. limited (of_power m x k) (λ w. fitted n (text (raise ℤ_ring x k))))
  unfolding raise_reply
  raise-is k =
      goes _ l
      ∙ ap (λ (r : Reading (Form ℤ)). read_as Left r
      (λ x. asked (leb k 63) 8 (λ v. limited (of_power m x k) (λ w. fitted n (text (raise ℤ_ring x k)))))) accepted

  -- the value of the result, at every assignment of whole numbers
  pub negate-value : (N : List ℤ) → length N ≡ m → evalh ℤ_ring (negate ℤ_ring x) N ≡ ℤ_ring.neg (evalh ℤ_ring x N)
  negate-value N e = evalh-negate ℤ_ring m N (omega (arith, e)) x is.normal

  pub raise-value : (k : ℕ) (N : List ℤ) → length N ≡ m → evalh ℤ_ring (raise ℤ_ring x k) N ≡ power ℤ_ring (evalh ℤ_ring x N) k
  raise-value k N e = evalh-raise ℤ_ring m N (omega (arith, e)) x k is.normal

  -- "long enough buffers": what is normal and within the limits has room
  room : 13529 ≤ n → (z : Form ℤ) → Normal ℤ_ring m z → Fits m z → length (text z) ≤ n
  room long z h f = omega (arith, text-short m z (row-length row l.proper).1 h f)

  -- "never refused"
  pub negate-gives : 13529 ≤ n → negate_reply row tables s n ≡ gives (text (negate ℤ_ring x))
  negate-gives long =
      negate-is ∙ fitted-goes n (text (negate ℤ_ring x))
      (room long (negate ℤ_ring x) (normal-negate ℤ_ring m x is.normal) (negate-within m s x is))

  -- never where the table keeps within the limits, and "exponent n .. at most 63"; and only there a power is given
  pub raise-exactly :
      13529 ≤ n → (k : ℕ) → (raise_reply row tables s k n ≡ gives (text (raise ℤ_ring x k))) ↔ ((k ≤ 63) × Inside (of_power m x k))
  raise-exactly long k =
      let z = raise ℤ_ring x k in
      let ask : Unit {0} → Reply (List ℕ) = λ v. limited (of_power m x k) (λ w. fitted n (text (raise ℤ_ring x k))) in
      let e = limited-exactly n (of_power m x k) (text z)
      (λ i. room long z (normal-raise ℤ_ring m x k is.normal) (made-fits m (of_power m x k) z (raise-fits m x is.normal k) i)) in (
        λ h. let a = asked-gives (leb k 63) 8 ask (text z) (sym (raise-is k) ∙ h) in (leb-true k 63 a.0, e.0 a.1),
        λ h. raise-is k ∙ ap (λ b. asked b 8 ask) (le-leb k 63 h.0) ∙ e.1 h.1,
      )

  -- ---- two forms
  module _ (t : List ℕ) (y : Form ℤ) (is' : IsForm (length row) t y) where
    two_is : (of : Form ℤ → Form ℤ → Measured) (op : Form ℤ → Form ℤ → Form ℤ)
        → read_as Left (accept_form m s) (λ x. read_as Right (accept_form m t) (λ y. limited (of x y) (λ v. fitted n (text (op x y)))))
        ≡ limited (of x y) (λ v. fitted n (text (op x y)))
    two_is of op =
        ap (λ (r : Reading (Form ℤ)). read_as Left r
        (λ x. read_as Right (accept_form m t) (λ y. limited (of x y) (λ v. fitted n (text (op x y)))))) accepted
        ∙ ap (λ (r : Reading (Form ℤ)). read_as Right r (λ y. limited (of x y) (λ v. fitted n (text (op x y))))) ((accepts m t y).1 is')

    pub add_is : add_reply row tables s t n ≡ limited (of_sum m x y) (λ v. fitted n (text (sum ℤ_ring x y)))
    unfolding add_reply
    add_is = goes _ l ∙ two_is (of_sum m) (sum ℤ_ring)

    pub multiply-is : multiply_reply row tables s t n ≡ limited (of_product m x y) (λ v. fitted n (text (prod ℤ_ring x y)))
    unfolding multiply_reply
    multiply-is = goes _ l ∙ two_is (of_product m) (prod ℤ_ring)

    pub add-value : (N : List ℤ) → length N ≡ m → evalh ℤ_ring (sum ℤ_ring x y) N ≡ ℤ_ring.◌⊞◌ (evalh ℤ_ring x N) (evalh ℤ_ring y N)
    add-value N e = evalh-sum ℤ_ring m N (omega (arith, e)) x y is.normal is'.normal

    pub multiply-value : (N : List ℤ) → length N ≡ m → evalh ℤ_ring (prod ℤ_ring x y) N ≡ ℤ_ring.◌·◌ (evalh ℤ_ring x N) (evalh ℤ_ring y N)
    multiply-value N e = evalh-prod ℤ_ring m N (omega (arith, e)) x y is.normal is'.normal

    -- never where the table keeps within the limits, and only there a result is given
    two-exactly :
        13529 ≤ n → (of : Measured) (z : Form ℤ) → Normal ℤ_ring m z → Table.Fits m of.heavy of.powers of.many z →
        (limited of (λ v. fitted n (text z)) ≡ gives (text z)) ↔ Inside of
    two-exactly long of z h f = limited-exactly n of (text z) (λ i. room long z h (made-fits m of z f i))

    pub add-exactly : 13529 ≤ n → (add_reply row tables s t n ≡ gives (text (sum ℤ_ring x y))) ↔ Inside (of_sum m x y)
    add-exactly long =
        let e = two-exactly long (of_sum m x y) (sum ℤ_ring x y) (normal-sum ℤ_ring m x y is.normal is'.normal)
        (sum_fits m x y is.normal is'.normal) in
        (λ h. e.0 (sym add_is ∙ h), λ i. add_is ∙ e.1 i)

    pub multiply-exactly : 13529 ≤ n → (multiply_reply row tables s t n ≡ gives (text (prod ℤ_ring x y))) ↔ Inside (of_product m x y)
    multiply-exactly long =
        let e = two-exactly long (of_product m x y) (prod ℤ_ring x y) (normal-prod ℤ_ring m x y is.normal is'.normal)
        (prod-fits m x y is.normal is'.normal) in
        (λ h. e.0 (sym multiply-is ∙ h), λ i. multiply-is ∙ e.1 i)

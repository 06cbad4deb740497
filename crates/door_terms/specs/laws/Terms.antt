-- Two runs side by side.
use Rattle.std.specs.Prelude.{Result, Ok, Err, List, ◌++◌, ◌≡◌, refl, ℕ, ◌+◌, ◌-◌, length, take, drop}
use Rattle.std.proofs.Common.{sym, ap, ◌∙◌, subst, arith}
use borrow.Rule.Slice.PartMut.{put_mid}
use Rattle.code.proofs.Lists.{begins-le, copied-front}
use Rattle.code.proofs.Regions.{region-before, region-put}
use Rattle.text.specs.definitions.Bytes.{Reading}
use Rattle.text.specs.definitions.Limits.{accept_term}
use Rattle.reply.specs.definitions.Reply.{Reply, refuses, read_as}
use Rattle.text.specs.definitions.Tree.{Tree}
use Rattle.term_read.specs.Read.{IsRun, RunRead, words}
use Rattle.refusal.specs.Refusal.{on_side}
use Rattle.refusal.specs.declared.Fault.{Fault}
use Rattle.refusal.specs.declared.Refusal.{Refusal}
use Rattle.refusal.specs.declared.Side.TheVariants.{Left, Right}
use Rattle.term_read.specs.laws.Reading.{read-words, read-refusal}
use Rattle.door_terms.specs.Terms.{IsPair, PairRead, left-refusal, right-refusal, runs}
use Rattle.door_terms.specs.declared.Sizes.{Sizes}

-- ---- one run, copied to the front of another table
pub copied :
    {row s l d' : List ℕ} {r : Result ℕ Fault} {n : ℕ} (d : List ℕ) → r ≡ Ok n → RunRead row s r l → d' ≡ take n l ++ d →
    RunRead row s (Ok n) d'
copied {n = n} d h t e =
    let T = read-words h t in
    words n (record { t = T.t; accepted = T.accepted; made = copied-front d T.made e }) refl

-- ---- the pair
-- the left text is refused, and the right one not read
pub left-refused :
    {row s t l : List ℕ} (k : List ℕ) {q : Result ℕ Fault} {bad : Fault} → q ≡ Err bad → RunRead row s q l →
    PairRead row s t (Err (on_side Left bad)) k
left-refused k {bad = bad} h q = left-refusal bad (read-refusal h q) refl

-- both are read, and the right one is refused
pub right-refused :
    {row s t l m : List ℕ} (k : List ℕ) {n : ℕ} {r : Result ℕ Fault} {bad : Fault} → IsRun row s n l → r ≡ Err bad → RunRead row t r m →
    PairRead row s t (Err (on_side Right bad)) k
right-refused k {bad = bad} F h r = right-refusal F.t bad F.accepted (read-refusal h r) refl

-- the right text was read into the part behind the left run
pub right-read :
    {row s t : List ℕ} (l m : List ℕ) {n k : ℕ} → IsRun row s n l → IsRun row t k m →
    PairRead row s t (Ok (record { left = n; right = k })) (put_mid n (length l - n) l m)
right-read l m {n} {k} F G =
    let a = begins-le F.made in
    let z : n + 0 ≡ n = omega arith in
    runs (record { left = n; right = k })
    (record {
      f = F.t;
      g = G.t;
      left-accepted = F.accepted;
      right-accepted = G.accepted;
      left-made = record { size = F.made.size; is = region-before 0 n n (length l - n) l m (omega arith) a ∙ F.made.is };
      right-made =
          record {
            size = G.made.size;
            is =
                ap (λ i. take k (drop i (put_mid n (length l - n) l m))) (sym z)
                ∙ region-put n 0 k l m a (omega (arith, begins-le G.made)) ∙ G.made.is;
          };
    })
    refl

-- ---- by the answer
no-runs : {P : Type 0} {z : Sizes} {bad : Refusal} → ◌≡◌ {A = Result Sizes Refusal} (Ok z) (Err bad) → P
no-runs h = absurd (let z : ◌≡◌ {A = ℕ} 0 1 = cc in omega arith)

pub pair_runs :
    {row s t l : List ℕ} {q : Result Sizes Refusal} {z : Sizes} → q ≡ Ok z → PairRead row s t q l →
    IsPair row s t z.left z.right l
pair_runs h (left-refusal bad a i) = no-runs (sym h ∙ i)
pair_runs h (right-refusal f bad a b i) = no-runs (sym h ∙ i)
pair_runs {row} {s} {t} {l} {z = z} h (runs x Q i) =
    let a : x ≡ z = cc in
    subst (λ (y : Sizes). IsPair row s t y.left y.right l) a Q

-- what any call on two terms replies where one is refused
pub pair-refused :
    {B : Type 0} {row s t l : List ℕ} {q : Result Sizes Refusal} {bad : Refusal} (k : Tree → Tree → Reply B) → q ≡ Err bad →
    PairRead row s t q l → read_as Left (accept_term row s) (λ f. read_as Right (accept_term row t) (k f)) ≡ refuses bad
pair-refused {row = row} {s} {t} {bad = bad} k h (left-refusal worse a i) =
    let same : on_side Left worse ≡ bad = cc in
    ap (λ (x : Reading Tree). read_as Left x (λ f. read_as Right (accept_term row t) (k f))) a ∙ ap refuses same
pair-refused {row = row} {s} {t} {bad = bad} k h (right-refusal f worse a b i) =
    let same : on_side Right worse ≡ bad = cc in
    ap (λ (x : Reading Tree). read_as Left x (λ f. read_as Right (accept_term row t) (k f))) a
    ∙ ap (λ (x : Reading Tree). read_as Right x (k f)) b
    ∙ ap refuses same
pair-refused k h (runs z Q i) = no-runs (sym i ∙ h)

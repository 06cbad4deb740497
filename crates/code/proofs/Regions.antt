-- Laws of regions: the m words of a list from the a-th on, `take m (drop a d)`.
-- Assumes nothing.
use Rattle.std.proofs.Common.{◌≡◌, ℕ, zero, suc, ◌+◌, ◌-◌, ◌<◌, ◌≤◌, List, [], ◌∷◌, ◌++◌, length, get_or, take, drop, set, sym, refl}
use Rattle.std.proofs.Common.{ap, ◌∙◌, subst, arith, length-drop, length-take-le, get_or-drop, get_or-take, take-take, drop-drop}
use Rattle.std.proofs.Common.{take_at, drop-set-lt, drop_at}
use Rattle.std.proofs.lemmas.List.{take-append-le, drop-append-le}
use borrow.Rule.Slice.PartMut.{put_mid}
use Rattle.code.specs.Coding.{Begins}
use Rattle.code.proofs.Lists.{begins-as, begins-tail}

inner : (b m n : ℕ) (l : List ℕ) → b + m ≤ n → take m (drop b (take n l)) ≡ take m (drop b l)
inner zero m n l h = take-take m n l (omega arith)
inner (suc b) m zero l h = absurd (omega arith)
inner (suc b) m (suc n) [] h = refl
inner (suc b) m (suc n) (x ∷ l) h = inner b m n l (omega arith)

-- a region of a region
pub region-sub : (a n b m : ℕ) (d : List ℕ) → b + m ≤ n → take m (drop b (take n (drop a d))) ≡ take m (drop (a + b) d)
region-sub a n b m d h = inner b m n (drop a d) h ∙ ap (take m) (drop-drop b a d)

-- a store before a region
pub region-set : (a m i : ℕ) (d : List ℕ) (v : ℕ) → i < a → take m (drop a (set d i v)) ≡ take m (drop a d)
region-set a m i d v h = ap (take m) (drop-set-lt a d i v h)

pub length-region : (a m : ℕ) (d : List ℕ) → a + m ≤ length d → length (take m (drop a d)) ≡ m
length-region a m d h = length-take-le m (drop a d) (omega (arith, length-drop a d))

-- the first word of a region
pub region-head : (a m : ℕ) (d : List ℕ) → 0 < m → get_or (take m (drop a d)) 0 0 ≡ get_or d a 0
region-head a m d h =
    let e : a + 0 ≡ a = omega arith in
    get_or-take m (drop a d) 0 0 h ∙ get_or-drop a d 0 0 ∙ ap (λ n. get_or d n 0) e

-- a word of a region
pub region-at : (a m k : ℕ) (d : List ℕ) → k < m → get_or (take m (drop a d)) k 0 ≡ get_or d (a + k) 0
region-at a m k d h = get_or-take m (drop a d) k 0 h ∙ get_or-drop a d k 0

-- what a shift leaves of p after its first n words
pub region-beyond : (l p : List ℕ) (n k m : ℕ) → length l ≡ n → n ≤ k → take m (drop k (l ++ drop n p)) ≡ take m (drop k p)
region-beyond l p n k m e h =
    let i : k ≡ n + (k - n) = omega arith in
    ap (take m)
    (ap (λ j. drop j (l ++ drop n p)) i
    ∙ sym (drop-drop (k - n) n (l ++ drop n p))
    ∙ ap (drop (k - n)) (drop_at l (drop n p) n e)
    ∙ drop-drop (k - n) n p
    ∙ ap (λ j. drop j p) (sym i))

-- a region of a list whose part from a on is put back as e
pub region-put :
    (a b m : ℕ) (d e : List ℕ) → a ≤ length d → b + m ≤ length e → take m (drop (a + b) (put_mid a (length d - a) d e)) ≡ take m (drop b e)
region-put a b m d e h l =
    let post = drop (length d - a) (drop a d) in
    ap (take m)
    (sym (drop-drop b a (put_mid a (length d - a) d e))
    ∙ ap (drop b) (drop_at (take a d) (e ++ post) a (length-take-le a d h))
    ∙ drop-append-le b e post (omega arith))
    ∙ take-append-le m (drop b e) post (omega (arith, length-drop b e))

pub begins-region : (d : List ℕ) (n : ℕ) → n ≤ length d → Begins n (take n d) d
begins-region d n h = record { size = sym (length-take-le n d h); is = refl }

-- what a list that begins with l has at its front
pub begins-append : (l d : List ℕ) (n : ℕ) → length l ≡ n → Begins n l (l ++ d)
begins-append l d n e = record { size = sym e; is = take_at l d n e }

-- what a shift by gap makes of a part
pub begins-shift : (p e : List ℕ) (gap n : ℕ) → gap + n ≤ length p → e ≡ take n (drop gap p) ++ drop n p → Begins n (take n (drop gap p)) e
begins-shift p e gap n h q =
    subst (λ (l : List ℕ). Begins n (take n (drop gap p)) l) (sym q)
    (begins-append (take n (drop gap p)) (drop n p) n (length-region gap n p h))

-- Two shifts in a row, the first by 1 in the part from 1 on, and the second by 2 in the part from 1 + s on
module _ (d e₁ e₂ : List ℕ) (s b : ℕ) (room : 3 + s + b ≤ length d) where
  abbrev pub p₁ : List ℕ
  p₁ = take (length d - 1) (drop 1 d)

  abbrev pub d₂ : List ℕ
  d₂ = put_mid 1 (length d - 1) d e₁

  abbrev pub p₂ : List ℕ
  p₂ = take (length d₂ - (1 + s)) (drop (1 + s) d₂)

  pub joined :
      e₁ ≡ take s (drop 1 p₁) ++ drop s p₁ → length e₁ ≡ length p₁ → e₂ ≡ take b (drop 2 p₂) ++ drop b p₂ → length d₂ ≡ length d →
      Begins (1 + s + b) ((take 1 d ++ take s (drop 2 d)) ++ take b (drop (3 + s) d)) (put_mid (1 + s) (length d₂ - (1 + s)) d₂ e₂)
  joined q₁ l₁ q₂ l₂ =
      let n₁ : length p₁ ≡ length d - 1 = length-region 1 (length d - 1) d (omega arith) in
      let n₂ : length p₂ ≡ length d₂ - (1 + s) = length-region (1 + s) (length d₂ - (1 + s)) d₂ (omega arith) in
      let b₁ : Begins s (take s (drop 2 d)) e₁ =
      begins-as (begins-shift p₁ e₁ 1 s (omega arith) q₁) (region-sub 1 (length d - 1) 1 s d (omega arith)) in
      let x : length (take s (drop 1 p₁)) ≡ s = length-region 1 s p₁ (omega arith) in
      let i : (1 + s) + 2 ≡ 1 + (2 + s) = omega arith in
      let j : 1 + (2 + s) ≡ 3 + s = omega arith in
      let r : take b (drop 2 p₂) ≡ take b (drop (3 + s) d) =
      region-sub (1 + s) (length d₂ - (1 + s)) 2 b d₂ (omega arith)
      ∙ ap (λ k. take b (drop k d₂)) i
      ∙ region-put 1 (2 + s) b d e₁ (omega arith) (omega arith)
      ∙ ap (λ l. take b (drop (2 + s) l)) q₁
      ∙ region-beyond (take s (drop 1 p₁)) p₁ s (2 + s) b x (omega arith)
      ∙ region-sub 1 (length d - 1) (2 + s) b d (omega arith)
      ∙ ap (λ k. take b (drop k d)) j in
      let b₂ : Begins b (take b (drop (3 + s) d)) e₂ = begins-as (begins-shift p₂ e₂ 2 b (omega arith) q₂) r in
      begins-tail (begins-tail (begins-region d 1 (omega arith)) b₁) b₂

-- a store at 0, before what stands from 1 on
pub begins-store : (d : List ℕ) (n x : ℕ) → 1 + n ≤ length d → Begins (1 + n) (x ∷ take n (drop 1 d)) (set d 0 x)
begins-store [] n x h = absurd (omega arith)
begins-store (y ∷ d) n x h =
    let e : 1 + n ≡ suc n = omega arith in
    record { size = omega (arith, length-take-le n d (omega arith)); is = rw e }

-- what a copy leaves
pub begins-copy : (p d e : List ℕ) → e ≡ p ++ d → Begins (length p) p e
begins-copy p d e q = subst (λ (l : List ℕ). Begins (length p) p l) (sym q) (begins-append p d (length p) refl)

-- a region before a part that is put back
pub region-before : (a m f k : ℕ) (d e : List ℕ) → a + m ≤ f → f ≤ length d → take m (drop a (put_mid f k d e)) ≡ take m (drop a d)
region-before a m f k d e h l =
    let z = e ++ drop k (drop f d) in
    let n : length (take f d) ≡ f = length-take-le f d l in
    ap (take m) (drop-append-le a (take f d) z (omega arith))
    ∙ take-append-le m (drop a (take f d)) z (omega (arith, length-drop a (take f d)))
    ∙ inner a m f d h

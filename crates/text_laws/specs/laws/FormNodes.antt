-- The place of a node is where its text stands.
use Rattle.std.specs.Prelude.{List, [], ◌∷◌, ◌++◌, ◌≡◌, refl, ℕ, suc, ◌+◌, ℤ, length}
use Rattle.std.proofs.Common.{append_assoc, append-nil, sym, ap, ◌∙◌, arith, length-append}
use Rattle.horner.specs.definitions.Form.{Form, int, pop, pow}
use Rattle.text.specs.definitions.FormReading.{Node, nodes, text, pop_head, pow_head}
use Rattle.text.specs.definitions.FormMeaning.{WrongNode}

-- the node's text stands at its place in the text of f, which itself stands from p on
pub record StandsAt (f : Form ℤ) (p : ℕ) (k : Node) : Type 0 where
  pub before : List ℕ
  pub behind : List ℕ
  pub parts : text f ≡ before ++ (text k.form ++ behind)
  pub place : k.place ≡ p + length before

-- every node of a list
abbrev All : (Node → Type 0) → List Node → Type 0
All P [] = Unit {0}
All P (k ∷ ks) = P k × All P ks

all_append : (P : Node → Type 0) (ks ls : List Node) → All P ks → All P ls → All P (ks ++ ls)
all_append P [] ls h g = g
all_append P (k ∷ ks) ls h g = (h.0, all_append P ks ls h.1 g)

all_map : (P Q : Node → Type 0) (ks : List Node) → ((k : Node) → P k → Q k) → All P ks → All Q ks
all_map P Q [] f h = tt
all_map P Q (k ∷ ks) f h = (f k h.0, all_map P Q ks f h.1)

all-at : (P : Node → Type 0) (ks ls js : List Node) (k : Node) → ks ≡ ls ++ (k ∷ js) → All P ks → P k
all-at P ks ls js k e h = go ls (rw e at h)
  where
    go : (ls : List Node) → All P (ls ++ (k ∷ js)) → P k
    go [] h = h.0
    go (l ∷ ls) h = go ls h.1

-- a form within another: us before it and vs behind
inner :
    (x f : Form ℤ) (us vs : List ℕ) (p q : ℕ) → text f ≡ us ++ (text x ++ vs) → q ≡ p + length us → (k : Node) → StandsAt x q k →
    StandsAt f p k
inner x f us vs p q e i k h =
    record {
      before = us ++ h.before;
      behind = h.behind ++ vs;
      parts = e ∙ ap (λ (z : List ℕ). us ++ (z ++ vs)) h.parts ∙ grouped us h.before (text k.form) h.behind vs;
      place = h.place ∙ omega (arith, length-append us h.before);
    }
  where
    grouped : (a b c d e : List ℕ) → a ++ ((b ++ (c ++ d)) ++ e) ≡ (a ++ b) ++ (c ++ (d ++ e))
    grouped a b c d e = simp append_assoc

itself : (f : Form ℤ) (l p : ℕ) → StandsAt f p (record { level = l; place = p; form = f })
itself f l p = record { before = []; behind = []; parts = sym (append-nil (text f)); place = omega arith }

right-part : (i : ℕ) (x y : Form ℤ) → text (pow i x y) ≡ (pow_head i ++ (text x ++ (32 ∷ []))) ++ (text y ++ (41 ∷ []))
right-part i x y =
    sym (append_assoc (pow_head i) (text x ++ (32 ∷ [])) (text y ++ (41 ∷ []))
    ∙ ap (λ (z : List ℕ). pow_head i ++ z) (append_assoc (text x) (32 ∷ []) (text y ++ (41 ∷ []))))

pub nodes-stand : (f : Form ℤ) (l p : ℕ) → All (StandsAt f p) (nodes l p f)
nodes-stand (int z) l p = (itself (int z) l p, tt)
nodes-stand (pop i x) l p =
    all_append (StandsAt (pop i x) p) (nodes (l + i) (p + length (pop_head i)) x) _
    (all_map (StandsAt x (p + length (pop_head i))) (StandsAt (pop i x) p) (nodes (l + i) (p + length (pop_head i)) x)
    (inner x (pop i x) (pop_head i) (41 ∷ []) p (p + length (pop_head i)) refl refl) (nodes-stand x (l + i) (p + length (pop_head i))))
    (itself (pop i x) l p, tt)
nodes-stand (pow i x y) l p =
    let a = p + length (pow_head i) in
    let b = p + length (pow_head i) + length (text x) + 1 in
    all_append (StandsAt (pow i x y) p) (nodes l a x) _
    (all_map (StandsAt x a) (StandsAt (pow i x y) p) (nodes l a x)
    (inner x (pow i x y) (pow_head i) (32 ∷ text y ++ (41 ∷ [])) p a refl refl) (nodes-stand x l a))
    (all_append (StandsAt (pow i x y) p) (nodes (suc l) b y) _
    (all_map (StandsAt y b) (StandsAt (pow i x y) p) (nodes (suc l) b y)
    (inner y (pow i x y) (pow_head i ++ (text x ++ (32 ∷ []))) (41 ∷ []) p b (right-part i x y)
    (omega (arith, length-append (pow_head i) (text x ++ (32 ∷ [])), length-append (text x) (32 ∷ []))))
    (nodes-stand y (suc l) b))
    (itself (pow i x y) l p, tt))

-- so 7 is at the first byte of the node
pub wrong-stands : (m : ℕ) (f : Form ℤ) (p : ℕ) (w : WrongNode m f p) → StandsAt f 0 w.node
wrong-stands m f p w = all-at (StandsAt f 0) (nodes 0 0 f) w.before w.behind w.node w.parts (nodes-stand f 0 0)

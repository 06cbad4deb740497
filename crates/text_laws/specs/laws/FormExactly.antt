-- The refusals of a form's text, before it is judged, are exactly those that document 01 describes.
use Rattle.std.specs.Prelude.{true, List, [], ◌∷◌, ◌++◌, ◌↔◌, ◌≡◌, refl, ℕ, suc, ◌+◌, ◌≤◌, ◌<◌, ℤ, pos, negsuc, length}
use Rattle.std.proofs.Common.{append_assoc, append-nil, sym, ap, ap₂, ◌∙◌, arith, ne_eqb}
use Rattle.horner.specs.definitions.Form.{Form, int, pop, pow}
use Rattle.horner.specs.definitions.Measures.{nest}
use Rattle.text.specs.definitions.Bytes.{Reading, read, refused, refused_at, digit, all, decimal, write_int}
use Rattle.text.specs.definitions.FormMeaning.{IsFormText, Begun, open_after, Clean, EndsEarly, RefusedAs, too_long, no-form-so, ended}
use Rattle.text.specs.definitions.FormMeaning.{too-deep}
use Rattle.text.specs.definitions.FormReading.{read_form, text, pop_head, pow_head}
use Rattle.text_laws.specs.laws.Bytes.{and_l, and_r, digit-range}
use Rattle.text_laws.specs.laws.FormOpen.{open-append}
use Rattle.text_laws.specs.laws.FormReading.{reads}
use Rattle.text_laws.specs.laws.FormRefused.{why}
use Rattle.text_laws.specs.laws.Lists.{Places, same_place, earlier, later, places}
use Rattle.text_laws.specs.laws.Numerals.{canonical-decimal}
use Rattle.text_laws.specs.laws.Prefixes.{canonical-digits}

begun-front : (ks us : List ℕ) → Begun (ks ++ us) → Begun ks
begun-front ks us b = record { form = b.form; rest = us ++ b.rest; is = b.is ∙ append_assoc ks us b.rest }

begun-with : (ks : List ℕ) (k : ℕ) (us : List ℕ) → Begun (ks ++ (k ∷ us)) → Begun (ks ++ (k ∷ []))
begun-with ks k us b = begun-front (ks ++ (k ∷ [])) us (rw (append_assoc ks (k ∷ []) us) b)

clean-by : (d : ℕ) (ks js : List ℕ) → ks ≡ js → Clean 256 d js → Clean 256 d ks
clean-by d ks js e c = rw e c

clean_at : (ks : List ℕ) (d k : ℕ) (us : List ℕ) → Clean 256 d (ks ++ (k ∷ us)) → k ≡ 40 → open_after d ks < 256
clean_at [] d k us c = c.0
clean_at (b ∷ ks) d k us c = λ e. rw (open-append (b ∷ []) ks d) (clean_at ks (open_after d (b ∷ [])) k us c.1 e)

-- ---- the text of a form within the limit passes
clean-other : (d b : ℕ) (bs : List ℕ) → (b ≡ 40 → ⊥) → (b ≡ 41 → ⊥) → Clean 256 d bs → Clean 256 d (b ∷ bs)
clean-other d b bs n m c = (λ e. absurd (n e), go (rw (ne_eqb b 40 n, open_after) (rw (ne_eqb b 41 m, open_after) refl)))
  where
    go : open_after d (b ∷ []) ≡ d → Clean 256 (open_after d (b ∷ [])) bs
    go e = rw e c

clean-digits : (w : List ℕ) (d : ℕ) (bs : List ℕ) → all digit w ≡ true → Clean 256 d bs → Clean 256 d (w ++ bs)
clean-digits [] d bs a c = c
clean-digits (x ∷ w) d bs a c =
    let r = digit-range x (and_l (digit x) (all digit w) a) in
    clean-other d x (w ++ bs) (omega arith) (omega arith) (clean-digits w d bs (and_r (digit x) (all digit w) a) c)

clean-decimal : (n d : ℕ) (bs : List ℕ) → Clean 256 d bs → Clean 256 d (decimal n ++ bs)
clean-decimal n d bs c = clean-digits (decimal n) d bs (canonical-digits (decimal n) (canonical-decimal n)) c

clean-int : (z : ℤ) (d : ℕ) (bs : List ℕ) → Clean 256 d bs → Clean 256 d (write_int z ++ bs)
clean-int (pos n) d bs c = clean-decimal n d bs c
clean-int (negsuc n) d bs c = clean-other d 45 (decimal (suc n) ++ bs) (omega arith) (omega arith) (clean-decimal (suc n) d bs c)

clean-index : (i d : ℕ) (bs : List ℕ) → Clean 256 d bs → Clean 256 d ((decimal i ++ (32 ∷ [])) ++ bs)
clean-index i d bs c =
    clean-by d ((decimal i ++ (32 ∷ [])) ++ bs) (decimal i ++ (32 ∷ bs)) (append_assoc (decimal i) (32 ∷ []) bs)
    (clean-decimal i d (32 ∷ bs) (clean-other d 32 bs (omega arith) (omega arith) c))

clean-pop : (i d : ℕ) (bs : List ℕ) → d < 256 → Clean 256 (suc d) bs → Clean 256 d (pop_head i ++ bs)
clean-pop i d bs h c = (
  λ e. h,
  (
    λ e. absurd (omega arith),
    (λ e. absurd (omega arith), (λ e. absurd (omega arith), (λ e. absurd (omega arith), clean-index i (suc d) bs c))),
  ),
)

clean-pow : (i d : ℕ) (bs : List ℕ) → d < 256 → Clean 256 (suc d) bs → Clean 256 d (pow_head i ++ bs)
clean-pow i d bs h c = (
  λ e. h,
  (
    λ e. absurd (omega arith),
    (λ e. absurd (omega arith), (λ e. absurd (omega arith), (λ e. absurd (omega arith), clean-index i (suc d) bs c))),
  ),
)

clean-text : (f : Form ℤ) (d : ℕ) (bs : List ℕ) → d + nest f ≤ 256 → Clean 256 d bs → Clean 256 d (text f ++ bs)
clean-text (int z) d bs h c = clean-int z d bs c
clean-text (pop i x) d bs h c =
    clean-by d (text (pop i x) ++ bs) (pop_head i ++ (text x ++ (41 ∷ bs)))
    (append_assoc (pop_head i) (text x ++ (41 ∷ [])) bs ∙ ap (λ (z : List ℕ). pop_head i ++ z) (append_assoc (text x) (41 ∷ []) bs))
    (clean-pop i d (text x ++ (41 ∷ bs)) (omega arith) (clean-text x (suc d) (41 ∷ bs) (omega arith) (omega arith, c)))
clean-text (pow i x y) d bs h c =
    clean-by d (text (pow i x y) ++ bs) (pow_head i ++ (text x ++ (32 ∷ text y ++ (41 ∷ bs))))
    (append_assoc (pow_head i) (text x ++ (32 ∷ text y ++ (41 ∷ []))) bs
    ∙ ap (λ (z : List ℕ). pow_head i ++ z)
    (append_assoc (text x) (32 ∷ text y ++ (41 ∷ [])) bs
    ∙ ap (λ (z : List ℕ). text x ++ (32 ∷ z)) (append_assoc (text y) (41 ∷ []) bs)))
    (clean-pow i d (text x ++ (32 ∷ text y ++ (41 ∷ bs))) (omega arith)
    (clean-text x (suc d) (32 ∷ text y ++ (41 ∷ bs)) (omega arith)
    (clean-other (suc d) 32 (text y ++ (41 ∷ bs)) (omega arith) (omega arith)
    (clean-text y (suc d) (41 ∷ bs) (omega arith) (omega arith, c)))))

-- ---- what is wrong with the byte k behind the bytes ks
data Fault (e : ℕ) (ks : List ℕ) (k : ℕ) : Type 0 where
  four : e ≡ 4 → (Begun (ks ++ (k ∷ [])) → ⊥) → Fault e ks k
  six : e ≡ 6 → k ≡ 40 → 256 ≤ open_after 0 ks → Begun (ks ++ (k ∷ [])) → Fault e ks k

no-fault : (e : ℕ) (ks : List ℕ) (k : ℕ) (us : List ℕ) → Fault e ks k → Begun (ks ++ (k ∷ us)) → Clean 256 0 (ks ++ (k ∷ us)) → ⊥
no-fault e ks k us (four i n) b c = n (begun-with ks k us b)
no-fault e ks k us (six i j h n) b c = let l : open_after 0 ks < 256 = clean_at ks 0 k us c j in omega arith

one-fault : (e e' : ℕ) (ks : List ℕ) (k : ℕ) → Fault e ks k → Fault e' ks k → e ≡ e'
one-fault e e' ks k (four i n) (four i' n') = i ∙ sym i'
one-fault e e' ks k (four i n) (six i' j h m) = absurd (n m)
one-fault e e' ks k (six i j h m) (four i' n') = absurd (n' m)
one-fault e e' ks k (six i j h m) (six i' j' h' m') = i ∙ sym i'

record Stop (s : List ℕ) (e p : ℕ) : Type 0 where
  before : List ℕ
  byte : ℕ
  behind : List ℕ
  parts : s ≡ before ++ (byte ∷ behind)
  place : p ≡ length before
  clean : Clean 256 0 before
  begun : Begun before
  fault : Fault e before byte

one-stop : (s : List ℕ) (e p e' p' : ℕ) → Stop s e p → Stop s e' p' → (e ≡ e') × (p ≡ p')
one-stop s e p e' p' a b = go (places a.before a.byte a.behind b.before b.byte b.behind (sym a.parts ∙ b.parts))
  where
    fault-by : (ks js : List ℕ) (k j : ℕ) → ks ≡ js → k ≡ j → Fault e ks k → Fault e js j
    fault-by ks js k j x y f = rw y at (rw x at f)

    begun-by : (ks js : List ℕ) → ks ≡ js → Begun ks → Begun js
    begun-by ks js x f = rw x at f

    go : Places a.before a.byte b.before b.byte → (e ≡ e') × (p ≡ p')
    go (same_place x y) = (
      one-fault e e' b.before b.byte (fault-by a.before b.before a.byte b.byte x y a.fault) b.fault,
      a.place ∙ ap length x ∙ sym b.place,
    )
    go (earlier us x) =
        absurd (no-fault e a.before a.byte us a.fault (begun-by b.before (a.before ++ (a.byte ∷ us)) x b.begun)
        (clean-by 0 (a.before ++ (a.byte ∷ us)) b.before (sym x) b.clean))
    go (later us x) =
        absurd (no-fault e' b.before b.byte us b.fault (begun-by a.before (b.before ++ (b.byte ∷ us)) x a.begun)
        (clean-by 0 (b.before ++ (b.byte ∷ us)) a.before (sym x) a.clean))

-- ---- the whole text
module _ (s : List ℕ) where
  data Reason (e p : ℕ) : Type 0 where
    by_length : e ≡ 3 → p ≡ 0 → 65535 < length s → Reason e p
    by_end : e ≡ 4 → length s ≤ 65535 → EndsEarly 256 s → p ≡ length s → Reason e p
    by_byte : length s ≤ 65535 → Stop s e p → Reason e p

  reason : (e p : ℕ) → RefusedAs s e p → Reason e p
  reason e p (too_long i j h) = by_length i j h
  reason e p (ended i h x j) = by_end i h x j
  reason e p (no-form-so i h x) =
      by_byte h (record {
        before = x.before;
        byte = x.byte;
        behind = x.behind;
        parts = x.parts;
        place = x.place;
        clean = x.clean;
        begun = x.begun;
        fault = four i x.ends;
      })
  reason e p (too-deep i h x) =
      by_byte h (record {
        before = x.before;
        byte = 40;
        behind = x.behind;
        parts = x.parts;
        place = x.place;
        clean = x.clean;
        begun = begun-front x.before (40 ∷ []) x.begun;
        fault = six i refl x.open-before x.begun;
      })

  no_stop : (e p : ℕ) → Begun s → Clean 256 0 s → Stop s e p → ⊥
  no_stop e p b c x = no-fault e x.before x.byte x.behind x.fault (rw x.parts at b) (rw x.parts at c)

  one-reason : (e p e' p' : ℕ) → Reason e p → Reason e' p' → (e ≡ e') × (p ≡ p')
  one-reason e p e' p' (by_length i j h) (by_length i' j' h') = (i ∙ sym i', j ∙ sym j')
  one-reason e p e' p' (by_length i j h) (by_end i' h' x j') = absurd (omega arith)
  one-reason e p e' p' (by_length i j h) (by_byte h' x) = absurd (omega arith)
  one-reason e p e' p' (by_end i h x j) (by_length i' j' h') = absurd (omega arith)
  one-reason e p e' p' (by_end i h x j) (by_end i' h' x' j') = (i ∙ sym i', j ∙ sym j')
  one-reason e p e' p' (by_end i h x j) (by_byte h' y) = absurd (no_stop e' p' x.begun x.clean y)
  one-reason e p e' p' (by_byte h x) (by_length i' j' h') = absurd (omega arith)
  one-reason e p e' p' (by_byte h x) (by_end i' h' y j') = absurd (no_stop e p y.begun y.clean x)
  one-reason e p e' p' (by_byte h x) (by_byte h' y) = one-stop s e p e' p' x y

  -- what document 01 says of a refused text is true of one number and one place alone
  pub one-refusal : (e p e' p' : ℕ) → RefusedAs s e p → RefusedAs s e' p' → (e ≡ e') × (p ≡ p')
  one-refusal e p e' p' a b = one-reason e p e' p' (reason e p a) (reason e' p' b)

  not-refused : (f : Form ℤ) (e p : ℕ) → IsFormText s f → Reason e p → ⊥
  not-refused f e p m (by_length i j h) = omega (arith, m.short)
  not-refused f e p m (by_end i h x j) = x.no-form f (sym m.is)
  not-refused f e p m (by_byte h x) =
      no_stop e p (record { form = f; rest = []; is = sym (append-nil s ∙ m.is) })
      (clean-by 0 s (text f ++ []) (m.is ∙ sym (append-nil (text f))) (clean-text f 0 [] (omega (arith, m.shallow)) tt)) x

  answer : (e p : ℕ) → RefusedAs s e p → (x : Reading (Form ℤ)) → read_form s ≡ x → read_form s ≡ refused_at e p
  answer e p a (read f) h = absurd (not-refused f e p ((reads s f).0 h) (reason e p a))
  answer e p a (refused bad) h =
      let q = one-refusal bad.number bad.place e p (why s bad.number bad.place h) a in h ∙ ap₂ refused_at q.0 q.1

  pub refused-exactly : (e p : ℕ) → (read_form s ≡ refused_at e p) ↔ RefusedAs s e p
  refused-exactly e p = (why s e p, λ a. answer e p a (read_form s) refl)

-- How writings compose: a byte behind a text, and a text through the part of the buffer that starts behind a text.
use Rattle.std.specs.Prelude.{List, [], ◌∷◌, ◌++◌, ◌≡◌, refl, ℕ, suc, ◌+◌, ◌-◌, ◌<◌, length, take, drop, set}
use Rattle.std.proofs.Common.{append_assoc, append-nil, sym, ap, subst, ◌∙◌, add-one, arith, length-append, length-drop, drop_of_length-le, drop-cons, drop-drop, drop_at, take_at, take_all}
use Rattle.std.proofs.lemmas.List.{set_at}
use borrow.Rule.Slice.PartMut.{put_mid}
use Rattle.form_write.specs.Write.{Wrote}

pub wrote_none : (old : List ℕ) → Wrote 0 [] old old
wrote_none old = record { size = refl; fits = omega arith; is = refl }

-- the same with an equal text
pub wrote_as : {r : ℕ} {w w' old new : List ℕ} → Wrote r w old new → w ≡ w' → Wrote r w' old new
wrote_as {r} {w} {w'} {old} {new} h e = subst (λ (k : List ℕ). Wrote r k old new) e h

module _ {r : ℕ} {w old new : List ℕ} (h : Wrote r w old new) where
  pub wrote-length : length new ≡ length old
  wrote-length = ap length h.is ∙ simp (length-append, length-drop) (omega (arith, h.size, h.fits))

  -- the bytes behind the text
  wrote-rest : drop r new ≡ drop r old
  wrote-rest = ap (drop r) h.is ∙ drop_at w (drop r old) r (sym h.size)

  wrote-front : take r new ≡ w
  wrote-front = ap (take r) h.is ∙ take_at w (drop r old) r (sym h.size)

  pub wrote-byte : (x : ℕ) → r < length old → Wrote (r + 1) (w ++ (x ∷ [])) old (set new r x)
  wrote-byte x l = record {
    size = omega (arith, h.size, length-append w (x ∷ []));
    fits = omega arith;
    is =
        ap (λ (k : List ℕ). set k r x) (h.is ∙ ap (λ (k : List ℕ). w ++ k) (drop-cons old r 0 l))
        ∙ set_at w _ (drop (suc r) old) x r (sym h.size)
        ∙ ap (λ (n : ℕ). w ++ (x ∷ drop n old)) (sym (add-one r))
        ∙ sym (append_assoc w (x ∷ []) (drop (r + 1) old));
  }

  -- the part `&mut new[r..]` that is lent on
  wrote-part : take (length new - r) (drop r new) ≡ drop r old
  wrote-part = take_all (length new - r) (drop r new) (omega (arith, length-drop r new)) ∙ wrote-rest

  pub wrote-room : length (take (length new - r) (drop r new)) ≡ length old - r
  wrote-room = ap length wrote-part ∙ length-drop r old

  -- a text that was written through the part
  pub wrote_on :
      {s : ℕ} {u e : List ℕ} → Wrote s u (take (length new - r) (drop r new)) e →
      Wrote (r + s) (w ++ u) old (put_mid r (length new - r) new e)
  wrote_on {s} {u} {e} g =
      let k : drop (length new - r) (drop r new) ≡ [] = drop_of_length-le (drop r new) {i = length new - r}
      (omega (arith, length-drop r new)) in
      record {
        size = omega (arith, h.size, g.size, length-append w u);
        fits = omega (arith, h.fits, g.fits, wrote-room);
        is =
            ap (λ (l : List ℕ). take r new ++ (e ++ l)) k
            ∙ ap (λ (l : List ℕ). take r new ++ l) (append-nil e)
            ∙ ap (λ (l : List ℕ). l ++ e) wrote-front
            ∙ ap (λ (l : List ℕ). w ++ l)
            (g.is ∙ ap (λ (l : List ℕ). u ++ drop s l) wrote-part ∙ ap (λ (l : List ℕ). u ++ l) (drop-drop s r old))
            ∙ sym (append_assoc w u (drop (r + s) old));
      }

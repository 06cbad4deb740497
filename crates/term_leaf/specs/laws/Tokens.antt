-- What each answer of the token reader says of the token at a place.
use Rattle.std.specs.Prelude.{◌≡◌, refl, true, false, not, List, ℕ, ◌+◌, ◌-◌, ◌≤◌, ◌<◌, length, take, drop}
use Rattle.std.proofs.Common.{sym, ap, ◌∙◌, subst, arith, length-drop, length-take-le}
use Rattle.term_token.specs.declared.Reader.{Reader}
use Rattle.term_token.specs.declared.Step.{Step}
use Rattle.term_token.specs.declared.Step.TheVariants.{Open, Close, Word, End}
use Rattle.term_token.specs.Steps.{step_of}
use Rattle.term_token.specs.Views.{from, Says, says, Opened, Closed, Worded}
use denote.Enum.Bare.{sameb, same_true, same_false, differs_true, differs_false}
use Rattle.term_leaf.specs.contracts.Kind.{the_type}
use Rattle.term_leaf.specs.declared.Kind.{Kind}
use Rattle.term_leaf.specs.declared.Kind.TheVariants as K
use Rattle.term_leaf.specs.Leaf.{TokenAt}

module _ (s : List ℕ) (at : ℕ) (l : at ≤ length s) where
  told : (r : Step) → step_of (from s at) ≡ r → Says s at r
  told r e = subst (Says s at) e (says s at l)

  -- the end of the text
  pub token_end : step_of (from s at) ≡ End → TokenAt s at K.End (length s) (length s)
  token_end e = record {
    inside = omega arith;
    later = l;
    more = λ n. absurd (n refl);
    none_left = λ z. (told End e, (refl, refl));
    opens = λ z. cc;
    closes = λ z. cc;
    worded = λ z. cc;
  }

  module _ (p : ℕ) (nx : Reader) where
    -- a `(`
    pub token-open : step_of (from s at) ≡ Open p nx → TokenAt s at K.Open p nx.at
    token-open e =
        let o : Opened s at p nx = told (Open p nx) e in
        let f : Open p (record { at = p + 1 }) ≡ Open p nx = sym (ap step_of o.first) ∙ e in
        let g : ◌≡◌ {A = Reader} (record { at = p + 1 }) nx = cc in
        let h : p + 1 ≡ nx.at = ap (λ (r : Reader). r.at) g in
        record {
          inside = o.past.inside;
          later = o.past.later;
          more = λ n. o.past.more;
          none_left = λ z. cc;
          opens = λ z. (o.first, omega arith);
          closes = λ z. cc;
          worded = λ z. cc;
        }

    -- a `)`
    pub token-close : step_of (from s at) ≡ Close p nx → TokenAt s at K.Close p nx.at
    token-close e =
        let o : Closed s at p nx = told (Close p nx) e in
        let f : Close p (record { at = p + 1 }) ≡ Close p nx = sym (ap step_of o.first) ∙ e in
        let g : ◌≡◌ {A = Reader} (record { at = p + 1 }) nx = cc in
        let h : p + 1 ≡ nx.at = ap (λ (r : Reader). r.at) g in
        record {
          inside = o.past.inside;
          later = o.past.later;
          more = λ n. o.past.more;
          none_left = λ z. cc;
          opens = λ z. cc;
          closes = λ z. (o.first, omega arith);
          worded = λ z. cc;
        }

    -- a word
    pub token-word : step_of (from s at) ≡ Word p nx → TokenAt s at K.Word p nx.at
    token-word e =
        let o : Worded s at p nx = told (Word p nx) e in
        let h : length (take (nx.at - p) (drop p s))
        ≡ nx.at - p = length-take-le (nx.at - p) (drop p s) (omega (arith, length-drop p s, o.past.inside)) in
        record {
          inside = o.past.inside;
          later = o.past.later;
          more = λ n. o.past.more;
          none_left = λ z. cc;
          opens = λ z. cc;
          closes = λ z. cc;
          worded = λ z. (o.first, omega (arith, o.past.more, h));
        }

-- what the derived `!=` and `==` say of kinds
module _ (k j : Kind) where
  pub kind-is : false ≡ not (sameb the_type k j) → k ≡ j
  kind-is e = differs_false the_type tt k j (sym e)

  pub kind-not : true ≡ not (sameb the_type k j) → k ≡ j → ⊥
  kind-not e = differs_true the_type k j (sym e)

  pub kind-same : true ≡ sameb the_type k j → k ≡ j
  kind-same e = same_true the_type tt k j (sym e)

  pub kind-other : false ≡ sameb the_type k j → k ≡ j → ⊥
  kind-other e = same_false the_type k j (sym e)

-- a word has a byte
pub word-more : {s : List ℕ} {at a e : ℕ} (kind : Kind) → TokenAt s at kind a e → kind ≡ K.Word → a < e
word-more kind t h = t.more (λ z. cc)

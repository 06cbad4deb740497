-- Document 01's table on measures, as code works it out: a subterm's from its parts'. Numbers that may be large are cut down above their
-- limit, which changes no comparison with it.
use Rattle.std.specs.Prelude.{◌≡◌, Result, Ok, Err, ℕ, ◌+◌, ◌*◌, ◌^◌, ◌≤◌, min, max, ltb, get_or}
use Rattle.horner.specs.definitions.Term.{Term}
use Rattle.horner.specs.definitions.Measures.{weight_of, degrees_of, terms_of}
use Rattle.text_laws.specs.laws.Picks.{pick}
use Rattle.measure.specs.declared.Measures.{Measures}

-- the measures of a term over a row of n: what is measured
abbrev pub measures_of : ℕ → Term → Measures
measures_of n t =
    record {
      weight = weight_of t;
      terms = terms_of n t;
      d0 = get_or (degrees_of n t) 0 0;
      d1 = get_or (degrees_of n t) 1 0;
      d2 = get_or (degrees_of n t) 2 0;
      d3 = get_or (degrees_of n t) 3 0;
    }

-- within the limits
pub record Small (m : Measures) : Type 0 where
  pub weight-small : m.weight ≤ 1073741823
  pub terms-small : m.terms ≤ 256
  pub small-0 : m.d0 ≤ 63
  pub small-1 : m.d1 ≤ 63
  pub small-2 : m.d2 ≤ 63
  pub small-3 : m.d3 ≤ 63

-- the box, cut down above what degrees of at most 63 reach
unfoldable pub box_m : ℕ → ℕ → ℕ → ℕ → ℕ
box_m a b c d = min ((a + 1) * min ((b + 1) * min ((c + 1) * (d + 1)) 16777216) 16777216) 16777216

abbrev pub add_m : Measures → Measures → Measures
add_m a b =
    record {
      weight = a.weight + b.weight;
      terms = min (a.terms + b.terms) (box_m (max a.d0 b.d0) (max a.d1 b.d1) (max a.d2 b.d2) (max a.d3 b.d3));
      d0 = max a.d0 b.d0;
      d1 = max a.d1 b.d1;
      d2 = max a.d2 b.d2;
      d3 = max a.d3 b.d3;
    }

abbrev pub mul_m : Measures → Measures → Measures
mul_m a b =
    record {
      weight = min (a.weight * b.weight) 1073741824;
      terms = min (a.terms * b.terms) (box_m (a.d0 + b.d0) (a.d1 + b.d1) (a.d2 + b.d2) (a.d3 + b.d3));
      d0 = a.d0 + b.d0;
      d1 = a.d1 + b.d1;
      d2 = a.d2 + b.d2;
      d3 = a.d3 + b.d3;
    }

abbrev pub pow_m : Measures → ℕ → Measures
pow_m a k =
    record {
      weight = min (a.weight ^ k) 1073741824;
      terms = min (min (a.terms ^ k) 16777216) (box_m (k * a.d0) (k * a.d1) (k * a.d2) (k * a.d3));
      d0 = k * a.d0;
      d1 = k * a.d1;
      d2 = k * a.d2;
      d3 = k * a.d3;
    }

-- 0, or the lowest number of a limit that is passed
abbrev pub limit_m : Measures → ℕ
limit_m m =
    pick (ltb 63 m.d0) 8
    (pick (ltb 63 m.d1) 8
    (pick (ltb 63 m.d2) 8 (pick (ltb 63 m.d3) 8 (pick (ltb 1073741823 m.weight) 9 (pick (ltb 256 m.terms) 10 0)))))

-- no limit is passed; or the lowest number of one that is
abbrev pub Within : Measures → Result (Unit {0}) ℕ → Type 0
Within m (Ok u) = limit_m m ≡ 0
Within m (Err e) = (limit_m m ≡ e) × (e ≡ 0 → ⊥)

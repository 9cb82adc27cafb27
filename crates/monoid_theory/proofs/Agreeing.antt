-- Relations that agree on words over k letters have the same products, rules, ideals, indices and
-- periods.
use Rattle.std.proofs.Common.{◌↔◌, ℕ, ◌+◌, ◌<◌, List, ◌++◌, length}
use Rattle.language_theory.specs.Words.{Over, power, word_at}
use Rattle.language_theory.specs.Congruence.{Agree}
use Rattle.language_theory.specs.Representatives.{IsPlaceOf, IsReduced}
use Rattle.monoid_theory.specs.Presentation.{IsRule, AreRules, rule_at}
use Rattle.monoid_theory.specs.Green.{IsInRightIdeal, IsInLeftIdeal, IsInIdeal, IsR, IsL, IsJ, IsH, IsD}
use Rattle.monoid_theory.specs.Powers.{Repeats, IsIndexAndPeriod, IsAperiodic}
use Rattle.language_theory.proofs.Shortlex.{over_append}
use Rattle.language_theory.proofs.Congruences.{agree_turned}
use Rattle.monoid_theory.proofs.Exponents.{over_power}

module _ (k : ℕ) (same alike : List ℕ → List ℕ → Type 0) (a : Agree k same alike) where
  -- in a list of words over k letters a word has the same place for both
  pub agreeing_place : (words : List (List ℕ))
      → ((i : ℕ) → i < length words → Over k (word_at words i)) → (w : List ℕ) (i : ℕ) → Over k w
      → IsPlaceOf same words w i → IsPlaceOf alike words w i
  agreeing_place words o w i ow p = record {
    within = p.within;
    related = (a.both (word_at words i) w (o i p.within) ow).0 p.related;
    only = λ j h s. p.only j h ((a.both (word_at words j) w (o j h) ow).1 s);
  }

  pub agreeing_reduced : (w : List ℕ) → IsReduced k same w → IsReduced k alike w
  agreeing_reduced w r =
      record { over = r.over; least = λ v o s. r.least v o ((a.both v w o r.over).1 s) }

  pub agreeing_right : (s t : List ℕ) → Over k s → Over k t → IsInRightIdeal k same s t
      → IsInRightIdeal k alike s t
  agreeing_right s t os ot (x, o, h) = (x, o, (a.both s (t ++ x) os (over_append k t x ot o)).0 h)

  pub agreeing_left : (s t : List ℕ) → Over k s → Over k t → IsInLeftIdeal k same s t
      → IsInLeftIdeal k alike s t
  agreeing_left s t os ot (x, o, h) = (x, o, (a.both s (x ++ t) os (over_append k x t o ot)).0 h)

  pub agreeing_ideal : (s t : List ℕ) → Over k s → Over k t → IsInIdeal k same s t
      → IsInIdeal k alike s t
  agreeing_ideal s t os ot (x, y, ox, oy, h) = (
    x,
    y,
    ox,
    oy,
    (a.both s (x ++ (t ++ y)) os
        (over_append k x (t ++ y) ox (over_append k t y ot oy))).0 h,
  )

  agreeing_r : (s t : List ℕ) → Over k s → Over k t → IsR k same s t → IsR k alike s t
  agreeing_r s t os ot h = (agreeing_right s t os ot h.0, agreeing_right t s ot os h.1)

  agreeing_l : (s t : List ℕ) → Over k s → Over k t → IsL k same s t → IsL k alike s t
  agreeing_l s t os ot h = (agreeing_left s t os ot h.0, agreeing_left t s ot os h.1)

  agreeing_j : (s t : List ℕ) → Over k s → Over k t → IsJ k same s t → IsJ k alike s t
  agreeing_j s t os ot h = (agreeing_ideal s t os ot h.0, agreeing_ideal t s ot os h.1)

  agreeing_h : (s t : List ℕ) → Over k s → Over k t → IsH k same s t → IsH k alike s t
  agreeing_h s t os ot h = (agreeing_r s t os ot h.0, agreeing_l s t os ot h.1)

  agreeing_d : (s t : List ℕ) → Over k s → Over k t → IsD k same s t → IsD k alike s t
  agreeing_d s t os ot (z, o, r, l) = (z, o, agreeing_r s z os o r, agreeing_l z t o ot l)

  repeats_again : (x : List ℕ) (i q : ℕ) → Over k x → Repeats same x i q ↔ Repeats alike x i q
  repeats_again x i q o =
      a.both (power i x) (power (i + q) x) (over_power k i x o) (over_power k (i + q) x o)

  pub agreeing_index : (x : List ℕ) (i p : ℕ) → Over k x → IsIndexAndPeriod same x i p
      → IsIndexAndPeriod alike x i p
  agreeing_index x i p o h = record {
    positive = h.positive;
    repeats = (repeats_again x i p o).0 h.repeats;
    index = λ j q l s. h.index j q l ((repeats_again x j q o).1 s);
    period = λ q l s. h.period q l ((repeats_again x i q o).1 s);
  }

-- both ways
module _ (k : ℕ) (same alike : List ℕ → List ℕ → Type 0) (a : Agree k same alike) where
  pub agreeing_rule : (words : List (List ℕ))
      → ((i : ℕ) → i < length words → Over k (word_at words i)) → (left : List ℕ) (right : ℕ)
      → IsRule k same words left right → IsRule k alike words left right
  agreeing_rule words o left right r = record {
    over = r.over;
    unreduced = λ d. r.unreduced (agreeing_reduced k alike same (agree_turned k same alike a) left
        d);
    prefix = λ w b e. agreeing_reduced k same alike a w (r.prefix w b e);
    suffix = λ b w e. agreeing_reduced k same alike a w (r.suffix b w e);
    place = agreeing_place k same alike a words o left right r.over r.place;
  }

module _ (k : ℕ) (same alike : List ℕ → List ℕ → Type 0) (a : Agree k same alike) where
  pub agreeing_rules : (words : List (List ℕ))
      → ((i : ℕ) → i < length words → Over k (word_at words i)) → (rules : List (List ℕ × ℕ))
      → AreRules k same words rules → AreRules k alike words rules
  agreeing_rules words o rules r = record {
    each = λ n h. agreeing_rule k same alike a words o (rule_at rules n).0 (rule_at rules n).1
        (r.each n h);
    rise = r.rise;
    all = λ left right g. r.all left right
        (agreeing_rule k alike same (agree_turned k same alike a) words o left right g);
  }

  pub agreeing_aperiodic : IsAperiodic k same → IsAperiodic k alike
  agreeing_aperiodic h =
      record {
        one = λ x i p o g. h.one x i p o
            (agreeing_index k alike same (agree_turned k same alike a) x i p o g);
      }

module _ (k : ℕ) (same alike : List ℕ → List ℕ → Type 0) (a : Agree k same alike) where
  turned : Agree k alike same
  turned = agree_turned k same alike a

  pub r_agrees : Agree k (IsR k same) (IsR k alike)
  r_agrees =
      record {
        both = λ s t os ot. (
          agreeing_r k same alike a s t os ot,
          agreeing_r k alike same turned s t os ot,
        );
      }

  pub l_agrees : Agree k (IsL k same) (IsL k alike)
  l_agrees =
      record {
        both = λ s t os ot. (
          agreeing_l k same alike a s t os ot,
          agreeing_l k alike same turned s t os ot,
        );
      }

  pub j_agrees : Agree k (IsJ k same) (IsJ k alike)
  j_agrees =
      record {
        both = λ s t os ot. (
          agreeing_j k same alike a s t os ot,
          agreeing_j k alike same turned s t os ot,
        );
      }

  pub h_agrees : Agree k (IsH k same) (IsH k alike)
  h_agrees =
      record {
        both = λ s t os ot. (
          agreeing_h k same alike a s t os ot,
          agreeing_h k alike same turned s t os ot,
        );
      }

  pub d_agrees : Agree k (IsD k same) (IsD k alike)
  d_agrees =
      record {
        both = λ s t os ot. (
          agreeing_d k same alike a s t os ot,
          agreeing_d k alike same turned s t os ot,
        );
      }

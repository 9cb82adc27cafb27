-- A split keeps alike nodes together.
use Rattle.std.proofs.Common.{◌≡◌, ℕ, ◌+◌, ◌<◌, ◌⊎◌, inl, inr, Bool, List, [], ◌∷◌, ◌++◌, length, slice_index, take, ap, sym, subst, ◌∙◌}
use Rattle.std.specs.List.{Contains}
use Rattle.std.proofs.lemmas.List.{take_more}
use Rattle.std.proofs.lemmas.List.Elements.{Contains-append_left, Contains-push, Contains-push_cases}
use Rattle.language_theory.proofs.Numbers.{equal_or_not}
use Rattle.language_theory.specs.ShortlexGraph.{Graph, IsGraph, Alike, target}
use Rattle.language_theory.proofs.Graphs.{target_within}
use Rattle.refinement.specs.Splitting.{Respects, IsClosed, AreSources, AreMembers, IsMovedBy, IsMoved, KeepsTogether}

-- what leads into a closed list is closed
pub sources_closed : (g : Graph) (marks : List Bool) (a : ℕ) (nodes sources : List ℕ) → IsGraph g
    → a < g.letters → IsClosed g marks nodes → AreSources g a nodes sources
    → IsClosed g marks sources
sources_closed g marks a nodes sources graph ha h s = record {
  closed = λ i j hi hj same k.
      let p = (s.exact i).0 k in
      (s.exact j).1 (
        hj,
        h.closed (target g i a) (target g j a) (target_within g i a graph hi ha)
            (target_within g j a graph hj ha) (λ w o. same (a ∷ w) (ha, o)) p.1,
      );
}

-- a class is closed
pub members_closed : (g : Graph) (marks : List Bool) (classes : List ℕ) (class : ℕ)
    (members : List ℕ) → Respects g marks classes → AreMembers g.size classes class members
    → IsClosed g marks members
members_closed g marks classes class members h s = record {
  closed = λ i j hi hj same k.
      let p = (s.exact i).0 k in (s.exact j).1 (hj, sym (h.alike i j hi hj same) ∙ p.1);
}

-- a split by a closed list keeps alike nodes together
pub moved_respects : (g : Graph) (marks : List Bool) (nodes old new : List ℕ) → Respects g marks old
    → IsClosed g marks nodes → IsMoved g.size nodes old new → Respects g marks new
moved_respects g marks nodes old new h c m =
    record { alike = λ i j hi hj same. by i j hi hj same (m.moved.each i hi) (m.moved.each j hj) }
  where
    by : (i j : ℕ) → i < g.size → j < g.size → Alike g marks i j
        → Contains nodes i × (slice_index new i ≡ slice_index m.goals (slice_index old i))
        ⊎ (¬ Contains nodes i) × (slice_index new i ≡ slice_index old i)
        → Contains nodes j × (slice_index new j ≡ slice_index m.goals (slice_index old j))
        ⊎ (¬ Contains nodes j) × (slice_index new j ≡ slice_index old j)
        → slice_index new i ≡ slice_index new j
    by i j hi hj same (inl p) (inl q) = p.1
        ∙ ap (λ (d : ℕ). slice_index m.goals d) (h.alike i j hi hj same) ∙ sym q.1
    by i j hi hj same (inl p) (inr q) = absurd (q.0 (c.closed i j hi hj same p.0))
    by i j hi hj same (inr p) (inl q) =
        absurd (p.0 (c.closed j i hj hi (λ w o. sym (same w o)) q.0))
    by i j hi hj same (inr p) (inr q) = p.1 ∙ h.alike i j hi hj same ∙ sym q.1

-- one node more goes to its goal
pub moved_next : (size : ℕ) (goals nodes old now new : List ℕ) (n x c : ℕ)
    → IsMovedBy size goals (take n nodes) old now → n < length nodes → x ≡ slice_index nodes n
    → c ≡ slice_index goals (slice_index old x) → slice_index new x ≡ c
    → ((i : ℕ) → ¬ (i ≡ x) → slice_index new i ≡ slice_index now i)
    → IsMovedBy size goals (take (n + 1) nodes) old new
moved_next size goals nodes old now new n x c m l e f here others =
    rw (take_more nodes n 0 l) (record { each = λ i hi. by i (equal_or_not i x) (m.each i hi) })
  where
    by : (i : ℕ) → (i ≡ x) ⊎ ¬ (i ≡ x) → Contains (take n nodes) i
        × (slice_index now i ≡ slice_index goals (slice_index old i))
        ⊎ (¬ Contains (take n nodes) i)
        × (slice_index now i ≡ slice_index old i)
        → Contains (take n nodes ++ slice_index nodes n ∷ []) i
        × (slice_index new i ≡ slice_index goals (slice_index old i))
        ⊎ (¬ Contains (take n nodes ++ slice_index nodes n ∷ []) i)
        × (slice_index new i ≡ slice_index old i)
    by i (inl s) _ = inl (
      subst (λ (k : ℕ). Contains (take n nodes ++ slice_index nodes n ∷ []) k)
          (sym e ∙ sym s) (Contains-push (take n nodes) (slice_index nodes n)),
      ap (λ (k : ℕ). slice_index new k) s ∙ here ∙ f
          ∙ ap (λ (k : ℕ). slice_index goals (slice_index old k)) (sym s),
    )
    by i (inr s) (inl p) = inl (
      Contains-append_left (take n nodes) (slice_index nodes n ∷ []) i
          p.0,
      others i s ∙ p.1,
    )
    by i (inr s) (inr p) =
        inr (
          λ k. elim (Contains-push_cases (take n nodes) (slice_index nodes n) i k)
              [ inl o ↦ p.0 o | inr o ↦ s (sym o ∙ sym e) ],
          others i s ∙ p.1,
        )

pub together_start : (g : Graph) (splitter old now : List ℕ) (class : ℕ) → now ≡ old
    → AreMembers g.size now class splitter → KeepsTogether g splitter old now
together_start g splitter old now class e m = record {
  respects = λ marks h. rw e h;
  closed = λ marks h. members_closed g marks now class splitter (rw e h) m;
}

-- one letter more
pub together_next : (g : Graph) (a : ℕ) (splitter sources old now new : List ℕ) → IsGraph g
    → a < g.letters → KeepsTogether g splitter old now → AreSources g a splitter sources
    → IsMoved g.size sources now new → KeepsTogether g splitter old new
together_next g a splitter sources old now new graph ha t s m = record {
  respects = λ marks h. moved_respects g marks sources now new (t.respects marks h)
      (sources_closed g marks a splitter sources graph ha (t.closed marks h) s) m;
  closed = t.closed;
}

pub one_respects : (g : Graph) (marks : List Bool) (classes : List ℕ)
    → ((i : ℕ) → i < g.size → slice_index classes i ≡ 0) → Respects g marks classes
one_respects g marks classes h = record { alike = λ i j hi hj _. h i hi ∙ sym (h j hj) }

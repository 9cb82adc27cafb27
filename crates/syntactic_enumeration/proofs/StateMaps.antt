-- The maps of the states of a minimal automaton, and the syntactic congruence.
use Rattle.std.proofs.Common.{◌≡◌, ◌⊎◌, inl, inr, ℕ, ◌+◌, ◌<◌, ◌≤◌, List, [], ◌∷◌, refl, sym, ap, subst, ◌∙◌, arith}
use Rattle.std.proofs.lemmas.Bool.{cases_lt}
use Rattle.language_theory.specs.Words.{Over}
use Rattle.language_theory.specs.Congruence.{Syntactic, Agree, MapsAlike, moved}
use Rattle.language_theory.specs.Nerode.{MinimalAutomaton, IsMinimal}
use Rattle.language_theory.specs.ShortlexGraph.{Graph, target, walk, IsGraph}
use Rattle.language_theory.proofs.Congruences.{agree_joined}
use Rattle.language_theory.proofs.Graphs.{target_within}
use Rattle.language_theory.proofs.Minimal.{syntactic_by_walks}
use Rattle.froidure_pin.specs.Maps.{Maps, SameMap, IsIdentity, IsSetAt, image}
use Rattle.syntactic_enumeration.specs.Steps.{AreSteps, AreStepsBelow}

-- a word takes each point where it leads from that node
pub steps_walk : (g : Graph) (m : Maps) → IsGraph g → AreSteps g m → (p : ℕ) (w : List ℕ)
    → p < g.size → Over g.letters w → moved (image m) p w ≡ walk g p w
steps_walk g m h s p [] l o = refl
steps_walk g m h s p (a ∷ w) l o =
    ap (λ (q : ℕ). moved (image m) q w) (s.each p a l o.0)
    ∙ steps_walk g m h s (target g p a) w (target_within g p a h l o.0) o.1

-- words act alike where they lead from each node to one node
pub steps_agree : (g : Graph) (m : Maps) → IsGraph g → AreSteps g m
    → Agree g.letters (MapsAlike g.size (target g)) (SameMap m)
steps_agree g m h s = record { both = λ u v ou ov. (to u v ou ov, from u v ou ov) }
  where
    to : (u v : List ℕ) → Over g.letters u → Over g.letters v → MapsAlike g.size (target g) u v
        → SameMap m u v
    to u v ou ov f p l =
        let n : p < g.size = (let e = s.points in omega arith) in
        steps_walk g m h s p u n ou ∙ (f p n ∙ sym (steps_walk g m h s p v n ov))

    from : (u v : List ℕ) → Over g.letters u → Over g.letters v → SameMap m u v
        → MapsAlike g.size (target g) u v
    from u v ou ov f p l =
        sym (steps_walk g m h s p u l ou)
        ∙ (f p (let e = s.points in omega arith) ∙ steps_walk g m h s p v l ov)

-- where the graph is that of a minimal automaton, they are syntactically congruent
pub steps_are_syntactic : (k : ℕ) (L : List ℕ → Type 0) (d : MinimalAutomaton) (m : Maps)
    → IsMinimal k L d → AreSteps d.graph m → Agree k (Syntactic k L) (SameMap m)
steps_are_syntactic k L d m h s =
    agree_joined k (Syntactic k L) (MapsAlike d.graph.size (target d.graph)) (SameMap m)
    (syntactic_by_walks k L d h)
    (subst (λ (n : ℕ). Agree n (MapsAlike d.graph.size (target d.graph)) (SameMap m))
    h.classes.letters (steps_agree d.graph m h.classes.shortlex.graph s))

-- identities are the steps of no letter
pub no_steps : (g : Graph) (m : Maps) → IsIdentity g.size g.letters m → AreStepsBelow g 0 m
no_steps g m h =
    record { points = h.points; letters = h.letters; each = λ p a l o. absurd (omega arith) }

-- the steps of the first c letters, and of the letter c those of the nodes below q
pub record AreStepsTo (g : Graph) (c q : ℕ) (m : Maps) : Type 0 where
  pub steps : AreStepsBelow g c m
  pub last : (p : ℕ) → p < q → p < g.size → image m p c ≡ target g p c

pub step_set : (g : Graph) (c q t : ℕ) (old new : Maps) → AreStepsTo g c q old → q < g.size
    → c < g.letters → t ≡ target g q c → IsSetAt old new c q t → AreStepsTo g c (q + 1) new
step_set g c q t old new h l o e s =
    record {
      steps = record {
        points = s.points ∙ h.steps.points;
        letters = s.letters ∙ h.steps.letters;
        each = λ p a m b. s.others p a (in_points p m) (in_letters a (omega arith))
            (inr (λ d. let f : a ≡ c = d in omega arith)) ∙ h.steps.each p a m b;
      };
      last = λ p b m. by p m (cases_lt p q) b;
    }
  where
    in_points : (p : ℕ) → p < g.size → p < old.points
    in_points p m = let f = h.steps.points in omega arith

    in_letters : (a : ℕ) → a < g.letters → a < old.letters
    in_letters a m = let f = h.steps.letters in omega arith

    by : (p : ℕ) → p < g.size → (p < q) ⊎ (q ≤ p) → p < q + 1 → image new p c ≡ target g p c
    by p m (inl b) u =
        s.others p c (in_points p m) (in_letters c o) (inl (λ d. let f : p ≡ q = d in omega arith))
        ∙ h.last p b m
    by p m (inr b) u =
        let f : p ≡ q = omega arith in
        ap (λ (r : ℕ). image new r c) f ∙ (s.set ∙ (e ∙ ap (λ (r : ℕ). target g r c) (sym f)))

-- where all nodes have their steps of the letter c, there is one letter more
pub letter_set : (g : Graph) (c : ℕ) (m : Maps) → AreStepsTo g c g.size m
    → AreStepsBelow g (c + 1) m
letter_set g c m h =
    record {
      points = h.steps.points;
      letters = h.steps.letters;
      each = λ p a l o. by p a l o (cases_lt a c);
    }
  where
    by : (p a : ℕ) → p < g.size → a < c + 1 → (a < c) ⊎ (c ≤ a) → image m p a ≡ target g p a
    by p a l o (inl b) = h.steps.each p a l b
    by p a l o (inr b) =
        let f : a ≡ c = omega arith in
        subst (λ (b : ℕ). image m p b ≡ target g p b) (sym f) (h.last p l l)

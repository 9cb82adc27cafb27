-- The parts of a line that are written one after another.
use Rattle.std.proofs.Common.{◌≡◌, ℕ, ◌+◌, ◌<◌, ◌≤◌, List, [], ◌∷◌, ◌++◌, length, take, drop, map, get_or, Option, inr, sym, ap, ◌∙◌, subst, append_assoc, append-nil, add-one, arith, take-append-drop}
use Rattle.std.specs.List.{concat}
use Rattle.std.specs.Io.KnownBytes.{Appends}
use Rattle.std.proofs.KnownBytes.{Appends-trans}
use Rattle.std.proofs.lemmas.List.{map-append}
use Rattle.std.proofs.lemmas.List.Folds.{concat-append}
use Rattle.std.proofs.Math.Seq.{take-suc}
use Rattle.syn_outside.specs.Counts.{Rose}
use Rattle.syn_outside.specs.Sinks.{IsCutOff}
use Rattle.report_outcome.specs.Outcome.{IsTold}

-- the parts to one that is next, and then that one
parts_next : {X : Type 0} (f : X → List ℕ) (xs : List X) (i : ℕ) (d : X) → i < length xs
    → concat (map f (take i xs)) ++ f (get_or xs i d) ≡ concat (map f (take (i + 1) xs))
parts_next f xs i d below =
    ap (λ l. concat (map f (take i xs)) ++ l) (sym (append-nil (f (get_or xs i d))))
    ∙ sym (concat-append (map f (take i xs)) (f (get_or xs i d) ∷ []))
    ∙ ap concat (sym (map-append f (take i xs) (get_or xs i d ∷ [])))
    ∙ ap (λ l. concat (map f l))
    (sym (take-suc xs i d below) ∙ sym (ap (λ n. take n xs) (add-one i)))

-- one more part is written
pub tells_next : {X : Type 0} (f : X → List ℕ) (xs : List X) (i : ℕ) (d : X) (part : List ℕ)
    (a b c : Option (List ℕ))
    → i < length xs → part ≡ f (get_or xs i d)
    → Appends a b (concat (map f (take i xs))) → Appends b c part
    → Appends a c (concat (map f (take (i + 1) xs)))
tells_next f xs i d part a b c below same before now =
    subst (Appends a c) (ap (λ p. concat (map f (take i xs)) ++ p) same ∙ parts_next f xs i d below)
    (Appends-trans a b c (concat (map f (take i xs))) part before now)

-- a part was cut off
pub tells_prefix : {X : Type 0} (f : X → List ℕ) (xs : List X) (i : ℕ) (d : X) (part : List ℕ)
    (a b c : Option (List ℕ)) (m n o : ℕ)
    → i < length xs → part ≡ f (get_or xs i d) → Appends a b (concat (map f (take i xs)))
    → IsCutOff b c part → m ≤ n → Rose n o
    → IsTold a c m o (concat (map f xs))
tells_prefix f xs i d part a b c m n o below same before off count rose =
    let prefix = concat (map f (take i xs)) in
    let behind = concat (map f (drop (i + 1) xs)) in
    let whole : concat (map f (take (i + 1) xs)) ++ behind ≡ concat (map f xs) =
    sym (concat-append (map f (take (i + 1) xs)) (map f (drop (i + 1) xs)))
    ∙ ap concat (sym (map-append f (take (i + 1) xs) (drop (i + 1) xs)))
    ∙ ap (λ l. concat (map f l)) (take-append-drop (i + 1) xs) in
    record {
      told = prefix ++ off.prefix;
      gained = Appends-trans a b c prefix off.prefix before off.written;
      whole = inr (
        (
          off.rest ++ behind,
          append_assoc prefix off.prefix (off.rest ++ behind)
              ∙ ap (λ l. prefix ++ l) (sym (append_assoc off.prefix off.rest behind)
              ∙ ap (λ l. l ++ behind) (off.whole ∙ same))
              ∙ sym (append_assoc prefix (f (get_or xs i d)) behind)
              ∙ ap (λ l. l ++ behind) (parts_next f xs i d below) ∙ whole,
        ),
        omega (arith, rose, count),
      );
    }

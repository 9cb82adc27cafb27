-- What several sections say, one after another.
use Rattle.std.proofs.Common.{◌≡◌, ◌<◌, ◌+◌, ℕ, List, [], ◌∷◌, ◌++◌, length, take, drop, map, get_or, refl, sym, ap, ◌∙◌, subst, add-one, drop-cons}
use Rattle.std.specs.Prelude.{◌||◌}
use Rattle.std.specs.List.{flat_map, list_any}
use Rattle.std.proofs.lemmas.List.{map-append}
use Rattle.std.proofs.Math.Seq.{take-suc}
use Rattle.command_line.specs.declared.commands.Command.{Command}
use Rattle.report_sections.specs.declared.answering.Answer.{Answer}
use Rattle.report_sections.specs.Limits.{Limits}
use Rattle.report_sections.specs.Sections.{Said, joined, IsSection, AreSections}
use Rattle.report_sections.specs.Answers.{text_of, is_limit, said_of, said_of_all}

-- one section more, behind the others
sections-snoc : (limits : Limits) (signs : List ℕ) (L : List ℕ → Type 0) (sections : List Command)
    (all : List Said) (s : Command) (one : Said)
    → AreSections sections limits signs L all → IsSection s limits signs L one
    → AreSections (sections ++ s ∷ []) limits signs L (all ++ one ∷ [])
sections-snoc limits signs L [] [] s one h k = (k, tt)
sections-snoc limits signs L [] (x ∷ more) s one h k = absurd h
sections-snoc limits signs L (first ∷ rest) [] s one h k = absurd h
sections-snoc limits signs L (first ∷ rest) (x ∷ more) s one h k =
    (h.0, sections-snoc limits signs L rest more s one h.1 k)

-- the next section of a list
pub sections-next : {X : Type 0} (f : X → Said) (limits : Limits) (signs : List ℕ)
    (L : List ℕ → Type 0) (sections : List Command) (i : ℕ) (d : Command) (answers : List X) (x : X)
    → i < length sections → AreSections (take i sections) limits signs L (map f answers)
    → IsSection (get_or sections i d) limits signs L (f x)
    → AreSections (take (i + 1) sections) limits signs L (map f (answers ++ x ∷ []))
sections-next f limits signs L sections i d answers x below h k =
    let P : List Command
    → Type 0 = λ ss. AreSections ss limits signs L (map f (answers ++ x ∷ [])) in
    let Q : List Said → Type 0 = λ all. AreSections (take i sections ++ get_or sections i d ∷ [])
    limits signs L all in
    subst P (sym (ap (λ n. take n sections) (add-one i) ∙ take-suc sections i d below))
    (subst Q (sym (map-append f answers (x ∷ [])))
    (sections-snoc limits signs L (take i sections) (map f answers) (get_or sections i d) (f x)
    h k))

-- the texts from a place on: that of the place, and those behind it
texts-next : {X : Type 0} (f : X → List ℕ) (answers : List X) (i : ℕ) (d : X) → i < length answers
    → f (get_or answers i d) ++ flat_map f (drop (i + 1) answers) ≡ flat_map f (drop i answers)
texts-next f answers i d below = rw (add-one, drop-cons answers i d) refl

-- the same, where the answer at the place is named
pub texts-of : {X : Type 0} (f : X → List ℕ) (answers : List X) (i : ℕ) (x : X)
    → i < length answers → x ≡ get_or answers i x
    → f x ++ flat_map f (drop (i + 1) answers) ≡ flat_map f (drop i answers)
texts-of f answers i x below is =
    ap (λ y. f y ++ flat_map f (drop (i + 1) answers)) is ∙ texts-next f answers i x below

-- the texts of answers, one after another, and whether one is a limit
pub said_of_all_joins : (signs : List ℕ) (limits : Limits) (answers : List Answer)
    → said_of_all signs limits answers ≡ joined (map (said_of signs limits) answers)
said_of_all_joins signs limits answers =
    ap (λ t. let x : Said = record { text = t; limited = list_any is_limit answers } in x)
    (texts answers)
    ∙ ap (λ b. let x : Said = record {
      text = flat_map (λ (one : Said). one.text) (map (said_of signs limits) answers);
      limited = b;
    } in x) (limit answers)
  where
    texts : (answers : List Answer) → flat_map (text_of signs limits) answers
        ≡ flat_map (λ (one : Said). one.text) (map (said_of signs limits) answers)
    texts [] = refl
    texts (a ∷ more) = ap (λ t. text_of signs limits a ++ t) (texts more)

    limit : (answers : List Answer) → list_any is_limit answers
        ≡ list_any (λ (one : Said). one.limited) (map (said_of signs limits) answers)
    limit [] = refl
    limit (a ∷ more) = ap (λ b. is_limit a || b) (limit more)

-- What a command needs is what its sections need.
use Rattle.std.proofs.Common.{◌≡◌, Bool, true, false, IsTrue, List, [], ◌∷◌, inl, inr, refl}
use Rattle.std.specs.Prelude.{◌||◌, All, ⊤}
use Rattle.std.specs.Bool.{OnTrue}
use Rattle.std.specs.List.{list_any}
use Rattle.std.proofs.lemmas.Bool.{or_cases}
use Rattle.std.proofs.lemmas.List.Elements.{All-nil, All-cons}
use Rattle.command_line.specs.declared.commands.Command.{Command}
use Rattle.command_line.specs.declared.commands.Command.TheVariants as command
use Rattle.report_sections.specs.Sections.{sections_of, is_section}
use Rattle.report_sections.specs.Answers.{Values, HasNeeds, HasElements, HasGreen, HasTable}
use Rattle.report_sections.specs.CommandNeeds.{needs_of, NeedsElements, NeedsGreen, NeedsTable}

or_later : (a b : Bool) → b ≡ true → (a || b) ≡ true
or_later true b t = refl
or_later false b t = t

where_true : (b : Bool) (P : Type 0) → (IsTrue b → P) → OnTrue b P
where_true true P h = h refl
where_true false P h = tt

-- these are all sections
abbrev AreAllSections : List Command → Type 0
AreAllSections [] = ⊤
AreAllSections (s ∷ ss) = IsTrue (is_section s) × AreAllSections ss

sections_have : (v : Values) (sections : List Command) → AreAllSections sections
    → (IsTrue (list_any (λ s. (needs_of s).elements) sections) → HasElements v)
    → (IsTrue (list_any (λ s. (needs_of s).green) sections) → HasGreen v)
    → (IsTrue (list_any (λ s. (needs_of s).table) sections) → HasTable v)
    → All (HasNeeds v) sections
sections_have v [] are elements green table = All-nil (HasNeeds v)
sections_have v (s ∷ ss) are elements green table =
    All-cons (HasNeeds v) s ss (
      are.0,
      where_true (needs_of s).elements (HasElements v) (λ t. elements (rw t refl)),
      where_true (needs_of s).green (HasGreen v) (λ t. green (rw t refl)),
      where_true (needs_of s).table (HasTable v) (λ t. table (rw t refl)),
    )
    (sections_have v ss are.1 (λ t. elements (or_later (needs_of s).elements _ t))
    (λ t. green (or_later (needs_of s).green _ t)) (λ t. table (or_later (needs_of s).table _ t)))

are_all_sections : (c : Command) → AreAllSections (sections_of c)
are_all_sections command.Report =
    (refl, (refl, (refl, (refl, (refl, (refl, (refl, (refl, tt))))))))
are_all_sections other = (refl, tt)

-- where what a command needs is there, its sections have what they need
pub needs_there : (c : Command) (v : Values) → (NeedsElements c → HasElements v)
    → (NeedsGreen c → HasGreen v) → (NeedsTable c → HasTable v) → All (HasNeeds v) (sections_of c)
needs_there c v = sections_have v (sections_of c) (are_all_sections c)

-- Green's classes and the table are made of the elements
made_of_elements : (s : Command) → IsTrue ((needs_of s).green || (needs_of s).table)
    → IsTrue (needs_of s).elements
made_of_elements command.Automaton t = t
made_of_elements command.Report t = t
made_of_elements other t = refl

also_elements : (p : Command → Bool) → ((s : Command) → IsTrue (p s) → IsTrue (needs_of s).elements)
    → (sections : List Command) → IsTrue (list_any p sections)
    → IsTrue (list_any (λ s. (needs_of s).elements) sections)
also_elements p made [] t = t
also_elements p made (s ∷ ss) t = elim (or_cases (p s) (list_any p ss) t) [
  | inl here ↦ rw (made s here) refl
  | inr later ↦ or_later (needs_of s).elements _ (also_elements p made ss later)
]

pub green_needs_elements : (c : Command) → NeedsGreen c → NeedsElements c
green_needs_elements c =
    also_elements (λ s. (needs_of s).green) (λ s t. made_of_elements s (rw t refl)) (sections_of c)

pub table_needs_elements : (c : Command) → NeedsTable c → NeedsElements c
table_needs_elements c =
    also_elements (λ s. (needs_of s).table)
    (λ s t. made_of_elements s (or_later (needs_of s).green _ t)) (sections_of c)

-- The sections of a report: which sections a command prints, and what each says about a language.
use Rattle.std.specs.Prelude.{◌≡◌, ℕ, Bool, true, false, List, [], ◌∷◌, Option, is_none, ⊤, length}
use Rattle.std.specs.List.{flat_map, list_any}
use Rattle.language_theory.specs.Nerode.{MinimalAutomaton, IsMinimal}
use Rattle.parallel_table.specs.ProductTables.{ProductTable}
use Rattle.command_line.specs.declared.commands.Command.{Command}
use Rattle.command_line.specs.declared.commands.Command.TheVariants as command
use Rattle.report_text.specs.AutomatonSection.{automaton_text}
use Rattle.report_text.specs.MonoidSection.{monoid_text}
use Rattle.report_text.specs.SummarySection.{summary_text}
use Rattle.report_text.specs.GreenSection.{marked, green_text}
use Rattle.report_text.specs.StarFreeSection.{star_free_text, is_star_free_limit}
use Rattle.report_text.specs.PiecewiseSection.{piecewise_text, is_piecewise_limit, r_trivial_text}
use Rattle.report_text.specs.LocalSection.{local_text, is_local_limit}
use Rattle.report_text.specs.CommutativeSection.{commutative_text}
use Rattle.report_text.specs.BoundSection.{bound_text}
use Rattle.report_text.specs.TableSection.{section_text}
use Rattle.answers.specs.declared.powers.SfAnswer.{SfAnswer}
use Rattle.answers.specs.declared.factors.LtAnswer.{LtAnswer}
use Rattle.answers.specs.declared.subwords.PtAnswer.{PtAnswer}
use Rattle.answers.specs.declared.subwords.PtWitness.{PtWitness}
use Rattle.answers.specs.declared.commuting.CWitness.{CWitness}
use Rattle.piecewise_testable.specs.Commuting.{IsCommutativeAnswer}
use Rattle.report_sections.specs.Limits.{Limits}
use Rattle.report_sections.specs.RightAnswers.{Presented, Diagram, Bounded, Counted, AnswersMonoid, AnswersGreen, AnswersBound, AnswersStarFree, AnswersPiecewise, AnswersLocal, AnswersRTrivial, AnswersTable, AnswersSummary, is_summary_limit}
use Rattle.report_sections.specs.TrueAnswers.{IsTrueOfMonoid, IsTrueOfGreen, IsTrueOfBound, IsTrueOfTable, IsTrueOfPowers, IsTrueOfSubwords, IsTrueOfFactors, IsTrueOfRows, IsTrueOfOrder, IsTrueOfSummary}
use Rattle.report_sections.specs.declared.sections.Needs.{Needs}

-- The sections that a command prints, in their order. A section is named by the command that prints
-- it alone; that of `generate` is the summary.
abbrev pub sections_of : Command → List Command
sections_of command.Report =
    command.Automaton ∷ command.Monoid ∷ command.Green ∷ command.StarFree ∷ command.Piecewise
    ∷ command.Local ∷ command.RTrivial ∷ command.Commutative ∷ []
sections_of alone = alone ∷ []

-- `report` is no section
abbrev pub is_section : Command → Bool
is_section command.Report = false
is_section alone = true

-- What a section tells: what its answers are, which of them are right, what an answer means
-- in the words of the field, its text, and whether it is a limit.
pub record Telling : Type 1 where
  pub Answer : Type 0
  pub IsRight : Answer → Type 0
  pub Meaning : Answer → Type 0
  pub text : Answer → List ℕ
  pub limited : Answer → Bool

-- A row of the table of sections: what must have been computed for the section, and what it tells,
-- within the limits, of a language over the letters with these signs.
pub record Row : Type 1 where
  pub needs : Needs
  pub telling : Limits → List ℕ → (List ℕ → Type 0) → Telling

abbrev nothing : Needs
nothing = record { elements = false; green = false; table = false }

abbrev the_elements : Needs
the_elements = record { elements = true; green = false; table = false }

abbrev greens_classes : Needs
greens_classes = record { elements = true; green = true; table = false }

abbrev the_table : Needs
the_table = record { elements = true; green = false; table = true }

abbrev all_of_them : Needs
all_of_them = record { elements = true; green = true; table = true }

-- no answer is a limit
abbrev pub never : {A : Type 0} → A → Bool
never answer = false

-- The table of sections. `report` is no section: it has no answer of its own.
abbrev pub row_of : Command → Row
row_of command.Automaton = record {
  needs = nothing;
  telling = λ limits signs L. record {
    Answer = MinimalAutomaton;
    IsRight = IsMinimal (length signs) L;
    Meaning = IsMinimal (length signs) L;
    text = automaton_text signs;
    limited = never;
  };
}
row_of command.Monoid = record {
  needs = the_elements;
  telling = λ limits signs L. record {
    Answer = Presented;
    IsRight = AnswersMonoid (length signs) L;
    Meaning = IsTrueOfMonoid (length signs) L;
    text = λ a. monoid_text signs a.monoid a.rules;
    limited = never;
  };
}
row_of command.Green = record {
  needs = greens_classes;
  telling = λ limits signs L. record {
    Answer = Diagram;
    IsRight = AnswersGreen (length signs) L;
    Meaning = IsTrueOfGreen (length signs) L;
    text = λ a. green_text signs (marked a.monoid.graphs.words a.idempotents) a.boxes;
    limited = never;
  };
}
row_of command.StarFree = record {
  needs = the_table;
  telling = λ limits signs L. record {
    Answer = SfAnswer;
    IsRight = AnswersStarFree limits (length signs) L;
    Meaning = IsTrueOfPowers limits (length signs) L;
    text = star_free_text signs limits.table limits.nodes;
    limited = is_star_free_limit;
  };
}
row_of command.Piecewise = record {
  needs = greens_classes;
  telling = λ limits signs L. record {
    Answer = PtAnswer;
    IsRight = AnswersPiecewise limits (length signs) L;
    Meaning = IsTrueOfSubwords limits (length signs) L;
    text = piecewise_text signs;
    limited = is_piecewise_limit;
  };
}
row_of command.Local = record {
  needs = the_table;
  telling = λ limits signs L. record {
    Answer = LtAnswer;
    IsRight = AnswersLocal limits (length signs) L;
    Meaning = IsTrueOfFactors limits (length signs) L;
    text = local_text signs limits.table;
    limited = is_local_limit;
  };
}
row_of command.RTrivial = record {
  needs = greens_classes;
  telling = λ limits signs L. record {
    Answer = Option PtWitness;
    IsRight = AnswersRTrivial limits (length signs) L;
    Meaning = IsTrueOfRows (length signs) L;
    text = r_trivial_text signs;
    limited = never;
  };
}
row_of command.Commutative = record {
  needs = the_elements;
  telling = λ limits signs L. record {
    Answer = Option CWitness;
    IsRight = IsCommutativeAnswer (length signs) L;
    Meaning = IsTrueOfOrder (length signs) L;
    text = commutative_text signs;
    limited = never;
  };
}
row_of command.Bound = record {
  needs = greens_classes;
  telling = λ limits signs L. record {
    Answer = Bounded;
    IsRight = AnswersBound (length signs) L;
    Meaning = IsTrueOfBound (length signs) L;
    text = λ a. bound_text signs a.monoid.graphs.words a.chain a.trivial;
    limited = never;
  };
}
row_of command.Table = record {
  needs = the_table;
  telling = λ limits signs L. record {
    Answer = Option ProductTable;
    IsRight = AnswersTable limits (length signs) L;
    Meaning = IsTrueOfTable limits (length signs) L;
    text = λ t. section_text t limits.table;
    limited = is_none;
  };
}
row_of command.Generate = record {
  needs = all_of_them;
  telling = λ limits signs L. record {
    Answer = Counted;
    IsRight = AnswersSummary limits (length signs) L;
    Meaning = IsTrueOfSummary limits (length signs) L;
    text = λ a. summary_text a.counts limits.table limits.nodes a.answers;
    limited = λ a. is_summary_limit a.answers;
  };
}
row_of command.Report = record {
  needs = nothing;
  telling = λ limits signs L. record {
    Answer = ⊥;
    IsRight = λ a. ⊥;
    Meaning = λ a. ⊥;
    text = λ a. [];
    limited = never;
  };
}

-- what a section tells of a language
abbrev pub telling_of : Command → Limits → List ℕ → (List ℕ → Type 0) → Telling
telling_of section = (row_of section).telling

-- what a section says: its text, and whether the answer that it tells is a limit
pub record Said : Type 0 where
  pub text : List ℕ
  pub limited : Bool

-- a right answer is told
pub record TellsAnswer (t : Telling) (said : Said) : Type 0 where
  pub answer : t.Answer
  pub right : t.IsRight answer
  pub text : said.text ≡ t.text answer
  pub limited : said.limited ≡ t.limited answer

-- what an answer means is true, and its text is told
pub record TellsTruth (t : Telling) (printed : List ℕ) : Type 0 where
  pub answer : t.Answer
  pub holds : t.Meaning answer
  pub text : printed ≡ t.text answer

-- it is, of a section; what is no section tells nothing
abbrev pub TellsWhere : Bool → Telling → Said → Type 0
TellsWhere true t said = TellsAnswer t said
TellsWhere false t said = ⊥

-- what a section says about the language L over the letters with these signs, within the limits
abbrev pub IsSection : Command → Limits → List ℕ → (List ℕ → Type 0) → Said → Type 0
IsSection section limits signs L said =
    TellsWhere (is_section section) (telling_of section limits signs L) said

-- what each of these sections says, one after another
abbrev pub AreSections : List Command → Limits → List ℕ → (List ℕ → Type 0) → List Said → Type 0
AreSections [] limits signs L [] = ⊤
AreSections [] limits signs L (one ∷ more) = ⊥
AreSections (first ∷ rest) limits signs L [] = ⊥
AreSections (first ∷ rest) limits signs L (one ∷ more) = IsSection first limits signs L one
    × AreSections rest limits signs L more

-- The texts of several sections are joined; one of their answers is a limit, or none.
abbrev pub joined : List Said → Said
joined all = record
    { text = flat_map (λ one. one.text) all; limited = list_any (λ one. one.limited) all }

-- what these sections say together
abbrev pub AreSaid : List Command → Limits → List ℕ → (List ℕ → Type 0) → Said → Type 0
AreSaid sections limits signs L said = (all : List Said) × AreSections sections limits signs L all
    × (said ≡ joined all)

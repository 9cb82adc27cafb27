-- The values that are computed for a request, and what is said of an answer.
use Rattle.std.specs.Prelude.{◌≡◌, ◌≤◌, ℕ, Bool, true, false, List, length, Option, Some, None, IsTrue, ⊤}
use Rattle.std.specs.Bool.{OnTrue}
use Rattle.std.specs.List.{flat_map, list_any}
use Rattle.language_theory.specs.Nerode.{MinimalAutomaton, IsMinimal}
use Rattle.language_theory.specs.ShortlexGraph.{SameNode}
use Rattle.monoid_theory.specs.Presentation.{AreRules}
use Rattle.syntactic_monoid.specs.SyntacticMonoid.{SyntacticMonoid, IsSyntacticMonoid}
use Rattle.star_free_lists.specs.SfList.{most_nodes}
use Rattle.level_search.specs.declared.quotient.TheConstants.{MOST_LEVEL}
use Rattle.level_search.specs.declared.searching.TheConstants.{MOST_PAIRS}
use Rattle.automaton_file.specs.FileText.{SourceText, source_text, language_of}
use Rattle.parallel_table.specs.ProductTables.{ProductTable}
use Rattle.cayley_tables.specs.CayleyGraphs.{CayleyGraphs}
use Rattle.green_relations.specs.GreenClasses.{GreenClasses, AreGreens}
use Rattle.report_text.specs.AutomatonSection.{automaton_text}
use Rattle.report_text.specs.MonoidSection.{monoid_text}
use Rattle.report_text.specs.GreenSection.{AreBoxesToSay, marked, green_text}
use Rattle.report_text.specs.SummarySection.{summary_text}
use Rattle.report_text.specs.StarFreeSection.{IsStarFreeOver, star_free_text, is_star_free_limit}
use Rattle.report_text.specs.PiecewiseSection.{IsPiecewiseOver, IsRTrivialOver, piecewise_text, is_piecewise_limit, r_trivial_text}
use Rattle.report_text.specs.LocalSection.{IsLocalOver, local_text, is_local_limit}
use Rattle.report_text.specs.CommutativeSection.{IsCommutativeOver, commutative_text}
use Rattle.report_text.specs.BoundSection.{IsChainToSay, bound_text}
use Rattle.report_text.specs.TableSection.{section_text}
use Rattle.command_line.specs.declared.commands.Command.{Command}
use Rattle.report_sections.specs.Limits.{Limits, limits_of}
use Rattle.report_sections.specs.RightAnswers.{IsTableWithin, is_summary_limit}
use Rattle.report_sections.specs.Sections.{Said, is_section}
use Rattle.report_sections.specs.CommandNeeds.{needs_of}
use Rattle.report_sections.specs.declared.answering.Values as code
use Rattle.report_sections.specs.declared.answering.Answer.{Answer}
use Rattle.report_sections.specs.declared.answering.Answer.TheVariants as answer

-- what is computed once for the sections of a request: its limits, a source, its minimal automaton,
-- its syntactic monoid and Green's classes if the command needs them, and the table of its products
-- if the command needs it and the monoid is within the limit
pub record Values : Type 0 where
  pub limits : Limits
  pub source : SourceText
  pub automaton : MinimalAutomaton
  pub monoid : Option SyntacticMonoid
  pub green : Option GreenClasses
  pub table : Option ProductTable

-- what the code lends to the sections, as values
abbrev pub values_of : code.Values → Values
values_of v = record {
  limits = limits_of v.request.now;
  source = source_text v.source.now;
  automaton = v.dfa.now;
  monoid = v.monoid.now;
  green = v.green.now;
  table = v.table.now;
}

-- m is the syntactic monoid of the source's language
abbrev pub IsMonoidOf : Values → SyntacticMonoid → Type 0
IsMonoidOf v m = IsSyntacticMonoid (length v.source.letters) (language_of v.source) m

-- the values are those of the source's language, and the limits are in their ranges
pub record AreValues (v : Values) : Type 0 where
  pub some_level : 1 ≤ v.limits.level
  pub level : v.limits.level ≤ MOST_LEVEL
  pub pairs : v.limits.pairs ≤ MOST_PAIRS
  pub nodes : v.limits.nodes ≤ most_nodes
  pub minimal : IsMinimal (length v.source.letters) (language_of v.source) v.automaton
  pub syntactic : (m : SyntacticMonoid) → v.monoid ≡ Some m → IsMonoidOf v m

-- the monoid is there
abbrev pub HasElements : Values → Type 0
HasElements v = (m : SyntacticMonoid) × (v.monoid ≡ Some m)

-- the monoid is there, and the table of its products, or none where it is above the limit
pub record HasTable (v : Values) : Type 0 where
  pub monoid : SyntacticMonoid
  pub there : v.monoid ≡ Some monoid
  pub table : IsTableWithin v.limits.table (SameNode monoid.graphs.right) monoid.graphs.words v.table

-- g has Green's classes of the monoid with these graphs
abbrev pub AreGreensOf : CayleyGraphs → GreenClasses → Type 0
AreGreensOf c g = AreGreens c.right.letters (SameNode c.right) c.words g

-- Green's classes are there, of the monoid with these graphs
abbrev pub AreClassesOf : CayleyGraphs → Option GreenClasses → Type 0
AreClassesOf c green = (g : GreenClasses) × (green ≡ Some g) × AreGreensOf c g

-- the monoid is there, and Green's classes of it
pub record HasGreen (v : Values) : Type 0 where
  pub monoid : SyntacticMonoid
  pub there : v.monoid ≡ Some monoid
  pub classes : AreClassesOf monoid.graphs v.green

-- it is a section, and what it needs is there
abbrev pub HasNeeds : Values → Command → Type 0
HasNeeds v s = IsTrue (is_section s) × OnTrue (needs_of s).elements (HasElements v)
    × OnTrue (needs_of s).green (HasGreen v) × OnTrue (needs_of s).table (HasTable v)

-- the monoid is over the letters with these signs, and the rules are its own
pub record ArePresented (signs : List ℕ) (m : SyntacticMonoid) (rules : List (List ℕ × ℕ)) : Type 0
  where
    pub letters : m.graphs.right.letters ≡ length signs
    pub own : AreRules (length signs) (SameNode m.graphs.right) m.graphs.words rules

-- How an answer is said: its text, of a language over the letters with these signs and within the
-- limits; whether it is a limit; and when its parts belong together, over those letters.
pub record Saying : Type 1 where
  pub text : List ℕ → Limits → List ℕ
  pub limited : Bool
  pub Fits : List ℕ → Type 0

-- the table of answers
abbrev pub saying_of : Answer → Saying
saying_of (answer.Automaton d) = record {
  text = λ signs limits. automaton_text signs d.now;
  limited = false;
  Fits = λ signs. d.now.graph.letters ≡ length signs;
}
saying_of (answer.Monoid m rules) = record {
  text = λ signs limits. monoid_text signs m.now rules;
  limited = false;
  Fits = λ signs. ArePresented signs m.now rules;
}
saying_of (answer.Green m g boxes) = record {
  text = λ signs limits. green_text signs (marked m.now.graphs.words g.now.idempotents) boxes;
  limited = false;
  Fits = λ signs. AreBoxesToSay signs m.now.graphs g.now boxes;
}
saying_of (answer.StarFree a) = record {
  text = λ signs limits. star_free_text signs limits.table limits.nodes a;
  limited = is_star_free_limit a;
  Fits = λ signs. IsStarFreeOver (length signs) a;
}
saying_of (answer.Piecewise a) = record {
  text = λ signs limits. piecewise_text signs a;
  limited = is_piecewise_limit a;
  Fits = λ signs. IsPiecewiseOver (length signs) a;
}
saying_of (answer.Local a) = record {
  text = λ signs limits. local_text signs limits.table a;
  limited = is_local_limit a;
  Fits = λ signs. IsLocalOver (length signs) a;
}
saying_of (answer.RTrivial a) = record {
  text = λ signs limits. r_trivial_text signs a;
  limited = false;
  Fits = λ signs. IsRTrivialOver (length signs) a;
}
saying_of (answer.Commutative a) = record {
  text = λ signs limits. commutative_text signs a;
  limited = false;
  Fits = λ signs. IsCommutativeOver (length signs) a;
}
saying_of (answer.Bound m chain trivial) = record {
  text = λ signs limits. bound_text signs m.now.graphs.words chain trivial;
  limited = false;
  Fits = λ signs. IsChainToSay signs m.now.graphs chain;
}
saying_of (answer.Table t) = record {
  text = λ signs limits. section_text (Some t.now) limits.table;
  limited = false;
  Fits = λ signs. ⊤;
}
saying_of answer.TableLimit = record {
  text = λ signs limits. section_text None limits.table;
  limited = true;
  Fits = λ signs. ⊤;
}
saying_of (answer.Summary counts a) = record {
  text = λ signs limits. summary_text counts limits.table limits.nodes a;
  limited = is_summary_limit a;
  Fits = λ signs. ⊤;
}

-- the text of an answer, of a language over the letters with these signs
abbrev pub text_of : List ℕ → Limits → Answer → List ℕ
text_of signs limits a = (saying_of a).text signs limits

-- whether an answer is a limit
abbrev pub is_limit : Answer → Bool
is_limit a = (saying_of a).limited

-- the parts of an answer belong together, and its letters are those with these signs
abbrev pub IsSayable : List ℕ → Answer → Type 0
IsSayable signs a = (saying_of a).Fits signs

-- what the section of an answer says
abbrev pub said_of : List ℕ → Limits → Answer → Said
said_of signs limits a = record { text = text_of signs limits a; limited = is_limit a }

-- what the sections of several answers say, one after another
abbrev pub said_of_all : List ℕ → Limits → List Answer → Said
said_of_all signs limits answers = record
    { text = flat_map (text_of signs limits) answers; limited = list_any is_limit answers }

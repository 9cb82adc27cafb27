-- The worked file, read by computation.
use Rattle.std.proofs.Common.{◌≡◌, ◌≤◌, [], length, refl, arith}
use Rattle.std.specs.Prelude.{Some, None}
use Rattle.language_theory.specs.Automaton.{steps_where}
use Rattle.automaton_file.specs.declared.sources.Wrong.TheVariants.{State}
use Rattle.automaton_file.specs.LineText.{text_lines, fields, parts, number_below}
use Rattle.automaton_file.specs.FileText.{most_bytes, IsSource, IsRefusal}
use Rattle.automaton_file.specs.Reading.{first_fault, ReadsSource}
use Rattle.automaton_file.specs.Examples.{worked_text, worked_source, refused_text}
use Rattle.automaton_file.proofs.WellSpelled.{well_spelled}
use Rattle.automaton_file.proofs.Refusals.{fault_refusal}
use Rattle.automaton_file.proofs.ReadSources.{read_is_source}

worked_passes : first_fault [] 1 (text_lines worked_text) ≡ None
unfolding text_lines fields number_below
worked_passes = refl

worked_reads : ReadsSource (parts (text_lines worked_text)) worked_source
unfolding text_lines fields number_below steps_where
worked_reads = (refl, (refl, refl))

pub worked_is_source : IsSource worked_text worked_source
worked_is_source =
    let size : length worked_text ≤ most_bytes = omega arith in
    read_is_source worked_text worked_source
    (record {
      short = size;
      spelled = well_spelled (text_lines worked_text) worked_passes;
      same = worked_reads;
    })

refused_fails : first_fault [] 1 (text_lines refused_text) ≡ Some (5, State)
unfolding text_lines fields number_below
refused_fails = refl

pub refused_is_refused : IsRefusal refused_text 5 5
refused_is_refused = let size : length refused_text ≤ most_bytes = omega arith in
    fault_refusal refused_text 5 5 State size refused_fails refl

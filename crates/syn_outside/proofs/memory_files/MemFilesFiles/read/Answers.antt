use Rattle.std.proofs.Common.{◌≡◌, ◌≤◌, length, drop, ap, ◌∙◌, arith, length-append}
use Rattle.std.proofs.lemmas.Grind.{common_steps}
use Rattle.std.proofs.lemmas.List.{length-take}
use Rattle.syn_outside.specs.FilesInMemory.{bytes_left}
use Rattle.syn_outside.proofs.Giving.{gives_next}
use Rattle.syn_outside.proofs.memory_files.MemFilesFiles.read.Goals as goal

-- at least one byte is given, no more than there is room for, and they are the next
pub returns-clause-got : goal.returns-clause-got
returns-clause-got c =
    let left = c.split_at.result.1.now in
    let n = c.min-n.result in
    let rest : left ≡ drop c.unwrap-read.result c.self.inside.bytes.items =
    c.split_at.ensures.back ∙ ap (drop c.unwrap-read.result) c.deref.ensures.value in
    let same : bytes_left c.args.self.now ≡ left = grind (arith, common_steps) in
    let some : 1 ≤ n = grind (arith, common_steps) in
    let fits : n ≤ length c.copy_from_slice.new.self =
    omega (arith, length-take n c.args.into.now) in
    let within : n ≤ length left = omega arith in (
      some,
      omega (arith, length-append c.copy_from_slice.new.self (drop n c.args.into.now)),
      same ∙ gives_next c.self.inside.bytes.items left c.copy_from_slice.new.self
          (drop n c.args.into.now) c.unwrap-read.result n rest c.copy_from_slice.ensures.after
          within,
    )

use Rattle.std.proofs.Common.{◌≡◌, ◌∙◌, length, slice_index, ap, subst, arith, refl, sym}
use Rattle.parallel_table.specs.ProductTables.{cell}
use Rattle.star_free_theory.specs.StarFree.{IsStarFreeList}
use Rattle.star_free_theory.specs.Construction.{done, DenotesFinals}
use Rattle.star_free_lists.specs.SfList.{StarFreeList, AreLettersBelow}
use Rattle.star_free_lists.specs.Pruning.{AreDistinct}
use Rattle.local_divisors.specs.Instances.{Multiplication}
use Rattle.local_divisors.specs.Constructing.{algebra_of, most_depth}
use Rattle.local_divisors.proofs.WholeMonoid.{stops_answer, stops_last, whole, is_multiplication}
use Rattle.local_divisors.proofs.WholeMonoid.{after_letters, after_elements, denotes, is_list}
use Rattle.local_divisors.proofs.WholeMonoid.{is_small_list, whole_flat}
use Rattle.local_divisors.proofs.WholeSteps.{letters_long, letters_within, ready, letters_step}
use Rattle.local_divisors.proofs.WholeSteps.{from_letters, elements_step, shown, from_elements}
use Rattle.local_divisors.proofs.WholeSteps.{from_finals}
use Rattle.local_divisors.proofs.Distinct.{distinct_constructed}
use Rattle.local_divisors.proofs.Letters.{letters_constructed}
use Rattle.local_divisors.proofs.constructing.construct.Goals as goal

pub letter_nodes-requires-clause-few : goal.letter_nodes-requires-clause-few
letter_nodes-requires-clause-few c =
    let long = letters_long (length c.args.images.now) c.as_slice.result.now
    (c.as_slice.ensures.value ∙ c.in_ok-letters.ensures) in
    let few = c.requires.letters in
    omega arith

pub letter_nodes-requires-clause-within : goal.letter_nodes-requires-clause-within
letter_nodes-requires-clause-within c =
    letters_within (length c.args.images.now) c.as_slice.result.now
    (c.as_slice.ensures.value ∙ c.in_ok-letters.ensures)

pub returns-in_err-nodes-clause-answer : goal.returns-in_err-nodes-clause-answer
returns-in_err-nodes-clause-answer c =
    let t = c.args.table.now in
    let images = c.args.images.now in
    let fs = c.args.finals.now in
    let most = c.args.max_nodes in
    let h = c.requires in
    let ls = c.as_slice.ensures.value ∙ c.in_ok-letters.ensures in
    let xs = c.as_slice.result.now in
    let start = c.in_ok-list.list in
    let begins = c.in_ok-list.ensures in
    stops_answer (letters_step t images fs most h xs start ls begins) (after_letters t images fs most h)
    (whole t images fs most h) c.in_err-nodes.field-0.0 _
    (from_letters t images fs most h xs start ls begins)
    c.in_err-nodes.ensures.table c.from_residual-in_err-nodes.ensures.1

pub whole_product-requires : goal.whole_product-requires
whole_product-requires c =
    is_multiplication c.args.table.now c.args.images.now c.args.finals.now c.args.max_nodes
    c.requires

pub treat-requires : goal.treat-requires
treat-requires c =
    let ls = c.as_slice.ensures.value ∙ c.in_ok-letters.ensures in
    ready c.args.table.now c.args.images.now c.args.finals.now c.args.max_nodes c.requires
    c.in_ok-nodes.nodes.items c.in_ok-task.task c.in_ok-product.product
    (c.in_ok-nodes.ensures.long
    ∙ letters_long (length c.args.images.now) c.as_slice.result.now ls)
    (rw (c.in_ok-task.ensures, c.in_ok-letters.ensures) refl) c.in_ok-product.ensures

pub returns-in_err-table-clause-answer : goal.returns-in_err-table-clause-answer
returns-in_err-table-clause-answer c =
    let t = c.args.table.now in
    let images = c.args.images.now in
    let fs = c.args.finals.now in
    let most = c.args.max_nodes in
    let h = c.requires in
    let ls = c.as_slice.ensures.value ∙ c.in_ok-letters.ensures in
    let xs = c.as_slice.result.now in
    let start = c.in_ok-list.list in
    let begins = c.in_ok-list.ensures in
    let one = c.letter_nodes.new.list in
    let ns = c.in_ok-nodes.nodes.items in
    let w = c.in_ok-nodes.ensures.table in
    let task = c.in_ok-task.task in
    let product = c.in_ok-product.product in
    let long = c.in_ok-nodes.ensures.long ∙ letters_long (length images) xs ls in
    let ti : task ≡ whole_flat t images fs most h ns =
    rw (c.in_ok-task.ensures, c.in_ok-letters.ensures) refl in
    stops_answer (elements_step t images fs most h xs start ls begins one ns task product w ti)
    (after_elements t images fs most h) (whole t images fs most h) c.in_err-table.field-0.0 _
    (from_elements t images fs most h xs start ls begins one ns task product w ti)
    (c.in_err-table.ensures.table (cell t) (slice_index images) w.0
    (shown t images fs most h xs start ls begins one ns task product w ti long c.in_ok-product.ensures))
    c.from_residual-in_err-table.ensures.1

pub join_finals-requires : goal.join_finals-requires
join_finals-requires c =
    let lt : length c.in_ok-table.table.items ≡ c.args.table.now.side =
    c.in_ok-table.ensures.long
    ∙ ap (λ (p : Multiplication). p.table.side) c.in_ok-product.ensures in
    rw (c.as_slice-2.ensures.value, lt) c.requires.within

pub returns-in_err-root-clause-answer : goal.returns-in_err-root-clause-answer
returns-in_err-root-clause-answer c =
    let t = c.args.table.now in
    let images = c.args.images.now in
    let fs = c.args.finals.now in
    let most = c.args.max_nodes in
    let h = c.requires in
    let ls = c.as_slice.ensures.value ∙ c.in_ok-letters.ensures in
    let xs = c.as_slice.result.now in
    let start = c.in_ok-list.list in
    let begins = c.in_ok-list.ensures in
    let one = c.letter_nodes.new.list in
    let ns = c.in_ok-nodes.nodes.items in
    let w = c.in_ok-nodes.ensures.table in
    let task = c.in_ok-task.task in
    let product = c.in_ok-product.product in
    let long = c.in_ok-nodes.ensures.long ∙ letters_long (length images) xs ls in
    let ti : task ≡ whole_flat t images fs most h ns =
    rw (c.in_ok-task.ensures, c.in_ok-letters.ensures) refl in
    let z = c.in_ok-table.ensures.table (cell t) (slice_index images) w.0
    (shown t images fs most h xs start ls begins one ns task product w ti long c.in_ok-product.ensures)
    in
    let lt = c.in_ok-table.ensures.long
    ∙ ap (λ (p : Multiplication). p.table.side) c.in_ok-product.ensures in
    stops_last _ (whole t images fs most h) c.in_err-root.field-0.0 _
    (from_finals t images fs most h xs start ls begins one ns task product w ti c.treat.new.list
    c.in_ok-table.table.items lt z c.as_slice-2.result.now c.as_slice-2.ensures.value)
    c.in_err-root.ensures c.from_residual-in_err-root.ensures.1

pub with_root-requires : goal.with_root-requires
with_root-requires c =
    let t = c.args.table.now in
    let images = c.args.images.now in
    let fs = c.args.finals.now in
    let most = c.args.max_nodes in
    let h = c.requires in
    let ls = c.as_slice.ensures.value ∙ c.in_ok-letters.ensures in
    let xs = c.as_slice.result.now in
    let start = c.in_ok-list.list in
    let begins = c.in_ok-list.ensures in
    let one = c.letter_nodes.new.list in
    let ns = c.in_ok-nodes.nodes.items in
    let w = c.in_ok-nodes.ensures.table in
    let task = c.in_ok-task.task in
    let product = c.in_ok-product.product in
    let long = c.in_ok-nodes.ensures.long ∙ letters_long (length images) xs ls in
    let ti : task ≡ whole_flat t images fs most h ns =
    rw (c.in_ok-task.ensures, c.in_ok-letters.ensures) refl in
    let z = c.in_ok-table.ensures.table (cell t) (slice_index images) w.0
    (shown t images fs most h xs start ls begins one ns task product w ti long c.in_ok-product.ensures)
    in
    let lt = c.in_ok-table.ensures.long
    ∙ ap (λ (p : Multiplication). p.table.side) c.in_ok-product.ensures in
    is_small_list t images fs most h (c.join_finals.new.self, c.in_ok-root.root)
    (from_finals t images fs most h xs start ls begins one ns task product w ti c.treat.new.list
    c.in_ok-table.table.items lt z c.as_slice-2.result.now c.as_slice-2.ensures.value
    ∙ c.in_ok-root.ensures)

pub returns : goal.returns
returns c =
    let t = c.args.table.now in
    let images = c.args.images.now in
    let fs = c.args.finals.now in
    let most = c.args.max_nodes in
    let h = c.requires in
    let ls = c.as_slice.ensures.value ∙ c.in_ok-letters.ensures in
    let xs = c.as_slice.result.now in
    let start = c.in_ok-list.list in
    let begins = c.in_ok-list.ensures in
    let one = c.letter_nodes.new.list in
    let ns = c.in_ok-nodes.nodes.items in
    let w = c.in_ok-nodes.ensures.table in
    let task = c.in_ok-task.task in
    let product = c.in_ok-product.product in
    let long = c.in_ok-nodes.ensures.long ∙ letters_long (length images) xs ls in
    let ti : task ≡ whole_flat t images fs most h ns =
    rw (c.in_ok-task.ensures, c.in_ok-letters.ensures) refl in
    let z = c.in_ok-table.ensures.table (cell t) (slice_index images) w.0
    (shown t images fs most h xs start ls begins one ns task product w ti long c.in_ok-product.ensures)
    in
    let lt = c.in_ok-table.ensures.long
    ∙ ap (λ (p : Multiplication). p.table.side) c.in_ok-product.ensures in
    let three = c.join_finals.new.self in
    let root = c.in_ok-root.root in
    let made : whole t images fs most h ≡ done (three, root) =
    from_finals t images fs most h xs start ls begins one ns task product w ti c.treat.new.list
    c.in_ok-table.table.items lt z c.as_slice-2.result.now c.as_slice-2.ensures.value
    ∙ c.in_ok-root.ensures in
    let plain : StarFreeList = record { nodes = three; root = root } in
    let back : plain ≡ c.in_ok-made.made = sym c.in_ok-made.ensures in
    record {
      answer = subst (λ (l : StarFreeList). whole t images fs most h ≡ done (l.nodes, l.root)) back
          made;
      words = subst (λ (l : StarFreeList). DenotesFinals (length images) (algebra_of t images) fs l.nodes
          l.root) back (denotes t images fs most h (three, root) made);
      list = subst (λ (l : StarFreeList). IsStarFreeList l.nodes l.root) back
          (is_list t images fs most h (three, root) made);
      distinct = subst (λ (l : StarFreeList). AreDistinct l.nodes) back
          (distinct_constructed most most_depth (length images) (algebra_of t images) fs (three, root)
          made);
      letters = subst (λ (l : StarFreeList). AreLettersBelow (length images) l.nodes) back
          (letters_constructed (length images) most most_depth (algebra_of t images) fs three root made);
    }

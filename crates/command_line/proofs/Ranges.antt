-- The range of each number of a request.
use Rattle.std.proofs.Common.{◌≡◌, ◌≤◌, ℕ, arith}
use Rattle.command_line.specs.declared.commands.Command.TheVariants.{Generate}
use Rattle.command_line.specs.declared.request.Request.{Request}
use Rattle.command_line.specs.Tables.{NumberOption, IsWithin, option_at, least_size, most_size}
use Rattle.command_line.specs.Line.{IsInRange}

both : (option : NumberOption) (n : ℕ) → IsWithin option n → (option.least ≤ n) × (n ≤ option.most)
both option n h = (h.least, h.most)

pub subsets_within : (r : Request) → IsInRange r → (1 ≤ r.subsets) × (r.subsets ≤ 4096)
subsets_within r h = both (option_at 0) r.subsets (h.numbers 0 (omega arith))

pub elements_within : (r : Request) → IsInRange r → (1 ≤ r.elements) × (r.elements ≤ 50000)
elements_within r h = both (option_at 1) r.elements (h.numbers 1 (omega arith))

pub table_within : (r : Request) → IsInRange r → (1 ≤ r.table) × (r.table ≤ 8000)
table_within r h = both (option_at 2) r.table (h.numbers 2 (omega arith))

pub nodes_within : (r : Request) → IsInRange r → (1 ≤ r.nodes) × (r.nodes ≤ 1000000)
nodes_within r h = both (option_at 3) r.nodes (h.numbers 3 (omega arith))

pub level_within : (r : Request) → IsInRange r → (1 ≤ r.level) × (r.level ≤ 12)
level_within r h = both (option_at 4) r.level (h.numbers 4 (omega arith))

pub pairs_within : (r : Request) → IsInRange r → (1 ≤ r.pairs) × (r.pairs ≤ 100000)
pairs_within r h = both (option_at 5) r.pairs (h.numbers 5 (omega arith))

pub workers_within : (r : Request) → IsInRange r → (1 ≤ r.workers) × (r.workers ≤ 64)
workers_within r h = both (option_at 6) r.workers (h.numbers 6 (omega arith))

pub size_within : (r : Request) → IsInRange r → r.command ≡ Generate
    → (least_size ≤ r.size) × (r.size ≤ most_size)
size_within r h = h.size

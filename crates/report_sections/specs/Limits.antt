-- The numbers within which the sections answer.
use Rattle.std.specs.Prelude.{ℕ}
use Rattle.command_line.specs.declared.request.Request.{Request}

-- the size of a generated file, and the limits of a request
pub record Limits : Type 0 where
  pub size : ℕ
  pub subsets : ℕ
  pub elements : ℕ
  pub table : ℕ
  pub nodes : ℕ
  pub level : ℕ
  pub pairs : ℕ

-- those of a request; its number of workers is none of them
abbrev pub limits_of : Request → Limits
limits_of r = record {
  size = r.size;
  subsets = r.subsets;
  elements = r.elements;
  table = r.table;
  nodes = r.nodes;
  level = r.level;
  pairs = r.pairs;
}

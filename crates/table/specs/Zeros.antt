-- Loaded memory that nothing is loaded into.
use Rattle.std.specs.Prelude.{false, None, replicate}
use Rattle.table.specs.declared.loaded.Row.{Row}
use Rattle.table.specs.declared.loaded.Rule.{Rule}
use Rattle.table.specs.declared.loaded.StartRows.{StartRows}
use Rattle.table.specs.declared.loaded.Loaded.{Loaded}

unfoldable pub no_row : Row
no_row = record { next = replicate 256 0; ends = 0; slashes = 0 }

unfoldable pub no_rule : Rule
no_rule = record {
  conditions = record { words = replicate 1 0 };
  anchored = false;
  trail = 0;
  steps
      = replicate 10 None;
}

unfoldable pub no_start : StartRows
no_start = record { inside = 0; at_line_start = 0 }

unfoldable pub zeros : Loaded
zeros = record {
  rules = replicate 64 no_rule;
  starts = replicate 8 no_start;
  rule_count = 0;
  condition_count = 0;
  row_count = 0;
}

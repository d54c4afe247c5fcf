-- The first section, as its loop reads declaration after declaration.
use Rattle.std.proofs.Common.{◌≡◌}
use Rattle.grammar.specs.Conditions.{Conditions, only_initial}
use Rattle.grammar.specs.File.{first_section}
use Rattle.loader.specs.declared.lines.TextLines.{TextLines}
use Rattle.loader.specs.Lines.{left}

-- declarations that are read of the lines of s, with those of u left
pub record Declaring (s u : TextLines) (c : Conditions) : Type 0 where
  pub same : u.file.now ≡ s.file.now
  pub rest : first_section s.file.now c (left u) ≡ first_section s.file.now only_initial (left s)

-- The lines of a file, as the code gives them one after another.
use Rattle.std.specs.Prelude.{◌≡◌, ℕ, ◌+◌, ◌≤◌, Bool, ◌&&◌, List, [], ◌∷◌, length, Option, MatchOption, ◌==◌}
use Rattle.std.specs.Str.{byte}
use Rattle.grammar.specs.Bytes.{stands}
use Rattle.grammar.specs.Lines.{Line, lines_from, text_of}
use Rattle.loader.specs.declared.lines.TextLine.{TextLine}
use Rattle.loader.specs.declared.lines.TextLines.{TextLines}

-- the lines that are left
abbrev pub left : TextLines → List Line
left s = lines_from (length s.file.now) s.file.now s.at

-- x is the line l of the file
pub record IsLine (file : List ℕ) (l : Line) (x : TextLine) : Type 0 where
  pub within : l.end ≤ length file
  pub text : x.text.now ≡ text_of file l
  pub start : x.start ≡ l.start

-- a call gives the first of the lines that are left, and leaves the others, of the same file
pub record Gives (s : TextLines) (r : Option TextLine) (t : TextLines) : Type 0 where
  pub file : t.file.now ≡ s.file.now
  pub first : MatchOption r ((left s ≡ []) × (left t ≡ []))
      (λ x. (l : Line) × (left s ≡ l ∷ left t) × IsLine s.file.now l x)

-- a text that ends in `%%` where the line starts
abbrev pub divides_in : List ℕ → ℕ → Bool
divides_in text start =
    length text == start + 2 && (stands text start (byte "%") && stands text (start + 1) (byte "%"))

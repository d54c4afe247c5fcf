-- The numbers that the reasons of refusals are reported by.
use Rattle.std.specs.Prelude.{ℕ}
use Rattle.source.specs.Moves.{number_of as number_of_source}
use Rattle.reader.specs.declared.fault.ScanFault.{ScanFault}
use Rattle.reader.specs.declared.fault.ScanFault.TheVariants.{ShortStrip, NothingLeft, NoneFollows, NotBetween, TooLong, NoCondition, Source as OfSource}

abbrev pub number_of : ScanFault → ℕ
number_of ShortStrip = 20
number_of NothingLeft = 21
number_of NoneFollows = 22
number_of NotBetween = 23
number_of TooLong = 24
number_of NoCondition = 25
number_of (OfSource fault) = number_of_source fault

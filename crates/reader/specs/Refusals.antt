-- Why a call of a reader is refused; None where it is granted.
use Rattle.std.specs.Prelude.{ℕ, ◌+◌, ◌-◌, ◌&&◌, List, length, Some, None, Option, if◌then◌else◌, nat_lt, nat_le}
use Rattle.source.specs.Reach.{seen_of}
use Rattle.source.specs.declared.SourceFault.TheVariants.{PastEnd, NoSlack}
use Rattle.places.specs.declared.Reading.{Reading}
use Rattle.reader.specs.declared.fault.ScanFault.{ScanFault}
use Rattle.reader.specs.declared.fault.ScanFault.TheVariants.{ShortStrip, NothingLeft, NoneFollows, NotBetween, TooLong, NoCondition, Source as OfSource}

-- next, where the strip is of so many bytes: the strip comes first, and then what is left
abbrev pub next_refusal : ℕ → List ℕ → Option ScanFault
next_refusal strip rest =
    if nat_lt strip 4096 then Some ShortStrip
    else (if nat_lt 0 (length rest) then None else Some NothingLeft)

-- where nothing follows
abbrev pub none_follows : Option Reading → Option ScanFault
none_follows None = Some NoneFollows
none_follows (Some reading) = None

-- reject, where this is the reading that follows
abbrev pub reject_refusal : ℕ → Option Reading → Option ScanFault
reject_refusal strip following =
    if nat_lt strip 4096 then Some ShortStrip else none_follows following

-- n bytes are taken only where so many are seen
abbrev pub take_refusal : List ℕ → ℕ → Option ScanFault
take_refusal rest n = if nat_le n (seen_of rest) then None else Some (OfSource PastEnd)

-- keep, where so many bytes are kept and in hand
abbrev pub keep_refusal : ℕ → ℕ → ℕ → List ℕ → Option ScanFault
keep_refusal kept head n rest =
    if nat_lt kept n && nat_le n (kept + head) then take_refusal rest (n - kept)
    else Some NotBetween

-- extend: the text may have 3,072 bytes at most
abbrev pub extend_refusal : ℕ → ℕ → List ℕ → Option ScanFault
extend_refusal kept head rest =
    if nat_le (kept + head) 3072 then take_refusal rest head else Some TooLong

-- begin, of a table with so many conditions
abbrev pub begin_refusal : ℕ → ℕ → Option ScanFault
begin_refusal conditions condition =
    if nat_lt condition conditions then None else Some NoCondition

-- a byte is put back only where there is slack
abbrev pub return_refusal : ℕ → Option ScanFault
return_refusal slack = if nat_lt 0 slack then None else Some (OfSource NoSlack)

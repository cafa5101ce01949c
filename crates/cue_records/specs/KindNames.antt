-- The names of what is wrong with a record.
use Rattle.std.specs.Prelude.{ℕ, List, codes}
use Rattle.cue_records.specs.declared.fault.ScriptKind.{ScriptKind}
use Rattle.cue_records.specs.declared.fault.ScriptKind.TheVariants.{NotUtf8, Unknown, Count, Number, Range, Order, DoubleRegion, RegionsMeet, RegionOutside, NoRegion, NoPicture, CodeRange, CueOutside, OutsideEpoch, EmptySpan, TooClose, TooLong, TooMany, Glyph}

-- the kind's name
abbrev pub kind_name : ScriptKind → List ℕ
kind_name NotUtf8 = codes "NotUtf8"
kind_name Unknown = codes "Unknown"
kind_name Count = codes "Count"
kind_name Number = codes "Number"
kind_name Range = codes "Range"
kind_name Order = codes "Order"
kind_name DoubleRegion = codes "DoubleRegion"
kind_name RegionsMeet = codes "RegionsMeet"
kind_name RegionOutside = codes "RegionOutside"
kind_name NoRegion = codes "NoRegion"
kind_name NoPicture = codes "NoPicture"
kind_name CodeRange = codes "CodeRange"
kind_name CueOutside = codes "CueOutside"
kind_name OutsideEpoch = codes "OutsideEpoch"
kind_name EmptySpan = codes "EmptySpan"
kind_name TooClose = codes "TooClose"
kind_name TooLong = codes "TooLong"
kind_name TooMany = codes "TooMany"
kind_name (Glyph character) = codes "Glyph"

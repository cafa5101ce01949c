use Rattle.std.proofs.Common.{◌≡◌, length}
use Rattle.cue_list.specs.Planes.{HasDefaults}
use Rattle.cue_list.proofs.painting.default_entries.Given as goal

abbrev pub invariant-loop-code : goal.invariant-loop-code
invariant-loop-code l = record { full : length l.entries ≡ 256; defaults : HasDefaults l.depth l.code l.entries }

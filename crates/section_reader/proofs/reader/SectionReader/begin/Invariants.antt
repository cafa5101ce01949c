use Rattle.std.proofs.Common.{◌≡◌, length, None}
use Rattle.section_reader.specs.Private.Following.{HasFollowed}
use Rattle.section_reader.proofs.reader.SectionReader.begin.Given as goal

abbrev pub invariant-loop-rest : goal.invariant-loop-rest
invariant-loop-rest g l =
    record {
      same : l.self ≡ record l.fn.self { hand = None };
      followed : HasFollowed g.T.SectionTaker.stands g.T.SectionTaker.kept l.fn.taker l.taker l.fn.bytes l.rest;
    }

abbrev pub decreases-loop-rest : goal.decreases-loop-rest
decreases-loop-rest g l = length l.rest

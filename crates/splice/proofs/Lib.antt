pub mod KeptPasts
pub mod FrontSets
pub mod SplicedSets
pub mod OutPast
pub mod SentSpliced
pub mod SplicedShown
pub mod JoinedViews
pub mod ShownSpliced
-- The segments of a set, one after the other.
pub mod WalkLaws
-- The PES packets of a set.
pub mod SendingLaws
-- The sets that are sent.
pub mod JoinedLaws
-- Losses among packets and among sets.
pub mod LossLaws
-- Times of kept sets.
pub mod TimeLaws
-- A set that is ready.
pub mod PreparedLaws
-- What is found of a stream with one more set.
pub mod ReadLaws
-- A set that is taken.
pub mod StepLaws
-- A packet that is taken.
pub mod PacketLaws
-- The joined streams, sent.
pub mod SentPackets
-- How the tool ends.
pub mod TopLaws
-- A stream gone through to its end.
pub mod SurveyLaws
-- A stream gone through as it is read.
pub mod InputLaws
-- Why streams are not joined.
pub mod RefusalLaws

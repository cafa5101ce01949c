-- What a command tells, by the end of its walk: the laws of `packet_walk`.
pub use Rattle.packet_walk.proofs.FinishLaws.{finished_before, finished_whole}

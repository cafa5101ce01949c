use Rattle.std.proofs.Common.{◌∙◌, ap}
use Rattle.decoder_model.specs.Arrivals.{arrivals_of}
use Rattle.decoder_model.specs.Sets.{sets_in, runs_of}
use Rattle.display_sets.proofs.PacketLaws.{sets_of_packets, ended_packets}
use Rattle.display_sets.proofs.laws.sets_of_arrivals.Goals as goal

pub returns : goal.returns
returns c = λ coded. λ pid. λ pages. λ ended. λ packets. λ taken.
    sets_of_packets coded pid pages ended packets
    ∙ ap (λ all. sets_in coded all (runs_of (arrivals_of coded pid pages packets)))
    (ended_packets ended pid packets taken)

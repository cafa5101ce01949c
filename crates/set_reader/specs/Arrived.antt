-- What the last packet brought to the coded data buffer of a receiver.
use Rattle.decoder_model.specs.PacketArrivals.{PacketArrival}
use Rattle.set_reader.specs.declared.arrival.Arrival.{Arrival}

-- what is told, as the definition of levels has it
abbrev pub arrival_value : Arrival → PacketArrival
arrival_value arrival = record { bytes = arrival.bytes; before = arrival.before; dropped = arrival.dropped }

-- Display sets cut into transport packets (ISO/IEC 13818-1, 2.4.3.2: 184 bytes after a header of four). A set is sent
-- in units, the PES packets of its segments: each begins a packet of its own.
use Rattle.std.specs.Prelude.{ℕ, ◌+◌, ◌-◌, ◌*◌, ◌/◌, min, sum, map, List, [], length, slice_index, slice_index_or}
use Rattle.std.specs.List.{range_with_len, flat_map}
use Rattle.sub_base.specs.declared.load.SetLoad.{SetLoad}
use Rattle.sub_base.specs.declared.load.WriteLoad.{WriteLoad}
use Rattle.stream_syntax.specs.declared.wire.TheConstants.{PAYLOAD_LENGTH}
use Rattle.stream_syntax.specs.TransportPackets.{packet_count}

-- the sum of f at the numbers below n
unfoldable pub sum_below : (ℕ → ℕ) → ℕ → ℕ
sum_below f n = sum (map f (range_with_len 0 n))

-- what sending no set takes
abbrev pub no_load : WriteLoad
no_load = record { load = record { pts = 0; size = 0; painted = 0 }; longest = 0; units = [] }

-- the load of set i, from 0
abbrev pub load_of : List WriteLoad → ℕ → SetLoad
load_of loads i = (slice_index_or loads i no_load).load

-- the bytes of the longest segment of set i
abbrev pub longest_of : List WriteLoad → ℕ → ℕ
longest_of loads i = (slice_index_or loads i no_load).longest

-- the bytes of each unit of set i
abbrev pub units_of : List WriteLoad → ℕ → List ℕ
units_of loads i = (slice_index_or loads i no_load).units

-- the bytes of set i: those of its units
abbrev pub size_of : List WriteLoad → ℕ → ℕ
size_of loads i = sum (units_of loads i)

-- the bytes in packet k of a unit of that size: 184, and in the last one what is left
abbrev pub payload_in : ℕ → ℕ → ℕ
payload_in size k = min PAYLOAD_LENGTH (size - PAYLOAD_LENGTH * k)

-- the bytes in each packet of a unit of that size
abbrev pub unit_payloads : ℕ → List ℕ
unit_payloads size = map (payload_in size) (range_with_len 0 (packet_count size))

-- the bytes in each packet of units that follow each other
unfoldable pub payloads_of : List ℕ → List ℕ
payloads_of units = flat_map unit_payloads units

-- the packets of set i
abbrev pub packets_of : List WriteLoad → ℕ → ℕ
packets_of loads i = length (payloads_of (units_of loads i))

-- the bytes in packet k of set i
abbrev pub payload_of : List WriteLoad → ℕ → ℕ → ℕ
payload_of loads i k = slice_index (payloads_of (units_of loads i)) k

-- the packets of all sets before set i: the number of its first packet, from 0
abbrev pub first_packet : List WriteLoad → ℕ → ℕ
first_packet loads i = sum_below (packets_of loads) i

-- the bytes of all packets up to packet k of set i, this one with them
abbrev pub bytes_with : List WriteLoad → ℕ → ℕ → ℕ
bytes_with loads i k = sum_below (size_of loads) i + sum_below (payload_of loads i) (k + 1)

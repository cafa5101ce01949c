-- What a reader of sets stands for with one more packet.
use Rattle.std.proofs.Common.{◌≡◌, ◌∙◌, ℕ, ◌||◌, Bool, false, List, [], ◌∷◌, ◌++◌, length, Option, None, refl, sym, ap, subst, append-nil}
use Rattle.stream_syntax.specs.TransportPackets.{packet_fault}
use Rattle.stream_syntax.specs.Units.{event_at, unit_at}
use Rattle.stream_syntax.specs.declared.transport.Event.{Event}
use Rattle.stream_syntax.specs.declared.transport.Event.TheVariants as events
use Rattle.ts_packets.specs.Brought.{bytes_by, too_long_by}
use Rattle.ts_packets.specs.Demuxing as packets
use Rattle.ts_packets.specs.Demuxing.{Demuxing, DemuxesOn}
use Rattle.decoder_model.specs.Arrivals.{Arrival, arrivals_at, arrivals_of, losses_at, units_at, packets_taken, ends_too_long}
use Rattle.decoder_model.specs.PacketArrivals.{PacketArrival, is_dropped, makes_ready, packet_arrival, run_before, unit_ended}
use Rattle.decoder_model.specs.Sets.{Delivery, runs_of, sets_in}
use Rattle.display_sets.specs.Gathered.{Gathered, ReadySet, ready_sets}
use Rattle.display_sets.specs.Standing as sets
use Rattle.display_sets.specs.Standing.{AreReady, IsFirst}
use Rattle.display_sets.specs.declared.hand.UnitEnd.{UnitEnd}
use Rattle.display_sets.proofs.PacketLaws.{arrivals_grow, ended_packets, none_arrived, sets_of_packets, taken_more}
use Rattle.set_reader.specs.Collecting.{Collecting, IsCollecting, IsSameReader, IsReaderOf, sets_read}
use Rattle.set_reader.specs.Private.Ends.{IsEndBehind, end_drops, end_parts}
use Rattle.set_reader.proofs.Arrivals.{bytes_brought, too_long_brought}

-- ---- before the first packet

pub nothing_fed : (collecting : Collecting) → packets.HasDemuxed collecting.demux []
    → sets.HasGathered [] false [] collecting.sets → IsReaderOf false [] [] collecting
nothing_fed collecting demux stands = record {
  taken = refl;
  demux = demux;
  sets = subst (λ (arrivals : List Arrival). sets.HasGathered arrivals false [] collecting.sets)
      (sym (none_arrived collecting.sets.coded collecting.demux.pid collecting.sets.pages)) stands;
}

no_sets : (sets : List ReadySet) → AreReady [] sets → sets ≡ []
no_sets [] are = refl
no_sets (set ∷ sets) are = absurd are

-- nothing is ready
pub none_at_first : (gathered : Gathered) → sets.HasGathered [] false [] gathered → ready_sets gathered ≡ []
none_at_first gathered stands =
    no_sets (ready_sets gathered)
    (subst (λ (waiting : List (Delivery (List ℕ))). AreReady waiting (ready_sets gathered)) (sym stands.sets)
    stands.are_ready)

-- ---- one more packet

-- what arrived with the packets of a reader
abbrev pub arrived_at : Collecting → List (List ℕ) → List Arrival
arrived_at collecting fed = arrivals_of collecting.sets.coded collecting.demux.pid collecting.sets.pages fed

-- it is the same for the same reader
pub same_arrived : (old new : Collecting) (fed : List (List ℕ)) → IsSameReader old new
    → arrived_at old fed ≡ arrived_at new fed
same_arrived old new fed same i = arrivals_of (sym same.coded i) (sym same.pid i) (sym same.pages i) fed

grown : (old new : Collecting) (fed : List (List ℕ)) (packet : List ℕ) → IsCollecting old
    → packets_taken old.demux.pid fed ≡ fed → packet_fault old.demux.pid packet ≡ None → IsSameReader old new
    → arrived_at old fed ++ arrivals_at old.demux.size old.demux.pid old.sets.pages fed packet
    ≡ arrived_at new (fed ++ packet ∷ [])
grown old new fed packet is taken none same =
    ap (λ (n : ℕ). arrived_at old fed ++ arrivals_at n old.demux.pid old.sets.pages fed packet) is.size
    ∙ sym (arrivals_grow old.sets.coded old.demux.pid old.sets.pages fed packet taken none)
    ∙ same_arrived old new (fed ++ packet ∷ []) same

pub fed_stands : (old new : Collecting) (fed : List (List ℕ)) (packet : List ℕ)
    (given all : List (Delivery (List ℕ)))
    → IsCollecting old → IsReaderOf false fed given old → packet_fault old.demux.pid packet ≡ None
    → DemuxesOn old.demux new.demux packet → IsSameReader old new
    → sets.HasGathered (arrived_at old fed ++ arrivals_at old.demux.size old.demux.pid old.sets.pages fed packet) false
    all
    new.sets
    → IsReaderOf false (fed ++ packet ∷ []) all new
fed_stands old new fed packet given all is stands none goes_on same gathers = record {
  taken = ap (λ (n : ℕ). packets_taken n (fed ++ packet ∷ [])) goes_on.pid
      ∙ taken_more old.demux.pid fed packet stands.taken none;
  demux = goes_on.stands fed stands.demux;
  sets = subst (λ (arrivals : List Arrival). sets.HasGathered arrivals false all new.sets)
      (grown old new fed packet is stands.taken none same) gathers;
}

-- a packet that can be taken and brings nothing need not be fed
pub passed_by : (collecting : Collecting) (fed : List (List ℕ)) (packet : List ℕ) (given : List (Delivery (List ℕ)))
    → IsCollecting collecting → IsReaderOf false fed given collecting
    → packet_fault collecting.demux.pid packet ≡ None → DemuxesOn collecting.demux collecting.demux packet
    → event_at collecting.demux.pid collecting.demux.size fed packet ≡ events.Other
    → unit_at collecting.demux.pid collecting.demux.size fed packet ≡ None
    → IsReaderOf false (fed ++ packet ∷ []) given collecting
passed_by collecting fed packet given is stands none goes_on other no_unit =
    fed_stands collecting collecting fed packet given given is stands none goes_on
    (record { pid = refl; pages = refl; coded = refl })
    (subst (λ (arrivals : List Arrival). sets.HasGathered arrivals false given collecting.sets) (sym nothing)
    stands.sets)
  where
    arrived : List Arrival
    arrived = arrived_at collecting fed

    nothing : arrived ++ arrivals_at collecting.demux.size collecting.demux.pid collecting.sets.pages fed packet
        ≡ arrived
    nothing =
        ap (λ (more : List Arrival). arrived ++ more)
        (λ i. losses_at (other i) ++ units_at collecting.sets.pages (length fed) (no_unit i))
        ∙ append-nil arrived

-- ---- what it brought

pub fed_arrival : (old : Collecting) (fed : List (List ℕ)) (packet : List ℕ) (event : Event) (end : Option UnitEnd)
    (size : ℕ) (arrival : PacketArrival)
    → IsCollecting old → size ≡ old.demux.size → event ≡ event_at old.demux.pid old.demux.size fed packet
    → IsEndBehind old.sets.coded old.demux.size old.demux.pid old.sets.pages fed packet (arrived_at old fed) end
    → arrival ≡ record {
      bytes = bytes_by event packet;
      before = end_parts end;
      dropped = too_long_by size event packet || end_drops end;
    }
    → arrival ≡ packet_arrival old.sets.coded old.demux.pid old.sets.pages fed packet
fed_arrival old fed packet event end size arrival is size_is told ends arrival_is =
    arrival_is ∙ (λ i. record { bytes = counted i; before = firsts i; dropped = longs i || drops i })
  where
    most : ℕ
    most = old.sets.coded

    event_is : event ≡ event_at old.demux.pid most fed packet
    event_is = told ∙ ap (λ (n : ℕ). event_at old.demux.pid n fed packet) is.size

    end_is : IsEndBehind most most old.demux.pid old.sets.pages fed packet (arrived_at old fed) end
    end_is =
        subst
        (λ (n : ℕ). IsEndBehind most n old.demux.pid old.sets.pages fed packet (arrived_at old fed) end) is.size ends

    counted : bytes_by event packet ≡ (packet_arrival most old.demux.pid old.sets.pages fed packet).bytes
    counted = ap (λ (e : Event). bytes_by e packet) event_is ∙ bytes_brought old.demux.pid most fed packet

    longs : too_long_by size event packet ≡ ends_too_long most old.demux.pid fed packet
    longs =
        ap (λ (n : ℕ). too_long_by n event packet) (size_is ∙ is.size)
        ∙ ap (λ (e : Event). too_long_by most e packet) event_is ∙ too_long_brought old.demux.pid most fed packet

    firsts : end_parts end
        ≡ makes_ready most (run_before most old.demux.pid old.sets.pages fed packet)
        (unit_ended most old.demux.pid old.sets.pages fed packet)
    firsts = end_is.before

    drops : end_drops end
        ≡ is_dropped most (run_before most old.demux.pid old.sets.pages fed packet)
        (unit_ended most old.demux.pid old.sets.pages fed packet)
    drops = end_is.dropped

-- ---- what comes next

-- the sets of the packets are those that were gathered
pub sets_gathered : (ended : Bool) (fed : List (List ℕ)) (given : List (Delivery (List ℕ)))
    (collecting : Collecting)
    → IsReaderOf ended fed given collecting
    → sets_read collecting ended fed ≡ sets_in collecting.sets.coded ended (runs_of (arrived_at collecting fed))
sets_gathered ended fed given collecting stands =
    let coded = collecting.sets.coded in
    sets_of_packets coded collecting.demux.pid collecting.sets.pages ended fed
    ∙ ap (λ (all : Bool). sets_in coded all (runs_of (arrived_at collecting fed)))
    (ended_packets ended collecting.demux.pid fed stands.taken)

-- the set that is ready first is the first one of them behind those given
pub first_read : (ended : Bool) (fed : List (List ℕ)) (given : List (Delivery (List ℕ))) (collecting : Collecting)
    (ready : Option ReadySet) → IsReaderOf ended fed given collecting
    → IsFirst (sets_in collecting.sets.coded ended (runs_of (arrived_at collecting fed))) given ready
    → IsFirst (sets_read collecting ended fed) given ready
first_read ended fed given collecting ready stands first =
    subst (λ (all : List (Delivery (List ℕ))). IsFirst all given ready)
    (sym (sets_gathered ended fed given collecting stands)) first

-- it was given
pub given_stands : (ended : Bool) (fed : List (List ℕ)) (given all : List (Delivery (List ℕ)))
    (old new : Collecting)
    → IsReaderOf ended fed given old → new.demux ≡ old.demux → IsSameReader old new
    → sets.HasGathered (arrived_at old fed) ended all new.sets → IsReaderOf ended fed all new
given_stands ended fed given all old new stands demux same gathered = record {
  taken = ap (λ (d : Demuxing). packets_taken d.pid fed) demux ∙ stands.taken;
  demux = subst (λ (d : Demuxing). packets.HasDemuxed d fed) (sym demux) stands.demux;
  sets =
      subst (λ (arrivals : List Arrival). sets.HasGathered arrivals ended all new.sets) (same_arrived old new fed same)
      gathered;
}

-- What is read of one PID, with one packet more.
use Rattle.std.proofs.Common.{◌≡◌, ℕ, ◌<◌, ◌==◌, ◌∙◌, ◌&&◌, Bool, true, false, if◌then◌else◌, List, [], ◌∷◌, ◌++◌, length, ap, arith, refl, sym, subst, Option, Some, None, append-nil}
use Rattle.std.specs.List.{filter, filter_map}
use Rattle.std.specs.Option.{is_none, option_and_then}
use Rattle.std.proofs.lemmas.List.{length_push}
use Rattle.std.proofs.lemmas.List.Elements.{filter-append, filter_map-append}
use Rattle.std.proofs.lemmas.Bool.Decides.{nat_tests}
use Rattle.stream_syntax.specs.TransportPackets.{packet_fault, pid_of}
use Rattle.stream_syntax.specs.Units.{each_after, unit_at}
use Rattle.stream_syntax.specs.declared.transport.PacketFault.{PacketFault}
use Rattle.ts_packets.proofs.UnitLemmas.{each_after_push}
use Rattle.ts_packets.specs.Demuxing.{Demuxing, DemuxesOn, HasDemuxed}
use Rattle.sub_base.specs.declared.profile.TheConstants.{LARGEST_BUFFER}
use Rattle.pid_text.specs.PidUnits.{SubtitleUnit, begins_private, from_first, is_own, subtitles_in, subtitles_of, watched}
use Rattle.pid_text.specs.Private.Tallying.{HasTallied, with_one}
use Rattle.pid_text.specs.Private.Watching.{BeginsWith, FeedsOn, IsWatch, IsWatching}
use Rattle.pid_text.specs.declared.pid_tally.PidTally.{PidTally}
use Rattle.pid_text.specs.declared.watch.Watch.{Watch}

-- ---- the packets that are watched

first_push : (test : List ℕ → Bool) (packets : List (List ℕ)) (packet : List ℕ)
    → 0 < length (from_first test packets)
    → from_first test (packets ++ packet ∷ []) ≡ from_first test packets ++ packet ∷ []
first_push test [] packet some = absurd (omega arith)
first_push test (first ∷ packets) packet some = by_test (first_push test packets packet) (test first) some
  where
    by_test : (0 < length (from_first test packets)
        → from_first test (packets ++ packet ∷ []) ≡ from_first test packets ++ packet ∷ [])
        → (b : Bool) → 0 < length (if b then first ∷ packets else from_first test packets)
        → (if b then first ∷ (packets ++ packet ∷ []) else from_first test (packets ++ packet ∷ []))
        ≡ (if b then first ∷ packets else from_first test packets) ++ packet ∷ []
    by_test rest true more = refl
    by_test rest false more = rest more

first_fresh : (test : List ℕ → Bool) (packets : List (List ℕ)) (packet : List ℕ)
    → from_first test packets ≡ []
    → from_first test (packets ++ packet ∷ []) ≡ (if test packet then packet ∷ [] else [])
first_fresh test [] packet none = refl
first_fresh test (first ∷ packets) packet none = by_test (first_fresh test packets packet) (test first) none
  where
    by_test : (from_first test packets ≡ []
        → from_first test (packets ++ packet ∷ []) ≡ (if test packet then packet ∷ [] else []))
        → (b : Bool) → (if b then first ∷ packets else from_first test packets) ≡ []
        → (if b then first ∷ (packets ++ packet ∷ []) else from_first test (packets ++ packet ∷ []))
        ≡ (if test packet then packet ∷ [] else [])
    by_test rest true more = absurd cc
    by_test rest false more = rest more

-- a packet that is not taken for the PID changes nothing
pub watched_other : (pid : ℕ) (packets : List (List ℕ)) (packet : List ℕ) → is_own pid packet ≡ false
    → watched pid (packets ++ packet ∷ []) ≡ watched pid packets
unfolding watched
watched_other pid packets packet other =
    ap (from_first begins_private)
    (filter-append (is_own pid) packets (packet ∷ [])
    ∙ ap (λ (own : Bool). filter (is_own pid) packets ++ (if own then packet ∷ [] else [])) other
    ∙ append-nil (filter (is_own pid) packets))

own_push : (pid : ℕ) (packets : List (List ℕ)) (packet : List ℕ) → is_own pid packet ≡ true
    → filter (is_own pid) (packets ++ packet ∷ []) ≡ filter (is_own pid) packets ++ packet ∷ []
own_push pid packets packet own =
    filter-append (is_own pid) packets (packet ∷ [])
    ∙ ap (λ (b : Bool). filter (is_own pid) packets ++ (if b then packet ∷ [] else [])) own

pub watched_push : (pid : ℕ) (packets : List (List ℕ)) (packet : List ℕ) → is_own pid packet ≡ true
    → 0 < length (watched pid packets) → watched pid (packets ++ packet ∷ []) ≡ watched pid packets ++ packet ∷ []
unfolding watched
watched_push pid packets packet own some =
    ap (from_first begins_private) (own_push pid packets packet own)
    ∙ first_push begins_private (filter (is_own pid) packets) packet some

pub watched_fresh : (pid : ℕ) (packets : List (List ℕ)) (packet : List ℕ) → is_own pid packet ≡ true
    → watched pid packets ≡ []
    → watched pid (packets ++ packet ∷ []) ≡ (if begins_private packet then packet ∷ [] else [])
unfolding watched
watched_fresh pid packets packet own none =
    ap (from_first begins_private) (own_push pid packets packet own)
    ∙ first_fresh begins_private (filter (is_own pid) packets) packet none

pub own_where : (pid : ℕ) (packet : List ℕ) → pid_of packet ≡ pid → packet_fault pid packet ≡ None
    → is_own pid packet ≡ true
own_where pid packet same taken =
    let here : (pid_of packet == pid) ≡ true = grind (arith, nat_tests) in
    ap (λ b. b && is_none (packet_fault pid packet)) here ∙ ap is_none taken

pub not_own : (pid : ℕ) (packet : List ℕ) (fault : PacketFault) → packet_fault pid packet ≡ Some fault
    → is_own pid packet ≡ false
not_own pid packet fault refused =
    ap (λ f. (pid_of packet == pid) && is_none f) refused ∙ and_false (pid_of packet == pid)
  where
    and_false : (b : Bool) → (b && false) ≡ false
    and_false true = refl
    and_false false = refl

pub of_other_pid : (pid : ℕ) (packet : List ℕ) → (pid_of packet ≡ pid → ⊥) → is_own pid packet ≡ false
of_other_pid pid packet apart =
    let other : (pid_of packet == pid) ≡ false = grind (arith, nat_tests) in
    ap (λ b. b && is_none (packet_fault pid packet)) other

-- ---- the units

units_push : (pid : ℕ) (packets : List (List ℕ)) (packet : List ℕ)
    → subtitles_of pid (packets ++ packet ∷ [])
    ≡ with_one (subtitles_of pid packets) (option_and_then subtitles_in (unit_at pid LARGEST_BUFFER packets packet))
unfolding subtitles_of
units_push pid packets packet =
    ap (filter_map (λ ended. option_and_then subtitles_in ended))
    (each_after_push (unit_at pid LARGEST_BUFFER) [] packets packet)
    ∙ filter_map-append (λ ended. option_and_then subtitles_in ended)
    (each_after (unit_at pid LARGEST_BUFFER) [] packets)
    (unit_at pid LARGEST_BUFFER packets packet ∷ [])
    ∙ last (option_and_then subtitles_in (unit_at pid LARGEST_BUFFER packets packet))
    (filter_map (λ ended. option_and_then subtitles_in ended) (each_after (unit_at pid LARGEST_BUFFER) [] packets))
  where
    last : (one : Option SubtitleUnit) (units : List SubtitleUnit)
        → units ++ filter_map (λ x. x) (one ∷ []) ≡ with_one units one
    last None units = append-nil units
    last (Some unit) units = refl

pub nothing_watched : (pid : ℕ) (demux : Demuxing) (tally : PidTally) → demux.pid ≡ pid → demux.size ≡ LARGEST_BUFFER
    → HasDemuxed demux [] → HasTallied [] tally → IsWatch pid [] (record { demux = demux; tally = tally })
nothing_watched pid demux tally pid_is size_is stands tallied = record {
  pid_is = pid_is;
  size_is = size_is;
  stands = stands;
  tallied = unfold subtitles_of in tallied;
}

pub fed_on : (old new : Watch) (packet : List ℕ) (unit : Option (List ℕ))
    → packet_fault old.demux.pid packet ≡ None → DemuxesOn old.demux new.demux packet
    → ((packets : List (List ℕ)) → HasDemuxed old.demux packets
    → unit ≡ unit_at old.demux.pid old.demux.size packets packet)
    → ((units : List SubtitleUnit) → HasTallied units old.tally
    → HasTallied (with_one units (option_and_then subtitles_in unit)) new.tally)
    → FeedsOn old new packet true
fed_on old new packet unit taken goes unit_is counts pid packets is = (
  subst (λ (p : ℕ). packet_fault p packet ≡ None) is.pid_is taken,
  record {
    pid_is = goes.pid ∙ is.pid_is;
    size_is = goes.size ∙ is.size_is;
    stands = goes.stands packets is.stands;
    tallied =
        subst (λ (units : List SubtitleUnit). HasTallied units new.tally)
        (sym (units_push pid packets packet
        ∙ ap (λ ended. with_one (subtitles_of pid packets) (option_and_then subtitles_in ended)) (sym here)))
        (counts (subtitles_of pid packets) is.tallied);
  },
)
  where
    here : unit ≡ unit_at pid LARGEST_BUFFER packets packet
    here = unit_is packets is.stands ∙ (λ i. unit_at (is.pid_is i) (is.size_is i) packets packet)

pub fed_past : (old new : Watch) (packet : List ℕ) (fault : PacketFault)
    → packet_fault old.demux.pid packet ≡ Some fault → new ≡ old → FeedsOn old new packet false
fed_past old new packet fault refused same pid packets is = (
  (fault, subst (λ (p : ℕ). packet_fault p packet ≡ Some fault) is.pid_is refused),
  subst (IsWatch pid packets) (sym same) is,
)

-- ---- a packet of a PID

pub slot_goes_on : (pid : ℕ) (old new : Watch) (packet : List ℕ) (took : Bool) (packets : List (List ℕ))
    → pid_of packet ≡ pid → FeedsOn old new packet took → IsWatching pid packets (Some old)
    → IsWatching pid (packets ++ packet ∷ []) (Some new)
slot_goes_on pid old new packet true packets own feeds is =
    let fed = feeds pid (watched pid packets) is.1 in
    let more = watched_push pid packets packet (own_where pid packet own fed.0) is.0 in (
      omega (arith, is.0, length_push (watched pid packets) packet, ap length more),
      subst (λ (all : List (List ℕ)). IsWatch pid all new) (sym more) fed.1,
    )
slot_goes_on pid old new packet false packets own feeds is =
    let fed = feeds pid (watched pid packets) is.1 in
    let same = watched_other pid packets packet (not_own pid packet fed.0.0 fed.0.1) in (
      subst (λ (all : List (List ℕ)). 0 < length all) (sym same) is.0,
      subst (λ (all : List (List ℕ)). IsWatch pid all new) (sym same) fed.1,
    )

pub slot_begins : (pid : ℕ) (packet : List ℕ) (watch : Option Watch) (packets : List (List ℕ))
    → pid_of packet ≡ pid → begins_private packet ≡ true → BeginsWith pid packet watch
    → watched pid packets ≡ [] → IsWatching pid (packets ++ packet ∷ []) watch
slot_begins pid packet None packets own begins refused none =
    watched_other pid packets packet (not_own pid packet refused.0 refused.1) ∙ none
slot_begins pid packet (Some watch) packets own begins is none =
    let now : watched pid (packets ++ packet ∷ []) ≡ packet ∷ [] =
    watched_fresh pid packets packet (own_where pid packet own is.0) none
    ∙ ap (λ (b : Bool). if b then packet ∷ [] else []) begins in (
      subst (λ (all : List (List ℕ)). 0 < length all) (sym now) (omega arith),
      subst (λ (all : List (List ℕ)). IsWatch pid all watch) (sym now) is.1,
    )

pub slot_waits : (pid : ℕ) (packet : List ℕ) (packets : List (List ℕ)) → begins_private packet ≡ false
    → watched pid packets ≡ [] → watched pid (packets ++ packet ∷ []) ≡ []
slot_waits pid packet packets begins none = by_own (is_own pid packet) refl
  where
    by_own : (b : Bool) → is_own pid packet ≡ b → watched pid (packets ++ packet ∷ []) ≡ []
    by_own true own =
        watched_fresh pid packets packet own none ∙ ap (λ (b : Bool). if b then packet ∷ [] else []) begins
    by_own false other = watched_other pid packets packet other ∙ none

-- a packet of another PID
pub slot_passes : (pid : ℕ) (packet : List ℕ) (watch : Option Watch) (packets : List (List ℕ))
    → (pid_of packet ≡ pid → ⊥) → IsWatching pid packets watch → IsWatching pid (packets ++ packet ∷ []) watch
slot_passes pid packet None packets apart none = watched_other pid packets packet (of_other_pid pid packet apart) ∙ none
slot_passes pid packet (Some watch) packets apart is =
    let same = watched_other pid packets packet (of_other_pid pid packet apart) in (
      subst (λ (all : List (List ℕ)). 0 < length all) (sym same) is.0,
      subst (λ (all : List (List ℕ)). IsWatch pid all watch) (sym same) is.1,
    )

pub nothing_slot : (pid : ℕ) → watched pid [] ≡ []
unfolding watched
nothing_slot pid = refl

-- The text of a list of packets, one packet after the other.
use Rattle.std.proofs.Common.{◌≡◌, ℕ, ◌+◌, ◌<◌, ◌⊎◌, inl, inr, List, [], ◌∷◌, ◌++◌, length, take, get_or, Option, None, append-nil, length-append, refl, sym, ap, subst, ◌∙◌, arith}
use Rattle.std.specs.List.{flat_map}
use Rattle.std.proofs.lemmas.List.{take-append-le}
use Rattle.std.proofs.lemmas.Grind.{flat_map-append}
use Rattle.std.proofs.Math.ListN.{get_or-append}
use Rattle.std.proofs.Math.Seq.{get_or-append_seam, take-append_seam}
use Rattle.stream_syntax.specs.Units.{event_at, unit_at}
use Rattle.stream_syntax.specs.declared.transport.Event.{Event}
use Rattle.stream_syntax.specs.declared.transport.Event.TheVariants as event
use Rattle.packet_walk.specs.Told.{TellsOne}
use Rattle.ts_packets.specs.Demuxing.{Demuxing, HasDemuxed, DemuxesOn}
use Rattle.sub_base.specs.declared.profile.TheConstants.{LARGEST_BUFFER}
use Rattle.list_text.specs.Listing.{IsListed}
use Rattle.list_text.specs.ListLines.{loss_line}
use Rattle.list_text.specs.ListText.{ArePacketLines, AreEndLines, IsListText}
use Rattle.command_text.specs.Putting.{Buffered, PutsOut}
use Rattle.sub_base.specs.Endpoints.{Received}
use Rattle.command_text.proofs.PutLaws.{PutsOut-both, PutsOut-nothing}

-- a number below the next one is below it, or it
below_next : (k n : ℕ) → k < n + 1 → (k < n) ⊎ (k ≡ n)
below_next k n h = grind arith

-- the text with the lines at one packet more
pub IsListText-more : (pid : ℕ) (packets : List (List ℕ)) (packet text lines : List ℕ)
    → IsListText pid packets text → ArePacketLines pid packets packet lines
    → IsListText pid (packets ++ packet ∷ []) (text ++ lines)
IsListText-more pid packets packet text lines told at_last = record {
  lines = told.lines ++ lines ∷ [];
  count =
      length-append told.lines (lines ∷ [])
      ∙ (ap (λ (n : ℕ). n + 1) told.count ∙ sym (length-append packets (packet ∷ [])));
  each = λ k h. each_one k (below_next k (length packets) (omega (arith, length-append packets (packet ∷ []))));
  whole =
      ap (λ (t : List ℕ). t ++ lines) told.whole
      ∙ (ap (λ (t : List ℕ). flat_map (λ (one : List ℕ). one) told.lines ++ t) (sym (append-nil lines))
      ∙ sym (flat_map-append (λ (one : List ℕ). one) told.lines (lines ∷ [])));
}
  where
    each_one : (k : ℕ) → (k < length packets) ⊎ (k ≡ length packets)
        → ArePacketLines pid (take k (packets ++ packet ∷ [])) (get_or (packets ++ packet ∷ []) k [])
        (get_or (told.lines ++ lines ∷ []) k [])
    each_one k (inl h) =
        let below_lines : k < length told.lines = omega (arith, told.count) in
        rw (
          take-append-le k packets (packet ∷ []) (omega arith),
          get_or-append packets (packet ∷ []) [] k
              h,
          get_or-append told.lines (lines ∷ []) [] k below_lines,
        ) (told.each k h)
    each_one k (inr e) =
        let last : k ≡ length told.lines = e ∙ sym told.count in
        let front : take k (packets ++ packet ∷ []) ≡ packets =
        ap (λ (n : ℕ). take n (packets ++ packet ∷ [])) e ∙ take-append_seam packets (packet ∷ []) in
        let here : get_or (packets ++ packet ∷ []) k [] ≡ packet =
        ap (λ (n : ℕ). get_or (packets ++ packet ∷ []) n []) e ∙ get_or-append_seam packets packet [] [] in
        let its_lines : get_or (told.lines ++ lines ∷ []) k [] ≡ lines =
        ap (λ (n : ℕ). get_or (told.lines ++ lines ∷ []) n []) last
        ∙ get_or-append_seam told.lines lines [] [] in
        rw (front, here, its_lines) at_last

-- the text of no packets
pub IsListText-nothing : (pid : ℕ) → IsListText pid [] []
IsListText-nothing pid = record { lines = []; count = refl; each = λ k h. absurd (omega arith); whole = refl }

-- one packet more is listed
pub packet_listed : (before mid next : Received) (old new : Demuxing) (was between is : Buffered) (place : ℕ)
    (packet : List ℕ) (event : Event) (unit : Option (List ℕ))
    → DemuxesOn old new packet
    → ((packets : List (List ℕ)) → HasDemuxed old packets → event ≡ event_at old.pid old.size packets packet)
    → ((packets : List (List ℕ)) → HasDemuxed old packets → unit ≡ unit_at old.pid old.size packets packet)
    → PutsOut before mid was between (loss_line place event)
    → (lines : List ℕ) × AreEndLines place unit lines × PutsOut mid next between is lines
    → TellsOne IsListed before next old new was is place packet
packet_listed before mid next old new was between is place packet event unit goes event_is unit_is loss end = record {
  goes = λ packets text. λ count listed.
      let event_here : event ≡ event_at old.pid LARGEST_BUFFER packets packet =
      event_is packets listed.stands ∙ ap (λ (s : ℕ). event_at old.pid s packets packet) listed.size_is in
      let unit_here : unit ≡ unit_at old.pid LARGEST_BUFFER packets packet =
      unit_is packets listed.stands ∙ ap (λ (s : ℕ). unit_at old.pid s packets packet) listed.size_is in
      let ended : AreEndLines (length packets) (unit_at old.pid LARGEST_BUFFER packets packet) end.0 =
      subst (λ (u : Option (List ℕ)). AreEndLines (length packets) u end.0) unit_here
      (subst (λ (n : ℕ). AreEndLines n unit end.0) (sym count) end.1) in
      let lines = loss_line place event ++ end.0 in
      let lines_are : ArePacketLines old.pid packets packet lines = record {
        of_unit = end.0;
        ended = ended;
        whole =
            ap (λ (n : ℕ). loss_line n event ++ end.0) (sym count)
            ∙ ap (λ (e : Event). loss_line (length packets) e ++ end.0) event_here;
      } in (
        lines,
        record {
          size_is = goes.size ∙ listed.size_is;
          stands = goes.stands packets listed.stands;
          told =
              subst (λ (pid : ℕ). IsListText pid (packets ++ packet ∷ []) (text ++ lines)) (sym goes.pid)
              (IsListText-more old.pid packets packet text lines listed.told lines_are);
        },
        PutsOut-both before mid next was between is (loss_line place event) end.0 loss end.2,
      );
}

-- a packet of another PID has no lines, and changes nothing
pub other_listed : (now : Received) (demux : Demuxing) (buffer : Buffered) (place : ℕ) (packet : List ℕ)
    → DemuxesOn demux demux packet
    → ((packets : List (List ℕ)) → event_at demux.pid demux.size packets packet ≡ event.Other)
    → ((packets : List (List ℕ)) → unit_at demux.pid demux.size packets packet ≡ None)
    → TellsOne IsListed now now demux demux buffer buffer place packet
other_listed now demux buffer place packet goes event_is unit_is =
    packet_listed now now now demux demux buffer buffer buffer place packet event.Other None goes
    (λ packets _. sym (event_is packets)) (λ packets _. sym (unit_is packets))
    (PutsOut-nothing now buffer) ([], refl, PutsOut-nothing now buffer)

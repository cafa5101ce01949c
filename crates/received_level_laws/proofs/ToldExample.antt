-- Two sets without an end segment, in a packet each, of which the second has an earlier time: the first is whole
-- ahead of the bytes of the second packet, and the second is dropped in the end of the stream.
use Rattle.std.specs.Prelude.{◌≡◌, ℕ, true, List, [], ◌∷◌, ◌++◌, replicate, Some, None, refl}
use Rattle.sub_base.specs.Pace.{pace_of}
use Rattle.sub_base.specs.Profile.{profile_of}
use Rattle.sub_base.specs.declared.load.SetLoad.{SetLoad}
use Rattle.sub_base.specs.declared.profile.ProfileName.TheVariants.{Sd}
use Rattle.stream_syntax.specs.DataField.{frames_of}
use Rattle.stream_syntax.specs.Segments.{of_page}
use Rattle.stream_syntax.specs.Units.{last_counter, part_after, parts_of, fate_of, stays_in_hand, hand_after, event_after}
use Rattle.stream_syntax.specs.declared.page.State.TheVariants.{ModeChange}
use Rattle.buffer_model.specs.Calls.{Arrived, SetWhole, Dropped}
use Rattle.decoder_model.specs.Arrivals.{arrivals_of}
use Rattle.decoder_model.specs.Faults.{all_region_ids, epoch_fault}
use Rattle.decoder_model.specs.Frames.{only}
use Rattle.decoder_model.specs.Kept.{last_time, epoch_of}
use Rattle.decoder_model.specs.Nodes.{region_ids, clut_ids, table_entries}
use Rattle.decoder_model.specs.Pixels.{painted_listings}
use Rattle.decoder_model.specs.Readings.{Content, Reading, read}
use Rattle.decoder_model.specs.Received.{for_page}
use Rattle.decoder_model.specs.Sets.{Delivery, whole, has_ended, sets_of}
use Rattle.decoder_model.specs.Taken.{segments_of, taken_among}
use Rattle.decoder_model.specs.Verdict.{sets_since}
use Rattle.decoder_model.specs.declared.set_end.SetEnd.TheVariants.{Shown, NotLater}
use Rattle.received_level_laws.specs.ToldSets.{ToldCall, told_of, told_sets}

-- an empty page of time-out 10
page_bytes : List ℕ
page_bytes = 0x0F ∷ 0x10 ∷ 0x00 ∷ 0x01 ∷ 0x00 ∷ 0x02 ∷ 0x0A ∷ 0x08 ∷ []

-- its packet with that fourth byte, in which the counter stands, and that time as it is written
packet_at : ℕ → List ℕ → List ℕ
packet_at fourth time =
    0x47 ∷ 0x41 ∷ 0x00 ∷ fourth ∷ 0x9E ∷ 0x00 ∷ (replicate 157 0xFF
    ++ 0x00 ∷ 0x00 ∷ 0x01 ∷ 0xBD ∷ 0x00 ∷ 0x13 ∷ 0x84 ∷ 0x80 ∷ 0x05
    ∷ (time ++ 0x20 ∷ 0x00 ∷ (page_bytes ++ 0xFF ∷ [])))

-- at 90000, and then at 0
packets : List (List ℕ)
packets =
    packet_at 0x30 (0x21 ∷ 0x00 ∷ 0x05 ∷ 0xBF ∷ 0x21 ∷ [])
    ∷ packet_at 0x31 (0x21 ∷ 0x00 ∷ 0x01 ∷ 0x00 ∷ 0x01 ∷ []) ∷ []

-- both sets come
both_come : sets_of 24576 256 (only 1) true packets ≡ whole 90000 25 (page_bytes ∷ [])
    ∷ whole 0 25 (page_bytes ∷ []) ∷ []
unfolding packets packet_at page_bytes sets_of has_ended arrivals_of frames_of last_counter part_after parts_of fate_of
    stays_in_hand hand_after event_after
both_come = refl

page_read : Content
page_read = record {
  value = of_page (record { time_out = 10; version = 0; state = ModeChange; entries = [] });
  top = [];
  bottom = [];
}

-- what is received, the latest first
received : List (Delivery Reading)
received = whole 0 25 (read page_read ∷ []) ∷ whole 90000 25 (read page_read ∷ []) ∷ []

shown_load : SetLoad
shown_load = record { pts = 90000; size = 25; painted = 0 }

dropped_load : SetLoad
dropped_load = record { pts = 0; size = 25; painted = 0 }

told : List ToldCall
told =
    record { call = Arrived 0 25; set = None }
    ∷ record { call = SetWhole shown_load; set = Some (record { end = Shown; load = shown_load }) }
    ∷ record { call = Arrived 1 25; set = None }
    ∷ record { call = Dropped; set = Some (record { end = NotLater 90000; load = dropped_load }) }
    ∷ []

-- what is told of them
told_is : told_of (for_page Sd 256 1 0) 0 packets received ≡ told
unfolding packets packet_at page_bytes received page_read told shown_load dropped_load sets_of has_ended arrivals_of
    frames_of last_counter part_after parts_of fate_of stays_in_hand hand_after event_after sets_since last_time
    epoch_of
    epoch_fault all_region_ids segments_of taken_among region_ids clut_ids table_entries painted_listings
told_is = refl

-- the first is done 25 ticks behind its packet, the second at the tick of its own packet
sets_are : told_sets (pace_of 0 (profile_of Sd)) told
    ≡ record { set = record { end = Shown; load = shown_load }; done = 25 }
    ∷ record { set = record { end = NotLater 90000; load = dropped_load }; done = 705 } ∷ []
unfolding told shown_load dropped_load
sets_are = refl

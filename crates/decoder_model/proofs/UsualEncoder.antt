-- A unit as a usual encoder makes it: the definitions compute that it is shown, and in which colours.
use Rattle.std.specs.Prelude.{refl}
use Rattle.stream_syntax.specs.DataField.{frames_of}
use Rattle.stream_syntax.specs.Units.{last_counter, part_after, parts_of, fate_of, stays_in_hand, hand_after, event_after}
use Rattle.decoder_model.specs.Arrivals.{arrivals_of}
use Rattle.decoder_model.specs.Faults.{all_region_ids, epoch_fault}
use Rattle.decoder_model.specs.Ink.{ink_of}
use Rattle.decoder_model.specs.Kept.{last_time, epoch_of}
use Rattle.decoder_model.specs.Nodes.{region_ids, clut_ids, table_entries}
use Rattle.decoder_model.specs.Pixels.{painted_listings, pixel_of}
use Rattle.decoder_model.specs.Sets.{has_ended, sets_of}
use Rattle.decoder_model.specs.Shown.{colour_at}
use Rattle.decoder_model.specs.Taken.{segments_of, taken_among}
use Rattle.decoder_model.specs.UsualEncoder.{usual_packet, usual_segments, usual_page, usual_region, usual_object, usual_end, usual_contents, usual_delivery, usual_scene, IsUsualSetShown}
use Rattle.decoder_model.specs.Verdict.{sets_since}

pub usual_set : IsUsualSetShown
unfolding usual_packet usual_segments usual_delivery usual_scene usual_contents usual_page usual_region usual_object
    usual_end sets_of has_ended arrivals_of frames_of last_counter part_after parts_of fate_of stays_in_hand hand_after
    event_after sets_since last_time epoch_of epoch_fault all_region_ids segments_of taken_among region_ids clut_ids
    table_entries painted_listings colour_at ink_of pixel_of
usual_set =
    record {
      set = refl;
      verdict = refl;
      white = refl;
      grey = refl;
      beside = refl;
      last = refl;
      width = refl;
      height = refl;
    }

-- What `check` tells of the packets of a script ends in the line that there is no breach.
use Rattle.std.proofs.Common.{◌∙◌, ℕ, ◌++◌, true, List, ap}
use Rattle.sub_base.specs.Pace.{pace_of, tick_of}
use Rattle.sub_base.specs.Profile.{profile_of}
use Rattle.sub_base.specs.declared.load.WriteLoad.{WriteLoad}
use Rattle.sub_base.specs.declared.pace.Pace.{Pace}
use Rattle.buffer_model.specs.Calls.{Call, greatest}
use Rattle.buffer_model.specs.Within.{AreWithin}
use Rattle.buffer_model.proofs.LevelLaws.{no_breach}
use Rattle.check_text.specs.CheckText.{IsCheckText, breach_line, peak_line, sets_text}
use Rattle.decoder_model.specs.Streams.{entered_at}
use Rattle.page_epoch.specs.declared.planned_set.PlannedSet.{PlannedSet}
use Rattle.received_level_laws.specs.ToldSets.{calls_told, told_sets}
use Rattle.received_level_laws.proofs.ToldLaws.{are_calls}
use Rattle.schedule.specs.Slots.{Timetable}
use Rattle.script_stream.specs.ShownRightly.{IsShownRightly}
use Rattle.shown_stream.specs.Compiled.{sent_pace, Compiling, received_by}
use Rattle.checked_script_laws.specs.Unbreached.{EndsUnbreached}

pub unbreached : (compiling : Compiling) (sets : List PlannedSet)
    (loads : List WriteLoad) (table : Timetable) (bytes : List ℕ) (missed : ℕ) (text : List ℕ)
    → (shown : IsShownRightly compiling sets loads table bytes)
    → IsCheckText (received_by compiling (tick_of (sent_pace compiling.profile compiling.script) missed)) true
    (entered_at missed shown.packets) text
    → EndsUnbreached (profile_of compiling.profile).coded text
unbreached compiling sets loads table bytes missed text shown is = record {
  told = told_sets pace is.told;
  peak = greatest pace calls;
  held = (no_breach pace calls within).1;
  whole =
      is.whole
      ∙ ap (λ found. sets_text pace is.told ++ (peak_line (greatest pace calls) ++ breach_line found))
      (no_breach pace calls within).0;
}
  where
    origin : ℕ
    origin = tick_of (sent_pace compiling.profile compiling.script) missed

    pace : Pace
    pace = pace_of origin (profile_of compiling.profile)

    calls : List Call
    calls = calls_told is.told

    within : AreWithin pace calls
    within =
        shown.checked missed calls
        (are_calls (received_by compiling origin) 0 true (entered_at missed shown.packets) is.told is.are)

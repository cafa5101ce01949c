-- What `gen` tells of the packets of a generated script.
use Rattle.std.specs.Prelude.{◌≡◌, ℕ, ◌*◌, ◌/◌, true, List, ◌++◌, length, All, codes, Option, Some, None, option_map}
use Rattle.std.specs.List.{concat}
use Rattle.buffer_model.specs.Calls.{Call, greatest}
use Rattle.command_text.specs.Lines.{line_end, then_number}
use Rattle.cue_list.specs.declared.script.Script.{Script}
use Rattle.decoder_model.specs.Received.{Reception, for_page}
use Rattle.decoder_model.specs.Streams.{SentSet, entry_set}
use Rattle.generated_script.specs.Generated.{IsGenerated}
use Rattle.script_stream.specs.ShownRightly.{IsShownRightly}
use Rattle.shown_stream.specs.Compiled.{Compiling, IsCompiledTo, compiling_for}
use Rattle.shown_stream.specs.SentSets.{sent_sets}
use Rattle.received_level_laws.specs.StreamCalls.{AreCallsOf}
use Rattle.sub_base.specs.Pace.{pace_of}
use Rattle.sub_base.specs.Profile.{profile_of}
use Rattle.sub_base.specs.declared.profile.ProfileName.{ProfileName}

-- the PID of the packets of a generated script
abbrev pub generated_pid : ℕ
generated_pid = 256

-- the page (page_id) of the segments of a generated script
abbrev pub generated_page : ℕ
generated_page = 1

-- how a generated script is compiled
abbrev pub generated_compiling : ProfileName → Script → Compiling
generated_compiling profile script = compiling_for profile generated_pid generated_page script

-- what a receiver of its packets is for, whose lifted times begin at 0
abbrev pub generated_reception : ProfileName → Reception
generated_reception profile = for_page profile generated_pid generated_page 0

-- a number behind its name
abbrev pub number_line : List ℕ → ℕ → List ℕ
number_line name number = name ++ then_number number ++ line_end

-- the time of the set with which a receiver enters
abbrev pub entry_time : Option SentSet → Option ℕ
entry_time entry = option_map (λ (set : SentSet). set.time) entry

-- a receiver that gets all packets but the first so many, and the time of its entry set, in ticks
abbrev pub entry_line : ℕ → Option ℕ → List ℕ
entry_line missed None = codes "entry" ++ then_number missed ++ codes " none" ++ line_end
entry_line missed (Some time) = codes "entry" ++ then_number missed ++ then_number time ++ line_end

-- the lines, by the numbers of the sets and the packets, the greatest level of the coded data buffer, and the times
-- at which receivers enter: at the first packet, behind a third of them, and behind two thirds
abbrev pub gen_lines : ℕ → ℕ → ℕ → (ℕ → Option ℕ) → List ℕ
gen_lines sets packets peak time_of =
    number_line (codes "sets") sets ++ number_line (codes "packets") packets ++ number_line (codes "peak") peak
    ++ entry_line 0 (time_of 0) ++ entry_line (packets / 3) (time_of (packets / 3))
    ++ entry_line (2 * packets / 3) (time_of (2 * packets / 3))

-- the text of the generated script of so many cues, compiled for a profile, of which receivers show what it authors: of
-- the sets of its plan, its packets, the buffer of a receiver that gets them all, and the entry sets
pub record IsGenText (number : ℕ) (profile : ProfileName) (text : List ℕ) : Type 0 where
  pub script : Script
  pub generated : IsGenerated number script
  pub packets : List (List ℕ)
  pub whole : All (λ packet. length packet ≡ 188) packets
  pub compiled : IsCompiledTo (generated_compiling profile script) (concat packets)
  pub shown : IsShownRightly (generated_compiling profile script) compiled.sets compiled.loads compiled.table
      (concat packets)
  pub calls : List Call
  pub called : AreCallsOf (generated_reception profile) 0 true packets calls
  pub text_is : text
      ≡ gen_lines (length compiled.sets) (length packets) (greatest (pace_of 0 (profile_of profile)) calls)
      (λ missed. entry_time (entry_set missed (sent_sets compiled.table compiled.sets)))

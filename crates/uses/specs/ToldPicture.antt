-- The picture that a receiver shows of a script.
use Rattle.std.specs.Prelude.{ℕ, List, Option}
use Rattle.std.specs.Io.KnownBytes.{Appends}
use Rattle.cue_list.specs.declared.script.Script.{Script}
use Rattle.decoder_model.specs.Shown.{View}
use Rattle.decoder_model.specs.Streams.{IsShownFrom, entry_set}
use Rattle.dump_text.specs.DumpText.{view_text}
use Rattle.packet_walk.specs.declared.told_end.ToldEnd.{ToldEnd}
use Rattle.packet_walk.specs.declared.told_end.ToldEnd.TheVariants as told_end
use Rattle.script_stream.specs.SentScripts.{IsSentFor, SentScript}
use Rattle.shown_stream.specs.Compiled.{compiling_for}
use Rattle.shown_stream.specs.SentSets.{sent_sets}
use Rattle.shown_stream.specs.Shows.{authored_view}
use Rattle.sub_base.specs.declared.profile.ProfileName.TheVariants.{Sd}

-- the text of a view is written: nothing where no set of the script is shown yet, and from the time on of the first set
-- with which a receiver can begin what the script authors
pub record TellsPicture (script : Script) (tick : ℕ) (before now : Option (List ℕ)) : Type 0 where
  pub sent : SentScript
  pub is_sent : IsSentFor (compiling_for Sd 256 1 script) sent
  pub shown : View
  pub from : IsShownFrom (entry_set 0 (sent_sets sent.table sent.sets)) tick shown (authored_view script tick)
  pub written : Appends before now (view_text tick shown)

-- all of a stream was told
abbrev pub IsDone : ToldEnd → Type 0
IsDone (told_end.Done cut) = Unit {0}
IsDone other = ⊥

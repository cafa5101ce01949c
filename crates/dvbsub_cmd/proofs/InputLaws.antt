-- The status of inputs that ended has their cause.
use Rattle.std.proofs.Common.{◌≡◌, Bool, subst, sym}
use Rattle.script_input.specs.ReadScript.{IsInputEnd}
use Rattle.script_input.specs.declared.input_end.Input.TheVariants as input
use Rattle.script_input.specs.declared.input_end.InputEnd.{InputEnd}
use Rattle.script_input.specs.declared.input_end.InputEnd.TheVariants as end
use Rattle.sub_base.specs.Endpoints.{Supplied}
use Rattle.dvbsub_cmd.specs.InputStatus.{IsInputCause, status_of_input}
use Rattle.dvbsub_cmd.specs.declared.status.Status.{Status}

module _ (has_font : Bool) (first_before first_now second_before second_now : Supplied) where
  ended : (end : InputEnd) → IsInputEnd has_font first_before first_now second_before second_now end
      → IsInputCause has_font first_before first_now second_before second_now (status_of_input end)
  ended (end.FontRefused fault) cause = cause
  ended (end.ScriptRefused fault) cause = cause
  ended (end.Unread input.Script) cause = cause
  ended (end.Unread input.Font) cause = cause
  ended (end.TooLong input.Script) cause = cause
  ended (end.TooLong input.Font) cause = cause
  ended end.Memory cause = cause

  pub input_cause : (end : InputEnd) (status : Status) → status ≡ status_of_input end
      → IsInputEnd has_font first_before first_now second_before second_now end
      → IsInputCause has_font first_before first_now second_before second_now status
  input_cause end status is cause =
      subst (IsInputCause has_font first_before first_now second_before second_now) (sym is) (ended end cause)

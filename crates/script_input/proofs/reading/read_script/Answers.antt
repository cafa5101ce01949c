use Rattle.std.proofs.Common.{Bool, refl, subst, sym}
use Rattle.script_input.specs.ReadScript.{IsFontEnd, IsInputEnd, end_without_font}
use Rattle.script_input.specs.declared.input_end.FontEnd.{FontEnd}
use Rattle.script_input.specs.declared.input_end.FontEnd.TheVariants as font_end
use Rattle.script_input.specs.declared.input_end.InputEnd.{InputEnd}
use Rattle.sub_base.specs.Endpoints.{Supplied}
use Rattle.script_input.proofs.reading.read_script.Goals as goal

-- where the font was not read, the first source was not called
no_font_read : (has_font : Bool) (first before now : Supplied) (end : FontEnd) → IsFontEnd has_font before now end
    → IsInputEnd has_font first first before now (end_without_font end)
no_font_read has_font first before now (font_end.Refused fault) (named, cause) = (named, cause, refl)
no_font_read has_font first before now font_end.Unread (named, rose, within) = (named, rose, refl, within)
no_font_read has_font first before now font_end.TooLong (named, past) = (named, past, refl)
no_font_read has_font first before now font_end.Memory is = is

pub returns-in-Err-clause-cause : goal.returns-in-Err-clause-cause
returns-in-Err-clause-cause g c =
    let first = g.A.Source.supplied c.args.first.now in
    let before = g.B.Source.supplied c.args.second.now in
    let now = g.B.Source.supplied c.read_font.new.source in
    subst (λ (end : InputEnd). IsInputEnd c.args.has_font first first before now end) (sym c.without_font.ensures)
    (no_font_read c.args.has_font first before now c.in-Err.end c.in-Err.ensures.cause)

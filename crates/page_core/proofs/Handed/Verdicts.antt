-- The verdict on a kept set, as far as its own segments and its page tell it.
use Rattle.std.proofs.Common.{◌≡◌, ◌∙◌, List, ◌∷◌, Some, None, ap}
use Rattle.sub_base.specs.declared.profile.Profile.{Profile}
use Rattle.stream_syntax.specs.Segments.{Page}
use Rattle.decoder_model.specs.Contents.{page_in_set}
use Rattle.decoder_model.specs.Faults.{contents_in, segment_fault}
use Rattle.decoder_model.specs.Kept.{epoch_of}
use Rattle.decoder_model.specs.Readings.{Content, Reading}
use Rattle.decoder_model.specs.Verdict.{verdict_in_epoch, verdict_with_page, verdict_on_segments, verdict_on_kept}
use Rattle.decoder_model.specs.declared.set_end.SetEnd.TheVariants.{Broken, Waiting}
use Rattle.decoder_model.specs.declared.set_fault.SetFault.{SetFault}
use Rattle.decoder_model.specs.declared.set_fault.SetFault.TheVariants.{NoPage}

module _ (profile : Profile) (sets : List (List Content)) (readings : List Reading) where
  pub broken_by_segment : (fault : SetFault) → segment_fault readings ≡ Some fault
      → verdict_on_kept profile sets readings ≡ Broken fault
  broken_by_segment fault is = ap (verdict_on_segments profile sets (contents_in readings)) is

  pub broken_without_page : segment_fault readings ≡ None → page_in_set (contents_in readings) ≡ None
      → verdict_on_kept profile sets readings ≡ Broken NoPage
  broken_without_page none no_page =
      ap (verdict_on_segments profile sets (contents_in readings)) none
      ∙ ap (verdict_with_page profile sets (contents_in readings)) no_page

  pub verdict_by_epoch : (page : Page) → segment_fault readings ≡ None
      → page_in_set (contents_in readings) ≡ Some page
      → verdict_on_kept profile sets readings
      ≡ verdict_in_epoch profile page (epoch_of (contents_in readings ∷ sets))
  verdict_by_epoch page none is =
      ap (verdict_on_segments profile sets (contents_in readings)) none
      ∙ ap (verdict_with_page profile sets (contents_in readings)) is

  pub waits : (page : Page) → segment_fault readings ≡ None → page_in_set (contents_in readings) ≡ Some page
      → epoch_of (contents_in readings ∷ sets) ≡ None → verdict_on_kept profile sets readings ≡ Waiting
  waits page none is unknown = verdict_by_epoch page none is ∙ ap (verdict_in_epoch profile page) unknown

-- A kept set waits, or is one of an epoch.
use Rattle.std.proofs.Common.{◌∙◌, refl, ap, option_map}
use Rattle.decoder_model.specs.Faults.{contents_in}
use Rattle.segments.specs.Contents.{page_value}
use Rattle.page_core.proofs.Handed.Verdicts.{verdict_by_epoch, waits}
use Rattle.page_core.proofs.taking.accept.Goals as goal

pub returns-in-Waits-clause-accepted : goal.returns-in-Waits-clause-accepted
returns-in-Waits-clause-accepted c profile sets readings known are =
    let found = c.in-Ok.ensures.found readings are in
    let sound = c.in-Ok.ensures.sound readings are in
    let page = found.1.page ∙ ap (option_map page_value) c.in-Some.is in
    waits profile sets readings (page_value c.in-Some.page) found.0 page
    (c.in-Waits.ensures sets (contents_in readings) (page_value c.in-Some.page) known
    (sound.one_page (page_value c.in-Some.page) page) refl)

pub returns-in_default-start_of-clause-accepted : goal.returns-in_default-start_of-clause-accepted
returns-in_default-start_of-clause-accepted c profile sets readings known are =
    let found = c.in-Ok.ensures.found readings are in
    let sound = c.in-Ok.ensures.sound readings are in
    let page = found.1.page ∙ ap (option_map page_value) c.in-Some.is in
    record {
      found = found.1;
      sound = sound;
      page = page;
      start =
          c.start_of.ensures sets (contents_in readings) (page_value c.in-Some.page) known
          (sound.one_page (page_value c.in-Some.page) page) refl;
      verdict = verdict_by_epoch profile sets readings (page_value c.in-Some.page) found.0 page;
    }

use Rattle.std.proofs.Common.{◌∙◌, List, reverse, refl, sym, ap}
use Rattle.decoder_model.specs.Readings.{Reading}
use Rattle.decoder_model.specs.Received.{sets_received}
use Rattle.decoder_model.specs.Sets.{Delivery}
use Rattle.decoder_model.specs.Shown.{view_at}
use Rattle.reading_laws.proofs.OneReading.{same_past}
use Rattle.reading_laws.proofs.PacketsRead.{packets_read}
use Rattle.dump_text.proofs.laws.packets_are_shown.Goals as goal

pub returns-clause-some : goal.returns-clause-some
returns-clause-some c reception ended packets tick bytes =
    let read = packets_read reception ended packets bytes in (
      view_at reception.profile reception.anchor tick
          read.0,
      record { past = read.0; received = read.1; is_view = refl },
    )

pub returns-clause-one : goal.returns-clause-one
returns-clause-one c reception ended packets tick shown other is too =
    is.is_view
    ∙ ap (λ (past : List (Delivery Reading)). view_at reception.profile reception.anchor tick past)
    (same_past (reverse (sets_received reception ended packets)) is.past too.past is.received too.received)
    ∙ sym too.is_view

-- What a set that is ready asks of a receiver.
use Rattle.std.proofs.Common.{◌≡◌, ◌∙◌, ℕ, List, [], ◌∷◌, Option, Some, None, refl, sym, ap, subst}
use Rattle.std.specs.Prelude.{Ok, Err, unwrap_or}
use Rattle.display_sets.specs.Filling.{AreBytes}
use Rattle.sub_base.specs.declared.profile.Profile.{Profile}
use Rattle.stream_syntax.specs.Segments.{Page}
use Rattle.decoder_model.specs.Contents.{page_in_set}
use Rattle.decoder_model.specs.Faults.{contents_in, epoch_fault, segment_fault}
use Rattle.decoder_model.specs.Kept.{epoch_of, last_time, lifted_behind, lifted_time}
use Rattle.decoder_model.specs.Painting.{painting_by, set_load}
use Rattle.decoder_model.specs.Readings.{Content, IsDeliveryRead, Reading}
use Rattle.decoder_model.specs.Received.{AreRead}
use Rattle.decoder_model.specs.Sets.{Delivery, lost, refused, whole}
use Rattle.decoder_model.specs.Verdict.{if_kept, sets_since, shown_unless, verdict_in_epoch, verdict_of, verdict_on_kept, verdict_on_segments, verdict_with_page}
use Rattle.decoder_model.specs.declared.set_end.SetEnd.{SetEnd}
use Rattle.decoder_model.specs.declared.set_fault.SetFault.{SetFault}
use Rattle.display_sets.specs.Gathered.{ReadySet}
use Rattle.display_sets.specs.Standing.{IsReady}
use Rattle.display_sets.proofs.ReadLaws.{bytes_read}
use Rattle.page_core.specs.Handed.{AreContents}
use Rattle.page_core.proofs.Sets.SetLaws.{sound}
use Rattle.set_receiver.specs.Private.Verdicts.{IsVerdictOf}

-- ---- verdicts

by_epoch : (profile : Profile) (readings : List Reading) (page : Page) (epoch : Option (List (List Content)))
    → segment_fault readings ≡ None → IsVerdictOf readings (verdict_in_epoch profile page epoch)
by_epoch profile readings page None none = none
by_epoch profile readings page (Some []) none = none
by_epoch profile readings page (Some (set ∷ before)) none = by (epoch_fault profile before set page)
  where
    by : (fault : Option SetFault) → IsVerdictOf readings (shown_unless fault)
    by None = none
    by (Some fault) = tt

by_page : (profile : Profile) (sets : List (List Content)) (readings : List Reading) (page : Option Page)
    → segment_fault readings ≡ None
    → IsVerdictOf readings (verdict_with_page profile sets (contents_in readings) page)
by_page profile sets readings None none = tt
by_page profile sets readings (Some page) none =
    by_epoch profile readings page (epoch_of (contents_in readings ∷ sets)) none

by_fault : (profile : Profile) (sets : List (List Content)) (readings : List Reading) (fault : Option SetFault)
    → segment_fault readings ≡ fault
    → IsVerdictOf readings (verdict_on_segments profile sets (contents_in readings) fault)
by_fault profile sets readings (Some fault) is = tt
by_fault profile sets readings None is = by_page profile sets readings (page_in_set (contents_in readings)) is

by_kept : (profile : Profile) (sets : List (List Content)) (readings : List Reading) (lifted last : Option ℕ)
    → IsVerdictOf readings (if_kept lifted last (verdict_on_kept profile sets readings))
by_kept profile sets readings None last = tt
by_kept profile sets readings (Some time) last = by_fault profile sets readings (segment_fault readings) refl

-- the verdict on a set says that of its segments
pub verdict_says : (profile : Profile) (anchor : ℕ) (past : List (Delivery Reading)) (time size : ℕ)
    (readings : List Reading) (end : SetEnd)
    → Some end ≡ verdict_of profile anchor past (whole time size readings) → IsVerdictOf readings end
verdict_says profile anchor past time size readings end is =
    let same : if_kept (lifted_behind anchor (last_time anchor past) time) (last_time anchor past)
    (verdict_on_kept profile (sets_since profile anchor past) readings) ≡ end = (let e = sym is in cc) in
    subst (IsVerdictOf readings) same
    (by_kept profile (sets_since profile anchor past) readings (lifted_behind anchor (last_time anchor past) time)
    (last_time anchor past))

-- what none of whose segments is refused has contents
pub contents_are : (readings : List Reading) (bytes : List ℕ) → segment_fault readings ≡ None
    → AreRead readings bytes → AreContents (contents_in readings) bytes
contents_are readings bytes none are = (sound readings bytes none are).contents

-- ---- a set that is ready

-- one that is whole
pub ready_whole : (set : ReadySet) (bytes : List ℕ) (delivery : Delivery (List ℕ)) (one : Delivery Reading)
    → set.content ≡ Ok bytes → IsReady delivery set → IsDeliveryRead delivery one
    → (readings : List Reading) × AreRead readings bytes × (one ≡ whole set.time set.size readings)
ready_whole set bytes lost one content ready read = absurd ready
ready_whole set bytes (whole time size segments) one content (time_is, size_is, (own, own_is, are))
    (readings, reads, is) = (
      readings,
      bytes_read segments readings bytes
          (subst (AreBytes segments) (let e = sym own_is ∙ content in let same : own ≡ bytes = cc in same) are)
          reads,
      is ∙ ap (λ (n : ℕ). whole n size readings) (sym time_is)
          ∙ ap (λ (n : ℕ). whole set.time n readings) (sym size_is),
    )
ready_whole set bytes (refused time size fault) one content (time_is, size_is, is) read =
    absurd (let e = sym content ∙ is in cc)

-- and one that is refused
pub ready_refused : (set : ReadySet) (fault : SetFault) (delivery : Delivery (List ℕ)) (one : Delivery Reading)
    → set.content ≡ Err fault → IsReady delivery set → IsDeliveryRead delivery one
    → one ≡ refused set.time set.size fault
ready_refused set fault lost one content ready read = absurd ready
ready_refused set fault (whole time size segments) one content (time_is, size_is, (own, own_is, are)) read =
    absurd (let e = sym content ∙ own_is in cc)
ready_refused set fault (refused time size other) one content (time_is, size_is, is) read =
    let same : other ≡ fault = (let e = sym is ∙ content in cc) in
    read ∙ ap (λ (n : ℕ). refused n size other) (sym time_is)
    ∙ ap (λ (n : ℕ). refused set.time n other) (sym size_is)
    ∙ ap (λ (f : SetFault). refused set.time set.size f) same

-- what it asks
pub whole_load : (profile : Profile) (anchor : ℕ) (past : List (Delivery Reading)) (time size painted : ℕ)
    (readings : List Reading) (end : SetEnd) (lifted : Option ℕ)
    → lifted ≡ lifted_time anchor past (whole time size readings)
    → Some end ≡ verdict_of profile anchor past (whole time size readings)
    → painted ≡ painting_by readings (Some end)
    → Some (record { pts = unwrap_or lifted time; size = size; painted = painted })
    ≡ set_load profile anchor past (whole time size readings)
whole_load profile anchor past time size painted readings end lifted lifted_is end_is painted_is =
    λ i. Some
    (record {
      pts = unwrap_or (lifted_is i) time;
      size = size;
      painted = (painted_is ∙ ap (painting_by readings) end_is) i;
    })

pub refused_load : (profile : Profile) (anchor : ℕ) (past : List (Delivery Reading)) (time size : ℕ)
    (fault : SetFault) (lifted : Option ℕ)
    → lifted ≡ lifted_time {S = Reading} anchor past (refused time size fault)
    → Some (record { pts = unwrap_or lifted time; size = size; painted = 0 })
    ≡ set_load profile anchor past (refused time size fault)
refused_load profile anchor past time size fault lifted lifted_is =
    λ i. Some (record { pts = unwrap_or (lifted_is i) time; size = size; painted = 0 })

-- What a memory shows is what stands after the past that it stands for.
use Rattle.std.proofs.Common.{◌≡◌, ◌∙◌, ◌+◌, ◌*◌, ◌==◌, true, false, cond, List, [], ◌∷◌, Option, Some, None, option_map, unwrap_or, refl, sym, ap, subst}
use Rattle.std.specs.Option.{is_some}
use Rattle.decoder_model.specs.Kept.{last_time}
use Rattle.decoder_model.specs.PackedRows.{IsPackedLine, listed_region}
use Rattle.decoder_model.specs.Readings.{Content, Reading}
use Rattle.decoder_model.specs.Sets.{Delivery}
use Rattle.decoder_model.specs.Shown.{Scene, Standing, plane_of, row_of, standing_after}
use Rattle.decoder_model.specs.Taken.{segments_of, taken_region}
use Rattle.decoder_model.specs.Verdict.{known_epoch}
use Rattle.page_core.specs.Memory.{Memory, HoldsSegments, IsWholeMemory, IsMemoryAfter, head_of}
use Rattle.page_core.specs.Scenes.{ShowsStanding}
use Rattle.page_core.proofs.Pictures.SceneRows.{row_of_page, picture_of_page, line_of_page}
use Rattle.page_core.proofs.Handed.Standings.{AreBoth, IsKnown, both_known}

-- the memory of an epoch shows the page of its last set
shows : (past : List (Delivery Reading)) (memory : Memory) (standing : Standing) → IsMemoryAfter past memory
    → IsWholeMemory memory
    → IsKnown (last_time memory.anchor past) (known_epoch memory.profile memory.anchor past) standing
    → ShowsStanding standing memory
shows past memory standing stands whole known =
    let epoch = known.set ∷ known.before in
    let holds =
    subst (λ (found : Option (List (List Content))). HoldsSegments (segments_of (unwrap_or found [])) memory)
    known.known
    stands.holds in
    let entries = stands.entries known.set known.before standing.page known.known known.page in
    let time_out = stands.time_out known.set known.before standing.page known.known known.page in
    let last = stands.last ∙ known.time in
    record {
      display = holds.display ∙ sym (ap (λ (scene : Scene). scene.display) known.scene);
      entries = entries ∙ sym (ap (λ (scene : Scene). scene.entries) known.scene);
      heads =
          λ id. holds.heads id
          ∙ sym (ap (λ (scene : Scene). option_map head_of (taken_region id scene.taken)) known.scene);
      rows =
          λ y. row_of_page epoch standing.page memory holds whole whole.cluts entries y
          ∙ sym (ap (λ scene. row_of scene y) known.scene);
      picture =
          picture_of_page epoch standing.page memory holds whole whole.cluts entries
          ∙ sym (ap (λ scene. (plane_of scene).colours) known.scene);
      lines = λ id line bytes lent.
          subst (λ (scene : Scene). IsPackedLine scene.taken (listed_region scene id) line bytes) (sym known.scene)
          (line_of_page epoch standing.page memory holds whole whole.cluts entries id line bytes lent);
      until = λ i. cond (time_out i == 0) None (Some (unwrap_or (last i) 0 + 90000 * time_out i));
    }

pub shown_scene : (past : List (Delivery Reading)) (memory : Memory) → IsMemoryAfter past memory → IsWholeMemory memory
    → memory.known ≡ true
    → (standing : Standing) × (standing_after memory.profile memory.anchor past ≡ Some standing)
    × ShowsStanding standing memory
shown_scene past memory stands whole known =
    by (standing_after memory.profile memory.anchor past) refl (both_known memory.profile memory.anchor past)
  where
    by : (found : Option Standing) → standing_after memory.profile memory.anchor past ≡ found
        → AreBoth (last_time memory.anchor past) (known_epoch memory.profile memory.anchor past)
        (standing_after memory.profile memory.anchor past)
        → (standing : Standing) × (standing_after memory.profile memory.anchor past ≡ Some standing)
        × ShowsStanding standing memory
    by (Some standing) is both = (
      standing,
      is,
      shows past memory standing stands whole
          (subst (AreBoth (last_time memory.anchor past) (known_epoch memory.profile memory.anchor past)) is both),
    )
    by None is both =
        let none : known_epoch memory.profile memory.anchor past ≡ None =
        subst (AreBoth (last_time memory.anchor past) (known_epoch memory.profile memory.anchor past)) is both in
        absurd (let e : true ≡ false = sym known ∙ stands.known ∙ ap is_some none in cc)

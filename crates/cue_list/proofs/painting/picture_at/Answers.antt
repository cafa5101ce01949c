use Rattle.std.proofs.Common.{◌≡◌, ◌∙◌, ◌+◌, ◌*◌, List, Option, Some, None, sym, ap, subst, arith}
use Rattle.sub_base.specs.Colour.{clear}
use Rattle.cue_list.specs.declared.epoch.Epoch.{Epoch}
use Rattle.cue_records.specs.declared.region.Region.{Region}
use Rattle.cue_list.specs.Authored.{authored_at, colour_in_epoch, epoch_at}
use Rattle.cue_list.specs.Planes.{ArePaintable, ShowsRegions}
use Rattle.cue_list.proofs.PlaneRows.{plane_is}
use Rattle.cue_list.proofs.ShownLaws.{ArePaintable-found}
use Rattle.cue_list.proofs.painting.picture_at.Goals as goal

pub paint_regions-requires-clause-regions : goal.paint_regions-requires-clause-regions
paint_regions-requires-clause-regions c =
    let script = c.args.script.now in
    let found : epoch_at script.epochs c.args.tick ≡ Some c.in-Some.epoch.now =
    ap (λ (epochs : List Epoch). epoch_at epochs c.args.tick) (sym c.as_slice.ensures) ∙ sym (c.in-Some.ensures) in
    subst (ArePaintable script.width script.height script.pictures c.in-Some.epoch.now.cues)
    (sym c.as_slice-in-Some.ensures)
    (ArePaintable-found script.origin script.width script.height script.refresh script.epochs script.pictures
    c.args.tick c.in-Some.epoch.now script.sound found)

pub returns-in-Some : goal.returns-in-Some
returns-in-Some c =
    let script = c.args.script.now in
    let plane = c.paint_regions.new.plane in
    let found : Some c.in-Some.epoch.now ≡ epoch_at script.epochs c.args.tick =
    c.in-Some.ensures ∙ ap (λ (epochs : List Epoch). epoch_at epochs c.args.tick) c.as_slice.ensures in
    let shown : ShowsRegions script.pictures c.in-Some.epoch.now c.in-Some.epoch.now.regions c.args.tick script.width
    script.height plane =
    subst (λ (regions : List Region). ShowsRegions script.pictures c.in-Some.epoch.now regions c.args.tick script.width
    script.height plane) c.as_slice-in-Some.ensures c.paint_regions.ensures in
    plane_is (λ x y. authored_at script.epochs script.pictures c.args.tick x y) script.width script.height clear plane
    (omega arith)
    (λ x y across down. shown x y across down
    ∙ ap (λ (epoch : Option Epoch). colour_in_epoch script.pictures c.args.tick x y epoch) found)

pub returns-in_default : goal.returns-in_default
returns-in_default c =
    let script = c.args.script.now in
    let plane = c.clear_plane.new.plane in
    let found : None ≡ epoch_at script.epochs c.args.tick =
    c.in_default.ensures ∙ ap (λ (epochs : List Epoch). epoch_at epochs c.args.tick) c.as_slice.ensures in
    plane_is (λ x y. authored_at script.epochs script.pictures c.args.tick x y) script.width script.height clear plane
    (omega arith)
    (λ x y across down. c.clear_plane.ensures (y * script.width + x)
    ∙ ap (λ (epoch : Option Epoch). colour_in_epoch script.pictures c.args.tick x y epoch) found)

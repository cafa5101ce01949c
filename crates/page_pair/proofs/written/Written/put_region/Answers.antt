use Rattle.std.proofs.Common.{◌∙◌, ◌++◌, List, ap, arith, length, map, refl, subst, sym}
use Rattle.std.proofs.lemmas.List.{length-map}
use Rattle.std.specs.List.{flat_map}
use Rattle.stream_syntax.specs.Fields.{FitsFields}
use Rattle.stream_syntax.specs.Segments.{listing_fields, spelled}
use Rattle.stream_syntax.specs.declared.region.Listing.{Listing}
use Rattle.set_coder.specs.SetSegments.{epoch_region, listed_region}
use Rattle.set_coder.proofs.WritableLaws.{fits_numbered, listed_writable}
use Rattle.shown_plan.specs.NamedSets.{named_listing, named_region}
use Rattle.page_pair.specs.PairSets.{names_of}
use Rattle.page_pair.proofs.SharingLaws.{number_small}
use Rattle.page_pair.proofs.WritingLaws.{one_more}
use Rattle.page_pair.proofs.written.Written.put_region.Goals as goal

pub append_listed-requires-clause-many : goal.append_listed-requires-clause-many
append_listed-requires-clause-many c =
    let names = names_of c.args.shared.now in
    let epoch = c.args.epoch.now in
    ap length
    (c.as_slice-2.ensures.value ∙ c.in_ok-listings.ensures ∙ ap (map (named_listing names epoch)) c.as_slice.ensures)
    ∙ length-map c.args.sent.now.cues (named_listing names epoch)

pub append_listed-requires-clause-fit : goal.append_listed-requires-clause-fit
append_listed-requires-clause-fit c =
    let names = names_of c.args.shared.now in
    let epoch = c.args.epoch.now in
    subst (λ (ls : List Listing). FitsFields (flat_map listing_fields ls))
    (sym
    (c.as_slice-2.ensures.value ∙ c.in_ok-listings.ensures ∙ ap (map (named_listing names epoch)) c.as_slice.ensures))
    (fits_numbered names epoch c.args.sent.now.cues c.requires.usable c.requires.sent.cues
    (λ place has. number_small c.args.shared.now place c.requires.few (omega (arith, c.requires.usable.few_cues, has))))

pub returns : goal.returns
returns c =
    let names = names_of c.args.shared.now in
    let epoch = c.args.epoch.now in
    let sent = c.args.sent.now in
    one_more c.args.page (named_region names epoch sent) c.args.self.now c.note.new.self
    c.append_listed.new.field.items c.len-begin.result
    (listed_writable epoch c.args.page sent (epoch_region epoch sent.id) (map (named_listing names epoch) sent.cues)
    (omega arith) c.requires.usable c.requires.sent refl (length-map sent.cues (named_listing names epoch))
    (fits_numbered names epoch sent.cues c.requires.usable c.requires.sent.cues
    (λ place has. number_small c.args.shared.now place c.requires.few
    (omega (arith, c.requires.usable.few_cues, has))))).0
    (c.in_ok-append_listed.ensures.bytes
    ∙ ap (λ (ls : List Listing). c.args.self.now.bytes.items ++ spelled c.args.page (listed_region epoch sent ls))
    (c.as_slice-2.ensures.value ∙ c.in_ok-listings.ensures ∙ ap (map (named_listing names epoch)) c.as_slice.ensures))
    (omega (arith, c.len-begin.ensures, c.args.self.now.bytes.ok)) (ap (λ v. v.items) c.note.ensures.bytes)
    c.note.ensures.longest

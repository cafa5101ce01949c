use Rattle.std.proofs.Common.{◌≡◌, ◌∙◌, ap, List, ℕ}
use Rattle.pixel_store.specs.Private.Extents.{pixel}
use Rattle.pixel_store.specs.Private.Stores.{extent_at}
use Rattle.pixel_store.proofs.StoreCalls.{extent_fits, code_read}
use Rattle.pixel_store.proofs.store.Store.code_at.Goals as goal

pub code_at-requires-clause-fits : goal.code_at-requires-clause-fits
code_at-requires-clause-fits c =
    let inside = c.self.inside in
    let here : c.extent_at.result ≡ extent_at inside.extents.items c.args.slot = cc in
    rw c.deref.ensures.value
    (extent_fits inside.bytes.items inside.used inside.extents.items c.args.self.now c.self.view_is c.self.invariant.0
    c.args.slot c.requires.slot c.extent_at.result here)

pub returns-clause-code : goal.returns-clause-code
returns-clause-code c =
    let inside = c.self.inside in
    let here : c.extent_at.result ≡ extent_at inside.extents.items c.args.slot = cc in
    c.code_at.ensures
    ∙ ap (λ (bytes : List ℕ). pixel bytes c.extent_at.result c.args.x c.args.y) c.deref.ensures.value
    ∙ code_read inside.bytes.items inside.used inside.extents.items c.args.self.now c.self.view_is c.self.invariant.0
    c.args.slot c.requires.slot c.extent_at.result here
    c.args.x c.args.y c.requires.x c.requires.y

pub returns-clause-last : goal.returns-clause-last
returns-clause-last c past after =
    returns-clause-code c ∙ after.codes c.args.slot c.args.x c.args.y c.requires.slot c.requires.x c.requires.y

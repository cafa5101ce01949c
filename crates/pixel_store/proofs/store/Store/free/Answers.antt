use Rattle.pixel_store.proofs.StoreCalls.{all_bytes}
use Rattle.pixel_store.proofs.store.Store.free.Goals as goal

pub returns-clause-all : goal.returns-clause-all
returns-clause-all c =
    all_bytes c.self.inside.bytes.items c.self.inside.used c.self.inside.extents.items c.args.self.now c.self.view_is
    c.self.invariant.0

use Rattle.std.proofs.Common.{ℕ, List, ap, sym, ◌∙◌, length, take, drop, min}
use Rattle.sub_base.specs.InMemory.{Supply}
use Rattle.sub_base.proofs.TransferSteps.{ReadConsumes-given, range_from}
use Rattle.sub_base.proofs.in_memory.MemSourceSource.read.Goals as goal

pub returns-clause-bytes : goal.returns-clause-bytes
returns-clause-bytes c =
    let left = ap (λ (s : Supply). s.left) (sym c.self.view_is) in
    let slice = ap (λ (bytes : List ℕ). drop c.self.inside.place bytes) c.deref-2.ensures.value ∙ sym left in
    let whole = range_from c.deref-2.result.now c.self.inside.place ∙ slice in
    ReadConsumes-given c.self.inside.bytes.items c.args.self.now.left c.give-count.new.buf c.self.inside.place
    c.self.inside.most c.give-count.result c.self.invariant.1 left
    (c.give-count.ensures.count
    ∙ ap (λ (bytes : List ℕ). min (min c.self.inside.most (length c.give-count.new.buf)) (length bytes)) whole)
    (c.give-count.ensures.front ∙ ap (λ (bytes : List ℕ). take c.give-count.result bytes) whole)

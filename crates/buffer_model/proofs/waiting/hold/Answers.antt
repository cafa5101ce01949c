use Rattle.std.proofs.Common.{◌≡◌, ℕ, ◌+◌, ◌≤◌, List, [], ◌∷◌, ◌++◌, All, length, sum_by, arith, sym, subst, ap, ◌∙◌}
use Rattle.buffer_model.specs.declared.waiting.Waiting.{Waiting}
use Rattle.buffer_model.specs.Meters.{held, held_of}
use Rattle.buffer_model.proofs.MeterLaws.{later, later-held, later-bytes, later-some, length-bytes, held_of-empty, held-one, some-one}
use Rattle.buffer_model.proofs.waiting.hold.Goals as goal
use Rattle.std.proofs.lemmas.List.Sums.{sum_by_push}

pub push_reserved-requires : goal.push_reserved-requires
push_reserved-requires c =
    let kept = later c.args.tick c.args.waiting.now.items in
    let count = length-bytes kept (later-some c.args.tick c.args.waiting.now.items c.requires.some) in
    let same : length c.forget_done.new.waiting.items ≡ length kept = ap length c.forget_done.ensures.items in
    omega (
      arith,
      count,
      same,
      later-bytes c.args.tick
          c.args.waiting.now.items,
      c.forget_done.new.waiting.ok,
      c.forget_done.ensures.capacity,
      c.requires.room,
      c.requires.level,
      c.if-bytes-gt0.true,
    )

pub returns-then-bytes-gt0-clause-some : goal.returns-then-bytes-gt0-clause-some
returns-then-bytes-gt0-clause-some c =
    let Some : List Waiting → Type 0 = λ sets. All (λ (set : Waiting). 1 ≤ set.bytes) sets in
    let kept = later c.args.tick c.args.waiting.now.items in
    let own : Waiting = record { done = c.args.done; bytes = c.args.bytes } in
    subst Some
    (sym (c.push_reserved.ensures.items
    ∙ ap (λ (sets : List Waiting). sets ++ own ∷ []) c.forget_done.ensures.items))
    (some-one kept own (later-some c.args.tick c.args.waiting.now.items c.requires.some) c.if-bytes-gt0.true)

pub returns-then-bytes-gt0-clause-bytes : goal.returns-then-bytes-gt0-clause-bytes
returns-then-bytes-gt0-clause-bytes c =
    let bytes : Waiting → ℕ = λ (set : Waiting). set.bytes in
    let kept = later c.args.tick c.args.waiting.now.items in
    let own : Waiting = record { done = c.args.done; bytes = c.args.bytes } in
    let all =
    ap (sum_by bytes)
    (c.push_reserved.ensures.items
    ∙ ap (λ (sets : List Waiting). sets ++ own ∷ []) c.forget_done.ensures.items) in
    omega (arith, all, sum_by_push bytes kept own, later-bytes c.args.tick c.args.waiting.now.items, c.requires.level)

pub returns-then-bytes-gt0-clause-held : goal.returns-then-bytes-gt0-clause-held
returns-then-bytes-gt0-clause-held c = λ after order.
    let kept = later c.args.tick c.args.waiting.now.items in
    let own : Waiting = record { done = c.args.done; bytes = c.args.bytes } in
    ap (held after)
    (c.push_reserved.ensures.items
    ∙ ap (λ (sets : List Waiting). sets ++ own ∷ []) c.forget_done.ensures.items)
    ∙ held-one after kept own
    ∙ ap (λ (n : ℕ). n + held_of after own) (later-held c.args.tick after c.args.waiting.now.items order)

pub returns-else-bytes-gt0-clause-some : goal.returns-else-bytes-gt0-clause-some
returns-else-bytes-gt0-clause-some c =
    let Some : List Waiting → Type 0 = λ sets. All (λ (set : Waiting). 1 ≤ set.bytes) sets in
    subst Some (sym c.forget_done.ensures.items) (later-some c.args.tick c.args.waiting.now.items c.requires.some)

pub returns-else-bytes-gt0-clause-bytes : goal.returns-else-bytes-gt0-clause-bytes
returns-else-bytes-gt0-clause-bytes c =
    let bytes : Waiting → ℕ = λ (set : Waiting). set.bytes in
    omega (
      arith,
      ap (sum_by bytes) c.forget_done.ensures.items,
      later-bytes c.args.tick
          c.args.waiting.now.items,
      c.requires.level,
    )

pub returns-else-bytes-gt0-clause-held : goal.returns-else-bytes-gt0-clause-held
returns-else-bytes-gt0-clause-held c = λ after order.
    let zero_bytes : c.args.bytes ≡ 0 = omega (arith, c.if-bytes-gt0.false) in
    let empty : held_of after (record { done = c.args.done; bytes = c.args.bytes }) ≡ 0 =
    ap (λ (bytes : ℕ). held_of after (record { done = c.args.done; bytes = bytes })) zero_bytes
    ∙ held_of-empty after c.args.done in
    omega (
      arith,
      ap (held after) c.forget_done.ensures.items,
      later-held c.args.tick after c.args.waiting.now.items
          order,
      empty,
    )

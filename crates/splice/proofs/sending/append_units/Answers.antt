-- One unit after the other is put out.
use Rattle.std.proofs.Common.{ℕ, ◌+◌, ◌++◌, List, map, drop, sym, ap, subst, ◌∙◌}
use Rattle.std.specs.Prelude.{slice_index}
use Rattle.std.specs.List.{concat}
use Rattle.std.proofs.lemmas.List.{append-nil, drop_more, drop_all}
use Rattle.stream_syntax.specs.DataField.{data_field}
use Rattle.stream_syntax.specs.Pes.{written_pes}
use Rattle.splice.specs.Private.Sendings.{AreCutTo, packet_at}
use Rattle.splice.proofs.SendingLaws.{next_unit, no_unit}
use Rattle.splice.proofs.sending.append_units.Goals as goal

pub loop-length-preserved : goal.loop-length-preserved
loop-length-preserved c units are =
    let lengths = c.args.lengths.now in
    let i = c.loop-length.length-index in
    let old = c.args.out.now.items in
    let out = c.loop-length.out.items in
    let new = c.write_unit.new.out.items in
    let left = c.loop-length.invariant units are in
    next_unit c.args.time (old ++ concat (map (packet_at c.args.time) units)) out new c.loop-length.left.now
    c.split_at.result.0.now c.split_at.result.1.now (drop (i + 1) lengths) (slice_index lengths i) left.0
    (subst (λ (ns : List ℕ). AreCutTo c.loop-length.left.now ns left.0)
    (drop_more lengths i 0 c.loop-length-test.true) left.1) c.segment_bytes.result c.segment_bytes.ensures.exact
    c.split_at.ensures.front c.split_at.ensures.back
    (λ one is. c.in_ok-write_unit.ensures.bytes
    ∙ ap (λ (bytes : List ℕ). out ++ written_pes c.args.time (data_field bytes)) is)
    left.2

pub returns : goal.returns
returns c units are =
    let left = c.loop-length.invariant units are in
    let none =
    no_unit c.loop-length.left.now left.0
    (subst (λ (ns : List ℕ). AreCutTo c.loop-length.left.now ns left.0)
    (drop_all c.loop-length.length-index c.args.lengths.now c.loop-length-test.false) left.1) in
    sym (left.2
    ∙ ap (λ (all : List (List (List ℕ))). c.loop-length.out.items ++ concat (map (packet_at c.args.time) all)) none
    ∙ append-nil c.loop-length.out.items)

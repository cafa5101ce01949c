use Rattle.std.proofs.Common.{ℕ, List, [], ◌∷◌, ◌++◌, refl, subst, arith}
use Rattle.std.proofs.lemmas.List.Elements.{All-cons, All-append, All-nil}
use Rattle.stream_syntax.specs.Segments.{end_of_set, IsWritable}
use Rattle.set_coder.specs.SetSegments.{leading_segments, AreObjectsOf}
use Rattle.set_coder.proofs.ObjectLaws.{bytes_are}
use Rattle.set_coder.proofs.SetPacketLaws.{objects_fit}
use Rattle.set_coder.proofs.WritableLaws.{leading_writable, end_writable}
use Rattle.set_coder.proofs.set_packets.segments_of.Goals as goal

pub append_objects-requires-clause-room : goal.append_objects-requires-clause-room
append_objects-requires-clause-room c =
    objects_fit c.args.script.now c.args.set.now c.epoch_of-epoch.result.now c.as_slice.result.now c.requires.fits
    c.epoch_of-epoch.ensures.found c.as_slice.ensures

pub returns : goal.returns
returns c =
    let script = c.args.script.now in
    let epoch = c.epoch_of-epoch.result.now in
    let leading = leading_segments script epoch c.args.set.now in
    let objects = c.in_ok-append_objects.ensures.objects in
    let fits = IsWritable c.args.page in (
      leading ++ (objects.0 ++ end_of_set ∷ []),
      (record {
        epoch = epoch;
        found = c.epoch_of-epoch.ensures.found;
        objects = objects.0;
        drawn =
            subst (λ (cues : List ℕ). AreObjectsOf script.pictures epoch cues objects.0) c.as_slice.ensures
            objects.1;
        fit =
            All-append fits leading (objects.0 ++ end_of_set ∷ [])
            (leading_writable script epoch c.args.page c.args.set.now (omega arith) script.sound
            c.epoch_of-epoch.ensures.usable c.epoch_of-epoch.ensures.carried)
            (All-append fits objects.0 (end_of_set ∷ []) objects.2
            (All-cons fits end_of_set [] (end_writable c.args.page (omega arith)) (All-nil fits)));
        whole = refl;
      }),
      bytes_are c.args.page leading objects.0 c.in_ok-bytes.bytes.items c.append_leading.new.field.items
          c.append_objects.new.field.items c.append_end.new.field.items c.in_ok-bytes.ensures.items
          c.in_ok-append_leading.ensures.bytes objects.3 c.in_ok-append_end.ensures.bytes,
    )

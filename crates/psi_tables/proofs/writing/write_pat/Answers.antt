use Rattle.std.proofs.Common.{rules, sym, ap, ◌∙◌, ◌*◌, ◌++◌, length}
use Rattle.std.specs.List.{flat_map}
use Rattle.std.proofs.lemmas.List.{take_all}
use Rattle.psi_tables.specs.Writing.{head_bytes, pat_entry}
use Rattle.psi_tables.proofs.WritingLaws.{appended, pat_size}
use Rattle.psi_tables.proofs.writing.write_pat.Goals as goal

pub returns-clause-section : goal.returns-clause-section
returns-clause-section c = appended c.args.out.now.items (flat_map pat_entry c.args.services.now) _ 0 1 (record {
  size = 4 * length c.args.services.now;
  start = c.len-start.result;
  headed = c.append.new.out.items;
  bodied = c.loop-service.out.items;
  size_is = sym (pat_size c.args.services.now);
  start_is = search rules;
  headed_is =
      c.append.ensures.items ∙ ap (λ head. c.reserve.new.self.items ++ head) c.head_bytes.ensures
      ∙ ap (λ old. old ++ head_bytes 0 1 (4 * length c.args.services.now)) c.reserve.ensures.items;
  bodied_is =
      c.loop-service.invariant.0
      ∙ ap (λ services. c.append.new.out.items ++ flat_map pat_entry services)
      (take_all c.loop-service.service-index c.args.services.now c.loop-service-test.false);
  new_is = c.append_crc.ensures;
})

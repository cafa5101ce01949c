use Rattle.std.proofs.Common.{rules, sym, ap, ◌∙◌, ◌++◌}
use Rattle.psi_tables.specs.Writing.{head_bytes, pmt_body}
use Rattle.psi_tables.proofs.WritingLaws.{appended}
use Rattle.psi_tables.proofs.writing.write_pmt.Goals as goal

pub returns-clause-section : goal.returns-clause-section
returns-clause-section c =
    appended c.args.out.now.items (pmt_body c.args.service.now) _ 2 c.args.service.now.number (record {
      size = 19;
      start = c.len-start.result;
      headed = c.append.new.out.items;
      bodied = c.append-2.new.out.items;
      size_is = sym c.pmt_body-body.ensures.size;
      start_is = search rules;
      headed_is =
          c.append.ensures.items ∙ ap (λ head. c.reserve.new.self.items ++ head) c.head_bytes.ensures
          ∙ ap (λ old. old ++ head_bytes 2 c.args.service.now.number 19) c.reserve.ensures.items;
      bodied_is = c.append-2.ensures.items ∙ ap (λ body. c.append.new.out.items ++ body) c.pmt_body-body.ensures.bytes;
      new_is = c.append_crc.ensures;
    })

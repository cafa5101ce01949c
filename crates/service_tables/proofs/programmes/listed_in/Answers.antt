use Rattle.std.proofs.Common.{◌∙◌, sym, []}
use Rattle.service_tables.specs.Tables.{entries_in}
use Rattle.service_tables.proofs.EntryLaws.{all_listed, entry_listed, entry_passed, none_before}
use Rattle.service_tables.proofs.ListLaws.{none_read, one_more_read}
use Rattle.service_tables.proofs.programmes.listed_in.Goals as goal

pub loop-entry-init : goal.loop-entry-init
loop-entry-init c = record {
  all = rw c.new-programmes.ensures.items
      (none_before (entries_in c.args.pat.now) _ c.entries_in-rest.ensures);
  read = rw c.new-programmes.ensures.items (none_read []);
}

pub loop-entry-preserved-in_ok-push : goal.loop-entry-preserved-in_ok-push
loop-entry-preserved-in_ok-push c = record {
  all = rw c.in_ok-push.ensures.items
      (entry_listed (entries_in c.args.pat.now) _ _ _ _ _ c.in_ok-make.ensures.entry c.in-Some.ensures
      (sym (rw c.deref.ensures.value at c.is_new.ensures) ∙ c.if-is_new.true) c.loop-entry.invariant.all);
  read = rw c.in_ok-push.ensures.items
      (one_more_read _ _ [] c.loop-entry.invariant.read c.in_ok-make.ensures.read);
}

pub loop-entry-preserved : goal.loop-entry-preserved
loop-entry-preserved c = record {
  all =
      entry_passed (entries_in c.args.pat.now) _ _ _ _ c.in-Some.ensures
      (sym (rw c.deref.ensures.value at c.is_new.ensures) ∙ c.if-is_new.false) c.loop-entry.invariant.all;
  read = c.loop-entry.invariant.read;
}

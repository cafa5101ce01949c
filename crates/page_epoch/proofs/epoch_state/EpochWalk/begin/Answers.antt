use Rattle.std.proofs.Common.{refl}
use Rattle.std.proofs.lemmas.Option.{slice_get_read}
use Rattle.page_epoch.proofs.epoch_state.EpochWalk.begin.Goals as goal

pub returns-clause-walk : goal.returns-clause-walk
returns-clause-walk c = record {
  epoch = c.index-epochs-place.result;
  found =
      slice_get_read c.args.epochs.now _ c.args.place c.index-epochs-place.result refl c.requires.there
      c.index-epochs-place.is;
  layout = c.in_ok-layout.ensures;
  current = c.in_ok-current.ensures.current c.index-epochs-place.result;
  safe = c.in_ok-current.ensures.safe;
}

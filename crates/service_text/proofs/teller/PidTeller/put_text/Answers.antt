use Rattle.service_text.proofs.TellLaws.{all_listed, both_put, none_wanting}
use Rattle.service_text.proofs.teller.PidTeller.put_text.Goals as goal

pub returns : goal.returns
returns g c = λ packets text has.
    both_put _ _ _ _ _ _ packets text c.list_programmes.new.list (c.put_text.ensures packets text has.pids)
    (all_listed _ _ packets _ has.services c.list_programmes.ensures
    (c.programmes.ensures packets (none_wanting c.args.self.now c.requires).1 has.programmes))
    c.put_services.ensures

use Rattle.doubled_packet_laws.proofs.OtherPids.{received_of_pid, received_of_all}
use Rattle.doubled_packet_laws.proofs.laws.other_pids_change_no_picture.Goals as goal

pub returns-clause-alone : goal.returns-clause-alone
returns-clause-alone c reception ended packets tick shown all is =
    record {
      past = is.past;
      received = received_of_pid reception ended packets is.past all is.received;
      is_view =
          is.is_view;
    }

pub returns-clause-all : goal.returns-clause-all
returns-clause-all c reception ended packets tick shown all is =
    record {
      past = is.past;
      received = received_of_all reception ended packets is.past all is.received;
      is_view =
          is.is_view;
    }

use Rattle.doubled_packet_laws.proofs.Received.{received_twice, received_once}
use Rattle.doubled_packet_laws.proofs.laws.doubles_change_no_picture.Goals as goal

pub returns-clause-twice : goal.returns-clause-twice
returns-clause-twice c reception ended packets tick shown is =
    record {
      past = is.past;
      received = received_twice reception ended packets is.past is.received;
      is_view =
          is.is_view;
    }

pub returns-clause-once : goal.returns-clause-once
returns-clause-once c reception ended packets tick shown is =
    record {
      past = is.past;
      received = received_once reception ended packets is.past is.received;
      is_view =
          is.is_view;
    }

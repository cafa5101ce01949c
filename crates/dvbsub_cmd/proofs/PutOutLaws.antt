-- What was told of packets since a start with an empty buffer.
use Rattle.std.proofs.Common.{◌≡◌, refl, ℕ, None, List, []}
use Rattle.std.proofs.lemmas.List.Elements.{All-nil}
use Rattle.command_text.specs.Putting.{Buffered}
use Rattle.command_text.proofs.PutOutLaws.{fresh, put_nothing}
use Rattle.packet_walk.specs.Told.{HasTold, Tells}
use Rattle.stream_syntax.specs.TransportPackets.{packet_fault}
use Rattle.sub_base.specs.Endpoints.{Received}

-- packets that were taken from the beginning on were told
pub told_all : {Teller : Type 0} (stands : Teller → List (List ℕ) → List ℕ → Type 0) (pid : ℕ)
    (start now : Received) (made taken : Teller) (buffer put : Buffered) (packets : List (List ℕ))
    → buffer ≡ fresh → stands made [] [] → Tells stands pid start now made taken buffer put 0 packets
    → HasTold stands pid start now taken put packets
told_all stands pid start now made taken buffer put packets is_fresh nothing tells =
    tells.extends start [] refl
    (record {
      passed = All-nil (λ (packet : List ℕ). packet_fault pid packet ≡ None);
      text = [];
      told = nothing;
      out = put_nothing start buffer is_fresh;
    })

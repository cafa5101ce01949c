-- What was told of packets, by what tells of them: a relation says which text a value has put out of which packets.
use Rattle.std.specs.Prelude.{◌≡◌, ℕ, List, [], ◌∷◌, ◌++◌, length, All, None}
use Rattle.stream_syntax.specs.TransportPackets.{packet_fault}
use Rattle.command_text.specs.Putting.{Buffered, IsPutOut, PutsOut}
use Rattle.sub_base.specs.Endpoints.{Received}

-- so many packets were taken
pub record HasTaken {Teller : Type 0} (stands : Teller → List (List ℕ) → List ℕ → Type 0) (teller : Teller)
    (count : ℕ) : Type 0 where
  pub packets : List (List ℕ)
  pub text : List ℕ
  pub counted : length packets ≡ count
  pub told : stands teller packets text

-- a value that told of packets, so many, tells of one more, and this text was put out
pub record TellsOne {Teller : Type 0} (stands : Teller → List (List ℕ) → List ℕ → Type 0)
    (before now : Received)
    (old new : Teller) (was is : Buffered) (place : ℕ) (packet : List ℕ) : Type 0 where
  pub goes : (packets : List (List ℕ)) (text : List ℕ) → length packets ≡ place → stands old packets text
      → (more : List ℕ) × stands new (packets ++ packet ∷ []) (text ++ more) × PutsOut before now was is more

-- nothing more was told
pub record StaysTold {Teller : Type 0} (stands : Teller → List (List ℕ) → List ℕ → Type 0)
    (before now : Received)
    (old new : Teller) (was is : Buffered) : Type 0 where
  pub stays : (packets : List (List ℕ)) (text : List ℕ) → stands old packets text → stands new packets text
  pub puts : PutsOut before now was is []

-- the packets were taken, none of them is refused, and their text was put out since the start
pub record HasTold {Teller : Type 0} (stands : Teller → List (List ℕ) → List ℕ → Type 0) (pid : ℕ)
    (start now : Received)
    (teller : Teller) (buffer : Buffered) (packets : List (List ℕ)) : Type 0 where
  pub passed : All (λ packet. packet_fault pid packet ≡ None) packets
  pub text : List ℕ
  pub told : stands teller packets text
  pub out : IsPutOut start now buffer text

-- these packets were taken behind all that were taken before, which were so many
pub record Tells {Teller : Type 0} (stands : Teller → List (List ℕ) → List ℕ → Type 0) (pid : ℕ)
    (before now : Received)
    (old new : Teller) (was is : Buffered) (first : ℕ) (more : List (List ℕ)) : Type 0 where
  pub extends : (start : Received) (packets : List (List ℕ)) → length packets ≡ first
      → HasTold stands pid start before old was packets → HasTold stands pid start now new is (packets ++ more)

-- What was told of packets, one packet after the other.
use Rattle.std.proofs.Common.{◌≡◌, ◌∙◌, ℕ, ◌+◌, ◌<◌, List, [], ◌∷◌, ◌++◌, length, take, get_or, Some, None, append-nil, append_assoc, length-append, length-take-le, sym, ap, subst, arith}
use Rattle.std.proofs.lemmas.List.{take_more}
use Rattle.std.proofs.lemmas.List.Elements.{All-push}
use Rattle.stream_syntax.specs.TransportPackets.{packet_fault}
use Rattle.stream_syntax.specs.declared.transport.PacketFault.{PacketFault}
use Rattle.command_text.specs.Putting.{Buffered, IsPutOut}
use Rattle.sub_base.specs.Endpoints.{Received}
use Rattle.packet_walk.specs.Told.{HasTaken, HasTold, StaysTold, Tells, TellsOne}

module _ {Teller : Type 0} (stands : Teller → List (List ℕ) → List ℕ → Type 0) where
  -- so many packets were taken, and one more
  pub taken_more : (a b : Received) (old new : Teller) (was is : Buffered) (place : ℕ) (packet : List ℕ)
      → TellsOne stands a b old new was is place packet → HasTaken stands old place
      → HasTaken stands new (place + 1)
  taken_more a b old new was is place packet one taken =
      let goes = one.goes taken.packets taken.text taken.counted taken.told in
      record {
        packets = taken.packets ++ packet ∷ [];
        text = taken.text ++ goes.0;
        counted = length-append taken.packets (packet ∷ []) ∙ ap (λ (n : ℕ). n + 1) taken.counted;
        told = goes.1;
      }

  -- one packet more
  pub tells_one : (pid : ℕ) (a b : Received) (old new : Teller) (was is : Buffered) (place : ℕ)
      (packet : List ℕ) → packet_fault pid packet ≡ None
      → TellsOne stands a b old new was is place packet → Tells stands pid a b old new was is place (packet ∷ [])
  tells_one pid a b old new was is place packet taken one = record {
    extends = λ start packets. λ count told.
        let goes = one.goes packets told.text count told.told in
        record {
          passed = All-push (λ (p : List ℕ). packet_fault pid p ≡ None) packets packet told.passed taken;
          text = told.text ++ goes.0;
          told = goes.1;
          out = goes.2.extends start told.text told.out;
        };
  }

  -- packets, and then others behind them
  tells_both : (pid : ℕ) (a b c : Received) (old mid new : Teller) (was between is : Buffered) (first next : ℕ)
      (some more : List (List ℕ))
      → Tells stands pid a b old mid was between first some → Tells stands pid b c mid new between is next more
      → next ≡ first + length some → Tells stands pid a c old new was is first (some ++ more)
  tells_both pid a b c old mid new was between is first next some more one other next_is = record {
    extends = λ start packets. λ count told.
        let so_far : length (packets ++ some) ≡ next =
        length-append packets some ∙ (ap (λ (n : ℕ). n + length some) count ∙ sym next_is) in
        subst (λ (all : List (List ℕ)). HasTold stands pid start c new is all) (append_assoc packets some more)
        (other.extends start (packets ++ some) so_far (one.extends start packets count told));
  }

  -- no packets
  pub tells_nothing : (pid : ℕ) (a : Received) (teller : Teller) (buffer : Buffered) (first : ℕ)
      → Tells stands pid a a teller teller buffer buffer first []
  tells_nothing pid a teller buffer first = record {
    extends =
        λ start packets. λ count told. subst
        (λ (all : List (List ℕ)). HasTold stands pid start a teller buffer all) (sym (append-nil packets)) told;
  }

  -- a packet that cannot be taken
  tells_no_more : (pid : ℕ) (a b : Received) (old new : Teller) (was is : Buffered) (first : ℕ)
      → StaysTold stands a b old new was is → Tells stands pid a b old new was is first []
  tells_no_more pid a b old new was is first stays = record {
    extends =
        λ start packets. λ count told. subst (λ (all : List (List ℕ)). HasTold stands pid start b new is all)
        (sym (append-nil packets)) (record {
          passed = told.passed;
          text = told.text;
          told = stays.stays packets told.text told.told;
          out =
              subst (λ (text : List ℕ). IsPutOut start b is text) (append-nil told.text)
              (stays.puts.extends start told.text told.out);
        });
  }

  -- one packet of a list more
  pub tells_one_more : (pid : ℕ) (a b c : Received) (old mid new : Teller) (was between is : Buffered)
      (first place i : ℕ) (packets : List (List ℕ))
      → Tells stands pid a b old mid was between first (take i packets)
      → packet_fault pid (get_or packets i []) ≡ None
      → TellsOne stands b c mid new between is place (get_or packets i [])
      → i < length packets → place ≡ first + i
      → Tells stands pid a c old new was is first (take (i + 1) packets)
  tells_one_more pid a b c old mid new was between is first place i packets so_far taken one within here =
      let count : place ≡ first + length (take i packets) =
      here ∙ ap (λ (n : ℕ). first + n) (sym (length-take-le i packets (omega arith))) in
      subst (λ (all : List (List ℕ)). Tells stands pid a c old new was is first all)
      (sym (take_more packets i [] within))
      (tells_both pid a b c old mid new was between is first place _ _ so_far
      (tells_one pid b c mid new between is place _ taken one) count)

  -- a packet of a list cannot be taken
  pub tells_refused : (pid : ℕ) (a b c : Received) (old mid new : Teller) (was between is : Buffered)
      (first place i : ℕ) (packets : List (List ℕ)) (fault : PacketFault)
      → Tells stands pid a b old mid was between first (take i packets) → StaysTold stands b c mid new between is
      → i < length packets → place ≡ first + i
      → packet_fault pid (get_or packets i []) ≡ Some fault
      → (k : ℕ) × (k < length packets) × (place ≡ first + k)
      × (packet_fault pid (get_or packets k []) ≡ Some fault)
      × Tells stands pid a c old new was is first (take k packets)
  tells_refused pid a b c old mid new was between is first place i packets fault so_far stays within here refused =
      let count : place ≡ first + length (take i packets) =
      here ∙ ap (λ (n : ℕ). first + n) (sym (length-take-le i packets (omega arith))) in (
        i,
        within,
        here,
        refused,
        subst (λ (all : List (List ℕ)). Tells stands pid a c old new was is first all) (append-nil (take i packets))
            (tells_both pid a b c old mid new was between is first place _ _ so_far
            (tells_no_more pid b c mid new between is place stays) count),
      )

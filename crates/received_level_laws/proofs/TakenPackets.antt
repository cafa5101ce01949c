-- Packets that are all taken.
use Rattle.std.proofs.Common.{◌≡◌, ◌∙◌, ℕ, suc, ◌+◌, Bool, true, false, cond, List, [], ◌∷◌, take, Option, Some, None, refl, sym, ap, arith}
use Rattle.std.specs.List.{prefix_len, take_while}
use Rattle.std.specs.Option.{is_none}
use Rattle.stream_syntax.specs.TransportPackets.{packet_fault}
use Rattle.decoder_model.specs.Arrivals.{packets_taken}
use Rattle.received_level_laws.proofs.PacketCalls.{AreSound}

abbrev is_sound : ℕ → List ℕ → Bool
is_sound pid packet = is_none (packet_fault pid packet)

no_fault : {X : Type 0} (found : Option X) → is_none found ≡ true → found ≡ None
no_fault None e = refl
no_fault (Some fault) e = absurd (cc)

-- packets that are all taken have no fault
pub sound_taken : (pid : ℕ) (packets : List (List ℕ)) → packets_taken pid packets ≡ packets
    → AreSound pid packets
sound_taken pid [] e = tt
sound_taken pid (packet ∷ packets) e = by (is_sound pid packet) refl (sound_taken pid packets) e
  where
    by : (b : Bool) → is_sound pid packet ≡ b
        → (take_while (is_sound pid) packets ≡ packets → AreSound pid packets)
        → take (cond b (1 + prefix_len (is_sound pid) packets) 0) (packet ∷ packets) ≡ packet ∷ packets
        → (packet_fault pid packet ≡ None) × AreSound pid packets
    by true is behind e =
        let one_more : 1 + prefix_len (is_sound pid) packets ≡ suc (prefix_len (is_sound pid) packets) =
        omega arith in
        let whole : packet ∷ take (prefix_len (is_sound pid) packets) packets
        ≡ packet ∷ packets = sym (ap (λ n. take n (packet ∷ packets)) one_more) ∙ e in (
          no_fault (packet_fault pid packet) is,
          behind
              (let rest : take (prefix_len (is_sound pid) packets) packets ≡ packets = cc in rest),
        )
    by false is behind e = absurd (cc)

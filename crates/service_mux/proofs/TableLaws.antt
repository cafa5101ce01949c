-- Tables that are sent again and again.
use Rattle.std.proofs.Common.{◌≡◌, ◌≢◌, ◌∙◌, ◌≤◌, ℕ, zero, suc, ◌+◌, ◌-◌, ◌/◌, ◌%◌, true, List, [], ◌∷◌, ◌++◌, length, length-append, replicate, refl, sym, ap, subst, append-nil, arith}
use Rattle.std.specs.Bool.{if◌then◌else◌}
use Rattle.std.specs.List.{concat}
use Rattle.std.specs.Prelude.{◌==◌}
use Rattle.std.proofs.lemmas.List.{length-replicate}
use Rattle.stream_syntax.specs.BitFields.{packed}
use Rattle.stream_syntax.specs.TransportPackets.{adaptation_field, head_groups, null_packet, written_head, written_packet}
use Rattle.psi_tables.specs.Writing.{written_pat, written_pmt}
use Rattle.command_text.specs.Putting.{Buffered, PutsOut}
use Rattle.command_text.proofs.PutLaws.{PutsOut-both}
use Rattle.sub_base.specs.Endpoints.{Received}
use Rattle.service_mux.specs.Multiplex.{table_packet, table_packets, table_payload, turn_packet}
use Rattle.service_mux.specs.Private.Frames.{HasTurned, HaveNotTurned}
use Rattle.service_mux.specs.declared.frames.Multiplexer.{Multiplexer}
use Rattle.service_mux.specs.declared.mux_words.ServicePair.{ServicePair}
use Rattle.service_mux.specs.declared.table.Table.{Table}

pub payload_length : (section : List ℕ) → length section ≤ 183 → length (table_payload section) ≡ 184
payload_length section fits =
    omega (
      arith,
      length-append section (replicate (183 - length section) 255),
      length-replicate {A = ℕ}
          (183 - length section) 255,
    )

-- a table's packet is a packet with a full piece, which begins a unit
pub written_table : (number : ℕ) (section : List ℕ) (count : ℕ) → length section ≤ 183
    → written_packet number true (count % 16) (table_payload section) ≡ table_packet number section count
written_table number section count fits =
    let payload = table_payload section in
    ap (λ (size : ℕ). packed (head_groups (written_head number true (if size == 184 then 1 else 3) (count % 16)))
    ++ (adaptation_field (184 - size) ++ payload)) (payload_length section fits)

-- the packet that a table makes next
pub turned_bytes : (table : Table) (number : ℕ) (section : List ℕ) (count : ℕ)
    → HasTurned table number section count
    → written_packet table.packetiser.pid true table.packetiser.counter table.payload
    ≡ table_packet number section count
turned_bytes table number section count turned =
    ap (λ (pid : ℕ). written_packet pid true table.packetiser.counter table.payload) turned.pid
    ∙ ap (λ (counter : ℕ). written_packet number true counter table.payload) turned.counter
    ∙ ap (λ (piece : List ℕ). written_packet number true (count % 16) piece) turned.payload
    ∙ written_table number section count turned.fits

-- it was made
pub turned_more : (old new : Table) (number : ℕ) (section : List ℕ) (count next : ℕ)
    → HasTurned old number section count → next ≡ count + 1
    → new.packetiser.pid ≡ old.packetiser.pid → new.packetiser.counter ≡ (old.packetiser.counter + 1) % 16
    → new.payload ≡ old.payload
    → HasTurned new number section next
turned_more old new number section count next turned is pid counter payload = record {
  pid = pid ∙ turned.pid;
  counter = counter ∙ omega (arith, turned.counter, is);
  payload = payload ∙ turned.payload;
  fits = turned.fits;
}

-- it was not made
pub turned_same : (old new : Table) (number : ℕ) (section : List ℕ) (count next : ℕ)
    → HasTurned old number section count → next ≡ count → new ≡ old
    → HasTurned new number section next
turned_same old new number section count next turned is same =
    subst (λ (table : Table). HasTurned table number section next) (sym same)
    (subst (λ (n : ℕ). HasTurned old number section n) (sym is) turned)

-- ---- whose turn it is

module _ (pair : ServicePair) (frame : ℕ) where
  abbrev turn : List ℕ
  turn = turn_packet pair (1 + frame / 128) (frame % 128)

  pub pat_turn : frame % 128 ≡ 0
      → table_packet 0 (written_pat (pair.one ∷ pair.two ∷ [])) (1 + (frame + 127) / 128) ≡ turn
  pat_turn is =
      let count : 1 + (frame + 127) / 128 ≡ 1 + frame / 128 = omega (arith, is) in
      ap (table_packet 0 (written_pat (pair.one ∷ pair.two ∷ []))) count
      ∙ sym (ap (turn_packet pair (1 + frame / 128)) is)

  pub one_turn : frame % 128 ≡ 1
      → table_packet pair.one.pmt (written_pmt pair.one) (1 + (frame + 126) / 128) ≡ turn
  one_turn is =
      let count : 1 + (frame + 126) / 128 ≡ 1 + frame / 128 = omega (arith, is) in
      ap (table_packet pair.one.pmt (written_pmt pair.one)) count ∙ sym (ap (turn_packet pair (1 + frame / 128)) is)

  pub two_turn : frame % 128 ≡ 2
      → table_packet pair.two.pmt (written_pmt pair.two) (1 + (frame + 125) / 128) ≡ turn
  two_turn is =
      let count : 1 + (frame + 125) / 128 ≡ 1 + frame / 128 = omega (arith, is) in
      ap (table_packet pair.two.pmt (written_pmt pair.two)) count ∙ sym (ap (turn_packet pair (1 + frame / 128)) is)

later_turn : (pair : ServicePair) (count turn : ℕ) → turn ≢ 0 → turn ≢ 1 → turn ≢ 2
    → turn_packet pair count turn ≡ null_packet
later_turn pair count zero a b c = absurd (a refl)
later_turn pair count (suc zero) a b c = absurd (b refl)
later_turn pair count (suc (suc zero)) a b c = absurd (c refl)
later_turn pair count (suc (suc (suc turn))) a b c = refl

pub no_turn : (pair : ServicePair) (frame : ℕ) → frame % 128 ≢ 0 → frame % 128 ≢ 1 → frame % 128 ≢ 2
    → null_packet ≡ turn_packet pair (1 + frame / 128) (frame % 128)
no_turn pair frame a b c = sym (later_turn pair (1 + frame / 128) (frame % 128) a b c)

-- ---- before the frames

-- all three tables were sent
pub put_all_tables : (pair : ServicePair) (a b c d : Received) (w x y z : Buffered) (mux : Multiplexer)
    → HaveNotTurned pair mux
    → PutsOut a b w x (written_packet mux.pat.packetiser.pid true mux.pat.packetiser.counter mux.pat.payload)
    → PutsOut b c x y
    (written_packet mux.one.table.packetiser.pid true mux.one.table.packetiser.counter mux.one.table.payload)
    → PutsOut c d y z
    (written_packet mux.two.table.packetiser.pid true mux.two.table.packetiser.counter mux.two.table.payload)
    → PutsOut a d w z (concat (table_packets pair))
put_all_tables pair a b c d w x y z mux not_turned first second third =
    let is_first = turned_bytes mux.pat 0 (written_pat (pair.one ∷ pair.two ∷ [])) 0 not_turned.pat in
    let is_second = turned_bytes mux.one.table pair.one.pmt (written_pmt pair.one) 0 not_turned.one in
    let is_third =
    turned_bytes mux.two.table pair.two.pmt (written_pmt pair.two) 0 not_turned.two ∙ sym (append-nil _) in
    PutsOut-both a b d w x z _ _ (subst (λ (t : List ℕ). PutsOut a b w x t) is_first first)
    (PutsOut-both b c d x y z _ _ (subst (λ (t : List ℕ). PutsOut b c x y t) is_second second)
    (subst (λ (t : List ℕ). PutsOut c d y z t) is_third third))

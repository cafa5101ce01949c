-- What `take` has done where nothing was read.
use Rattle.std.proofs.Common.{◌≡◌, true, ℕ, List, [], Option, refl, sym, ap, subst, arith}
use Rattle.std.specs.List.{concat}
use Rattle.std.specs.Io.KnownBytes.{Appends}
use Rattle.std.proofs.KnownBytes.{Appends-nil, Consumes-nil}
use Rattle.std.proofs.lemmas.List.Elements.{All-nil}
use Rattle.stream_syntax.specs.TransportPackets.{has_sync}
use Rattle.sub_base.specs.Counts.{counted}
use Rattle.sub_base.specs.Endpoints.{Received, Supplied}
use Rattle.service_mux.specs.StreamReads.{seen_of_one}
use Rattle.service_mux.specs.Taken.{Named, taken_by}
use Rattle.service_mux.specs.TakeOutcome.{IsTakenFront}
use Rattle.service_mux.proofs.CloseLaws.{whole_prefix}
use Rattle.service_mux.proofs.TakenLaws.{no_table}

-- nothing was read, and nothing taken
counted_none : (count : ℕ) → count ≡ counted count 0
counted_none count = grind arith

pub nothing_taken : (service : ℕ) (source : Supplied) (out : Received)
    → IsTakenFront service (seen_of_one source out) (seen_of_one source out)
nothing_taken service source out = record {
  packets = [];
  rest = [];
  gave = record { each = All-nil _; bytes = Consumes-nil source.left; count = counted_none source.given };
  synced = All-nil (λ packet. has_sync packet ≡ true);
  written = whole_prefix out.written out.written _
      (subst (λ (l : List ℕ). Appends out.written out.written l)
      (sym (ap (λ (o : Option Named). concat (taken_by o)) (no_table service [] refl))) (Appends-nil out.written));
}

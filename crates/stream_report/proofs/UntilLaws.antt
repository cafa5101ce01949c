-- When the page of a memory is timed out.
use Rattle.std.proofs.Common.{◌≡◌, ◌∙◌, ℕ, ◌+◌, ◌*◌, ◌≤◌, Bool, true, false, cond, List, Option, Some, None, refl, sym, ap, subst, arith}
use Rattle.std.specs.Prelude.{IfSome, option_and_then, unwrap_or, ◌==◌}
use Rattle.decoder_model.specs.Kept.{last_time}
use Rattle.decoder_model.specs.Readings.{Reading}
use Rattle.decoder_model.specs.Sets.{Delivery}
use Rattle.decoder_model.specs.Shown.{Standing, standing_after, until_of}
use Rattle.decoder_model.specs.declared.set_end.SetEnd.{SetEnd}
use Rattle.decoder_model.specs.declared.set_end.SetEnd.TheVariants.{Shown}
use Rattle.page_core.specs.Memory as cores
use Rattle.page_core.specs.Memory.{Memory}
use Rattle.page_core.specs.Scenes.{ShowsStanding, until_in}
use Rattle.sub_base.specs.declared.pace.TheConstants.{SECOND}
use Rattle.stream_report.specs.Private.Picturing.{IsUntilIn}

-- no earlier than the last kept set
in_late : (memory : Memory) (past : List (Delivery Reading)) → cores.IsMemoryAfter past memory
    → IfSome (until_in memory) (λ tick. unwrap_or (last_time memory.anchor past) 0 ≤ tick)
in_late memory past stands = by (memory.time_out == 0)
  where
    last : unwrap_or memory.last 0 ≡ unwrap_or (last_time memory.anchor past) 0
    last = ap (λ (found : Option ℕ). unwrap_or found 0) stands.last

    by : (never : Bool)
        → IfSome (cond never None (Some (unwrap_or memory.last 0 + SECOND * memory.time_out)))
        (λ tick. unwrap_or (last_time memory.anchor past) 0 ≤ tick)
    by true = tt
    by false = (let same = last in omega (arith, same))

-- that of the page that stands, where the set is shown
pub until_shown : (memory : Memory) (until : Option ℕ)
    → ((past : List (Delivery Reading)) → cores.IsMemoryAfter past memory
    → (standing : Standing) × (standing_after memory.profile memory.anchor past ≡ Some standing)
    × ShowsStanding standing memory)
    → until ≡ until_in memory → IsUntilIn memory Shown until
until_shown memory until shows is past stands =
    let shown = shows past stands in
    record {
      shown = λ e. is ∙ shown.2.until ∙ sym (ap (option_and_then until_of) shown.1);
      other = λ no. absurd (no refl);
      late =
          subst (λ (found : Option ℕ). IfSome found (λ tick. unwrap_or (last_time memory.anchor past) 0 ≤ tick))
          (sym is) (in_late memory past stands);
    }

-- and none where it is not
pub until_none : (memory : Memory) (end : SetEnd) → (end ≡ Shown → ⊥) → IsUntilIn memory end None
until_none memory end other past stands = record {
  shown = λ e. absurd (other e);
  other = λ no. refl;
  late = tt;
}

-- What is put out at ticks.
use Rattle.std.proofs.Common.{◌≡◌, ℕ, ◌<◌, Bool, true, cond, [], ◌∷◌, List, Some, append-nil, sym, subst, arith}
use Rattle.std.specs.Prelude.{nat_lt}
use Rattle.std.proofs.lemmas.Bool.Decides.{nat_tests}
use Rattle.command_text.specs.Putting.{Buffered, PutsOut}
use Rattle.command_text.proofs.PutLaws.{PutsOut-nothing}
use Rattle.decoder_model.specs.Shown.{view_at}
use Rattle.dump_text.specs.DumpText.{view_text}
use Rattle.dump_text.specs.Dumping.{PutsShown}
use Rattle.receiver.specs.Receiving.{Receiving, reception}
use Rattle.sub_base.specs.Endpoints.{Received}
use Rattle.stream_report.specs.PicturesText.{end_before}
use Rattle.stream_report.specs.Private.Picturing.{PutsTicks}

-- at none
pub puts_none : (receiving : Receiving) (shown : Received) (buffer : Buffered)
    → PutsTicks receiving shown shown buffer buffer []
puts_none receiving shown buffer ended packets given past stands read late = PutsOut-nothing shown buffer

-- at one
pub puts_one : (receiving : Receiving) (before now : Received) (was is : Buffered) (tick : ℕ)
    → PutsShown receiving before now was is tick → PutsTicks receiving before now was is (tick ∷ [])
puts_one receiving before now was is tick shown ended packets given past stands read late =
    subst (λ (text : List ℕ). PutsOut before now was is text)
    (sym (append-nil (view_text tick (view_at (reception receiving).profile (reception receiving).anchor tick past))))
    (shown ended packets given past stands read late.0)

-- at the end of a time-out that comes before a set
pub puts_sooner : (receiving : Receiving) (before now : Received) (was is : Buffered) (time until : ℕ)
    → until < time → PutsShown receiving before now was is until
    → PutsTicks receiving before now was is (end_before (Some time) (Some until))
puts_sooner receiving before now was is time until less shown =
    let sooner : nat_lt until time ≡ true = grind (arith, nat_tests) in
    subst (λ (test : Bool). PutsTicks receiving before now was is (cond test (until ∷ []) [])) (sym sooner)
    (puts_one receiving before now was is until shown)

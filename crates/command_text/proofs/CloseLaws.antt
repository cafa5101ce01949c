-- What waits is written at the end, or the sink fails.
use Rattle.std.proofs.Common.{◌≡◌, ◌∙◌, ℕ, inl, inr, true, false, List, [], ◌++◌, append-nil, refl, sym, ap, subst}
use Rattle.std.specs.Io.KnownBytes.{Appends}
use Rattle.sub_base.specs.Endpoints.{AppendsPrefix, Received}
use Rattle.sub_base.specs.declared.status.ToolStatus.{ToolStatus}
use Rattle.sub_base.specs.declared.status.ToolStatus.TheVariants as tool
use Rattle.sub_base.specs.declared.status.Which.TheVariants as which
use Rattle.command_text.specs.Closing.{Closes}
use Rattle.command_text.specs.Putting.{Buffered, IsPutOut, PutsOut}

-- the sink failed
pub closed_failed : {F : Type 0} (before now : Received) (old new : Buffered) (run : ToolStatus F)
    → PutsOut before now old new [] → new.failed ≡ true → Closes before now old run (tool.WriteFault which.Out)
closed_failed before now old new run puts failed = λ start text. λ out.
    let ended : IsPutOut start now new (text ++ []) = puts.extends start text out in
    let front = ended.front failed in
    inr (refl, subst (λ (l : List ℕ). AppendsPrefix start.written now.written l) (append-nil text) front.0, front.1)

-- all was written
pub closed_whole : {F : Type 0} (before now : Received) (old new : Buffered) (run : ToolStatus F)
    → PutsOut before now old new [] → new.failed ≡ false → new.waits ≡ [] → Closes before now old run run
closed_whole before now old new run puts well empty = λ start text. λ out.
    let sent = (puts.extends start text out).sent well in
    let whole : sent.written ≡ text =
    sym (append-nil sent.written) ∙ ap (λ (w : List ℕ). sent.written ++ w) (sym empty) ∙ sent.whole
    ∙ append-nil text in
    inl (refl, subst (λ (l : List ℕ). Appends start.written now.written l) whole sent.appended)

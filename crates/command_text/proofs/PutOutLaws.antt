-- What was put out since a start with an empty buffer.
use Rattle.std.proofs.Common.{◌≡◌, ◌∙◌, refl, sym, ap, subst, ℕ, true, false, List, [], ◌++◌, append-nil, append_assoc, arith}
use Rattle.std.specs.Io.KnownBytes.{Appends}
use Rattle.std.proofs.KnownBytes.{Appends-nil}
use Rattle.sub_base.specs.Endpoints.{AppendsPrefix, Received}
use Rattle.command_text.specs.Putting.{Buffered, IsPutOut}
use Rattle.command_text.proofs.SentLaws.{Sent-front}

-- a buffer with nothing in it
abbrev pub fresh : Buffered
fresh = record { waits = []; failed = false }

-- nothing was put out yet
pub put_nothing : (start : Received) (buffer : Buffered) → buffer ≡ fresh → IsPutOut start start buffer []
put_nothing start buffer is_fresh = subst (λ (b : Buffered). IsPutOut start start b []) (sym is_fresh) (record {
  sent = λ well. record { written = []; appended = Appends-nil start.written; whole = refl };
  front = λ failed. absurd (clash failed);
  kept = omega arith;
})
  where
    clash : false ≡ true → ⊥
    clash never = cc

-- what was put out and written whole is what was written
pub written_all : (start now : Received) (ended : Buffered) (text : List ℕ) → IsPutOut start now ended text
    → ended.failed ≡ false → ended.waits ≡ []
    → Appends start.written now.written text
written_all start now ended text put well empty =
    let sent = put.sent well in
    let whole : sent.written ≡ text =
    sym (append-nil sent.written) ∙ ap (λ (w : List ℕ). sent.written ++ w) (sym empty) ∙ sent.whole in
    subst (λ (l : List ℕ). Appends start.written now.written l) whole sent.appended

-- where the sink failed, it has a prefix of what was put out and of what was to be put out behind it
pub written_prefix : (start now : Received) (ended : Buffered) (text rest all : List ℕ)
    → IsPutOut start now ended text → ended.failed ≡ true → text ++ rest ≡ all
    → AppendsPrefix start.written now.written all
written_prefix start now ended text rest all put failed joined =
    Sent-front start.written start.written now.written text text rest all
    (record { written = []; appended = Appends-nil start.written; whole = refl }) (put.front failed).0 joined

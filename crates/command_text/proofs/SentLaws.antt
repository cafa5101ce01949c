-- What was written, and what is to be written next.
use Rattle.std.proofs.Common.{◌≡◌, ◌∙◌, ℕ, ◌+◌, ◌≤◌, List, [], ◌++◌, length, take, drop, append-nil, append_assoc, length-append, Option, refl, sym, ap, subst, arith}
use Rattle.std.proofs.KnownBytes.{Appends-nil, Appends-trans}
use Rattle.std.proofs.Math.Seq.{take-append_seam}
use Rattle.std.proofs.lemmas.List.{take-append-drop, length-take-le}
use Rattle.std.specs.Io.KnownBytes.{Appends}
use Rattle.sub_base.specs.Endpoints.{AppendsPrefix}
use Rattle.command_text.specs.Putting.{Sent}

-- nothing was written yet
pub Sent-nothing : (start : Option (List ℕ)) → Sent start start [] []
Sent-nothing start = record { written = []; appended = Appends-nil start; whole = refl }

-- what was to be written next was written
pub Sent-written : (start now next : Option (List ℕ)) (pending bytes : List ℕ) → Sent start now pending bytes
    → Appends now next pending → Sent start next [] bytes
Sent-written start now next pending bytes sent more =
    record {
      written = sent.written
          ++ pending;
      appended = Appends-trans start now next sent.written pending sent.appended more;
      whole = append-nil
          _ ∙ sent.whole;
    }

-- a packet more is to be written
pub Sent-more : (start now : Option (List ℕ)) (pending bytes packet : List ℕ) → Sent start now pending bytes
    → Sent start now (pending ++ packet) (bytes ++ packet)
Sent-more start now pending bytes packet sent =
    record {
      written = sent.written;
      appended = sent.appended;
      whole = sym (append_assoc sent.written pending packet)
          ∙ ap (λ k. k ++ packet) sent.whole;
    }

-- a prefix of what was to be written next was written: then a prefix of all bytes was, whatever follows
pub Sent-front : (start now next : Option (List ℕ)) (pending bytes rest all : List ℕ)
    → Sent start now pending bytes → AppendsPrefix now next pending → bytes ++ rest ≡ all
    → AppendsPrefix start next all
Sent-front start now next pending bytes rest all sent front joined =
    let n = front.0 in
    let here : Appends start next (sent.written ++ take n pending) =
    Appends-trans start now next sent.written (take n pending) sent.appended front.2 in
    let both : sent.written ++ (take n pending ++ (drop n pending ++ rest)) ≡ all =
    ap (λ k. sent.written ++ k)
    (sym (append_assoc (take n pending) (drop n pending) rest)
    ∙ ap (λ k. k ++ rest) (take-append-drop n pending))
    ∙ (sym (append_assoc sent.written pending rest) ∙ (ap (λ k. k ++ rest) sent.whole ∙ joined)) in
    let count : length (sent.written ++ take n pending) ≡ length sent.written + n =
    length-append sent.written (take n pending)
    ∙ ap (λ k. length sent.written + k) (length-take-le n pending front.1) in
    let Front : List ℕ → Type 0 = λ bytes. Appends start next bytes in
    let within : length sent.written + n ≤ length all =
    omega (
      arith,
      ap length both,
      length-append sent.written (take n pending ++ (drop n pending ++ rest)),
      length-append
          (take n pending) (drop n pending ++ rest),
      length-take-le n pending front.1,
    ) in
    let taken : take (length sent.written + n) all ≡ sent.written ++ take n pending =
    ap (λ k. take k all) (sym count)
    ∙ (ap (λ k. take (length (sent.written ++ take n pending)) k)
    (sym both ∙ sym (append_assoc sent.written (take n pending) (drop n pending ++ rest)))
    ∙ take-append_seam (sent.written ++ take n pending) (drop n pending ++ rest)) in
    (length sent.written + n, within, subst Front (sym taken) here)

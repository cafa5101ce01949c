-- The end of a text that was put out whole.
use Rattle.std.proofs.Common.{◌≡◌, subst, ℕ, true, false, List, [], append-nil}
use Rattle.std.specs.Io.KnownBytes.{Appends}
use Rattle.sub_base.specs.Counts.{HasRisen}
use Rattle.sub_base.specs.Endpoints.{AppendsPrefix}
use Rattle.command_text.specs.Putting.{Buffered, IsPutOut, PutsOut}
use Rattle.command_text.proofs.PutOutLaws.{fresh, put_nothing, written_all}
use Rattle.sub_base.specs.Endpoints.{Received}

put_all : (start mid now : Received) (made put ended : Buffered) (text : List ℕ) → made ≡ fresh
    → PutsOut start mid made put text → PutsOut mid now put ended [] → IsPutOut start now ended text
put_all start mid now made put ended text is_fresh puts flushes =
    subst (λ (t : List ℕ). IsPutOut start now ended t) (append-nil text)
    (flushes.extends start text (puts.extends start [] (put_nothing start made is_fresh)))

-- the whole text was written
pub written_whole : (start mid now : Received) (made put ended : Buffered) (text : List ℕ) → made ≡ fresh
    → PutsOut start mid made put text → PutsOut mid now put ended [] →
    ended.failed ≡ false → ended.waits ≡ [] → Appends start.written now.written text
written_whole start mid now made put ended text is_fresh puts flushes well empty =
    written_all start now ended text (put_all start mid now made put ended text is_fresh puts flushes) well empty

-- the sink failed: it has a prefix of the text, and its count rose
pub written_front : (start mid now : Received) (made put ended : Buffered) (text : List ℕ) → made ≡ fresh
    → PutsOut start mid made put text → PutsOut mid now put ended [] →
    ended.failed ≡ true → AppendsPrefix start.written now.written text × HasRisen start.faults now.faults
written_front start mid now made put ended text is_fresh puts flushes failed =
    (put_all start mid now made put ended text is_fresh puts flushes).front failed

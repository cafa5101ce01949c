-- What counts of the two pages of a service, and that of a service without an ancillary page the segments of its page
-- count.
use Rattle.std.proofs.Common.{◌≡◌, ℕ, Bool, true, false, ◌==◌, ◌&&◌, ◌||◌, List, [], ◌∷◌, map, refl}
use Rattle.std.specs.List.{list_any}
use Rattle.stream_syntax.specs.Tests.{byte_at, word_at}
use Rattle.stream_syntax.specs.DataField.{segment}
use Rattle.stream_syntax.specs.Segments.{set_kinds}
use Rattle.decoder_model.specs.declared.pages.Pages.{Pages}
use Rattle.decoder_model.specs.Frames.{is_of_page, is_of_pages, shared_kinds, only, counts_for}

-- ---- a service without an ancillary page

-- the types that may be shared are among those of a display set
shared_among : (first second clut object fifth last : Bool)
    → (first || (second || (clut || (object || (fifth || (last || false)))))) || (clut || (object || false))
    ≡ (first || (second || (clut || (object || (fifth || (last || false))))))
shared_among true second clut object fifth last = refl
shared_among false true clut object fifth last = refl
shared_among false false true object fifth last = refl
shared_among false false false true fifth last = refl
shared_among false false false false true last = refl
shared_among false false false false false true = refl
shared_among false false false false false false = refl

same_page : (own any shared : Bool) → any || shared ≡ any → own && any || own && shared ≡ own && any
same_page true any shared among = among
same_page false any shared among = refl

-- where the ancillary page is the page itself, its segments of a display set count, each by itself
pub only_counts : (page : ℕ) (bytes : List ℕ) → is_of_pages (only page) bytes ≡ is_of_page set_kinds page bytes
only_counts page bytes =
    same_page (word_at 2 bytes == page) (list_any (λ kind. byte_at 1 bytes == kind) set_kinds)
    (list_any (λ kind. byte_at 1 bytes == kind) shared_kinds)
    (shared_among (byte_at 1 bytes == 0x10) (byte_at 1 bytes == 0x11) (byte_at 1 bytes == 0x12)
    (byte_at 1 bytes == 0x13) (byte_at 1 bytes == 0x14) (byte_at 1 bytes == 0x80))

-- ---- by example: composition page 1 with ancillary page 2

pages : Pages
pages = record { composition = 1; ancillary = 2 }

-- a head with this type and page id, and no body
head : ℕ → ℕ → List ℕ
head kind page = 0x0F ∷ kind ∷ 0 ∷ page ∷ 0 ∷ 0 ∷ []

-- the types of a display set, one that is none of them, and the segments of all with that page id
heads : ℕ → List (List ℕ)
heads page = map (λ kind. head kind page) (0x10 ∷ 0x11 ∷ 0x12 ∷ 0x13 ∷ 0x14 ∷ 0x80 ∷ 0x16 ∷ [])

-- of the composition page all types of a display set count, of the ancillary page a CLUT and an object, of a third page
-- none
composition_counts : map (λ bytes. counts_for pages (segment bytes)) (heads 1) ≡ true ∷ true ∷ true ∷ true
    ∷ true ∷ true ∷ false ∷ []
unfolding pages heads head
composition_counts = refl

ancillary_counts : map (λ bytes. counts_for pages (segment bytes)) (heads 2) ≡ false ∷ false ∷ true ∷ true
    ∷ false ∷ false ∷ false ∷ []
unfolding pages heads head
ancillary_counts = refl

third_counts : map (λ bytes. counts_for pages (segment bytes)) (heads 3) ≡ false ∷ false ∷ false ∷ false
    ∷ false ∷ false ∷ false ∷ []
unfolding pages heads head
third_counts = refl

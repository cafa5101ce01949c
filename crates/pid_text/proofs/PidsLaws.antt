-- What is told of all PIDs.
use Rattle.std.proofs.Common.{◌≡◌, ℕ, ◌+◌, ◌<◌, ◌==◌, ◌∙◌, ◌⊎◌, inl, inr, Bool, true, false, if◌then◌else◌, List, [], ◌∷◌, ◌++◌, length, get_or, set, ap, arith, refl, sym, subst, take, Option, Some, None, Result, Ok, Err, IfOk, add-one, append-nil}
use Rattle.std.specs.List.{AllByRecursion, flat_map}
use Rattle.std.proofs.lemmas.List.{get_or-set_other, get_or-set_same, get_or_default, length-set, nil_from_length, take_more}
use Rattle.std.specs.Result.{is_err}
use Rattle.std.proofs.lemmas.Bool.Decides.{eqb_tells}
use Rattle.std.proofs.lemmas.Grind.{flat_map-append}
use Rattle.command_text.proofs.PutLaws.{PutsOut-both, PutsOut-nothing}
use Rattle.command_text.specs.Putting.{Buffered, PutsOut}
use Rattle.stream_syntax.specs.TransportPackets.{pid_of}
use Rattle.sub_base.specs.Endpoints.{Received}
use Rattle.sub_base.specs.declared.faults.NoMemory.{NoMemory}
use Rattle.pid_text.specs.PidText.{IsPidsText, IsUnitsText, PIDS, more_where, no_unit, page_line, page_text, some_units, texts_below, times_part, units_part}
use Rattle.pid_text.specs.PidUnits.{SubtitleUnit, subtitles_of, units_of}
use Rattle.pid_text.specs.Private.Listing.{IsTallied, pages_of}
use Rattle.pid_text.specs.Private.Tallying.{HasTallied}
use Rattle.pid_text.specs.Private.Telling.{entry_text, listing_text, no_slot, slot_text, slots_text, tally_text, watch_text}
use Rattle.pid_text.specs.Private.Watching.{IsSlot, IsWatching, TakesIn}
use Rattle.pid_text.specs.Watched.{AreWatched, PidsWatched}
use Rattle.pid_text.specs.declared.page_tally.PageTally.{PageTally}
use Rattle.pid_text.specs.declared.pid_tally.PidTally.{PidTally}
use Rattle.pid_text.specs.declared.watch.Slot.{Slot}
use Rattle.pid_text.specs.declared.watch.Watch.{Watch}
use Rattle.pid_text.proofs.ListingLaws.{listing_told}
use Rattle.pid_text.proofs.WatchLaws.{nothing_slot, slot_passes}

-- ---- packets

pub nothing_watched_yet : (slots : List Slot) (wanting : Bool) → length slots ≡ PIDS
    → ((k : ℕ) (d : Slot) → k < PIDS → get_or slots k d ≡ no_slot)
    → AreWatched [] (record { slots = slots; is_wanting = wanting })
nothing_watched_yet slots wanting all each = record {
  all = all;
  each = λ found pid within. subst (IsSlot pid []) (sym (each pid no_slot within)) (nothing_slot pid);
}

pub packet_watched : (old : PidsWatched) (pid : ℕ) (was new : Slot) (packet : List ℕ) (packets : List (List ℕ))
    → pid_of packet ≡ pid → pid < PIDS → was ≡ get_or old.slots pid was → TakesIn pid was new packet
    → AreWatched packets old
    → AreWatched (packets ++ packet ∷ []) (record { slots = set old.slots pid new; is_wanting = old.is_wanting })
packet_watched old pid was new packet packets own within at takes watched_so = record {
  all = length-set old.slots pid new ∙ watched_so.all;
  each = λ found other inside. each_one other inside (watched_so.each found other inside) (eqb_tells other pid);
}
  where
    each_one : (other : ℕ) → other < PIDS → IsSlot other packets (get_or old.slots other no_slot)
        → ((other == pid) ≡ true) × (other ≡ pid) ⊎ ((other == pid) ≡ false) × (other ≡ pid → ⊥)
        → IsSlot other (packets ++ packet ∷ []) (get_or (set old.slots pid new) other no_slot)
    each_one other inside is (inl same) =
        let here : get_or (set old.slots pid new) other no_slot ≡ new =
        ap (λ k. get_or (set old.slots pid new) k no_slot) same.1
        ∙ get_or-set_same old.slots pid new no_slot (omega (arith, within, watched_so.all)) in
        let before : get_or old.slots other no_slot ≡ was =
        ap (λ k. get_or old.slots k no_slot) same.1
        ∙ get_or_default old.slots pid no_slot was (omega (arith, within, watched_so.all)) ∙ sym at in
        subst (IsSlot other (packets ++ packet ∷ [])) (sym here)
        (subst (λ (k : ℕ). IsSlot k (packets ++ packet ∷ []) new) (sym same.1)
        (takes.goes packets (subst (λ (k : ℕ). IsSlot k packets was) same.1 (subst (IsSlot other packets) before is))))
    each_one other inside is (inr apart) =
        subst (IsSlot other (packets ++ packet ∷ [])) (sym (get_or-set_other old.slots pid other new no_slot apart.1))
        (slot_passes other packet (get_or old.slots other no_slot).watch packets (λ same. apart.1 (sym same ∙ own)) is)

-- ---- texts

entries_are : (units : List SubtitleUnit) (entries : List PageTally) → AllByRecursion (IsTallied units []) entries
    → flat_map entry_text entries ≡ flat_map (page_text units) (pages_of entries)
entries_are units [] each = refl
entries_are units (entry ∷ entries) each =
    (λ i. page_line entry.page (each.0.compositions_are i) (each.0.ancillaries_are i) ++ flat_map entry_text entries)
    ∙ ap (λ rest. page_text units entry.page ++ rest) (entries_are units entries each.1)

tally_tells : (pid : ℕ) (units : List SubtitleUnit) (tally : PidTally) → HasTallied units tally
    → IsUnitsText pid units (tally_text pid tally)
tally_tells pid units tally tallied =
    elim (eqb_tells tally.units 0) [
      | inl none ↦ no_unit (nil_from_length units (omega (arith, none.1, tallied.count)))
          (ap (λ (b : Bool). if b then []
          else units_part pid tally.units ++ times_part tally.first tally.last ++ listing_text tally.pages) none.0)
      | inr some ↦ some_units (pages_of tally.pages.entries) tally.pages.more (omega (arith, some.1, tallied.count))
          (listing_told units tally.pages tallied.pages)
          (ap (λ (b : Bool). if b then []
          else units_part pid tally.units ++ times_part tally.first tally.last ++ listing_text tally.pages) some.0
          ∙ (λ i. (units_part pid (tallied.count i) ++ times_part (tallied.first i) (tallied.last i))
          ++ (entries_are units tally.pages.entries tallied.pages.tallied i ++ more_where tally.pages.more)))
    ]

slot_tells : (pid : ℕ) (packets : List (List ℕ)) (watch : Option Watch) → IsWatching pid packets watch
    → IsUnitsText pid (units_of pid packets) (watch_text pid watch)
unfolding subtitles_of
slot_tells pid packets None none = no_unit (ap (subtitles_of pid) none) refl
slot_tells pid packets (Some watch) is = tally_tells pid (units_of pid packets) watch.tally is.1.tallied

pub pids_told : (packets : List (List ℕ)) (pids : PidsWatched) → pids.is_wanting ≡ false → AreWatched packets pids
    → IsPidsText packets (slots_text pids.slots)
pids_told packets pids found watched_so = record {
  text_of = λ pid. slot_text pid (get_or pids.slots pid no_slot);
  each = λ pid within. slot_tells pid packets (get_or pids.slots pid no_slot).watch (watched_so.each found pid within);
  whole = ap (texts_below (λ pid. slot_text pid (get_or pids.slots pid no_slot))) watched_so.all;
}

texts_more : (text : ℕ → List ℕ) (n : ℕ) → texts_below text (n + 1) ≡ texts_below text n ++ text n
unfolding texts_below
texts_more text n = rw add-one refl

-- the texts of PIDs put out, with one more
pub slot_put : (a b d : Received) (old mid new : Buffered) (slots : List Slot) (pid : ℕ) (slot : Slot)
    → pid < length slots → slot ≡ get_or slots pid slot
    → PutsOut a b old mid (texts_below (λ k. slot_text k (get_or slots k no_slot)) pid)
    → PutsOut b d mid new (slot_text pid slot)
    → PutsOut a d old new (texts_below (λ k. slot_text k (get_or slots k no_slot)) (pid + 1))
slot_put a b d old mid new slots pid slot within at before here =
    let same : slot ≡ get_or slots pid no_slot = at ∙ get_or_default slots pid slot no_slot within in
    subst (PutsOut a d old new) (sym (texts_more (λ k. slot_text k (get_or slots k no_slot)) pid))
    (subst (λ (one : Slot). PutsOut a d old new
    (texts_below (λ k. slot_text k (get_or slots k no_slot)) pid ++ slot_text pid one)) same
    (PutsOut-both a b d old mid new (texts_below (λ k. slot_text k (get_or slots k no_slot)) pid) (slot_text pid slot)
    before here))

pub none_put : (a : Received) (buffer : Buffered) (text : ℕ → List ℕ) → PutsOut a a buffer buffer (texts_below text 0)
unfolding texts_below
none_put a buffer text = PutsOut-nothing a buffer

-- the lines of pages put out, with one more
pub entry_put : (a b d : Received) (old mid new : Buffered) (entries : List PageTally) (place : ℕ) (entry : PageTally)
    (line : List ℕ) → place < length entries → line ≡ entry_text (get_or entries place entry)
    → PutsOut a b old mid (flat_map entry_text (take place entries)) → PutsOut b d mid new line
    → PutsOut a d old new (flat_map entry_text (take (place + 1) entries))
entry_put a b d old mid new entries place entry line within is before here =
    subst (PutsOut a d old new)
    (ap (λ one. flat_map entry_text (take place entries) ++ one)
    (is ∙ sym (append-nil (entry_text (get_or entries place entry))))
    ∙ sym (flat_map-append entry_text (take place entries) (get_or entries place entry ∷ []))
    ∙ ap (flat_map entry_text) (sym (take_more entries place entry within)))
    (PutsOut-both a b d old mid new (flat_map entry_text (take place entries)) line before here)

pub taken_where : (P : Type 0) (answer : Result (Unit {0}) NoMemory) → is_err answer ≡ false → IfOk answer (λ _. P) → P
taken_where P (Ok done) fine is = is
taken_where P (Err fault) fine is = absurd cc

-- A reader of sections and what takes them, one packet after the other.
use Rattle.std.proofs.Common.{◌≡◌, ◌∙◌, ℕ, List, [], ◌∷◌, ◌++◌, refl, sym, ap, subst, append-nil, append_assoc}
use Rattle.section_reader.specs.Reading.{HasReadSections, IsReadingOf, ReadsSectionsOn, SectionReading, Takes, latest_first}
use Rattle.section_reader.specs.Sections.{sections_at, sections_behind, sections_of}

-- the packet behind those before it
pub latest_more : (before packets : List (List ℕ)) (packet : List ℕ)
    → latest_first before (packets ++ packet ∷ []) ≡ packet ∷ latest_first before packets
latest_more before [] packet = refl
latest_more before (first ∷ packets) packet = latest_more (first ∷ before) packets packet

-- the sections of one packet more
pub sections_more : (pid : ℕ) (before packets : List (List ℕ)) (packet : List ℕ)
    → sections_behind pid before (packets ++ packet ∷ [])
    ≡ sections_behind pid before packets ++ sections_at pid (latest_first before packets) packet
sections_more pid before [] packet = append-nil (sections_at pid before packet)
sections_more pid before (first ∷ packets) packet =
    ap (λ (l : List (List ℕ)). sections_at pid before first ++ l) (sections_more pid (first ∷ before) packets packet)
    ∙ sym (append_assoc (sections_at pid before first) (sections_behind pid (first ∷ before) packets)
    (sections_at pid (latest_first (first ∷ before) packets) packet))

-- nothing was read of no packet
pub nothing_read : {Taker : Type 0} → (stands : Taker → List (List ℕ) → Type 0) → (reader : SectionReading)
    → (taker : Taker) → IsReadingOf reader [] → stands taker [] → HasReadSections stands reader taker []
nothing_read stands reader taker reads nothing = record { reading = reads; taken = nothing }

-- one packet more was read
pub read_more : {Taker Kept : Type 0} → (stands : Taker → List (List ℕ) → Type 0) → (kept : Taker → Kept)
    → (old new : SectionReading) → (was is : Taker) → (packet : List ℕ) → ReadsSectionsOn old new packet
    → ((before : List (List ℕ)) → IsReadingOf old before
    → Takes stands kept was is (sections_at old.pid before packet))
    → (packets : List (List ℕ)) → HasReadSections stands old was packets
    → HasReadSections stands new is (packets ++ packet ∷ [])
read_more stands kept old new was is packet goes takes packets has = record {
  reading = subst (λ (l : List (List ℕ)). IsReadingOf new l) (sym (latest_more [] packets packet))
      (goes.stands (latest_first [] packets) has.reading);
  taken =
      subst (λ (pid : ℕ). stands is (sections_of pid (packets ++ packet ∷ []))) (sym goes.pid)
      (subst (λ (l : List (List ℕ)). stands is l) (sym (sections_more old.pid [] packets packet))
      ((takes (latest_first [] packets) has.reading).took (sections_of old.pid packets) has.taken));
}

-- The first section of a table, one section after the other, and a programme that looks for its PMT.
use Rattle.std.proofs.Common.{◌≡◌, ◌∙◌, ℕ, Bool, true, false, ◌&&◌, not, cond, List, [], ◌∷◌, ◌++◌, Option, Some, None, refl, sym, ap}
use Rattle.std.specs.Option.{is_some, option_or}
use Rattle.sub_base.specs.Lists.{first_given}
use Rattle.section_reader.specs.Reading.{IsReadingOf, ReadsSectionsOn, SectionReading, Takes, latest_first}
use Rattle.section_reader.specs.Sections.{sections_at, sections_of}
use Rattle.section_reader.proofs.FirstLaws.{given_append, given_more}
use Rattle.section_reader.proofs.ReadLaws.{read_more}
use Rattle.service_tables.specs.First.{FirstFound, HasFirst}
use Rattle.service_tables.specs.Reading.{HasReadMap, ProgrammeReading, map_of}
use Rattle.service_tables.specs.Tables.{is_wanted, wanted_in}
use Rattle.service_tables.specs.declared.first_section.Table.{Table}

-- ---- one section more

some_stays : (kept given more : Option (List ℕ)) → is_some kept ≡ true → kept ≡ given → kept ≡ option_or given more
some_stays None given more some is = absurd cc
some_stays (Some section) given more some is = ap (λ (o : Option (List ℕ)). option_or o more) is

pub first_kept : (first : FirstFound) (section : List ℕ) → is_some first.section ≡ true
    → (sections : List (List ℕ)) → HasFirst first sections → HasFirst first (sections ++ section ∷ [])
first_kept first section some sections is =
    some_stays first.section (first_given (wanted_in first.table) sections) (wanted_in first.table section) some is
    ∙ sym (given_more (wanted_in first.table) sections section)

or_none : (o : Option (List ℕ)) → option_or o None ≡ o
or_none None = refl
or_none (Some section) = refl

pub first_other : (first : FirstFound) (section : List ℕ) → is_wanted first.table section ≡ false
    → (sections : List (List ℕ)) → HasFirst first sections → HasFirst first (sections ++ section ∷ [])
first_other first section other sections is =
    is ∙ sym (or_none (first_given (wanted_in first.table) sections))
    ∙ ap (λ (b : Bool). option_or (first_given (wanted_in first.table) sections) (cond b (Some section) None))
    (sym other)
    ∙ sym (given_more (wanted_in first.table) sections section)

none_before : (kept given more : Option (List ℕ)) → is_some kept ≡ false → kept ≡ given → more ≡ option_or given more
none_before None given more none is = ap (λ (o : Option (List ℕ)). option_or o more) is
none_before (Some section) given more none is = absurd cc

pub first_taken : (first : FirstFound) (section : List ℕ) → is_some first.section ≡ false
    → is_wanted first.table section ≡ true
    → (sections : List (List ℕ)) → HasFirst first sections
    → HasFirst (record first { section = Some section }) (sections ++ section ∷ [])
first_taken first section none wanted sections is =
    ap (λ (b : Bool). cond b (Some section) None) (sym wanted)
    ∙ none_before first.section (first_given (wanted_in first.table) sections) (wanted_in first.table section) none is
    ∙ sym (given_more (wanted_in first.table) sections section)

-- ---- a programme

pub programme_fed : (old : ProgrammeReading) (sections : SectionReading) (map : FirstFound) (packet : List ℕ)
    → ReadsSectionsOn old.sections sections packet
    → ((before : List (List ℕ)) → IsReadingOf old.sections before
    → Takes HasFirst (λ (f : FirstFound). f.table) old.map map (sections_at old.sections.pid before packet))
    → (packets : List (List ℕ)) → HasReadMap old packets
    → HasReadMap (record { number = old.number; sections = sections; map = map }) (packets ++ packet ∷ [])
programme_fed old sections map packet goes takes packets is = record {
  table = (takes (latest_first [] packets) is.read.reading).same ∙ is.table;
  read = read_more HasFirst (λ (f : FirstFound). f.table) old.sections sections old.map map packet goes takes packets
      is.read;
}

-- what is found is what was, or what the sections of the packet give
found_on : (old : ProgrammeReading) (map : FirstFound) (packet : List ℕ)
    → ((before : List (List ℕ)) → IsReadingOf old.sections before
    → Takes HasFirst (λ (f : FirstFound). f.table) old.map map (sections_at old.sections.pid before packet))
    → (packets : List (List ℕ)) → HasReadMap old packets
    → map.section ≡ option_or old.map.section
    (first_given (wanted_in old.map.table) (sections_at old.sections.pid (latest_first [] packets) packet))
found_on old map packet takes packets is =
    let read = sections_of old.sections.pid packets in
    let ends = sections_at old.sections.pid (latest_first [] packets) packet in
    let took = takes (latest_first [] packets) is.read.reading in
    took.took read is.read.taken
    ∙ ap (λ (t : Table). first_given (wanted_in t) (read ++ ends)) took.same
    ∙ given_append (wanted_in old.map.table) read ends
    ∙ ap (λ (o : Option (List ℕ)). option_or o (first_given (wanted_in old.map.table) ends)) (sym is.read.taken)

same_unless : (kept now more : Option (List ℕ)) → now ≡ option_or kept more
    → (not (is_some kept) && is_some now) ≡ false → now ≡ kept
same_unless (Some section) now more is none = is
same_unless None None more is none = refl
same_unless None (Some section) more is none = absurd cc

-- where no PMT came, the programme is as before
pub programme_same : (old : ProgrammeReading) (sections : SectionReading) (map : FirstFound) (packet : List ℕ)
    → sections.pid ≡ old.sections.pid
    → ((before : List (List ℕ)) → IsReadingOf old.sections before
    → Takes HasFirst (λ (f : FirstFound). f.table) old.map map (sections_at old.sections.pid before packet))
    → (not (is_some old.map.section) && is_some map.section) ≡ false
    → (packets : List (List ℕ)) → HasReadMap old packets
    → map_of (record { number = old.number; sections = sections; map = map }) ≡ map_of old
programme_same old sections map packet pid takes none packets is = λ i. record {
  number = old.number;
  pid = pid i;
  section = same_unless old.map.section map.section _ (found_on old map packet takes packets is) none i;
}

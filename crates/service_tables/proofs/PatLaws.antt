-- The programmes of a stream, one packet after the other.
use Rattle.std.proofs.Common.{◌≡◌, ◌∙◌, ℕ, true, false, List, [], ◌∷◌, ◌++◌, map, Option, Some, None, refl, sym, ap, subst}
use Rattle.std.specs.Option.{is_some, option_or}
use Rattle.sub_base.specs.Lists.{first_given}
use Rattle.section_reader.specs.First.{by_sections}
use Rattle.section_reader.specs.Reading.{HasReadSections, IsReadingOf, ReadsSectionsOn, SectionReading, Takes, latest_first}
use Rattle.section_reader.specs.Sections.{sections_at, sections_of}
use Rattle.section_reader.proofs.FirstLaws.{given_append, named_at, named_before}
use Rattle.section_reader.proofs.ReadLaws.{read_more}
use Rattle.service_tables.specs.First.{FirstFound, HasFirst}
use Rattle.service_tables.specs.Reading.{AreListed, HasRead, HaveReadMaps, IsBeforePat, IsBehindPat, ProgrammesRead, ReadBy, entry_of, map_of}
use Rattle.service_tables.specs.Tables.{first_pat, maps_behind, programme_maps, wanted_in, with_map}
use Rattle.service_tables.specs.declared.first_section.Table.{Table}
use Rattle.service_tables.specs.declared.first_section.Table.TheVariants as table
use Rattle.service_tables.proofs.ListLaws.{maps_of}

-- ---- what a search for a table does at a packet

abbrev pub table_of : FirstFound → Table
table_of first = first.table

-- the sections of a PID and the first one of a table, before a packet and behind it
pub record Goes (old new : SectionReading) (was is : FirstFound) (packet : List ℕ) : Type 0 where
  pub reads : ReadsSectionsOn old new packet
  pub takes : (before : List (List ℕ)) → IsReadingOf old before
      → Takes HasFirst table_of was is (sections_at old.pid before packet)

-- ---- before the PAT

pub nothing_before : (read : ProgrammesRead) → read.sections.pid ≡ 0
    → read.pat ≡ record { table = table.Pat; section = None } → IsReadingOf read.sections []
    → read.programmes ≡ [] → HasRead read []
nothing_before read pid pat stands none =
    subst (λ (s : Option (List ℕ)). ReadBy s read []) (sym (ap (λ (f : FirstFound). f.section) pat)) (record {
      pid = pid;
      table = ap (λ (f : FirstFound). f.table) pat;
      none = refl;
      sections = record { reading = stands; taken = ap (λ (f : FirstFound). f.section) pat };
      nothing = none;
    })

module _ (old : ProgrammesRead) (sections : SectionReading) (pat : FirstFound) (packet : List ℕ)
    (goes : Goes old.sections sections old.pat pat packet) (none : old.pat.section ≡ None)
    (packets : List (List ℕ)) (is : IsBeforePat old packets) where
  -- the first PAT with this packet
  pat_at : first_pat (packets ++ packet ∷ []) ≡ by_sections pat.section [] None
  pat_at =
      named_at (wanted_in table.Pat) 0 [] packets packet is.none
      ∙ ap (λ (o : Option (List ℕ)). by_sections o [] None) (sym found)
    where
      old_none : first_given (wanted_in old.pat.table) (sections_of old.sections.pid packets) ≡ None
      old_none = sym is.sections.taken ∙ none

      ends : ℕ → List (List ℕ)
      ends pid = sections_at pid (latest_first [] packets) packet

      found : pat.section ≡ first_given (wanted_in table.Pat) (ends 0)
      found =
          let takes = goes.takes (latest_first [] packets) is.sections.reading in
          takes.took (sections_of old.sections.pid packets) is.sections.taken
          ∙ ap (λ (t : Table). first_given (wanted_in t)
          (sections_of old.sections.pid packets ++ ends old.sections.pid))
          takes.same
          ∙ given_append (wanted_in old.pat.table) (sections_of old.sections.pid packets) (ends old.sections.pid)
          ∙ ap (λ (o : Option (List ℕ)). option_or o (first_given (wanted_in old.pat.table) (ends old.sections.pid)))
          old_none
          ∙ ap (λ (t : Table). first_given (wanted_in t) (ends old.sections.pid)) is.table
          ∙ ap (λ (pid : ℕ). first_given (wanted_in table.Pat) (ends pid)) is.pid

  -- none has come with it
  pub still_before : (new : ProgrammesRead) → new.sections ≡ sections → new.pat ≡ pat
      → new.programmes ≡ old.programmes → pat.section ≡ None → IsBeforePat new (packets ++ packet ∷ [])
  still_before new sections_is pat_is same missing = record {
    pid = ap (λ (s : SectionReading). s.pid) sections_is ∙ goes.reads.pid ∙ is.pid;
    table = ap table_of pat_is ∙ (goes.takes (latest_first [] packets) is.sections.reading).same ∙ is.table;
    none = pat_at ∙ ap (λ (o : Option (List ℕ)). by_sections o [] None) missing;
    sections =
        subst (λ (f : FirstFound). HasReadSections HasFirst new.sections f (packets ++ packet ∷ [])) (sym pat_is)
        (subst (λ (s : SectionReading). HasReadSections HasFirst s pat (packets ++ packet ∷ [])) (sym sections_is)
        (read_more HasFirst table_of old.sections sections old.pat pat packet goes.reads goes.takes packets
        is.sections));
    nothing = same ∙ is.nothing;
  }

  -- it has
  pub now_behind : (new : ProgrammesRead) (section : List ℕ) → pat.section ≡ Some section
      → (new.is_wanting ≡ false → AreListed section [] new.programmes)
      → IsBehindPat new section (packets ++ packet ∷ [])
  now_behind new section found listed = record {
    behind = [];
    first = pat_at ∙ ap (λ (o : Option (List ℕ)). by_sections o [] None) found;
    listed = listed;
  }

-- a search for the PAT goes on, or the PAT has come
pub pat_missing : (old new : ProgrammesRead) (packet : List ℕ)
    → Goes old.sections new.sections old.pat new.pat packet → old.pat.section ≡ None
    → new.programmes ≡ old.programmes → None ≡ new.pat.section
    → (packets : List (List ℕ)) → HasRead old packets → HasRead new (packets ++ packet ∷ [])
pat_missing old new packet goes none same missing packets is =
    subst (λ (s : Option (List ℕ)). ReadBy s new (packets ++ packet ∷ [])) missing
    (still_before old new.sections new.pat packet goes none packets
    (subst (λ (s : Option (List ℕ)). ReadBy s old packets) none is) new refl refl same (sym missing))

pub pat_came : (old new : ProgrammesRead) (packet section : List ℕ)
    → Goes old.sections new.sections old.pat new.pat packet → old.pat.section ≡ None
    → Some section ≡ new.pat.section → (new.is_wanting ≡ false → AreListed section [] new.programmes)
    → (packets : List (List ℕ)) → HasRead old packets → HasRead new (packets ++ packet ∷ [])
pat_came old new packet section goes none found listed packets is =
    subst (λ (s : Option (List ℕ)). ReadBy s new (packets ++ packet ∷ [])) found
    (now_behind old new.sections new.pat packet goes none packets
    (subst (λ (s : Option (List ℕ)). ReadBy s old packets) none is) new section (sym found) listed)

-- ---- behind the PAT

pub goes_behind : (old new : ProgrammesRead) (section packet : List ℕ)
    → new.is_wanting ≡ old.is_wanting → map entry_of new.programmes ≡ map entry_of old.programmes
    → ((packets : List (List ℕ)) → HaveReadMaps old.programmes packets
    → HaveReadMaps new.programmes (packets ++ packet ∷ []))
    → (packets : List (List ℕ)) → IsBehindPat old section packets
    → IsBehindPat new section (packets ++ packet ∷ [])
goes_behind old new section packet wanting entries read packets is = record {
  behind = is.behind ++ packet ∷ [];
  first = named_before (wanted_in table.Pat) 0 [] packets packet (section, is.behind) is.first;
  listed = λ none.
      let are = is.listed (sym wanting ∙ none) in
      record { listed = entries ∙ are.listed; read = read is.behind are.read };
}

-- a PAT that has come stays
pub pat_stays : (old new : ProgrammesRead) (packet : List ℕ) → is_some old.pat.section ≡ true
    → new.pat ≡ old.pat → new.is_wanting ≡ old.is_wanting
    → map entry_of new.programmes ≡ map entry_of old.programmes
    → ((packets : List (List ℕ)) → HaveReadMaps old.programmes packets
    → HaveReadMaps new.programmes (packets ++ packet ∷ []))
    → (packets : List (List ℕ)) → HasRead old packets → HasRead new (packets ++ packet ∷ [])
pat_stays old new packet some same wanting entries read packets is =
    subst (λ (f : FirstFound). ReadBy f.section new (packets ++ packet ∷ [])) (sym same)
    (by old.pat.section some is)
  where
    by : (section : Option (List ℕ)) → is_some section ≡ true → ReadBy section old packets
        → ReadBy section new (packets ++ packet ∷ [])
    by None some is = absurd cc
    by (Some section) some is = goes_behind old new section packet wanting entries read packets is

pub none_found : (o : Option (List ℕ)) → is_some o ≡ false → o ≡ None
none_found None none = refl
none_found (Some section) none = absurd cc

-- ---- what stands for the stream

maps_by : (section : Option (List ℕ)) (read : ProgrammesRead) (packets : List (List ℕ))
    → read.is_wanting ≡ false → ReadBy section read packets
    → programme_maps packets ≡ map map_of read.programmes
unfolding programme_maps
maps_by None read packets none is = ap maps_behind is.none ∙ sym (ap (map map_of) is.nothing)
maps_by (Some pat) read packets none is =
    let are = is.listed none in
    ap maps_behind is.first ∙ ap (map (with_map is.behind)) (sym are.listed)
    ∙ maps_of read.programmes is.behind are.read

pub maps_are : (read : ProgrammesRead) (packets : List (List ℕ)) → read.is_wanting ≡ false
    → HasRead read packets → programme_maps packets ≡ map map_of read.programmes
maps_are read packets none is = maps_by read.pat.section read packets none is

-- ---- where no table came

none_by : (section : Option (List ℕ)) (read : ProgrammesRead) (packets : List (List ℕ)) → section ≡ None
    → ReadBy section read packets → programme_maps packets ≡ []
unfolding programme_maps
none_by None read packets none is = ap maps_behind is.none
none_by (Some pat) read packets none is = absurd cc

-- before the PAT there is no programme
pub none_listed : (read : ProgrammesRead) (packets : List (List ℕ)) → read.pat.section ≡ None → HasRead read packets
    → programme_maps packets ≡ []
none_listed read packets none is = none_by read.pat.section read packets none is

-- behind it the programmes are as before
pub maps_stay : (old new : ProgrammesRead) (packet : List ℕ) → is_some old.pat.section ≡ true
    → new.is_wanting ≡ old.is_wanting
    → ((packets : List (List ℕ)) → HasRead old packets → HasRead new (packets ++ packet ∷ []))
    → ((packets : List (List ℕ)) → HaveReadMaps old.programmes packets
    → map map_of new.programmes ≡ map map_of old.programmes)
    → new.is_wanting ≡ false → (packets : List (List ℕ)) → HasRead old packets
    → programme_maps (packets ++ packet ∷ []) ≡ programme_maps packets
maps_stay old new packet some wanting reads same found packets is =
    let old_found : old.is_wanting ≡ false = sym wanting ∙ found in
    maps_are new (packets ++ packet ∷ []) found (reads packets is)
    ∙ by old.pat.section some old_found is
    ∙ sym (maps_are old packets old_found is)
  where
    by : (section : Option (List ℕ)) → is_some section ≡ true → old.is_wanting ≡ false → ReadBy section old packets
        → map map_of new.programmes ≡ map map_of old.programmes
    by None some none is = absurd cc
    by (Some section) some none is = same is.behind (is.listed none).read

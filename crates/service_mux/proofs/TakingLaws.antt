-- A taker, one packet after the other.
use Rattle.std.proofs.Common.{◌≡◌, ◌∙◌, ℕ, true, false, Bool, cond, List, [], ◌∷◌, ◌++◌, Option, Some, None, refl, sym, ap, subst, append-nil}
use Rattle.std.specs.Option.{is_none}
use Rattle.std.specs.List.{concat}
use Rattle.sub_base.specs.Lists.{first_given}
use Rattle.sub_base.specs.Endpoints.{Received}
use Rattle.command_text.specs.Putting.{Buffered, PutsOut}
use Rattle.command_text.proofs.PutLaws.{PutsOut-nothing}
use Rattle.packet_walk.specs.Told.{TellsOne}
use Rattle.psi_tables.specs.Services.{pmt_in, pid_in}
use Rattle.section_reader.specs.First.{by_sections, first_in}
use Rattle.section_reader.specs.Reading.{IsReadingOf, latest_first}
use Rattle.section_reader.specs.Sections.{sections_at}
use Rattle.section_reader.proofs.FirstLaws.{named_at, named_before}
use Rattle.section_reader.proofs.ReadLaws.{latest_more}
use Rattle.service_mux.specs.Reading.{ReadsOn, TableReading, named_in}
use Rattle.service_mux.specs.Taken.{Named, of_pid, subtitles_of, taken_by}
use Rattle.service_mux.specs.Private.Taking.{IsBeforeTable, IsBehindMap, IsBehindTable, IsTaking, StandsIn, Takes, TakesIn, has_found}
use Rattle.service_mux.specs.declared.sought.Sought.TheVariants as sought
use Rattle.service_mux.specs.declared.taker.Phase.{Phase}
use Rattle.service_mux.specs.declared.taker.Phase.TheVariants as phase
use Rattle.service_mux.specs.declared.taker.Taker.{Taker}
use Rattle.service_mux.proofs.TakenLaws.{no_map, no_table, subtitles_named, taken_more}

-- what a reader answers at a packet, whatever was fed before
abbrev pub Answers : TableReading → List ℕ → Option ℕ → Type 0
Answers reader packet answer = (before : List (List ℕ)) → IsReadingOf reader.sections before
    → answer ≡ first_given (named_in reader.sought) (sections_at reader.sections.pid before packet)

-- ---- before a PAT has listed the service

at_table : (service : ℕ) (reader : TableReading) (packet : List ℕ) (answer : Option ℕ) (packets : List (List ℕ))
    (bytes : List ℕ) → Answers reader packet answer → IsBeforeTable service reader packets bytes
    → first_in (pmt_in service) 0 (packets ++ packet ∷ []) ≡ by_sections answer [] None
at_table service reader packet answer packets bytes answers is =
    named_at (pmt_in service) 0 [] packets packet is.none
    ∙ ap (λ (o : Option ℕ). by_sections o [] None)
    (sym (rw (is.sought, is.pid) at (answers (latest_first [] packets) is.stands)))

pub table_found : (service pid : ℕ) (reader restarted : TableReading) (packet : List ℕ)
    → Answers reader packet (Some pid) → restarted.sections.pid ≡ pid → restarted.sought ≡ sought.Subtitles service
    → IsReadingOf restarted.sections []
    → (packets : List (List ℕ)) (bytes : List ℕ) → IsBeforeTable service reader packets bytes
    → IsBehindTable service restarted (packets ++ packet ∷ []) bytes
table_found service pid reader restarted packet answers pid_is sought_is stands packets bytes is = record {
  behind = [];
  table =
      at_table service reader packet (Some pid) packets bytes answers is
      ∙ ap (λ (p : ℕ). Some (p, [])) (sym pid_is);
  sought = sought_is;
  stands = stands;
  none = refl;
  nothing = is.nothing;
}

pub table_missed : (service : ℕ) (reader fed : TableReading) (packet : List ℕ) → Answers reader packet None
    → ReadsOn reader fed packet
    → (packets : List (List ℕ)) (bytes : List ℕ) → IsBeforeTable service reader packets bytes
    → IsBeforeTable service fed (packets ++ packet ∷ []) bytes
table_missed service reader fed packet answers goes packets bytes is = record {
  pid = goes.sections.pid ∙ is.pid;
  sought = goes.sought ∙ is.sought;
  stands =
      subst (λ (l : List (List ℕ)). IsReadingOf fed.sections l) (sym (latest_more [] packets packet))
      (goes.sections.stands (latest_first [] packets) is.stands);
  none = at_table service reader packet None packets bytes answers is;
  nothing = is.nothing;
}

-- ---- behind it

at_map : (service : ℕ) (reader : TableReading) (packet : List ℕ) (answer : Option ℕ) (packets : List (List ℕ))
    (bytes : List ℕ) → Answers reader packet answer → (is : IsBehindTable service reader packets bytes)
    → first_in (pid_in service) reader.sections.pid (is.behind ++ packet ∷ []) ≡ by_sections answer [] None
at_map service reader packet answer packets bytes answers is =
    named_at (pid_in service) reader.sections.pid [] is.behind packet is.none
    ∙ ap (λ (o : Option ℕ). by_sections o [] None)
    (sym (rw is.sought at (answers (latest_first [] is.behind) is.stands)))

pub map_found : (service pid : ℕ) (reader : TableReading) (packet : List ℕ) → Answers reader packet (Some pid)
    → (packets : List (List ℕ)) (bytes : List ℕ) → IsBehindTable service reader packets bytes
    → IsBehindMap service pid (packets ++ packet ∷ []) bytes
map_found service pid reader packet answers packets bytes is = record {
  behind = [];
  found = subtitles_named service (packets ++ packet ∷ []) (reader.sections.pid, is.behind ++ packet ∷ []) (pid, [])
      (named_before (pmt_in service) 0 [] packets packet (reader.sections.pid, is.behind) is.table)
      (at_map service reader packet (Some pid) packets bytes answers is);
  taken = is.nothing;
}

pub map_missed : (service : ℕ) (reader fed : TableReading) (packet : List ℕ) → Answers reader packet None
    → ReadsOn reader fed packet
    → (packets : List (List ℕ)) (bytes : List ℕ) → IsBehindTable service reader packets bytes
    → IsBehindTable service fed (packets ++ packet ∷ []) bytes
map_missed service reader fed packet answers goes packets bytes is = record {
  behind = is.behind ++ packet ∷ [];
  table =
      named_before (pmt_in service) 0 [] packets packet (reader.sections.pid, is.behind) is.table
      ∙ ap (λ (p : ℕ). Some (p, is.behind ++ packet ∷ [])) (sym goes.sections.pid);
  sought = goes.sought ∙ is.sought;
  stands =
      subst (λ (l : List (List ℕ)). IsReadingOf fed.sections l) (sym (latest_more [] is.behind packet))
      (goes.sections.stands (latest_first [] is.behind) is.stands);
  none =
      ap (λ (p : ℕ). first_in (pid_in service) p (is.behind ++ packet ∷ [])) goes.sections.pid
      ∙ at_map service reader packet None packets bytes answers is;
  nothing = is.nothing;
}

-- ---- what is put out

-- a packet that is taken in without anything put out
pub tells_nothing : (shown : Received) (old new : Taker) (buffer : Buffered) (place : ℕ) (packet : List ℕ)
    → TakesIn old new packet → TellsOne IsTaking shown shown old new buffer buffer place packet
tells_nothing shown old new buffer place packet takes = record {
  goes = λ packets text. λ count stands. (
    [],
    subst (λ (t : List ℕ). IsTaking new (packets ++ packet ∷ []) t) (sym (append-nil text))
        (takes.stands packets text stands),
    PutsOut-nothing shown buffer,
  );
}

-- a packet behind the PMT
pub tells_taken : (before now : Received) (taker : Taker) (was is : Buffered) (place : ℕ) (packet : List ℕ)
    (pid : ℕ) (of : Bool) → taker.phase ≡ phase.BehindMap pid → of_pid pid packet ≡ of
    → PutsOut before now was is (cond of packet []) → TellsOne IsTaking before now taker taker was is place packet
tells_taken before now taker was is place packet pid of here test puts = record {
  goes = λ packets text. λ count stands. (
    cond of packet [],
    subst (λ (p : Phase). StandsIn p taker.service taker.reader (packets ++ packet ∷ []) (text ++ cond of packet []))
        (sym here)
        (taken_more taker.service pid packets text packet of test
        (subst (λ (p : Phase). StandsIn p taker.service taker.reader packets text) here stands)),
    puts,
  );
}

-- ---- what was taken in all

found_takes : (service pid : ℕ) (packets : List (List ℕ)) (bytes : List ℕ)
    → IsBehindMap service pid packets bytes → Takes service true packets bytes
found_takes service pid packets bytes is = record {
  found = ap (λ (o : Option Named). is_none o) is.found;
  bytes = is.taken ∙ ap (λ (o : Option Named). concat (taken_by o)) (sym is.found);
}

missed_takes : (service : ℕ) (packets : List (List ℕ)) (bytes : List ℕ)
    → subtitles_of service packets ≡ None → bytes ≡ [] → Takes service false packets bytes
missed_takes service packets bytes none nothing = record {
  found = ap (λ (o : Option Named). is_none o) none;
  bytes = nothing ∙ ap (λ (o : Option Named). concat (taken_by o)) (sym none);
}

in_phase : (in_hand : Phase) (service : ℕ) (reader : TableReading) (packets : List (List ℕ)) (bytes : List ℕ)
    → StandsIn in_hand service reader packets bytes → Takes service (has_found in_hand) packets bytes
in_phase phase.BeforeTable service reader packets bytes is =
    missed_takes service packets bytes (no_table service packets is.none) is.nothing
in_phase phase.BehindTable service reader packets bytes is =
    missed_takes service packets bytes (no_map service packets (reader.sections.pid, is.behind) is.table is.none)
    is.nothing
in_phase (phase.BehindMap pid) service reader packets bytes is = found_takes service pid packets bytes is

-- what a taker has put out is what is taken of the packets
pub taking_takes : (taker : Taker) (service : ℕ) (found : Bool) → taker.service ≡ service
    → found ≡ has_found taker.phase
    → (packets : List (List ℕ)) (bytes : List ℕ) → IsTaking taker packets bytes
    → Takes service found packets bytes
taking_takes taker service found same is packets bytes stands =
    subst (λ (s : ℕ). Takes s found packets bytes) same
    (subst (λ (b : Bool). Takes taker.service b packets bytes) (sym is)
    (in_phase taker.phase taker.service taker.reader packets bytes stands))

-- The services of subtitles of a stream: those that the PMTs of its programmes list (EN 300 468, 6.2.41).
use Rattle.std.specs.Prelude.{ℕ, ◌+◌, ◌*◌, ◌==◌, if◌then◌else◌, List, [], ◌∷◌}
use Rattle.std.specs.List.{flat_map}
use Rattle.psi_tables.specs.Loops.{Descriptor, Stream, descriptors_of}
use Rattle.psi_tables.specs.Services.{is_subtitling}
use Rattle.service_tables.specs.Tables.{ProgrammeMap, programme_maps, streams_at}
use Rattle.service_text.specs.declared.service.SubtitleService.{SubtitleService}

-- the services in the content of a descriptor of subtitles, eight bytes each: three letters of the language, the type,
-- the composition page and the ancillary page
abbrev pub services_in : ℕ → ℕ → List ℕ → List SubtitleService
services_in number pid (a ∷ b ∷ c ∷ kind ∷ d ∷ e ∷ f ∷ g ∷ rest) =
    record {
      pid = pid;
      page = d * 256 + e;
      number = number;
      ancillary = f * 256 + g;
      language = a ∷ b ∷ c ∷ [];
      kind = kind;
    } ∷ services_in number pid rest
services_in number pid rest = []

-- those of a descriptor: of another one there are none
abbrev pub services_by : ℕ → ℕ → Descriptor → List SubtitleService
services_by number pid descriptor =
    if is_subtitling descriptor then services_in number pid descriptor.content else []

-- those of a stream: one that is no private data in PES packets (stream type 06) has none
abbrev pub services_on : ℕ → Stream → List SubtitleService
services_on number stream =
    if stream.kind == 6 then flat_map (services_by number stream.pid) (descriptors_of stream.descriptors) else []

-- those of a programme
abbrev pub services_at : ProgrammeMap → List SubtitleService
services_at programme = flat_map (services_on programme.number) (streams_at programme.section)

-- those of a stream of packets, in the order of its tables
abbrev pub services_of : List (List ℕ) → List SubtitleService
services_of packets = flat_map services_at (programme_maps packets)

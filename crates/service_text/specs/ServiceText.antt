-- What is told of the services of a stream.
use Rattle.std.specs.Prelude.{◌≡◌, ℕ, nat_lt, ◌||◌, if◌then◌else◌, List, [], ◌∷◌, ◌++◌, length, take, codes}
use Rattle.std.specs.List.{flat_map}
use Rattle.stream_syntax.specs.Tests.{byte_at}
use Rattle.command_text.specs.Lines.{line_end, then_number}
use Rattle.pid_text.specs.PidText.{more_where}
use Rattle.service_text.specs.Order.{AreInOrder}
use Rattle.service_text.specs.declared.service.SubtitleService.{SubtitleService}

-- the most services that are told
abbrev pub MOST_SERVICES : ℕ
MOST_SERVICES = 512

-- a letter as it is told: a question mark (3F) stands for one that is no printable character of ASCII
abbrev pub told_letter : ℕ → ℕ
told_letter letter = if nat_lt letter 33 || nat_lt 126 letter then 63 else letter

-- the three letters of a language
abbrev pub letters_part : List ℕ → List ℕ
letters_part language =
    told_letter (byte_at 0 language) ∷ told_letter (byte_at 1 language) ∷ told_letter (byte_at 2 language) ∷ []

-- the beginning of the line of a service: its programme's number, its PID, and the letters of its language
abbrev pub stream_part : SubtitleService → List ℕ
stream_part service =
    codes "service" ++ then_number service.number ++ codes " pid" ++ then_number service.pid ++ codes " "
    ++ letters_part service.language

-- the rest of the line of a service: its subtitling_type, its composition page and its ancillary page
abbrev pub page_part : SubtitleService → List ℕ
page_part service =
    codes " type" ++ then_number service.kind ++ codes " page" ++ then_number service.page ++ codes " ancillary"
    ++ then_number service.ancillary ++ line_end

-- the line of a service
abbrev pub service_line : SubtitleService → List ℕ
service_line service = stream_part service ++ page_part service

-- the lines of services in order, of the first 512 of them; a line says where there are more
pub record IsServicesText (services : List SubtitleService) (text : List ℕ) : Type 0 where
  pub ordered : List SubtitleService
  pub order : AreInOrder services ordered
  pub whole : text
      ≡ flat_map service_line (take MOST_SERVICES ordered) ++ more_where (nat_lt MOST_SERVICES (length ordered))

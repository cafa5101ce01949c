-- Laws of sections.
use Rattle.std.specs.Prelude.{◌≡◌, ◌^◌, ◌<◌, length}
use Rattle.psi_tables.specs.declared.service.Service.{Service}

-- a service whose numbers fit their fields, and whose language has three letters
pub record IsService (service : Service) : Type 0 where
  pub number_fits : service.number < 2 ^ 16
  pub pmt_fits : service.pmt < 2 ^ 13
  pub pid_fits : service.pid < 2 ^ 13
  pub language_fits : length service.language ≡ 3

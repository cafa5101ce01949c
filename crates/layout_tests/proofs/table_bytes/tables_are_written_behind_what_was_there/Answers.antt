use Rattle.std.proofs.Common.{◌<◌, ◌^◌, [], ◌∷◌}
use Rattle.std.proofs.lemmas.List.Elements.{All-from_recursion}
use Rattle.psi_tables.specs.declared.service.Service.{Service}
use Rattle.layout_tests.proofs.table_bytes.tables_are_written_behind_what_was_there.Goals as goal

pub write_pat-requires-clause-pids : goal.write_pat-requires-clause-pids
write_pat-requires-clause-pids g c =
    All-from_recursion (λ (service : Service). (service.pmt < 2 ^ 13) × (service.pid < 2 ^ 13))
    (c.service.result ∷ c.service-2.result ∷ c.service-3.result ∷ c.service-4.result ∷ c.service-5.result
    ∷ c.service-6.result ∷ c.service-7.result ∷ c.service-8.result ∷ []) (
      c.service.ensures,
      (
        c.service-2.ensures,
        (
          c.service-3.ensures,
          (
            c.service-4.ensures,
            (c.service-5.ensures, (c.service-6.ensures, (c.service-7.ensures, (c.service-8.ensures, tt)))),
          ),
        ),
      ),
    )

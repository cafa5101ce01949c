-- A set that is lent, as a plain value.
use Rattle.std.specs.Prelude.{Result, Ok, Err, List, ℕ}
use Rattle.std.specs.Borrow.{Bor}
use Rattle.decoder_model.specs.declared.set_fault.SetFault.{SetFault}
use Rattle.display_sets.specs.Gathered.{ReadySet}
use Rattle.display_sets.specs.declared.ready.Ready.{Ready}

-- the bytes that are lent, or the fault
abbrev pub lent_content : Result (Bor (List ℕ)) SetFault → Result (List ℕ) SetFault
lent_content (Ok bytes) = Ok bytes.now
lent_content (Err fault) = Err fault

-- what is lent of a set that is ready
abbrev pub lent : Ready → ReadySet
lent ready = record { time = ready.time; size = ready.size; content = lent_content ready.segments }

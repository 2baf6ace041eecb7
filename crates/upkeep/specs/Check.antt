-- The outcome that a check's result stands for: 0, or the reply of its refusal and with 7 the lowest unsound region.
use Rattle.std.specs.Prelude.{Result, Ok, Err}
use Rattle.address.specs.Limits.{no_bucket}
use Rattle.file.specs.File.{Checked}
use Rattle.file.specs.File.Fault.{fault_number, fault_region}
use Rattle.file.specs.declared.fault.Fault.{Fault}

abbrev pub checked : {A : Type 0} → Result A Fault → Checked
checked (Ok _) = record { answer = 0; bucket = no_bucket }
checked (Err fault) = record { answer = fault_number fault; bucket = fault_region fault }

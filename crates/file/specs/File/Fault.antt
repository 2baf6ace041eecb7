-- The reply and the bucket that a refusal on a file stands for: 7 with the unsound region, or one that names nothing
-- and has 65,535.
use Rattle.std.specs.Prelude.{ℕ}
use Rattle.address.specs.Limits.{no_bucket}
use Rattle.layout.specs.Replies.Refused.{number}
use Rattle.file.specs.declared.fault.Fault.{Fault}
use Rattle.file.specs.declared.fault.Fault.TheVariants.{Plain, Region}

abbrev pub fault_number : Fault → ℕ
fault_number (Plain refused) = number refused
fault_number (Region region) = 7

abbrev pub fault_region : Fault → ℕ
fault_region (Plain refused) = no_bucket
fault_region (Region region) = region

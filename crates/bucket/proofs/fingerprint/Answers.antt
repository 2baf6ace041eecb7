-- `bucket::fingerprint`: the code computes what the definition has, and a remainder is below its divisor.
use native.Mathlib.Omega.{arith}
use Rattle.bucket.specs.Region.Single.{fingerprint_is}
use Rattle.bucket.proofs.fingerprint.Goals as goal

pub returns : goal.returns
returns c = (fingerprint_is c.args.key, omega arith)

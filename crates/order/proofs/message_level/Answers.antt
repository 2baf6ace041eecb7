-- `order::message_level` tells a bucket's message level: by the image, or by the leading zeros of its number.
use native.Mathlib.Omega.{arith}
use Rattle.address.specs.Rules.Order.{told_digits}
use Rattle.order.proofs.message_level.Goals as goal

pub returns : goal.returns
returns c = (told_digits c.args.image c.args.bucket (omega arith)
    (omega arith)).1

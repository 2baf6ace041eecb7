-- `file::Headed::held_in` reads the count in the bucket's head.
use native.Mathlib.Omega.{arith}
use Rattle.file.specs.File.Region.{known_count, sound_few}
use Rattle.file.proofs.Headed.held_in.Goals as goal

pub returns : goal.returns
returns c = let h = c.args.self.now in
    let s = c.start-at in
    let counted = known_count h.file.now h.header h.known c.args.bucket s.result s.ensures.0
    c.read.result c.read.ensures.number in (
      counted,
      omega
          (arith, counted, sound_few h.file.now c.args.bucket c.requires.1, h.known.ranges.figured.few_slots),
    )

-- `file::ranges_fit` tests the figures with the length first, so that the state's limit is small.
use Rattle.std.specs.Prelude.{ℕ, ◌≡◌, Bool, not}
use Rattle.std.proofs.Common.{rules, ap, ◌∙◌}
use Rattle.file.specs.File.{figures_fit}
use Rattle.file.specs.File.Judge.{ranges_few}
use Rattle.file.proofs.ranges_fit.Goals as goal

-- the figures as they were converted
told : (long x y z b S M : ℕ) {fits : Bool} → fits ≡ figures_fit long x y z → x ≡ b → y ≡ S → z ≡ M
    → fits ≡ figures_fit long b S M
told long x y z b S M e eb eS eM = e ∙ (λ i. figures_fit long (eb i) (eS i) (eM i))

pub state_fits-requires : goal.state_fits-requires
state_fits-requires c = (
  search rules,
  ranges_few c.args.long c.args.header
      (told _ _ _ _ _ _ _ c.figures_fit-fits.ensures c.from.ensures c.from-2.ensures c.from-3.ensures)
      (ap not c.if-not-fits.false),
)

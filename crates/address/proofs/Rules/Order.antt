-- A scan under way starts with the client's messages, which wait.
use Rattle.std.specs.Prelude.{ℕ, ◌<◌}
use Rattle.std.proofs.Common.{sym, ap, ◌∙◌, arith}
use Rattle.address.specs.declared.Image.{Image}
use Rattle.address.specs.Rules.{Formed, NotAhead, buckets, numbers, opening, handled}
use Rattle.address.specs.Rules.Scan.{messages_is, visits_is}
use Rattle.address.specs.Rules.Order.{receivers, sent_told, sent_numbers, Scanning}
use Rattle.address.proofs.Rules.Scan.{opening_good, opening_total}

module _ (N : ℕ) (positive : 0 < N) (file : Image) (formed : Formed N file)
    (image : Image) (image_formed : Formed N image) (behind : NotAhead N file image) where
  -- at first the client's messages wait
  pub scanning_start : Scanning N file image 0 (numbers 0 (buckets N image))
  unfolding opening
  scanning_start = record {
    waiting = opening N image;
    waits = record {
      good = opening_good N positive file formed image image_formed behind;
      told = sent_told N image image_formed 0 (buckets N image) (omega arith);
      weighs = omega (arith, opening_total N positive file formed image image_formed behind);
      rest = sym (sent_numbers N image 0 (buckets N image));
      whole = visits_is N file image ∙ ap receivers (messages_is N file image)
          ∙ ap (λ (n : ℕ). receivers (handled N file n (opening N image))) (omega arith);
    };
  }

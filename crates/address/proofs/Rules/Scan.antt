-- A scan's opening is good and weighs 1 at every bucket, so that a client that is not ahead visits each existing bucket
-- exactly once and nothing else, and its last round is at most the highest bucket level less i'.
use Rattle.std.specs.Prelude.{ℕ, ◌≤◌, ◌<◌, ◌-◌, ◌≡◌, length}
use Rattle.std.proofs.Common.{ap, ◌∙◌, arith}
use Rattle.std.proofs.Math.ListN.{length-map}
use Rattle.address.specs.declared.Image.{Image}
use Rattle.address.specs.Rules.{Formed, NotAhead, buckets, opening, handled, messages, visits, last_round, highest}
use Rattle.address.specs.Rules.Address.{address_exists}
use Rattle.address.specs.Rules.Scan.{times, weight, total, total_ones, AllGood, sent_good, sent_weight, times_good}
use Rattle.address.specs.Rules.Scan.{handled_times, handled_good, handled_length, handled_enough, rounds_good}
use Rattle.address.specs.Rules.Scan.{messages_is, visits_is, last_round_is}

module _ (N : ℕ) (positive : 0 < N) (file : Image) (formed : Formed N file)
    (image : Image) (image_formed : Formed N image) (behind : NotAhead N file image) where
  pub opening_good : AllGood N file image.level (opening N image)
  unfolding opening
  opening_good = sent_good N positive file formed image image_formed behind 0 (buckets N image) (omega arith)

  opening_weight : (x : ℕ) → weight N x (opening N image) ≡ 1
  unfolding opening
  opening_weight x = sent_weight N positive file formed image image_formed behind x 0 (buckets N image) (omega arith)
      (omega (arith, address_exists N positive image image_formed x)) (omega arith)

  -- and so the whole weight is the room that there is
  pub opening_total : total N (opening N image) (buckets N file) ≡ buckets N file
  opening_total = total_ones N (opening N image) opening_weight (buckets N file)

  messages_good : AllGood N file image.level (messages N file image)
  messages_good = rw (messages_is N file image)
      (handled_good N positive file formed image.level (buckets N file) (opening N image) opening_good)

  -- each bucket of the file is visited exactly once
  pub visits_once : (x : ℕ) → x < buckets N file → times x (visits N file image) ≡ 1
  visits_once x there = rw (visits_is N file image, messages_is N file image)
      (handled_times N positive file formed image.level (buckets N file) (opening N image)
      opening_good (omega (arith, opening_total)) x there
      ∙ opening_weight x)

  -- and nothing else is
  pub visits_only : (x : ℕ) → buckets N file ≤ x → times x (visits N file image) ≡ 0
  visits_only x past = rw (visits_is N file image) (times_good N file image.level (messages N file image)
      messages_good x past)

  pub visits_length : length (visits N file image) ≡ buckets N file
  visits_length = rw (visits_is N file image) (length-map (messages N file image) (λ m. m.to)
      ∙ ap length (messages_is N file image)
      ∙ handled_length N positive file formed image.level (buckets N file) (opening N image) opening_good
      (omega (arith, opening_total)) ∙ opening_total)

  -- the bound of the recursion cuts nothing: with more room the same is handled
  pub scan_whole : (most : ℕ) → buckets N file ≤ most → handled N file most (opening N image) ≡ messages N file image
  scan_whole most room = rw (messages_is N file image)
      (handled_enough N positive file formed image.level most (buckets N file) (opening N image)
      opening_good (omega (arith, opening_total)) (omega (arith, opening_total)))

  -- the last round is at most the highest bucket level less i'
  pub rounds : last_round N file image ≤ highest N file - image.level
  rounds = rw (last_round_is N file image) (rounds_good N file image.level (messages N file image) messages_good)

-- Each rule by its cases, over N and the state. From here on no rule is unfolded again.
use Rattle.std.specs.Prelude.{ℕ, suc, ◌+◌, ◌-◌, ◌≤◌, ◌<◌, ◌≡◌, Bool, eqb}
use Rattle.std.proofs.Math.Path.{refl}
use Rattle.std.proofs.Common.{sym, ap, ◌∙◌, add-one, arith}
use Rattle.std.proofs.Math.Bool.{true, false}
use Rattle.std.proofs.Math.Logic.{⊎_elim}
use borrow.Author.Tests.{lt-ltb, le-ltb, le-leb, lt-leb, eq-eqb, ne_eqb}
use Rattle.address.specs.Compare.{below, same}
use Rattle.address.specs.declared.Image.{Image}
use Rattle.address.specs.declared.Fate.TheVariants.{Keep, SendOn, Unsound}
use Rattle.address.specs.Rules.{«at», span, buckets, hash, address, level, keeps, onward, fate, wrapped, adjusted}
use Rattle.address.specs.Rules.{child, newborn, grown}

pub buckets_is : (N : ℕ) (s : Image) → buckets N s ≡ span N s.level + s.pointer
unfolding buckets
buckets_is N s = refl

pub child_is : (N a k : ℕ) → child N a k ≡ a + span N k
unfolding child
child_is N a k = refl

pub newborn_is : (N : ℕ) (s : Image) → newborn N s ≡ s.pointer + span N s.level
unfolding newborn child
newborn_is N s = refl

pub grown_is : (N : ℕ) (s : Image) → grown N s ≡ wrapped N s.level (suc s.pointer)
unfolding grown
grown_is N s = refl

module _ (N : ℕ) (s : Image) where
  -- address
  pub address_low : (C : ℕ) → hash N s.level C < s.pointer → address N s C ≡ hash N (suc s.level) C
  unfolding address
  address_low C h = rw (lt-ltb _ _ h)

  pub address_high : (C : ℕ) → s.pointer ≤ hash N s.level C → address N s C ≡ hash N s.level C
  unfolding address
  address_high C h = rw (le-ltb _ _ h)

  -- the level of a bucket
  pub level_split : (a : ℕ) → a < s.pointer → level N s a ≡ suc s.level
  unfolding level
  level_split a h = rw (lt-ltb _ _ h)

  pub level_born : (a : ℕ) → span N s.level ≤ a → level N s a ≡ suc s.level
  unfolding level
  level_born a h = ⊎_elim (λ l. rw (lt-ltb a s.pointer l)) (λ l. rw (le-ltb a s.pointer l, le-leb _ _ h))
      (below a s.pointer)

  pub level_rest : (a : ℕ) → s.pointer ≤ a → a < span N s.level → level N s a ≡ s.level
  unfolding level
  level_rest a h l = rw (le-ltb _ _ h, lt-leb _ _ l)

  pub level_low : (a : ℕ) → s.level ≤ level N s a
  level_low a = ⊎_elim (λ l. omega (arith, level_split a l))
      (λ l. ⊎_elim (λ m. omega (arith, level_rest a l m)) (λ m. omega (arith, level_born a m))
      (below a (span N s.level)))
      (below a s.pointer)

  pub level_high : (a : ℕ) → level N s a ≤ suc s.level
  level_high a = ⊎_elim (λ l. omega (arith, level_split a l))
      (λ l. ⊎_elim (λ m. omega (arith, level_rest a l m)) (λ m. omega (arith, level_born a m))
      (below a (span N s.level)))
      (below a s.pointer)

-- the fates are three
never_kept : (b : ℕ) → SendOn b ≡ Keep → ⊥
never_kept b e = let z : ◌≡◌ {A = ℕ} 0 1 = cc in omega arith

stop_kept : Unsound ≡ Keep → ⊥
stop_kept e = let z : ◌≡◌ {A = ℕ} 0 1 = cc in omega arith

stop_sent : (b : ℕ) → Unsound ≡ SendOn b → ⊥
stop_sent b e = let z : ◌≡◌ {A = ℕ} 0 1 = cc in omega arith

sent_same : (b c : ℕ) → SendOn b ≡ SendOn c → b ≡ c
sent_same b c e = cc

module _ (N a j C : ℕ) where
  pub keeps_is : keeps N a j C ≡ eqb (hash N j C) a
  unfolding keeps
  keeps_is = refl

  pub keeps_yes : hash N j C ≡ a → keeps N a j C ≡ true
  unfolding keeps
  keeps_yes h = eq-eqb _ _ h

  pub keeps_no : (hash N j C ≡ a → ⊥) → keeps N a j C ≡ false
  unfolding keeps
  keeps_no h = ne_eqb _ _ h

  -- where a bucket sends a key on
  pub onward_near : a < hash N (j - 1) C → hash N (j - 1) C < hash N j C → onward N a j C ≡ hash N (j - 1) C
  unfolding onward
  onward_near h l = rw (lt-ltb _ _ h, lt-ltb _ _ l)

  pub onward_past : hash N (j - 1) C ≤ a → onward N a j C ≡ hash N j C
  unfolding onward
  onward_past h = rw (le-ltb _ _ h)

  pub onward_level : hash N j C ≤ hash N (j - 1) C → onward N a j C ≡ hash N j C
  unfolding onward
  onward_level h = ⊎_elim (λ l. rw (lt-ltb a (hash N (j - 1) C) l, le-ltb _ _ h))
      (λ l. rw (le-ltb a (hash N (j - 1) C) l)) (below a (hash N (j - 1) C))

  -- the three fates
  pub fate_unsound : fate N false a j C ≡ Unsound
  unfolding fate
  fate_unsound = refl

  pub fate_keep : hash N j C ≡ a → fate N true a j C ≡ Keep
  unfolding fate
  fate_keep h = rw (keeps_yes h)

  pub fate_send : (hash N j C ≡ a → ⊥) → fate N true a j C ≡ SendOn (onward N a j C)
  unfolding fate
  fate_send h = rw (keeps_no h)

-- what a fate tells
module _ (N a j C : ℕ) where
  pub fate_kept : (sound : Bool) → fate N sound a j C ≡ Keep → (sound ≡ true) × (hash N j C ≡ a)
  fate_kept true e = ⊎_elim (λ h. (refl, h)) (λ h. absurd (never_kept (onward N a j C) (sym (fate_send N a j C h) ∙ e)))
      (same (hash N j C) a)
  fate_kept false e = absurd (stop_kept (sym (fate_unsound N a j C) ∙ e))

  pub fate_sent : (sound : Bool) (b : ℕ) → fate N sound a j C ≡ SendOn b
      → (sound ≡ true) × (hash N j C ≡ a → ⊥) × (onward N a j C ≡ b)
  fate_sent true b e = ⊎_elim (λ h. absurd (never_kept b (sym e ∙ fate_keep N a j C h)))
      (λ h. (refl, h, sent_same (onward N a j C) b (sym (fate_send N a j C h) ∙ e))) (same (hash N j C) a)
  fate_sent false b e = absurd (stop_sent b (sym (fate_unsound N a j C) ∙ e))

  pub fate_stopped : (sound : Bool) → fate N sound a j C ≡ Unsound → sound ≡ false
  fate_stopped true e = ⊎_elim (λ h. absurd (stop_kept (sym e ∙ fate_keep N a j C h)))
      (λ h. absurd (stop_sent (onward N a j C) (sym e ∙ fate_send N a j C h))) (same (hash N j C) a)
  fate_stopped false e = refl

-- adjustment
module _ (N : ℕ) (image : Image) (a j : ℕ) where
  pub adjusted_kept : adjusted N image a j true ≡ image
  unfolding adjusted
  adjusted_kept = refl

  pub adjusted_level : (kept : Bool) → j ≤ image.level → adjusted N image a j kept ≡ image
  unfolding adjusted
  adjusted_level true h = refl
  adjusted_level false h = rw (le-ltb _ _ h)

  pub adjusted_behind : image.level < j → adjusted N image a j false ≡ wrapped N (j - 1) (suc a)
  unfolding adjusted
  adjusted_behind h = rw (lt-ltb _ _ h)

module _ (N k p : ℕ) where
  pub wrapped_below : p < span N k → wrapped N k p ≡ «at» k p
  unfolding wrapped
  wrapped_below h = rw (lt-ltb _ _ h)

  pub wrapped_full : span N k ≤ p → wrapped N k p ≡ «at» (suc k) 0
  unfolding wrapped
  wrapped_full h = rw (le-ltb _ _ h)

-- the same by what the code's tests told, one law for each way out
module _ (N : ℕ) (s : Image) (C : ℕ) {low : ℕ} (is : low ≡ hash N s.level C) where
  pub address_up : low < s.pointer → {high : ℕ} → high ≡ hash N (s.level + 1) C → high ≡ address N s C
  address_up h e = e ∙ ap (λ (k : ℕ). hash N k C) (add-one s.level) ∙ sym (address_low N s C (omega arith))

  pub address_same : s.pointer ≤ low → low ≡ address N s C
  address_same h = is ∙ sym (address_high N s C (omega arith))

module _ (N : ℕ) (s : Image) (a : ℕ) where
  pub level_passed : a < s.pointer → s.level + 1 ≡ level N s a
  level_passed h = add-one s.level ∙ sym (level_split N s a h)

  module _ {width : ℕ} (is : width ≡ span N s.level) where
    pub level_new : width ≤ a → s.level + 1 ≡ level N s a
    level_new h = add-one s.level ∙ sym (level_born N s a (omega arith))

    pub level_same : s.pointer ≤ a → a < width → s.level ≡ level N s a
    level_same h l = sym (level_rest N s a h (omega arith))

module _ (N a j C : ℕ) {far down near : ℕ} (is-far : far ≡ hash N j C) (is_down : down ≡ j - 1)
    (is-near : near ≡ hash N down C) where
  nearer : near ≡ hash N (j - 1) C
  nearer = is-near ∙ ap (λ (k : ℕ). hash N k C) is_down

  pub sent_near : a < near → near < far → near ≡ onward N a j C
  sent_near h l = nearer ∙ sym (onward_near N a j C (omega (arith, nearer)) (omega (arith, nearer)))

  pub sent_level : far ≤ near → far ≡ onward N a j C
  sent_level h = is-far ∙ sym (onward_level N a j C (omega (arith, nearer)))

  pub sent_past : near ≤ a → far ≡ onward N a j C
  sent_past h = is-far ∙ sym (onward_past N a j C (omega (arith, nearer)))

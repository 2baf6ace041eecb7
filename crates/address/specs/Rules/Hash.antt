-- Facts of h_k and of 2^k, once over k and N. A level more doubles the span and leaves h_k or adds one span to it; a
-- lower h_j is found again in a higher h_k.
use Rattle.std.specs.Prelude.{ℕ, zero, suc, ◌+◌, ◌*◌, ◌-◌, ◌^◌, ◌%◌, ◌/◌, ◌≤◌, ◌<◌, ◌≡◌, ◌⊎◌}
use Rattle.std.proofs.Math.Path.{refl, ap}
use Rattle.std.proofs.Common.{sym, ◌∙◌, inl, inr, mod-eq_of_lt, mul-le-mul_left, arith, pow_pos, pow_mono, pow-add}
use Rattle.std.proofs.Math.Nat.{mod-lt, mod-le, pow-succ', mul-pos, mul_assoc, mod-mod_of_dvd, dvd-mul_right}
use Rattle.std.proofs.Math.Arith.{mod-mul}
use Rattle.address.specs.Rules.{span, hash}

pub span_is : (N k : ℕ) → span N k ≡ N * 2 ^ k
unfolding span
span_is N k = refl

pub hash_is : (N k C : ℕ) → hash N k C ≡ C % span N k
unfolding hash
hash_is N k C = refl

pub span_suc : (N k : ℕ) → span N (suc k) ≡ span N k + span N k
unfolding span
span_suc N k = rw (pow-succ' 2 k) (omega arith)

pub span_mono : (N : ℕ) {j k : ℕ} → j ≤ k → span N j ≤ span N k
unfolding span
span_mono N h = mul-le-mul_left N (pow_mono h)

pub hash_le : (N k C : ℕ) → hash N k C ≤ C
unfolding hash
hash_le N k C = mod-le C (span N k)

pub hash_small : (N k : ℕ) {C : ℕ} → C < span N k → hash N k C ≡ C
unfolding hash
hash_small N k h = mod-eq_of_lt h

module _ (N : ℕ) (positive : 0 < N) where
  pub span_pos : (k : ℕ) → 0 < span N k
  unfolding span
  span_pos k = mul-pos positive (pow_pos k)

  pub span_above : (k : ℕ) → k < span N k
  span_above zero = span_pos 0
  span_above (suc k) = omega (arith, span_suc N k, span_above k)

  pub hash_lt : (k C : ℕ) → hash N k C < span N k
  unfolding hash
  hash_lt k C = mod-lt C (span_pos k)

  -- one level more: h_{k+1}(C) is h_k(C) or h_k(C) + 2^k
  pub hash_suc : (k C : ℕ) → (hash N (suc k) C ≡ hash N k C) ⊎ (hash N (suc k) C ≡ hash N k C + span N k)
  unfolding hash
  hash_suc k C = go (C / span N k % 2) refl (mod-lt (C / span N k) (omega arith))
    where
      doubled : span N (suc k) ≡ 2 * span N k
      doubled = omega (arith, span_suc N k)

      split : C % span N (suc k) ≡ (C / span N k % 2) * span N k + C % span N k
      split = ap (λ (m : ℕ). C % m) doubled ∙ mod-mul C (omega arith) (span_pos k)

      go : (q : ℕ) → C / span N k % 2 ≡ q → C / span N k % 2 < 2
          → (C % span N (suc k) ≡ C % span N k) ⊎ (C % span N (suc k) ≡ C % span N k + span N k)
      go zero e _ = inl (split ∙ (rw e (omega arith)))
      go (suc zero) e _ = inr (split ∙ (rw e (omega arith)))
      go (suc (suc q)) e small = absurd (omega arith)

  -- the lower hash is found again in the higher
  pub hash_hash : {j k : ℕ} → j ≤ k → (C : ℕ) → hash N j (hash N k C) ≡ hash N j C
  unfolding hash span
  hash_hash {j} {k} h C = mod-mod_of_dvd (span N j) C (rw factor at (dvd-mul_right (span N j) (2 ^ (k - j))))
    where
      factor : span N j * 2 ^ (k - j) ≡ span N k
      factor = mul_assoc N (2 ^ j) (2 ^ (k - j))
          ∙ ap (λ (m : ℕ). N * m) (sym (pow-add 2 j (k - j)) ∙ ap (λ (m : ℕ). 2 ^ m) (omega arith))

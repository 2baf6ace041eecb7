-- Refusals in a row: those that are passed hand the reply on, and one that holds keeps it.
use Rattle.std.specs.Prelude.{ℕ, ◌≡◌, refl, Bool, true, false, cond, List, [], ◌∷◌, ◌++◌, eqb}
use Rattle.std.proofs.Common.{sym, ap, ◌∙◌, ne_eqb}
use Rattle.layout.specs.Replies.{Refusal, Numbers, reply, reply_none, reply_here, reply_past, reply_else}

-- Refusals are passed if none of them holds.
abbrev pub Passes : List Refusal → Type 0
Passes [] = Unit {0}
Passes (refusal ∷ rest) = (refusal.holds ≡ false) × Passes rest

pub passes_append : (first rest : List Refusal) → Passes first → Passes rest → Passes (first ++ rest)
passes_append [] rest one two = two
passes_append (refusal ∷ first) rest one two = (one.0, passes_append first rest one.1 two)

pub passes_split : (first rest : List Refusal) → Passes (first ++ rest) → Passes first × Passes rest
passes_split [] rest all = (tt, all)
passes_split (refusal ∷ first) rest all =
    let (one, two) = passes_split first rest all.1 in
    ((all.0, one), two)

-- the reply is then the one behind them
pub passes_on : (refusals : List Refusal) → Passes refusals → (done : ℕ) → reply refusals done ≡ done
passes_on [] all done = reply_none done
passes_on (refusal ∷ rest) all done = reply_past refusal.number refusal.holds rest done all.0
    ∙ passes_on rest all.1 done

-- where no refusal has the number 0, the reply 0 tells that they are passed
pub passes_back : (refusals : List Refusal) → Numbers (λ n. n ≡ 0 → ⊥) refusals → reply refusals 0 ≡ 0
    → Passes refusals
passes_back [] some e = tt
passes_back (refusal ∷ rest) some e = go refusal.holds refl (passes_back rest some.1)
  where
    go : (b : Bool) → refusal.holds ≡ b → (reply rest 0 ≡ 0 → Passes rest) → Passes (refusal ∷ rest)
    go true h later = absurd (some.0 (sym (reply_here refusal.number refusal.holds rest 0 h) ∙ e))
    go false h later = (h, later (sym (reply_past refusal.number refusal.holds rest 0 h) ∙ e))

-- and another reply is kept, whatever comes behind them
pub refused_on : (refusals : List Refusal) → Numbers (λ n. n ≡ 0 → ⊥) refusals → (r : ℕ) → reply refusals 0 ≡ r
    → (r ≡ 0 → ⊥) → (done : ℕ) → reply refusals done ≡ r
refused_on refusals some r e holds done = reply_else refusals some done ∙ ap (λ (n : ℕ). cond (eqb n 0) done n) e
    ∙ ap (λ (b : Bool). cond b done r) (ne_eqb r 0 holds)

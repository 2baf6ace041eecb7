-- Demand 1: each call replies as its list of conditions says, and what a refusal leaves.
use Rattle.std.specs.Prelude.{ℕ, ◌<◌, ◌≡◌, refl, Bool, List, ◌⊎◌}
use Rattle.std.proofs.Common.{sym, ⊎_elim, arith}
use Rattle.layout.specs.Replies.{reply, reply_none}
use Rattle.client.specs.Table.Laws.{join_reply, join_ways}
use Rattle.file.specs.File.Region.{check_reply}
use Rattle.file.specs.File.Split.{split_reply, split_ways}
use Rattle.ride.specs.Call.{Outcome, adjusted_table, search, insert}
use Rattle.ride.specs.Call.Left.{Refused, search_reply, insert_reply, search_ways, insert_ways}
use Rattle.scan.specs.Scan.Replied.{scan_reply}
use Rattle.load.specs.Load.{Loaded, insert_split}
use Rattle.load.specs.Load.Left.{Spared, load_reply}
use Rattle.load.proofs.Load.Left.{load_ways}
use Rattle.demands.specs.Run.{Memory, Call, Join, Insert, InsertSplit, Search, Split, Scan, Check, View, Parent}
use Rattle.demands.specs.Run.{left, left_loaded, after, replied, answered, conditions}

pub call_replies : (m : Memory) (call : Call) → replied m call ≡ reply (conditions m call) 0
unfolding replied conditions answered
call_replies m (Join client) = join_reply m.table client
call_replies m (Insert client key payload answer) = insert_reply m.file m.table client key payload answer
call_replies m (InsertSplit client key payload t answer) = load_reply m.file m.table client key payload t answer
call_replies m (Search client key answer) = search_reply m.file m.table client key answer
call_replies m Split = split_reply m.file
call_replies m (Scan client lift visits matches) = scan_reply m.file m.table client lift visits matches
call_replies m Check = check_reply m.file
call_replies m (View bucket) = sym (reply_none 0)
call_replies m (Parent bucket) = sym (reply_none 0)

-- a refusal before the key's own bucket leaves the memory
refused_left : (m : Memory) (fits : Bool) (client key : ℕ) (answer : List ℕ) (o : Outcome)
    → Refused fits m.file m.table client key answer o → left o ≡ m
unfolding left
refused_left m fits client key answer o r = λ i. record { file = r.file_left i; table = r.table_left i }

spared_left : (m : Memory) (answer : List ℕ) (o : Loaded) → Spared m.file m.table answer o → left_loaded o ≡ m
unfolding left_loaded
spared_left m answer o r = λ i. record { file = r.file_left i; table = r.table_left i }

-- a refusal but 8 and 9 leaves file and table
pub call_untouched : (m : Memory) (call : Call) → 1 < replied m call → (replied m call ≡ 8 → ⊥)
    → (replied m call ≡ 9 → ⊥) → after m call ≡ m
unfolding replied after left left_loaded answered
call_untouched m (Join client) some eight nine = join_ways
    (λ o. 1 < o.answer → record { file = m.file; table = o.table } ≡ m) m.table client
    (λ r e not-zero h. refl) (λ e h. absurd (omega (arith, h))) some
call_untouched m (Insert client key payload answer) some eight nine = insert_ways m.file m.table client key
    payload answer
    (λ o. 1 < o.answer → (o.answer ≡ 8 → ⊥) → (o.answer ≡ 9 → ⊥) → left o ≡ m)
    (λ o r h e n. refused_left m _ client key answer o r)
    (λ w held h e n. absurd (e refl))
    (λ w free full h e n. absurd (n refl))
    (λ w free room h e n. absurd (omega (arith, h)))
    some eight nine
call_untouched m (InsertSplit client key payload t answer) some eight nine = load_ways m.file m.table client key
    payload t answer
    (λ o. 1 < o.answer → (o.answer ≡ 8 → ⊥) → (o.answer ≡ 9 → ⊥) → left_loaded o ≡ m)
    (λ o r why h e n. spared_left m answer o r)
    (λ w held h e n. absurd (e refl))
    (λ w free full h e n. absurd (n refl))
    (λ w control is single h e n. absurd (omega (arith, h)))
    (λ w due judged h e n. absurd (omega (arith, h)))
    (λ w due bad o r h e n. spared_left m answer o r)
    some eight nine
call_untouched m (Search client key answer) some eight nine = search_ways m.file m.table client key answer
    (λ o. 1 < o.answer → left o ≡ m)
    (λ o r h. refused_left m _ client key answer o r) (λ w held h. absurd (omega (arith, h)))
    (λ w absent h. absurd (omega (arith, h))) some
call_untouched m Split some eight nine = split_ways m.file
    (λ o. 1 < o.answer → record { file = o.file; table = m.table } ≡ m)
    (λ r a h some. refl) (λ h l some. absurd (omega (arith, some))) some
call_untouched m (Scan client lift visits matches) some eight nine = refl
call_untouched m Check some eight nine = refl
call_untouched m (View bucket) some eight nine = refl
call_untouched m (Parent bucket) some eight nine = refl

-- 8 and 9 leave the file, and the image as the adjustment says
pub insert_adjusted : (m : Memory) (client key : ℕ) (payload answer : List ℕ)
    → (replied m (Insert client key payload answer) ≡ 8) ⊎ (replied m (Insert client key payload answer) ≡ 9)
    → after m (Insert client key payload answer)
    ≡ record { file = m.file; table = adjusted_table m.file m.table client key }
unfolding replied after left answered
insert_adjusted m client key payload answer = insert_ways m.file m.table client key payload answer
    (λ o. (o.answer ≡ 8) ⊎ (o.answer ≡ 9)
    → left o ≡ record { file = m.file; table = adjusted_table m.file m.table client key })
    (λ o r which. absurd (⊎_elim r.before.0 r.before.1 which))
    (λ w held which. refl)
    (λ w free full which. refl)
    (λ w free room which. absurd (⊎_elim (λ e. omega (arith, e)) (λ e. omega (arith, e)) which))

pub load_adjusted : (m : Memory) (client key : ℕ) (payload : List ℕ) (t : ℕ) (answer : List ℕ)
    → (replied m (InsertSplit client key payload t answer) ≡ 8)
    ⊎ (replied m (InsertSplit client key payload t answer) ≡ 9)
    → after m (InsertSplit client key payload t answer)
    ≡ record { file = m.file; table = adjusted_table m.file m.table client key }
unfolding replied after left_loaded answered
load_adjusted m client key payload t answer = load_ways m.file m.table client key payload t answer
    (λ o. (o.answer ≡ 8) ⊎ (o.answer ≡ 9)
    → left_loaded o ≡ record { file = m.file; table = adjusted_table m.file m.table client key })
    (λ o r why which. absurd (⊎_elim r.before.0 r.before.1 which))
    (λ w held which. refl)
    (λ w free full which. refl)
    (λ w control is single which. absurd (⊎_elim (λ e. omega (arith, e)) (λ e. omega (arith, e)) which))
    (λ w due judged which. absurd (⊎_elim (λ e. omega (arith, e)) (λ e. omega (arith, e)) which))
    (λ w due bad o r which. absurd (⊎_elim r.before.0 r.before.1 which))

-- 14 touches nothing: not the answer block either
pub insert_untouched : (m : Memory) (client key : ℕ) (payload answer : List ℕ)
    → replied m (Insert client key payload answer) ≡ 14
    → (insert m.file m.table client key payload answer).block ≡ answer
unfolding replied answered
insert_untouched m client key payload answer = insert_ways m.file m.table client key payload answer
    (λ o. o.answer ≡ 14 → o.block ≡ answer)
    (λ o r. r.block_left) (λ w held e. absurd (omega (arith, e))) (λ w free full e. absurd (omega (arith, e)))
    (λ w free room e. absurd (omega (arith, e)))

pub load_untouched : (m : Memory) (client key : ℕ) (payload : List ℕ) (t : ℕ) (answer : List ℕ)
    → replied m (InsertSplit client key payload t answer) ≡ 14
    → (insert_split m.file m.table client key payload t answer).block ≡ answer
unfolding replied answered
load_untouched m client key payload t answer = load_ways m.file m.table client key payload t answer
    (λ o. o.answer ≡ 14 → o.block ≡ answer)
    (λ o r why. r.block_left) (λ w held e. absurd (omega (arith, e))) (λ w free full e. absurd (omega (arith, e)))
    (λ w control is single e. absurd (omega (arith, e))) (λ w due judged e. absurd (omega (arith, e)))
    (λ w due bad o r. r.block_left)

pub search_untouched : (m : Memory) (client key : ℕ) (answer : List ℕ) → replied m (Search client key answer) ≡ 14
    → (search m.file m.table client key answer).block ≡ answer
unfolding replied answered
search_untouched m client key answer = search_ways m.file m.table client key answer
    (λ o. o.answer ≡ 14 → o.block ≡ answer)
    (λ o r. r.block_left) (λ w held e. absurd (omega (arith, e))) (λ w absent e. absurd (omega (arith, e)))

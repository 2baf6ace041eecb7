-- What a call of a client begins with, as document 01 has it: the refusals 2 to 6 in their order, the route of a key,
-- and the key's own bucket.
pub mod Keeping
pub mod Noted
pub mod Open
pub mod Own
pub mod Reach
pub mod Route
use Rattle.std.specs.Prelude.{ℕ, Bool, cond, not, List, [], ◌∷◌, ◌++◌, leb, ltb, eqb, take, get_or}
use Rattle.address.specs.Limits.{first_buckets}
use Rattle.address.specs.declared.Image.{Image}
use Rattle.address.specs.Rules.{buckets, address, level, adjusted, route}
use Rattle.layout.specs.Replies.{Refusal, refuse, reply}
use Rattle.bucket.specs.Region.{count_of, slot_of, every}
use Rattle.client.specs.Table.{image_of, caller_refusals}
use Rattle.file.specs.File.{slots_of, state_of, buckets_of, header_sound, region_of, bucket_sound_in}
use Rattle.route.specs.declared.walk.Walk.{Walk}

-- 2, 3, 4, 5, 6, before any route.
pub early : List ℕ → List ℕ → ℕ → List Refusal
early file table client =
    caller_refusals table client
    ++ (refuse 5 (not (header_sound file))
    ∷ refuse 6 (ltb (buckets_of file) (buckets first_buckets (image_of table client)))
    ∷ [])

-- With 7 the route ends at the unsound bucket: the buckets up to and with the first at which a test fails.
pub cut : (ℕ → Bool) → List ℕ → List ℕ
cut test [] = []
cut test (a ∷ way) = a ∷ cond (test a) (cut test way) []

-- The route of a key from a client's image: the rules' route.
pub way_of : List ℕ → Image → ℕ → List ℕ
way_of file image key = route first_buckets (state_of file) image key

-- The refusals on the way to the key's own bucket, 7 behind the early ones; and the buckets met by then.
pub on_way : List ℕ → List ℕ → ℕ → ℕ → List Refusal
on_way file table client key =
    early file table client
    ++ (refuse 7 (not (every (bucket_sound_in file) (way_of file (image_of table client) key))) ∷ [])

pub met_on : List ℕ → List ℕ → ℕ → ℕ → List ℕ
met_on file table client key = cond (eqb (reply (early file table client) 0) 0)
    (cut (bucket_sound_in file) (way_of file (image_of table client) key)) []

-- The buckets that a walk has noted, at most three.
pub noted : Walk → List ℕ
noted walk = take walk.count (get_or walk.met 0 0 ∷ get_or walk.met 1 0 ∷ get_or walk.met 2 0 ∷ [])

-- The first bucket of a walk.
abbrev pub first_met : Walk → ℕ
first_met walk = get_or walk.met 0 0

-- The image after a walk, by its first bucket, which kept the key if it is the only one.
abbrev pub adjusted_by : Image → Image → Walk → Image
adjusted_by state image walk =
    adjusted first_buckets image (first_met walk) (level first_buckets state (first_met walk)) (eqb walk.count 1)

-- The key's own bucket, whether it holds the key, and whether it holds S records.
pub own_of : List ℕ → ℕ → ℕ
own_of file key = address first_buckets (state_of file) key

pub held : List ℕ → ℕ → Bool
held file key = ltb (slot_of (region_of file (own_of file key)) key) (count_of (region_of file (own_of file key)))

pub full : List ℕ → ℕ → Bool
full file key = leb (slots_of file) (count_of (region_of file (own_of file key)))

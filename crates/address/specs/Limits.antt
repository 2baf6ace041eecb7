-- The limits of document 01, each named once.
use Rattle.std.specs.Prelude.{ℕ}

-- The initial number of buckets is 1.
abbrev pub first_buckets : ℕ
first_buckets = 1

-- Bucket 0 has no parent; 65,535 says so. Check, split and scan answer it where no bucket is named, and a route entry
-- that is not used holds it.
abbrev pub no_bucket : ℕ
no_bucket = 65535

-- A client's level is at most 12.
abbrev pub most_level : ℕ
most_level = 12

-- M is 1 to 4,096, S is 1 to 64; a client table is at most 2,048 bytes long, 256 records of 8.
abbrev pub most_buckets : ℕ
most_buckets = 4096

abbrev pub most_slots : ℕ
most_slots = 64

abbrev pub most_table : ℕ
most_table = 2048

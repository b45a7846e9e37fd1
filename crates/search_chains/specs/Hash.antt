-- The bucket of a record.
use Rattle.std.specs.Prelude.{ℕ, zero, suc, ◌+◌, ◌*◌, ◌/◌, ◌%◌, List}
use Rattle.table.specs.Region.{part}
use Rattle.table.specs.Endian.{le}

-- what one word is added to
abbrev pub blended : ℕ → ℕ → ℕ
blended h word = h * 461845907 + word % 4294967296 + word / 4294967296 * 433494437

-- one word of eight bytes more: both halves of the sum added
abbrev pub mixed : ℕ → ℕ → ℕ
mixed h word = blended h word % 4294967296 + blended h word / 4294967296

-- the fold over n words from place at on, begun with h
unfoldable pub hash_from : ℕ → ℕ → ℕ → List ℕ → ℕ
hash_from zero at h bs = h
hash_from (suc n) at h bs = hash_from n (at + 8) (mixed h (le (part at 8 bs))) bs

-- the bucket of a hash among so many, by bits from its middle once it is multiplied
abbrev pub bucket_of : ℕ → ℕ → ℕ
bucket_of room h = mixed h 0 / 1024 % room

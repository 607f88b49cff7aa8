-- Defines the hash of a pair of numbers.
use Rattle.std.specs.Prelude.{ℕ, ◌+◌, ◌*◌, ◌/◌, ◌%◌, ◌^◌}
use Rattle.std.specs.Int.Bits.{bit_xor}
use Rattle.buckets.specs.declared.hashing.TheConstants.{FIRST_FACTOR, SUM_FACTOR}

-- Returns the hash of a pair of numbers. Both numbers go into a product of at most 128 bits. The hash is the exclusive
-- or of the upper 64 bits and the lower 64 bits of this product.
unfoldable pub hash_of : ℕ × ℕ → ℕ
hash_of p = let product = ((p.0 + 1) * FIRST_FACTOR % 2 ^ 64 + p.1) % 2 ^ 64 * SUM_FACTOR in
    bit_xor (product % 2 ^ 64) (product / 2 ^ 64)

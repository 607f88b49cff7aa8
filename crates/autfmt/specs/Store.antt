-- This file defines the model of a sink (the object to which the output is written) that stores its bytes in memory.
use Rattle.std.specs.Prelude.{ℕ, ◌-◌, List, ◌++◌, length, Option, option_map}
use Rattle.autfmt.specs.Pieces.{capped}

-- `Store` is the state of a sink (the object to which the output is written) that stores its bytes in memory. The field
-- `bytes` contains the bytes that were written, and `failures` is the number of times that the sink has failed so far.
-- The field `count` is `None`, or the number of bytes that all calls together can write: once the sink contains this
-- number of bytes, each further call fails. The field `most` is `None`, or the greatest number of bytes that one call
-- can write.
pub record Store : Type 0 where
  pub bytes : List ℕ
  pub count : Option ℕ
  pub most : Option ℕ
  pub failures : ℕ

-- `taken_count s n` is the number of bytes that a sink (the object to which the output is written) in the state s
-- accepts from a call that offers n bytes. The sink accepts all n bytes, unless the limit for all calls together
-- (`s.count`) or the limit for one call (`s.most`) allows fewer.
abbrev pub taken_count : Store → ℕ → ℕ
taken_count s n = capped s.most (capped (option_map (λ c. c - length s.bytes) s.count) n)

-- `after_put s bs` is the state of a sink (the object to which the output is written) after the bytes bs were written
-- to it in the state s.
abbrev pub after_put : Store → List ℕ → Store
after_put s bs = record s { bytes = s.bytes ++ bs }

-- A source is the object from which the input is read, and a sink is the object to which the output is written. This
-- file defines how a limit restricts the number of bytes that one call may read from a source or write to a sink. This
-- file also defines a model for two types: a source that wraps a reader of the standard library, and a sink that wraps
-- a writer of the standard library.
use Rattle.std.specs.Prelude.{ℕ, min, Option, None, Some}

-- `capped limit n` is the smaller of the number n and the limit, or n if there is no limit.
abbrev pub capped : Option ℕ → ℕ → ℕ
capped None n = n
capped (Some most) n = min most n

-- `Wrapped` is the model of a source that wraps a reader of the standard library, and of a sink that wraps a writer of
-- the standard library. The field `inner` is the reader or the writer. The field `failures` is the number of times that
-- the source or the sink has failed so far.
pub record Wrapped (T : Type 0) : Type 0 where
  pub inner : T
  pub failures : ℕ

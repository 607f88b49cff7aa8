-- This file defines the model of a source (the object from which the input is read) whose bytes are in memory.
use Rattle.std.specs.Prelude.{ℕ, ◌-◌, min, List, length, drop, Option, option_map}
use Rattle.autfmt.specs.Pieces.{capped}

-- `Supply` is the state of a source (the object from which the input is read) whose bytes are in memory. The field
-- `rest` contains the bytes that the source has not yet returned, and `failures` is the number of times that the source
-- has failed so far. If the field `place` is a number, the source fails once it has returned this number of further
-- bytes. If the field `most` is a number, one call returns at most this number of bytes.
pub record Supply : Type 0 where
  pub rest : List ℕ
  pub place : Option ℕ
  pub most : Option ℕ
  pub failures : ℕ

-- `next_count s n` is the number of bytes that a source (the object from which the input is read) in the state s
-- returns in the next call, if the buffer of the caller has room for n bytes. This number is the smallest of four
-- numbers: n, the number of bytes that the source has not yet returned, the number of bytes before the failure
-- (`s.place`), and the limit for one call (`s.most`). If `s.place` or `s.most` is `None`, only the other numbers are
-- compared.
abbrev pub next_count : Supply → ℕ → ℕ
next_count s n = capped s.most (capped s.place (min n (length s.rest)))

-- `after_take s n` is the state of a source (the object from which the input is read) after it has returned n bytes in
-- the state s.
abbrev pub after_take : Supply → ℕ → Supply
after_take s n = record s { rest = drop n s.rest; place = option_map (λ p. p - n) s.place }

use Rattle.std.proofs.Common.{◌≡◌, ℕ, ◌+◌, ◌<◌, ◌≤◌, length, take, get_or, vec_len, vec_capacity}
use Rattle.lts.specs.Rows.{in_rows}
use Rattle.lts.proofs.ascending_rows.Rows.triples.Given as goal

abbrev pub invariant-loop-k : goal.invariant-loop-k
invariant-loop-k l = record {
  made : l.triples.items ≡ take l.k (in_rows l.self-inside.ends.items l.self-inside.pairs.items);
  room : vec_len l.triples + length l.self-inside.pairs.items ≤ vec_capacity l.triples + l.k;
  passed : (s : ℕ) → s < l.source → get_or l.self-inside.ends.items s 0 ≤ l.k;
  within : l.source ≤ length l.self-inside.ends.items;
}

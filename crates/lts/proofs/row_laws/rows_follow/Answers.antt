use Rattle.std.proofs.Common.{rules}
use Rattle.lts.proofs.Rows.{before-zero, before-next, before-mono, before-all, row-more}
use Rattle.lts.proofs.row_laws.rows_follow.Goals as goal

pub returns : goal.returns
returns c = search (rules, before-zero, before-next, before-mono, before-all, row-more)

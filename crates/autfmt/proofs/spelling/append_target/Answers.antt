use Rattle.std.proofs.Common.{rules, arith}
use Rattle.std.proofs.lemmas.{Grind.common_steps, Fmt.length-decimal-le}
use Rattle.autfmt.proofs.Progress.{target_put}
use Rattle.autfmt.proofs.spelling.append_target.Goals as goal

pub write_digits-start-requires : goal.write_digits-start-requires
write_digits-start-requires c = search (rules, length-decimal-le, c.from.ensures)

pub returns-clause-text : goal.returns-clause-text
returns-clause-text c = grind (arith, common_steps, target_put)

use Rattle.std.proofs.Common.{rules}
use Rattle.signatures.proofs.Storing.{extensions-more, extensions-push}
use Rattle.signatures.proofs.extensions.Extensions.push.Goals as goal

pub returns-in_err-push-clause-err : goal.returns-in_err-push-clause-err
returns-in_err-push-clause-err c = search (rules, extensions-more)

pub returns-clause-pushed : goal.returns-clause-pushed
returns-clause-pushed c = search (rules, extensions-push)

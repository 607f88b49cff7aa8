use Rattle.std.proofs.{Common.arith, lemmas.Grind.common_steps}
use Rattle.buckets.proofs.Entries.{AreBuckets-push}
use Rattle.buckets.proofs.chains.add_entry.Goals as goal

pub returns-clause-buckets : goal.returns-clause-buckets
returns-clause-buckets c = grind (arith, common_steps, AreBuckets-push)

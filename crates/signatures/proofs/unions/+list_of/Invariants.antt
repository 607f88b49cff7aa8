use Rattle.std.proofs.Common.{length}
use Rattle.signatures.proofs.unions.+list_of.Given as goal

abbrev pub decreases-list_of : goal.decreases-list_of
decreases-list_of l = length l.pairs.now

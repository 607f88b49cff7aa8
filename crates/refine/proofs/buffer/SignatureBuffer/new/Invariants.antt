use Rattle.std.proofs.Common.{take}
use Rattle.refine.proofs.Listing.{Stores}
use Rattle.refine.proofs.buffer.SignatureBuffer.new.Given as goal

abbrev pub invariant-loop-k : goal.invariant-loop-k
invariant-loop-k l = Stores l.pairs.items l.spans.items (take l.k l.interned)

use Rattle.std.proofs.Common.{◌≡◌, take}
use Rattle.signatures.specs.Hashed.{fingerprint_of}
use Rattle.signatures.proofs.hashes.fingerprint.Given as goal

abbrev pub invariant-loop-first : goal.invariant-loop-first
invariant-loop-first l = l.sum ≡ fingerprint_of (take l.first-index l.list)

use Rattle.std.proofs.Common.{rules}
use Rattle.autfmt.proofs.ReaderSteps.{reads_built}
use Rattle.autfmt.proofs.reader.read_system.Goals as goal

pub returns : goal.returns
returns g c =
    search (
      rules,
      c.in_ok-promise.ensures.whole,
      c.in_ok-system.ensures,
      reads_built,
      c.in_ok-promise.ensures.end,
      c.in_ok-promise.ensures.sound,
    )

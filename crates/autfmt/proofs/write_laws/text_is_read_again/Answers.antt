use Rattle.autfmt.proofs.ReadBack.{text_is_read_again}
use Rattle.autfmt.proofs.write_laws.text_is_read_again.Goals as goal

pub returns : goal.returns
returns c = text_is_read_again

use Rattle.autfmt.proofs.Rows.{text_is_one}
use Rattle.autfmt.proofs.write_laws.text_is_one.Goals as goal

pub returns : goal.returns
returns c = text_is_one

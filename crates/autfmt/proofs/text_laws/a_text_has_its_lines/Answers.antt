use Rattle.autfmt.proofs.Cutting.{lines_of-feed, only_line}
use Rattle.autfmt.proofs.text_laws.a_text_has_its_lines.Goals as goal

pub returns-clause-last : goal.returns-clause-last
returns-clause-last c = only_line

pub returns-clause-first : goal.returns-clause-first
returns-clause-first c = lines_of-feed

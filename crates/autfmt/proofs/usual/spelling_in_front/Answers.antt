use Rattle.std.proofs.Common.{rules}
use Rattle.autfmt.proofs.{Lines.found_from, UsualLines.plain_in_front, UsualLines.quoted_in_front}
use Rattle.std.proofs.lemmas.List.{take_rest}
use Rattle.autfmt.proofs.usual.spelling_in_front.Goals as goal

pub returns-in_default : goal.returns-in_default
returns-in_default c = search (rules, found_from, c.plain_at.ensures, plain_in_front)

pub returns : goal.returns
returns c label = search (rules, quoted_in_front, c.in-34.len_at_least, take_rest, c.in_ok-end.ensures, c.in_ok-end.end)

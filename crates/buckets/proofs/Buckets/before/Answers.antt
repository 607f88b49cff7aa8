use Rattle.std.proofs.{Common.rules, lemmas.List.length-map, lemmas.List.get_or_read}
use Rattle.buckets.proofs.Entries.{tag_is, before_is}
use Rattle.buckets.proofs.Buckets.before.Goals as goal

pub returns : goal.returns
returns c = search (rules, get_or_read, tag_is, before_is, length-map, c.requires.within, c.self.view_is)

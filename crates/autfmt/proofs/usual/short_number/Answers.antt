use Rattle.std.proofs.Common.{rules, ◌≢◌, ◌<◌, get_or, subst, sym}
use Rattle.autfmt.specs.Usual.{BeginsWithNumber}
use Rattle.std.proofs.lemmas.List.{take_rest}
use Rattle.autfmt.proofs.UsualLines.{number_in_front}
use Rattle.autfmt.proofs.usual.short_number.Goals as goal

pub returns-clause-number : goal.returns-clause-number
returns-clause-number c =
    let bytes = c.args.bytes.now in
    let n = c.in_ok-count.count in
    let leads : 1 < n → get_or bytes 0 0 ≢ 48 = search rules in
    subst (λ rest. BeginsWithNumber bytes c.in_ok-count.value rest) (sym (take_rest bytes n))
    (number_in_front bytes n c.in_ok-count.value c.in_ok-count.ensures leads)

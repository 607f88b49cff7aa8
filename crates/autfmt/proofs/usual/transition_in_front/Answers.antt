use Rattle.autfmt.proofs.UsualLines.{transition_in_front}
use Rattle.autfmt.proofs.usual.transition_in_front.Goals as goal

pub returns : goal.returns
returns c label =
    transition_in_front _ _ _ _ _ _ _ _ _ _ _ c.in_ok-past.ensures c.in_ok-source.ensures.number
    c.in_ok-past_comma.ensures (c.in_ok-label.ensures.label label) c.in_ok-past_comma-2.ensures
    c.in_ok-target.ensures.number c.in_ok-past_end.ensures

use Rattle.set_texts.proofs.Indenting.{line_put}
use Rattle.set_texts.proofs.texts.put_below.Goals as goal

pub returns : goal.returns
returns c = line_put _ _ _ _ _ _ _ c.in_ok-extend_from_slice.ensures.items c.in_ok-extend_from_slice-2.ensures.items
    c.in_ok-extend_from_slice-3.ensures.items c.in_ok-push.ensures.items c.requires

use Rattle.engine.proofs.Refusing.{judged_once, judged_or_faulty, misjudged_once}
use Rattle.engine.proofs.laws.one_judging.Goals as goal

pub returns : goal.returns
returns c =
    let laws = c.readings.ensures in
    record { counts = judged_once laws; fault = misjudged_once laws; apart = judged_or_faulty laws }

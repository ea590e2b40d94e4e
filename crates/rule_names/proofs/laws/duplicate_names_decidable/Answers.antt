use Rattle.rule_names.proofs.DecidableNames.{name_duplicate}
use Rattle.rule_names.proofs.laws.duplicate_names_decidable.Goals as goal

pub returns : goal.returns
returns c = name_duplicate

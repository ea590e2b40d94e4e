use Rattle.diff_laws.proofs.Spelling.{addresses_fit}
use Rattle.diff_laws.proofs.spelled_addresses_fit.Goals as goal

pub returns : goal.returns
returns c = λ rules text spelled. addresses_fit rules text spelled

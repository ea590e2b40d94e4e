use Rattle.translation_laws.proofs.Answered.{list_obeys, ok_so}
use Rattle.translation_laws.proofs.connections_keep_the_laws.Goals as goal

pub returns : goal.returns
returns g c = λ history is represents.
    let setup = c.args.engine.now.setup in
    ok_so c.connections.result _ _ (λ all.
    list_obeys setup history (c.translation_laws.ensures.obeys setup history is) all.items)
    (c.connections.ensures history represents)

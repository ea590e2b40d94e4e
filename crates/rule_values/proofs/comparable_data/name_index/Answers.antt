use Rattle.rule_values.proofs.NameIndices.{keeps-key, name_index-key}
use Rattle.rule_values.proofs.comparable_data.name_index.Goals as goal

pub returns-clause-keeps : goal.returns-clause-keeps
returns-clause-keeps c = keeps-key c.args.name c.args.names.now.keys c.insert_full.new.self.keys c.in_ok-name_index.ensures.keys

pub returns-clause-name_index : goal.returns-clause-name_index
returns-clause-name_index c = name_index-key c.args.name c.args.names.now.keys c.insert_full.new.self.keys
    c.in_ok-name_index.name_index c.in_ok-name_index.ensures.keys c.in_ok-name_index.ensures.index c.in_ok-name_index.ensures.within

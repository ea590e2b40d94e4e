use Rattle.std.proofs.Common.{ap, map, refl, subst, ◌∙◌}
use Rattle.std.specs.List.{list_any}
use Rattle.nft_tree.specs.TreeViews.{statement}
use Rattle.packet_sets.specs.Sets.{Means}
use Rattle.rule_meaning.specs.Runs.{table_program}
use Rattle.rule_sets.specs.Ends.{outcomes_for}
use Rattle.rule_sets.proofs.Sorting.{keeps_trans}
use Rattle.chain_sets.specs.RuleSets.{sets_of}
use Rattle.chain_sets.specs.steps.Merging.{with_outcome}
use Rattle.chain_sets.specs.steps.Outcomes.{turn_at}
use Rattle.chain_sets.proofs.Passing.{rules-are-kept, state_goes}
use Rattle.chain_sets.proofs.turns.state_turns.Goals as goal

pub returns-in_err-met-clause-keeps : goal.returns-in_err-met-clause-keeps
returns-in_err-met-clause-keeps c =
    keeps_trans c.args.diagrams.now c.rule_ends.new.diagrams c.met.new.diagrams c.rule_ends.ensures.keeps c.met.ensures.keeps

pub add-requires-clause-sets : goal.add-requires-clause-sets
add-requires-clause-sets c =
    rules-are-kept c.args.diagrams.now c.met.new.diagrams (sets_of c.args.visits.now)
    (keeps_trans c.args.diagrams.now c.rule_ends.new.diagrams c.met.new.diagrams c.rule_ends.ensures.keeps c.met.ensures.keeps) c.requires.visits

pub returns-in_err-add-clause-keeps : goal.returns-in_err-add-clause-keeps
returns-in_err-add-clause-keeps c =
    keeps_trans c.args.diagrams.now c.met.new.diagrams c.add.new.diagrams
    (keeps_trans c.args.diagrams.now c.rule_ends.new.diagrams c.met.new.diagrams c.rule_ends.ensures.keeps c.met.ensures.keeps) c.add.ensures.keeps

pub returns-in_err-turns_of-clause-keeps : goal.returns-in_err-turns_of-clause-keeps
returns-in_err-turns_of-clause-keeps c =
    keeps_trans c.args.diagrams.now c.met.new.diagrams c.add.new.diagrams
    (keeps_trans c.args.diagrams.now c.rule_ends.new.diagrams c.met.new.diagrams c.rule_ends.ensures.keeps c.met.ensures.keeps) c.add.ensures.keeps

pub returns-clause-keeps : goal.returns-clause-keeps
returns-clause-keeps c =
    keeps_trans c.args.diagrams.now c.met.new.diagrams c.add.new.diagrams
    (keeps_trans c.args.diagrams.now c.rule_ends.new.diagrams c.met.new.diagrams c.rule_ends.ensures.keeps c.met.ensures.keeps) c.add.ensures.keeps

pub returns-clause-turns : goal.returns-clause-turns
returns-clause-turns c =
    state_goes (table_program c.args.table.setting.network.now c.args.rule.table c.args.table.setting.names.now) c.args.rule.chain c.args.rule.rule
    (map statement c.args.stmts.now) c.args.diagrams.now c.rule_ends.new.diagrams c.met.new.diagrams c.add.new.diagrams
    (record { interfaces = c.args.table.interfaces; written = c.args.state.outcome }) c.args.state c.in_ok-met.met c.in_ok-ends.ends.items
    c.in_ok-turns_of.field-0.items (sets_of c.args.visits.now) (sets_of c.add.new.self) refl c.requires.state c.requires.visits
    c.rule_ends.ensures.keeps c.in_ok-ends.ensures.value c.met.ensures.keeps
    (subst (λ es. Means c.met.new.diagrams c.in_ok-met.met (λ g. list_any (λ e. e.met) (outcomes_for c.rule_ends.new.diagrams es g)))
    c.deref.ensures.value c.in_ok-met.ensures.value)
    c.add.ensures.keeps c.in_ok-add.ensures.adds
    (c.in_ok-turns_of.ensures ∙ ap (map (with_outcome turn_at)) c.deref-2.ensures.value)

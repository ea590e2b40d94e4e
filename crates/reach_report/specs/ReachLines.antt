-- The lines that tell what can be met, with the names of chains as in a report (own).
use Rattle.std.specs.Prelude.{ℕ, ◌==◌, Bool, true, false, List, [], ◌++◌}
use Rattle.std.specs.Prelude.{codes, if◌then◌else◌, length, nat_lt, take}
use Rattle.std.specs.List.{flat_map}
use Rattle.std.specs.Option.{option_map_or}
use Rattle.nft_tree.specs.Tree.{Text, ChainTree, TableTree}
use Rattle.report.specs.Report.{and_number, and_word, chain_name, end, on_chain}
use Rattle.rule_reach.specs.declared.answers.Answer.{Answer}
use Rattle.rule_reach.specs.declared.answers.Answer.TheVariants.{Met, NotReached, NotMatched}
use Rattle.rule_reach.specs.declared.answers.PolicyReach.{PolicyReach}
use Rattle.rule_reach.specs.declared.answers.Unmet.{Unmet}
use Rattle.reach_report.specs.declared.told.ToldPolicy.{ToldPolicy}
use Rattle.reach_report.specs.declared.told.ToldRule.{ToldRule}
use Rattle.reach_report.specs.Told.{Reasoned, reasoned}

abbrev pub answer_words : Answer → Text
answer_words Met = codes "met"
answer_words NotReached = codes "never reached"
answer_words NotMatched = codes "reached, never matched"

abbrev pub policy_words : Bool → Text
policy_words true = codes "can apply"
policy_words false = codes "never applies"

-- ---- why a rule isn't met

-- the numbers of the first eight, and `..` where there are more
abbrev pub numbers : List ℕ → Text
numbers takers = flat_map and_number (take 8 takers) ++ (if nat_lt 8 (length takers) then codes " .." else [])

-- no rule takes packets which would meet it: by whether any would, and whether any comes to its chain
abbrev pub untaken : Bool → Bool → Text
untaken true comes = codes ", changed before"
untaken false true = codes ", matches none"
untaken false false = []

-- by the rules that take packets which would meet it
abbrev pub reason_by : List ℕ → Bool → Bool → Text
reason_by takers matches_some comes =
    if length takers == 0 then untaken matches_some comes else codes ", taken by" ++ numbers takers

abbrev pub reason : Bool → Unmet → Text
reason comes u = reason_by u.takers.items u.matches_some comes

-- ---- lines

-- `KIND FAMILY TABLE CHAIN`
abbrev pub of_chain : Text → TableTree → ChainTree → Text
of_chain kind t c = kind ++ and_word (chain_name t c)

-- the line of a rule, with its number; none where there is no such chain
abbrev pub rule_line : List TableTree → Reasoned → Text
rule_line tables r = on_chain tables r.reach.rule.table r.reach.rule.chain
    (λ t c. of_chain (codes "rule") t c ++ and_number r.reach.rule.rule ++ and_word (answer_words r.reach.answer)
    ++ option_map_or (reason r.comes) r.unmet [] ++ end)

-- the line of a base chain's policy
abbrev pub policy_line : List TableTree → PolicyReach → Text
policy_line tables p = on_chain tables p.chain.table p.chain.chain
    (λ t c. of_chain (codes "policy") t c ++ and_word (policy_words p.applies) ++ end)

-- the line of a rule, or of a policy, and the text below it
abbrev pub rule_text : List TableTree → ToldRule → Text
rule_text tables t = rule_line tables (reasoned t) ++ t.below.items

abbrev pub policy_text : List TableTree → ToldPolicy → Text
policy_text tables t = policy_line tables t.reach ++ t.below.items

abbrev pub reach_lines : List TableTree → List ToldRule → List ToldPolicy → Text
reach_lines tables rules policies = flat_map (rule_text tables) rules ++ flat_map (policy_text tables) policies

use Rattle.std.proofs.Common.{ℕ, Bool, ◌==◌, nat_le}
use Rattle.rule_meaning.specs.Matches.{tests}
use Rattle.rule_meaning.specs.Selectors.{value}
use Rattle.fact_sets.specs.Cases.{seen}
use Rattle.fact_sets.proofs.SetLaws.{and_means, keeps_trans, means_as, means_kept}
use Rattle.action_cases.proofs.JoinedLaws.{equal_is, past_is, past_means}
use Rattle.action_cases.proofs.concatenations.split.Goals as goal

pub returns-in_err-most-clause-keeps : goal.returns-in_err-most-clause-keeps
returns-in_err-most-clause-keeps c = keeps_trans c.args.diagrams.now c.passing.new.diagrams c.passing-2.new.diagrams
    (c.passing.ensures.keeps) c.passing-2.ensures.keeps

pub returns-in_err-equal-clause-keeps : goal.returns-in_err-equal-clause-keeps
returns-in_err-equal-clause-keeps c = keeps_trans c.args.diagrams.now c.passing-2.new.diagrams c.and.new.self
    (keeps_trans c.args.diagrams.now c.passing.new.diagrams c.passing-2.new.diagrams (c.passing.ensures.keeps) c.passing-2.ensures.keeps) c.and.ensures.keeps

pub returns-in_err-beyond-clause-keeps : goal.returns-in_err-beyond-clause-keeps
returns-in_err-beyond-clause-keeps c = keeps_trans c.args.diagrams.now c.and.new.self c.beyond.new.diagrams
    (keeps_trans c.args.diagrams.now c.passing-2.new.diagrams c.and.new.self
    (keeps_trans c.args.diagrams.now c.passing.new.diagrams c.passing-2.new.diagrams
    (c.passing.ensures.keeps) c.passing-2.ensures.keeps) c.and.ensures.keeps) c.beyond.ensures.keeps

pub returns-clause-keeps : goal.returns-clause-keeps
returns-clause-keeps c = keeps_trans c.args.diagrams.now c.and.new.self c.beyond.new.diagrams
    (keeps_trans c.args.diagrams.now c.passing-2.new.diagrams c.and.new.self
    (keeps_trans c.args.diagrams.now c.passing.new.diagrams c.passing-2.new.diagrams
    (c.passing.ensures.keeps) c.passing-2.ensures.keeps) c.and.ensures.keeps) c.beyond.ensures.keeps

-- the sets of at least the number, and of at most it
pub returns-clause-equal : goal.returns-clause-equal
returns-clause-equal c =
    let v = λ (f : ℕ → Bool). value c.args.selector (seen c.args.reader f) in
    means_kept c.and.new.self c.beyond.new.diagrams c.in_ok-equal.equal (λ f. tests (v f) (λ x. x == c.args.number)) c.beyond.ensures.keeps
    (means_as c.and.new.self c.in_ok-equal.equal _ _
    (and_means c.passing-2.new.diagrams c.and.new.self c.in_ok-least.least c.in_ok-most.most c.in_ok-equal.equal (λ f. tests (v f) (nat_le c.args.number))
    (λ f. tests (v f) (λ x. nat_le x c.args.number))
    (means_kept c.passing.new.diagrams c.passing-2.new.diagrams c.in_ok-least.least (λ f. tests (v f) (nat_le c.args.number)) c.passing-2.ensures.keeps
    c.in_ok-least.ensures.value) c.in_ok-most.ensures.value c.in_ok-equal.ensures.value) (λ f. equal_is (v f) c.args.number))

pub returns-clause-beyond : goal.returns-clause-beyond
returns-clause-beyond c =
    let v = λ (f : ℕ → Bool). value c.args.selector (seen c.args.reader f) in
    let k = keeps_trans c.passing.new.diagrams c.passing-2.new.diagrams c.and.new.self c.passing-2.ensures.keeps c.and.ensures.keeps in
    means_as c.beyond.new.diagrams c.in_ok-beyond.beyond _ _
    (past_means c.and.new.self c.beyond.new.diagrams c.args.bound c.in_ok-least.least c.in_ok-most.most c.in_ok-beyond.beyond
    (λ f. tests (v f) (nat_le c.args.number)) (λ f. tests (v f) (λ x. nat_le x c.args.number))
    (means_kept c.passing.new.diagrams c.and.new.self c.in_ok-least.least (λ f. tests (v f) (nat_le c.args.number)) k c.in_ok-least.ensures.value)
    (means_kept c.passing-2.new.diagrams c.and.new.self c.in_ok-most.most (λ f. tests (v f) (λ x. nat_le x c.args.number)) c.and.ensures.keeps
    c.in_ok-most.ensures.value) c.in_ok-beyond.ensures.value) (λ f. past_is c.args.bound (v f) c.args.number)

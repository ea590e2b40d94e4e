use Rattle.std.proofs.lemmas.Result.{IfOk-weaker}
use Rattle.rule_names.proofs.Additions.{chain-added, comment-added, map-added, set-added}
use Rattle.rule_names.proofs.ruleset_names.ItemNames.add.Goals as goal

pub returns-in-Comment : goal.returns-in-Comment
returns-in-Comment c = λ items known. rw c.in-Comment.is (comment-added items c.args.self.now known c.in-Comment.field-0.items)

pub returns-in-Chain : goal.returns-in-Chain
returns-in-Chain c = λ items known. rw c.in-Chain.is (IfOk-weaker c.add.result _ _
    (λ fresh. chain-added items c.args.self.now known _ c.add.new.self fresh c.in-Chain.chain c.deref.ensures.value) c.add.ensures)

pub returns-in-Set : goal.returns-in-Set
returns-in-Set c = λ items known. rw c.in-Set.is (IfOk-weaker c.add_apart.result _ _
    (λ fresh. set-added items c.args.self.now known _ c.add_apart.new.self fresh c.in-Set.set c.deref-in-Set.ensures.value) c.add_apart.ensures)

pub returns-in-Map : goal.returns-in-Map
returns-in-Map c = λ items known. rw c.in-Map.is (IfOk-weaker c.add_apart-in-Map.result _ _
    (λ fresh. map-added items c.args.self.now known _ c.add_apart-in-Map.new.self fresh c.in-Map.map c.deref-in-Map.ensures.value) c.add_apart-in-Map.ensures)

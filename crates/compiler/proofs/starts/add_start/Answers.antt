use Rattle.nft_tree.specs.declared.chain.Hook.TheVariants as hooks
use Rattle.compiler.proofs.OrderLaws.{started}
use Rattle.compiler.proofs.starts.add_start.Goals as goal

pub returns-in_ok-push-in-Prerouting-clause-starts : goal.returns-in_ok-push-in-Prerouting-clause-starts
returns-in_ok-push-in-Prerouting-clause-starts c = started c.args.code.now c.push.new.self c.args.base.now c.start-start.result hooks.Prerouting
    c.start-start.ensures c.in-Prerouting.is c.in_ok-push-in-Prerouting.ensures.items

pub returns-in_ok-push-in-Input-clause-starts : goal.returns-in_ok-push-in-Input-clause-starts
returns-in_ok-push-in-Input-clause-starts c = started c.args.code.now c.push-in-Input.new.self c.args.base.now c.start-start.result hooks.Input
    c.start-start.ensures c.in-Input.is c.in_ok-push-in-Input.ensures.items

pub returns-in_ok-push-in-Forward-clause-starts : goal.returns-in_ok-push-in-Forward-clause-starts
returns-in_ok-push-in-Forward-clause-starts c = started c.args.code.now c.push-in-Forward.new.self c.args.base.now c.start-start.result hooks.Forward
    c.start-start.ensures c.in-Forward.is c.in_ok-push-in-Forward.ensures.items

pub returns-in_ok-push-in-Output-clause-starts : goal.returns-in_ok-push-in-Output-clause-starts
returns-in_ok-push-in-Output-clause-starts c = started c.args.code.now c.push-in-Output.new.self c.args.base.now c.start-start.result hooks.Output
    c.start-start.ensures c.in-Output.is c.in_ok-push-in-Output.ensures.items

pub returns-in_ok-push-in-Postrouting-clause-starts : goal.returns-in_ok-push-in-Postrouting-clause-starts
returns-in_ok-push-in-Postrouting-clause-starts c = started c.args.code.now c.push-in-Postrouting.new.self c.args.base.now c.start-start.result hooks.Postrouting
    c.start-start.ensures c.in-Postrouting.is c.in_ok-push-in-Postrouting.ensures.items

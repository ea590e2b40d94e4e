use Rattle.std.proofs.Common.{◌≡◌, drop, Bool, true, Option, None, sym, ap, ◌∙◌, arith}
use Rattle.std.specs.Prelude.{if◌then◌else◌}
use Rattle.list_laws.specs.Lists.{rest_from}
use Rattle.ip_headers.specs.declared.tuple.Tuple.{Tuple}
use Rattle.ip_headers.specs.Tuple.{is_error, inner_of, inner_tuple}
use Rattle.ip_headers.proofs.view.View.inner_tuple.Goals as goal

chosen : (test : Bool) (found : Option Tuple) → test ≡ true → found ≡ (if test then found else None)
chosen test found is = grind (arith, is)

pub returns : goal.returns
returns c =
    let p = c.args.self.now.packet.now in
    let inner = rest_from c.args.self.now.payload.now 8 ∙ ap (drop 8) c.args.self.now.tail in
    c.inner_tuple.ensures ∙ ap inner_tuple inner
    ∙ chosen (is_error p) (inner_tuple (inner_of p)) (sym c.is_error.ensures ∙ c.if-not-is_error.false)

use Rattle.nat_mapping.proofs.Names.{sym, ◌∙◌}
use Rattle.nat_mapping.proofs.Lookups.{inbound_alike}
use Rattle.nat_mapping.proofs.Represented.{inbound_is, one_to_one}
use Rattle.nat_mapping.proofs.mappings.Mappings.inbound.Goals as goal

pub returns : goal.returns
returns c held same =
    c.find_inbound.ensures ∙ inbound_is _ _ _ c.self.invariant (record { kind = c.args.kind; external = c.args.external })
    ∙ sym (inbound_alike held _ (rw (← c.self.view_is) at same) (one_to_one _ _ _ c.self.invariant) c.args.kind c.args.external)

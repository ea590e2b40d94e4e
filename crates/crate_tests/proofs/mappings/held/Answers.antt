use Rattle.std.proofs.Common.{None, refl}
use Rattle.ip_headers.specs.declared.tuple.Mapping.{Mapping}
use Rattle.crate_tests.proofs.Holders.{more}
use Rattle.crate_tests.proofs.mappings.held.Goals as goal

pub hold-requires-clause-one_to_one : goal.hold-requires-clause-one_to_one
hold-requires-clause-one_to_one c =
    c.stays_one_to_one.ensures.source c.args.table.now.held c.args.kind c.args.internal c.args.address None
    c.in-Ok.port
    (c.one_to_one.ensures c.args.table.now.held (λ m. refl))
    (c.in-Ok.ensures.ok c.args.table.now.held (λ m. refl))

pub returns : goal.returns
returns c =
    let mapping : Mapping = record {
      kind = c.args.kind;
      internal = c.args.internal;
      external = record { address = c.args.address; port = c.in-Ok.port };
    } in
    record {
      few = λ m. more c.args.table.now.held c.hold.new.self.held mapping c.args.number
          c.in_ok-hold.ensures.ok c.requires.few m;
    }

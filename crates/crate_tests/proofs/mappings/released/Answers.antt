use Rattle.ip_headers.specs.declared.tuple.Mapping.{Mapping}
use Rattle.crate_tests.proofs.Holders.{fewer}
use Rattle.crate_tests.proofs.mappings.released.Goals as goal

pub returns-in-Some : goal.returns-in-Some
returns-in-Some c =
    let mapping : Mapping = record {
      kind = c.args.kind;
      internal = c.in-Some.internal;
      external = c.args.external;
    } in
    record {
      few = λ m. fewer c.args.table.now.held c.release.new.self.held mapping c.args.number
          c.release.ensures.held c.requires.few m;
    }

use Rattle.std.proofs.Common.{◌&&◌, Bool, ℕ}
use Rattle.nft_tree.specs.declared.selector.Selector.TheVariants.{IcmpType, TcpSource, UdpSource}
use Rattle.fact_sets.specs.Cases.{seen}
use Rattle.fact_sets.proofs.SetLaws.{and_means, keeps_trans, keeps_twice, keeps_thrice, means_kept}
use Rattle.coming_sets.specs.Coming.{is_field_of}
use Rattle.coming_sets.proofs.Matching.{and_after}
use Rattle.coming_sets.proofs.can_come.headers.Goals as goal

pub returns-in_err-udp-clause-keeps : goal.returns-in_err-udp-clause-keeps
returns-in_err-udp-clause-keeps c =
    keeps_trans c.args.diagrams.now c.field_of.new.diagrams c.field_of-2.new.diagrams c.field_of.ensures.keeps c.field_of-2.ensures.keeps

pub returns-in_err-ports-clause-keeps : goal.returns-in_err-ports-clause-keeps
returns-in_err-ports-clause-keeps c = keeps_twice c.args.diagrams.now c.field_of.new.diagrams c.field_of-2.new.diagrams c.and.new.self
    c.field_of.ensures.keeps c.field_of-2.ensures.keeps c.and.ensures.keeps

pub returns-in_err-icmp-clause-keeps : goal.returns-in_err-icmp-clause-keeps
returns-in_err-icmp-clause-keeps c = keeps_thrice c.args.diagrams.now c.field_of.new.diagrams c.field_of-2.new.diagrams c.and.new.self
    c.field_of-3.new.diagrams c.field_of.ensures.keeps c.field_of-2.ensures.keeps c.and.ensures.keeps c.field_of-3.ensures.keeps

pub returns-clause-keeps : goal.returns-clause-keeps
returns-clause-keeps c = keeps_trans c.args.diagrams.now c.field_of-3.new.diagrams c.and-2.new.self
    (keeps_thrice c.args.diagrams.now c.field_of.new.diagrams c.field_of-2.new.diagrams c.and.new.self c.field_of-3.new.diagrams
    c.field_of.ensures.keeps c.field_of-2.ensures.keeps c.and.ensures.keeps c.field_of-3.ensures.keeps) c.and-2.ensures.keeps

pub returns-clause-value : goal.returns-clause-value
returns-clause-value c =
    let tcp = λ (f : ℕ → Bool). is_field_of 6 TcpSource (seen c.args.reader f) in
    let udp = λ (f : ℕ → Bool). is_field_of 17 UdpSource (seen c.args.reader f) in
    let ports = and_means c.field_of-2.new.diagrams c.and.new.self c.in_ok-tcp.tcp c.in_ok-udp.udp c.in_ok-ports.ports tcp udp
    (means_kept c.field_of.new.diagrams c.field_of-2.new.diagrams c.in_ok-tcp.tcp tcp c.field_of-2.ensures.keeps c.in_ok-tcp.ensures.value)
    c.in_ok-udp.ensures.value c.in_ok-ports.ensures.value in
    and_after c.and.new.self c.field_of-3.new.diagrams c.and-2.new.self c.in_ok-ports.ports c.in_ok-icmp.icmp (λ f. tcp f && udp f)
    (λ f. is_field_of 1 IcmpType (seen c.args.reader f)) c.and-2.result c.field_of-3.ensures.keeps ports c.in_ok-icmp.ensures.value c.and-2.ensures.value

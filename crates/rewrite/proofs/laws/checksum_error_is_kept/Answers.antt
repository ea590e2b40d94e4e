use Rattle.std.proofs.Common.{arith}
use Rattle.rewrite.proofs.Packets.{tcp_sum_kept, udp_sum_kept}
use Rattle.rewrite.proofs.Rewritten.{icmp_sum_kept_with_inner, rewritten_other}
use Rattle.rewrite.proofs.laws.checksum_error_is_kept.Goals as goal

pub returns-clause-tcp : goal.returns-clause-tcp
returns-clause-tcp c = λ p change none six.
    rw (rewritten_other p change (λ one. omega (arith, six, one))) (tcp_sum_kept p change (c.no_fault.ensures.passes p none) six)

pub returns-clause-udp : goal.returns-clause-udp
returns-clause-udp c = λ p change none seventeen made.
    rw (rewritten_other p change (λ one. omega (arith, seventeen, one))) (udp_sum_kept p change (c.no_fault.ensures.passes p none) seventeen made)

pub returns-clause-icmp : goal.returns-clause-icmp
returns-clause-icmp c = λ p change none one. icmp_sum_kept_with_inner p change (c.no_fault.ensures.passes p none) one

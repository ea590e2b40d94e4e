-- Priorities as numbers (nft(8), "Chains", the table of standard priority names).
use Rattle.std.specs.Prelude.{ℤ, pos, negsuc, ◌+ℤ◌, ◌-ℤ◌}
use Rattle.nft_tree.specs.declared.chain.Priority.{Priority}
use Rattle.nft_tree.specs.declared.chain.PriorityName.{PriorityName}
use Rattle.nft_tree.specs.declared.chain.Priority.TheVariants as priorities
use Rattle.nft_tree.specs.declared.chain.PriorityName.TheVariants as priority_names
use Rattle.nft_tree.specs.declared.chain.OffsetSign.TheVariants as offset_signs

-- The priorities of destination and source NAT (NF_IP_PRI_NAT_DST and NF_IP_PRI_NAT_SRC of
-- linux/netfilter_ipv4.h).
abbrev pub DSTNAT : ℤ
DSTNAT = negsuc 99

abbrev pub SRCNAT : ℤ
SRCNAT = pos 100

abbrev pub name_number : PriorityName → ℤ
name_number priority_names.Raw = negsuc 299
name_number priority_names.Mangle = negsuc 149
name_number priority_names.DstNat = DSTNAT
name_number priority_names.Filter = pos 0
name_number priority_names.Security = pos 50
name_number priority_names.SrcNat = SRCNAT

-- The first priority after the conntrack lookup, which is at -200 (NF_IP_PRI_CONNTRACK of
-- linux/netfilter_ipv4.h).
abbrev pub AFTER_CONNTRACK : ℤ
AFTER_CONNTRACK = negsuc 198

-- A priority as a number. It may exceed the 32 bits that the kernel has for it; rule_check refuses such a
-- ruleset.
abbrev pub priority_number : Priority → ℤ
priority_number (priorities.Number offset_signs.Plus n) = pos n
priority_number (priorities.Number offset_signs.Minus n) = pos 0 -ℤ pos n
priority_number (priorities.Named name) = name_number name
priority_number (priorities.Offset name offset_signs.Plus n) = name_number name +ℤ pos n
priority_number (priorities.Offset name offset_signs.Minus n) = name_number name -ℤ pos n

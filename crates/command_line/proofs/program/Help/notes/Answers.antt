use Rattle.std.proofs.Common.{codes, refl}
use Rattle.command_line.proofs.program.Help.notes.Goals as goal

pub returns-in-Program : goal.returns-in-Program
returns-in-Program c = rw c.in-Program.is (record { before = codes "With --explain, run, check, reach and diff tell what a fault means, and where it\nis. Where standard error is a terminal they do so without it; --no-explain turns\nit off."; after = codes "\n  nftrun check --explain rules.nft box.txt\n  nftrun run --trace --report report.txt rules.nft box.txt in.pcap out.pcap"; listed = refl })

pub returns-in-Run : goal.returns-in-Run
returns-in-Run c = rw c.in-Run.is (record { before = codes "With --explain the end of a run tells what in IN may mislead. A path that begins\nwith a hyphen goes after --. A run of more than a second tells each second how\nmuch of IN is read, if standard error is a terminal."; after = codes "\n  nftrun run rules.nft box.txt in.pcap out.pcap\n  nftrun run --report report.txt rules.nft box.txt in.pcap /dev/stdout | tcpdump -nr -"; listed = refl })

pub returns-in-Check : goal.returns-in-Check
returns-in-Check c = rw c.in-Check.is (record { before = codes "--nft warns of rulesets that are accepted. A path that begins with a hyphen goes\nafter --."; after = codes "\n  nftrun check rules.nft box.txt\n  nftrun check --nft rules.nft box.txt"; listed = refl })

pub returns-in-Reach : goal.returns-in-Reach
returns-in-Reach c = rw c.in-Reach.is (record { before = codes "Of each rule it tells whether some packet can meet it, and which earlier rules\ntake the packets of one that none meets; of each base chain whether its policy\ncan apply. With --explain it tells why a rule can't be met, and where it is. A\npath that begins with a hyphen goes after --."; after = codes "\n  nftrun reach rules.nft box.txt\n  nftrun reach rules.nft box.txt | grep never\n  nftrun reach --sets rules.nft box.txt"; listed = refl })

pub returns-in-Diff : goal.returns-in-Diff
returns-in-Diff c = rw c.in-Diff.is (record { before = codes "It compares what two rulesets do with every packet, stage by stage of the hooks,\nbefore any of them is loaded. A path that begins with a hyphen goes after --."; after = codes "\n  nftrun diff old.nft new.nft box.txt\n  nftrun diff --assume filter.nft old.nft new.nft box.txt"; listed = refl })

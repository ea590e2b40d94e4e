use Rattle.ruleset_diff.proofs.pieces.add_marks.Goals as goal

pub returns-in-Packet-clause-adds : goal.returns-in-Packet-clause-adds
returns-in-Packet-clause-adds c = rw c.in-Packet.is c.add_unlike_mark.ensures.adds

pub returns-in-Connection-clause-adds : goal.returns-in-Connection-clause-adds
returns-in-Connection-clause-adds c = rw c.in-Connection.is c.add_unlike_connection_mark.ensures.adds

pub returns-in-Number-clause-adds : goal.returns-in-Number-clause-adds
returns-in-Number-clause-adds c = rw c.in-Number.is c.add_unlike_number.ensures.adds

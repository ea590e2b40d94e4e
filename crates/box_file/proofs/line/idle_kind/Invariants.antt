use Rattle.box_file.proofs.Names.{drop, find, kind_in, same_text, word_of, ◌≡◌}
use Rattle.box_file.proofs.line.idle_kind.Given as goal

abbrev pub invariant-loop-kind : goal.invariant-loop-kind
invariant-loop-kind l = find (λ k. same_text l.word (word_of k)) (drop l.kind-index l.kind-items) ≡ kind_in l.word

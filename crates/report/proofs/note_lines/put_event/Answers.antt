use Rattle.report.proofs.Imports.{Text, and_number, append_assoc, chain_tree, piece_text, table_tree, ◌++◌, ◌≡◌}
use Rattle.report.specs.Report.{and_word, end, family_word}
use Rattle.report.proofs.Putting.{puts_as, puts_none}
use Rattle.report.proofs.note_lines.put_event.Goals as goal

-- a line's kind, its number, its chain, and more
joined : (kind n f t c about w x e : Text) → kind ++ (n ++ (f ++ (t ++ (c ++ (about ++ (w ++ (x ++ e)))))))
    ≡ ((((kind ++ n) ++ ((f ++ t) ++ c)) ++ about) ++ (w ++ x)) ++ e
joined kind n f t c about w x e = simp append_assoc

pub returns-in_default : goal.returns-in_default
returns-in_default g c = rw c.in_default.is (puts_none _ _)

pub returns : goal.returns
returns g c =
    let l = c.in-Some.line in
    let t = table_tree l.chain.table.now in
    puts_as c.put_all.ensures (rw (c.in-Some.is, c.from.ensures, c.family_word-family.ensures, c.deref.ensures.value, c.deref-2.ensures.value)
    (joined l.kind.now (and_number c.args.number) (and_word (family_word t.family)) (and_word t.name)
    (and_word (chain_tree l.chain.chain.now).name) (piece_text l.about) (piece_text l.told.0) (piece_text l.told.1) end))

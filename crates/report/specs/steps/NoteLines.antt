-- The lines of notes about chains.
use Rattle.std.specs.Prelude.{ℕ, [], ◌++◌, Option, Some, None}
use Rattle.nft_tree.specs.Tree.{Text}
use Rattle.nft_tree.specs.TreeViews.{chain_tree, table_tree}
use Rattle.report.specs.declared.note_lines.ChainLine.{ChainLine}
use Rattle.report.specs.Report.{chain_line}
use Rattle.report.specs.steps.Paging.{piece_text}

-- the line with the record's number, if there is one
abbrev pub line_text : ℕ → Option ChainLine → Text
line_text n None = []
line_text n (Some l) =
    chain_line l.kind.now n (table_tree l.chain.table.now) (chain_tree l.chain.chain.now)
    (piece_text l.about) (piece_text l.told.0 ++ piece_text l.told.1)

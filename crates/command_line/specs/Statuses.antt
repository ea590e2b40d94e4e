-- The exit statuses, as the helps list them (own).
use Rattle.std.specs.Prelude.{◌≡◌, ◌++◌, ℕ, List, [], ◌∷◌, codes, flat_map}
use Rattle.command_line.specs.declared.program.Help.{Help}
use Rattle.command_line.specs.declared.program.Help.TheVariants.{Program, Run, Check, Reach, Diff}

-- an exit status, and what it means
abbrev pub status_line : List ℕ × List ℕ → List ℕ
status_line (code, meaning) = codes "\n  " ++ (code ++ (codes "  " ++ meaning))

-- those of `nftrun --help`
abbrev pub all_statuses : List (List ℕ × List ℕ)
all_statuses =
    (codes "0", codes "done; for check: accepted; for reach: each rule can be met; for diff: the same for every packet")
    ∷ (codes "1", codes "the ruleset is rejected")
    ∷ (codes "2", codes "the command line isn't understood, or a file to write is one to read")
    ∷ (codes "3", codes "the box file is rejected") ∷ (codes "4", codes "the capture is rejected")
    ∷ (codes "5", codes "a file can't be opened, or a read or write failed") ∷ (codes "6", codes "out of memory")
    ∷ (codes "7", codes "the capture ends in the middle of a record") ∷ (codes "8", codes "a rule can't be met")
    ∷ (codes "9", codes "for reach and diff: the answer is too large to compute")
    ∷ (codes "10", codes "for diff: the rulesets differ") ∷ []

-- those of `nftrun run --help`
abbrev pub run_statuses : List (List ℕ × List ℕ)
run_statuses =
    (codes "0", codes "done") ∷ (codes "1", codes "the ruleset is rejected")
    ∷ (codes "2", codes "the command line isn't understood, or OUT or FILE is one of the other files")
    ∷ (codes "3", codes "the box file is rejected") ∷ (codes "4", codes "the capture is rejected")
    ∷ (codes "5", codes "a file can't be opened, or a read or write failed") ∷ (codes "6", codes "out of memory")
    ∷ (codes "7", codes "the capture ends in the middle of a record") ∷ []

-- those of `nftrun check --help`
abbrev pub check_statuses : List (List ℕ × List ℕ)
check_statuses =
    (codes "0", codes "the ruleset is accepted") ∷ (codes "1", codes "the ruleset is rejected")
    ∷ (codes "2", codes "the command line isn't understood") ∷ (codes "3", codes "the box file is rejected")
    ∷ (codes "5", codes "a file can't be opened, or a read or write failed") ∷ (codes "6", codes "out of memory") ∷ []

-- those of `nftrun reach --help`
abbrev pub reach_statuses : List (List ℕ × List ℕ)
reach_statuses =
    (codes "0", codes "each rule can be met") ∷ (codes "1", codes "the ruleset is rejected")
    ∷ (codes "2", codes "the command line isn't understood") ∷ (codes "3", codes "the box file is rejected")
    ∷ (codes "5", codes "a file can't be opened, or a read or write failed") ∷ (codes "6", codes "out of memory")
    ∷ (codes "8", codes "a rule can't be met") ∷ (codes "9", codes "the answer is too large to compute") ∷ []

-- those of `nftrun diff --help`
abbrev pub diff_statuses : List (List ℕ × List ℕ)
diff_statuses =
    (codes "0", codes "the rulesets do the same with every packet") ∷ (codes "1", codes "a ruleset is rejected")
    ∷ (codes "2", codes "the command line isn't understood") ∷ (codes "3", codes "the box file is rejected")
    ∷ (codes "5", codes "a file can't be opened, or a read or write failed") ∷ (codes "6", codes "out of memory")
    ∷ (codes "9", codes "the answer is too large to compute") ∷ (codes "10", codes "the rulesets differ") ∷ []

abbrev pub statuses_of : Help → List (List ℕ × List ℕ)
statuses_of Program = all_statuses
statuses_of Run = run_statuses
statuses_of Check = check_statuses
statuses_of Reach = reach_statuses
statuses_of Diff = diff_statuses

-- the text lists these statuses, and no others, under their heading
pub record Lists (statuses : List (List ℕ × List ℕ)) (text : List ℕ) : Type 0 where
  pub before : List ℕ
  pub after : List ℕ
  pub listed : text ≡ before ++ (codes "\n\nExit statuses:" ++ (flat_map status_line statuses
      ++ (codes "\n\nExamples:" ++ after)))

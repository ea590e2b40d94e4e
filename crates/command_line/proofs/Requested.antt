-- The theorem of the command line: words that clap parses request the task that is made of its matches
-- (`task_requested`), and words that are a task are never refused but for memory (`words_pass`).
-- `Words` has the pass over the words of a subcommand, which finds what the definitions say, and `Parse` shows
-- that clap finds the same, for each command of one form; the five subcommands are such.
use Rattle.std.proofs.Common.{◌==◌, ◌||◌, ◌∙◌, ◌∷◌, ◌≡◌, [], ℕ, Bool, List, None, Option, Some, ap, codes, cond, false, is_some, refl, rules, subst, sym, true, true≢false}
use Rattle.std.proofs.Common.{arith, ◌&&◌, not, length, fold, map, option_map, option_and_then, slice_get, slice_index_or, bytes_eq}
use Rattle.std.proofs.Math.Bool.{or-true}
use Rattle.std.proofs.lemmas.Slice.Eq.{bytes_eq-Decides}
use Rattle.clap.specs.Faults.{check_fault, defaults_fault, entered_fault, level_fault, settle_fault, stray_fault, turn_fault, walk_fault}
use Rattle.clap.specs.Kinds.{Kinds, or_else, HasKind}
use Rattle.clap.specs.Simple.{App, Shape, built, entered, is_simple, names_of, new_shape, subcommand_of, HasMatchesOf, subcommand_rows_of}
use Rattle.clap.specs.Walk.{Names, Row, Text, Walk, arg_by_long, finished, idle, nothing_held, rows_after, settled, subcommand_met, walked, rows_of}
use Rattle.clap.specs.declared.error.kind.ErrorKind.TheVariants.{InvalidSubcommand, UnknownArgument, OutOfMemory}
use Rattle.clap.proofs.FaultLemmas.{stopped_fault}
use Rattle.clap.proofs.OnLiterals.{clap_on_literals}
use Rattle.clap.proofs.WalkLemmas.{walk_stopped, first_value-rows, one_text-rows}
use Rattle.command_line.specs.steps.Program.{program_app}
use Rattle.command_line.proofs.Parse.{Defaults, Fits, Form, Gives, IsCommand, Paths, by_word, either, first_nil, flag_of, idle_walk, leaf, not_nil, option_by}
use Rattle.command_line.proofs.Parse.{shown_long, then_nil, Holds, row_of, AnswersAt, parsed}
use Rattle.command_line.proofs.Words.{AreFlags, Seen, before, is_in, is_taken, met_in, scan, Pairs, formed_found, found_said, is_formed}
use Rattle.command_line.proofs.Words.{pairs, seen_of, file_of as said_of, without_option, words_of}
use Rattle.std.specs.Borrow.{Bor}
use Rattle.clap.specs.declared.error.Error.{Error}
use Rattle.clap.specs.declared.parser.matches.ArgMatches.{ArgMatches}
use Rattle.clap.specs.declared.parser.matches.Found.{Found}
use Rattle.command_line.specs.CommandLine.{AreTexts, RequestsTask, are_operands, assume_name, check_flags, diff_flags, explaining_by, explaining_in, has_flag, is_check}
use Rattle.command_line.specs.CommandLine.{is_diff, is_explain, is_reach, is_run, is_well_formed, names_file, operands, reach_flags, report_name, run_flags, without_file, without_flags}
use Rattle.command_line.specs.steps.Given.{Contradicts, GivesExplaining, GivesTask, Sets, value_at}
use Rattle.command_line.specs.declared.tasks.Explaining.{Explaining}
use Rattle.command_line.specs.declared.tasks.Task.{Task}
use Rattle.command_line.specs.declared.tasks.Task.TheVariants.{Check, Diff, Explain, Reach, Run}
use Rattle.clap.specs.Words.{first_value, found_of, subcommand_name_of, kind_of, fault_of, is_simple_and_free}

abbrev pub whole : App
whole = built program_app

abbrev pub top : Shape
top = whole.top

abbrev pub sub : ℕ → Shape
sub i = slice_index_or whole.subs i (new_shape [])

abbrev pub names : Names
names = names_of whole

-- ---- the subcommands

abbrev pub run_form : Form
run_form = record {
  name = codes "run";
  rules = (sub 0).rules;
  ids = codes "rules" ∷ codes "network" ∷ codes "input" ∷ codes "output" ∷ [];
  flags = codes "trace" ∷ codes "explain" ∷ codes "no-explain" ∷ [];
  file_option = report_name;
  has_file = true;
  file = None;
}

-- its file is none, as if it had been named
abbrev pub check_form : Form
check_form = record {
  name = codes "check";
  rules = (sub 1).rules;
  ids = codes "rules" ∷ codes "network" ∷ [];
  flags = codes "all" ∷ codes "explain" ∷ codes "no-explain" ∷ codes "nft" ∷ [];
  file_option = report_name;
  has_file = false;
  file = Some [];
}

abbrev pub reach_form : Form
reach_form = record check_form { name = codes "reach"; rules = (sub 2).rules; flags = codes "sets" ∷ codes "explain" ∷ codes "no-explain" ∷ [] }

abbrev pub diff_form : Form
diff_form = record {
  name = codes "diff";
  rules = (sub 3).rules;
  ids = codes "old" ∷ codes "new" ∷ codes "network" ∷ [];
  flags = codes "explain" ∷ codes "no-explain" ∷ [];
  file_option = assume_name;
  has_file = true;
  file = None;
}

abbrev pub explain_form : Form
explain_form = record check_form { name = codes "explain"; rules = (sub 4).rules; ids = codes "code" ∷ []; flags = [] }

-- the pass over the words of a subcommand
abbrev pub found_in : Form → List Text → Option Seen
found_in c rest = scan c.file_option is_taken rest before [] c.ids c.flags c.file

-- the words are well-formed, and these are the rows of what they say
abbrev pub Took : Form → List Text → List Row → Type 0
Took c rest rows = ((length (operands (words_of c.file_option c.flags c.file rest)) == length c.ids) ≡ true)
    × (AreTexts rest → is_formed c.file_option c.ids c.flags c.file rest ≡ true)
    × Gives c (seen_of c.file_option [] c.ids c.flags c.file rest) rows

abbrev level : Form → List Text → Kinds
level c rest = level_fault (leaf c.name c.rules) [] nothing_held rest false []

-- ---- the subcommand that the words name

abbrev first : Walk
first = idle_walk nothing_held 1 false

abbrev stopped_at : Text → List Text → Walk
stopped_at name seen = record first { stopped = Some (name, seen) }

-- what may be at fault once the words are walked
abbrev ended : Walk → Kinds
ended w = or_else (entered_fault whole w.stopped) (or_else (settle_fault top.rules top.args_override_self w.held)
    (or_else (defaults_fault (settled top.rules w.held).rows top.rules)
    (check_fault top (finished top.rules w.held) (is_some (entered whole w.stopped)))))

nothing_else : (k : Kinds) → or_else k [] ≡ k
nothing_else k = grind arith

-- the words after the subcommand's name decide
abbrev Enters : Form → Text → List Text → Type 0
Enters c program rest = (fault_of program_app (program ∷ c.name ∷ rest) ≡ level c rest)
    × (subcommand_of program_app (program ∷ c.name ∷ rest) ≡ Some (c.name, rows_after c.rules [] rest))

enters : (c : Form) (program : Text) (rest : List Text)
    → ◌≡◌ {A = Walk} (fold (walked top.rules names) first (c.name ∷ rest)) (fold (walked top.rules names) (stopped_at c.name []) rest)
    → walk_fault top names first (c.name ∷ rest) ≡ walk_fault top names (stopped_at c.name []) rest
    → ended (stopped_at c.name rest) ≡ or_else (level c rest) []
    → entered whole (Some (c.name, rest)) ≡ Some (c.name, rows_after c.rules [] rest) → Enters c program rest
enters c program rest goes faults ends met =
    let stops : ◌≡◌ {A = Walk} (fold (walked top.rules names) first (c.name ∷ rest)) (stopped_at c.name rest) =
    goes ∙ sym (walk_stopped top.rules names first c.name [] rest) in (
      (λ j. or_else ((faults ∙ stopped_fault top names first (c.name, []) rest) j) (ended (stops j))) ∙ ends ∙ nothing_else (level c rest),
      ap (λ (w : Walk). entered whole w.stopped) stops ∙ met,
    )

-- a subcommand of the program
pub record IsSubcommand (c : Form) : Type 0 where
  pub command : IsCommand c
  pub begins : Fits c [] [] c.ids c.flags c.file
  pub enters : (program : Text) (rest : List Text) → Enters c program rest

-- no flag is met at first
not_met : (flags : List Text) (flag : Text) → is_in flags flag ≡ true → ◌≡◌ {A = Option Row} None (flag_of flag (not (is_in flags flag)))
not_met flags flag e = grind (arith, e)

pub run_sub : IsSubcommand run_form
unfolding clap_on_literals defaults_fault
run_sub =
    let defaults : Defaults run_form = λ all. (simp either, simp (or-true, either)) in
    let are : AreFlags report_name run_form.flags = search rules in
    let begins : Fits run_form [] [] run_form.ids run_form.flags run_form.file =
    search (rules, not_met run_form.flags, are) in
    search (rules, are, defaults, begins, enters run_form)

pub check_sub : IsSubcommand check_form
unfolding clap_on_literals defaults_fault
check_sub =
    let longs : (name : Text) → arg_by_long (sub 1).rules name ≡ option_by report_name check_form.flags false name = λ name. simp either in
    let defaults : Defaults check_form = λ all. (simp either, simp (or-true, either)) in
    let are : AreFlags report_name check_form.flags = search rules in
    let begins : Fits check_form [] [] check_form.ids check_form.flags check_form.file =
    search (rules, not_met check_form.flags, are) in
    let paths : Paths report_name check_form.rules check_form.flags 1 check_form.ids = search rules in
    search (rules, longs, are, defaults, begins, paths, enters check_form)

pub reach_sub : IsSubcommand reach_form
unfolding clap_on_literals defaults_fault
reach_sub =
    let longs : (name : Text) → arg_by_long (sub 2).rules name ≡ option_by report_name reach_form.flags false name = λ name. simp either in
    let defaults : Defaults reach_form = λ all. (simp either, simp (or-true, either)) in
    let are : AreFlags report_name reach_form.flags = search rules in
    let begins : Fits reach_form [] [] reach_form.ids reach_form.flags reach_form.file =
    search (rules, not_met reach_form.flags, are) in
    let paths : Paths report_name reach_form.rules reach_form.flags 1 reach_form.ids = search rules in
    search (rules, longs, are, defaults, begins, paths, enters reach_form)

pub diff_sub : IsSubcommand diff_form
unfolding clap_on_literals defaults_fault
diff_sub =
    let defaults : Defaults diff_form = λ all. (simp either, simp (or-true, either)) in
    let are : AreFlags assume_name diff_form.flags = search rules in
    let begins : Fits diff_form [] [] diff_form.ids diff_form.flags diff_form.file =
    search (rules, not_met diff_form.flags, are) in
    search (rules, are, defaults, begins, enters diff_form)

pub explain_sub : IsSubcommand explain_form
unfolding clap_on_literals defaults_fault
explain_sub =
    let longs : (name : Text) → arg_by_long (sub 4).rules name ≡ option_by report_name [] false name = λ name. simp either in
    let defaults : Defaults explain_form = λ all. (simp either, simp or-true) in
    let begins : Fits explain_form [] [] explain_form.ids explain_form.flags explain_form.file =
    search (rules, not_met explain_form.flags) in
    search (rules, longs, defaults, begins, enters explain_form)

-- ---- other words

-- after a `--` there is no subcommand
stray : (rest : List Text) → let w = idle_walk nothing_held 1 true in
    walk_fault top names w rest ≡ [] → ended (fold (walked top.rules names) w rest) ≡ [] → ⊥
unfolding walked walk_fault defaults_fault
stray [] none e = grind arith
stray (word ∷ rest) none e = grind (arith, none)

module _ (program word : Text) (rest : List Text) (e : fault_of program_app (program ∷ word ∷ rest) ≡ []) where
  -- neither the word nor the walk over those after it has a fault
  no_fault : let w = walked top.rules names first word in (turn_fault top names first word ≡ [])
      × (walk_fault top names w rest ≡ []) × (ended (fold (walked top.rules names) w rest) ≡ [])
  unfolding walk_fault
  no_fault = (
    first_nil _ _ (first_nil _ _ e),
    then_nil (turn_fault top names first word) _ (first_nil _ _ e),
    then_nil (walk_fault top names first (word ∷ rest)) _ e,
  )

  stranger : subcommand_met names idle word ≡ None → ⊥
  stranger none = by_word top (λ x. (104 == x || false, 86 == x || false, refl))
      names idle [] None 1 word none (λ d o b. ⊥)
      (λ o b turn. let at = λ (w : Walk). (walk_fault top names w rest ≡ []) × (ended (fold (walked top.rules names) w rest) ≡ []) in
      let none = subst at turn.1 (no_fault.1, no_fault.2) in stray rest none.0 none.1)
      (λ q b is_long turn. shown_long top.rules (bytes_eq (codes "help") q.0 || false) (bytes_eq (codes "version") q.0 || false) q.1
      nothing_held (first_nil _ _ (sym turn.0 ∙ no_fault.0)))
      (λ turn. let none : stray_fault top ≡ [] = sym turn.0 ∙ no_fault.0 in not_nil UnknownArgument (InvalidSubcommand ∷ []) none)
      (λ fails. fails no_fault.0)

-- ---- the words of a task

-- the form of a subcommand, by whether its name is `check`, `reach`, `diff` and `explain`
abbrev pub by_name : Bool → Bool → Bool → Bool → Form
by_name c r d x = cond c check_form (cond r reach_form (cond d diff_form (cond x explain_form run_form)))

-- the form of the subcommand of this name
abbrev pub form_of : Text → Form
form_of name = by_name (bytes_eq name (codes "check")) (bytes_eq name (codes "reach")) (bytes_eq name (codes "diff"))
    (bytes_eq name (codes "explain"))

-- words of a subcommand of this name, with these rows
abbrev pub HasRead : List Text → Text → List Row → Type 0
HasRead words name rows = (program : Text) × (rest : List Text) × (words ≡ program ∷ name ∷ rest) × (name ≡ (form_of name).name)
    × Took (form_of name) rest rows

-- words without a fault are such
abbrev pub IsRead : List Text → Type 0
IsRead words = (name : Text) × (rows : List Row) × (subcommand_of program_app words ≡ Some (name, rows)) × HasRead words name rows

module _ (c : Form) (is : IsSubcommand c) (program word : Text) (rest : List Text) where
  abbrev Answer : Option Seen → Type 0
  Answer = AnswersAt c is.command (level c rest) (fold (walked c.rules []) first rest)

  answer : Answer (found_in c rest)
  answer = parsed c is.command false rest [] c.ids c.flags c.file 1 [] None is.command.paths refl is.begins

  read_as : form_of c.name ≡ c → bytes_eq c.name word ≡ true → fault_of program_app (program ∷ word ∷ rest) ≡ []
      → IsRead (program ∷ word ∷ rest)
  read_as of named e =
      let is_name : word ≡ c.name = sym ((bytes_eq-Decides c.name word).0 named) in
      let none = subst (λ (w : Text). fault_of program_app (program ∷ w ∷ rest) ≡ []) is_name e in
      let took : Took (form_of c.name) rest (rows_after c.rules [] rest) =
      rw of (go (found_in c rest) refl answer (sym (is.enters program rest).0 ∙ none)) in
      rw is_name (c.name, rows_after c.rules [] rest, (is.enters program rest).1, (program, rest, refl, ap (λ (d : Form). d.name) (sym of), took))
    where
      go : (o : Option Seen) → found_in c rest ≡ o → Answer o → level c rest ≡ [] → Took c rest (rows_after c.rules [] rest)
      go None found a e = absurd (a e)
      go (Some seen) found a e =
          let said = found_said c.file_option c.flags is.command.are rest c.ids c.file seen found in
          (said.0, said.1, subst (λ (m : Seen). Gives c m (rows_after c.rules [] rest)) (sym said.2) a.1)

  -- well-formed words of this name have no fault
  words_fit : (bytes_eq word c.name && is_formed c.file_option c.ids c.flags c.file rest) ≡ true
      → fault_of program_app (program ∷ word ∷ rest) ≡ []
  words_fit e =
      let found = formed_found c.file_option c.flags is.command.are rest c.ids c.file in
      grind (arith, e, bytes_eq-Decides word c.name, (is.enters program rest).0, found, answer)

pub task_read : (words : List Text) → fault_of program_app words ≡ [] → IsRead words
unfolding clap_on_literals
task_read [] e = not_nil _ _ e
task_read (program ∷ []) e = not_nil _ _ e
task_read (program ∷ word ∷ rest) e =
    go (bytes_eq (codes "run") word) refl (bytes_eq (codes "check") word) refl (bytes_eq (codes "reach") word) refl
    (bytes_eq (codes "diff") word) refl (bytes_eq (codes "explain") word) refl (bytes_eq (codes "help") word) refl
  where
    go : (r : Bool) → bytes_eq (codes "run") word ≡ r → (c : Bool) → bytes_eq (codes "check") word ≡ c
        → (a : Bool) → bytes_eq (codes "reach") word ≡ a → (d : Bool) → bytes_eq (codes "diff") word ≡ d
        → (x : Bool) → bytes_eq (codes "explain") word ≡ x → (h : Bool) → bytes_eq (codes "help") word ≡ h
        → IsRead (program ∷ word ∷ rest)
    go true is c f a k d l x g h met = read_as run_form run_sub program word rest refl is e
    go false is true f a k d l x g h met = read_as check_form check_sub program word rest refl f e
    go false is false f true k d l x g h met = read_as reach_form reach_sub program word rest refl k e
    go false is false f false k true l x g h met = read_as diff_form diff_sub program word rest refl l e
    go false is false f false k false l true g h met = read_as explain_form explain_sub program word rest refl g e
    go false is false f false k false l false g true h = grind (arith, is, f, k, l, g, h, (no_fault program word rest e).0)
    go false is false f false k false l false g false h = absurd (stranger program word rest e (grind (arith, is, f, k, l, g, h)))

-- what else is asked of well-formed words clap doesn't see
drop_last : (a b c d : Bool) → (a && (b && (c && d))) ≡ true → (a && (b && c)) ≡ true
drop_last a b c d e = grind (arith, e)

pub words_pass : (words : List Text) → is_well_formed words ≡ true → fault_of program_app words ≡ []
words_pass (program ∷ name ∷ rest) e =
    go (bytes_eq name (codes "run") && is_run rest) refl (bytes_eq name (codes "check") && is_check rest) refl
    (bytes_eq name (codes "reach") && is_reach rest) refl (bytes_eq name (codes "diff") && is_diff rest) refl
  where
    go : (r : Bool) → (bytes_eq name (codes "run") && is_run rest) ≡ r
        → (c : Bool) → (bytes_eq name (codes "check") && is_check rest) ≡ c
        → (a : Bool) → (bytes_eq name (codes "reach") && is_reach rest) ≡ a
        → (d : Bool) → (bytes_eq name (codes "diff") && is_diff rest) ≡ d → fault_of program_app (program ∷ name ∷ rest) ≡ []
    go true f c g a h d k = words_fit run_form run_sub program name rest
        (drop_last (bytes_eq name (codes "run")) (names_file report_name rest)
        (are_operands 4 (without_flags run_flags (without_file report_name rest)))
        (is_some (explaining_in (without_file report_name rest))) f)
    go false f true g a h d k = words_fit check_form check_sub program name rest
        (drop_last (bytes_eq name (codes "check")) true (are_operands 2 (without_flags check_flags rest)) (is_some (explaining_in rest)) g)
    go false f false g true h d k = words_fit reach_form reach_sub program name rest
        (drop_last (bytes_eq name (codes "reach")) true (are_operands 2 (without_flags reach_flags rest)) (is_some (explaining_in rest)) h)
    go false f false g false h true k = words_fit diff_form diff_sub program name rest
        (drop_last (bytes_eq name (codes "diff")) (names_file assume_name rest)
        (are_operands 3 (without_flags diff_flags (without_file assume_name rest)))
        (is_some (explaining_in (without_file assume_name rest))) k)
    go false f false g false h false k = words_fit explain_form explain_sub program name rest
        (sym (λ j. f j || (g j || (h j || (k j || (bytes_eq name (codes "explain") && is_explain rest))))) ∙ e)
words_pass (program ∷ []) e = absurd (true≢false (sym e))
words_pass [] e = absurd (true≢false (sym e))

-- ---- the parse, as the caller sees it

pub is_simple_program : is_simple_and_free program_app ≡ true
unfolding clap_on_literals
is_simple_program = refl

is_simple_alone : is_simple program_app ≡ true
unfolding clap_on_literals
is_simple_alone = refl

-- the words of the subcommand that the matches give
pub has_read : (app : App) (words : List Text) (m : ArgMatches) (o : Option (Bor Text × Bor ArgMatches)) (p : Bor Text × Bor ArgMatches)
    → app ≡ program_app → (is_simple_and_free app ≡ true → fault_of app words ≡ []) → HasMatchesOf app words m → o ≡ Some p
    → option_map (λ (q : Bor Text × Bor ArgMatches). q.0.now) o ≡ subcommand_name_of m
    → option_map (λ (q : Bor Text × Bor ArgMatches). rows_of (found_of q.1.now)) o
    ≡ option_map (λ (p : Text × List Row). p.1) (subcommand_rows_of m)
    → HasRead words p.0.now (rows_of (found_of p.1.now))
has_read app words m o p is fault matches found names rows =
    let got = task_read words (subst (λ (a : App). fault_of a words ≡ []) is
    (fault (ap is_simple_and_free is ∙ is_simple_program))) in
    let sub : subcommand_rows_of m ≡ Some (got.0, got.1) =
    (subst (λ (a : App). HasMatchesOf a words m) is matches is_simple_alone).1 ∙ got.2 in
    let name_is : p.0.now ≡ got.0 = grind (arith, found, names, sub) in
    let rows_are : rows_of (found_of p.1.now) ≡ got.1 = grind (arith, found, rows, sub) in
    rw (name_is, rows_are) got.3

-- ---- the values

-- the operands are the values of the paths
values : (f : Found) (done : Pairs) (ids ops : List Text) → (length ops == length ids) ≡ true → Holds (rows_of f) (pairs done ids ops)
    → (ops ≡ map (value_at f) ids) × Holds (rows_of f) done
values f done [] [] e holds = (refl, holds)
values f done (id ∷ ids) (word ∷ ops) e holds = grind (arith, values f ((id, word) ∷ done) ids ops, e, holds, first_value-rows f id)
values f done ids ops e holds = grind arith

file_of : (opt : Text) (file : Option Text) → option_and_then (λ (r : Row). slice_get r.values 0) (row_of opt file) ≡ file
file_of opt file = grind arith

-- ---- the subcommand, and its task

module _ (words : List Text) (name : Text) (f : Found) (got : HasRead words name (rows_of f)) where
  abbrev Taken : Form → Type 0
  Taken c = (words ≡ got.0 ∷ c.name ∷ got.1) × Took c got.1 (rows_of f)

  taken : (c : Form) → form_of name ≡ c → Taken c
  taken c of = subst Taken of (got.2 ∙ ap (λ (n : Text). got.0 ∷ n ∷ got.1) got.3, got.4)

  module _ (c : Form) (is : IsSubcommand c) (t : Taken c) where
    paths_are : operands (words_of c.file_option c.flags c.file got.1) ≡ map (value_at f) c.ids
    paths_are = (values f [] c.ids (operands (words_of c.file_option c.flags c.file got.1)) t.1.0 t.1.2.holds).0

    -- the words in which flags are looked for
    abbrev flagged : List Text
    flagged = without_option c.file_option c.file got.1

    flag_is : (flag : Text) (b : Bool) → is_in c.flags flag ≡ true → Sets f flag b → b ≡ has_flag (45 ∷ 45 ∷ flag) flagged
    flag_is flag b of sets = grind (arith, one_text-rows f flag, t.1.2.flagged flag of, sets.0, sets.1)
        ∙ met_in c.file_option c.flags is.command.are flag flagged of

    explaining_is : (o : Option Explaining) → is_in c.flags (codes "explain") ≡ true → is_in c.flags (codes "no-explain") ≡ true
        → GivesExplaining f o → o ≡ explaining_in flagged
    explaining_is o always never gives = gives.4
        ∙ (λ j. explaining_by (flag_is (codes "explain") gives.0 always gives.2 j) (flag_is (codes "no-explain") gives.1 never gives.3 j))

    file_is : c.has_file ≡ true → first_value f c.file_option ≡ said_of c.file_option c.file got.1
    file_is so = first_value-rows f c.file_option ∙ ap (option_and_then (λ (r : Row). slice_get r.values 0)) (t.1.2.filed so)
        ∙ file_of c.file_option (said_of c.file_option c.file got.1)

  -- the task is the one that the words request
  pub task_requested : (task : Task) → GivesTask name f task → RequestsTask words task
  task_requested (Run task) gives =
      let t = taken run_form (λ j. by_name (gives.0 j) (gives.1 j) (gives.2 j) (gives.3 j)) in
      let explaining = explaining_is run_form run_sub t (Some task.explaining) refl refl gives.5 in
      rw t.0 (
        refl,
        λ texts. grind (arith, t.1.1 texts, ap is_some explaining),
        gives.6 ∙ file_is run_form run_sub t refl,
        flag_is run_form run_sub t (codes "trace") task.trace refl gives.4,
        explaining,
        paths_are run_form run_sub t ∙ sym (λ j. gives.7 j ∷ gives.8 j ∷ gives.9 j ∷ gives.10 j ∷ []),
      )
  task_requested (Check task) gives =
      let t = taken check_form (λ j. by_name (gives.0 j) (bytes_eq name (codes "reach")) (bytes_eq name (codes "diff"))
      (bytes_eq name (codes "explain"))) in
      let explaining = explaining_is check_form check_sub t (Some task.explaining) refl refl gives.3 in
      rw t.0 (
        refl,
        λ texts. grind (arith, t.1.1 texts, ap is_some explaining),
        flag_is check_form check_sub t (codes "all") task.all refl gives.1,
        flag_is check_form check_sub t (codes "nft") task.nft refl gives.2,
        explaining,
        paths_are check_form check_sub t ∙ sym (λ j. gives.4 j ∷ gives.5 j ∷ []),
      )
  task_requested (Reach task) gives =
      let t = taken reach_form (λ j. by_name (gives.0 j) (gives.1 j) (bytes_eq name (codes "diff")) (bytes_eq name (codes "explain"))) in
      let explaining = explaining_is reach_form reach_sub t (Some task.explaining) refl refl gives.3 in
      rw t.0 (
        refl,
        λ texts. grind (arith, t.1.1 texts, ap is_some explaining),
        flag_is reach_form reach_sub t (codes "sets") task.sets refl gives.2,
        explaining,
        paths_are reach_form reach_sub t ∙ sym (λ j. gives.4 j ∷ gives.5 j ∷ []),
      )
  task_requested (Diff task) gives =
      let t = taken diff_form (λ j. by_name (gives.0 j) (gives.1 j) (gives.2 j) (bytes_eq name (codes "explain"))) in
      let explaining = explaining_is diff_form diff_sub t (Some task.explaining) refl refl gives.3 in
      rw t.0 (
        refl,
        λ texts. grind (arith, t.1.1 texts, ap is_some explaining),
        gives.4 ∙ file_is diff_form diff_sub t refl,
        explaining,
        paths_are diff_form diff_sub t ∙ sym (λ j. gives.5 j ∷ gives.6 j ∷ gives.7 j ∷ []),
      )
  task_requested (Explain code) gives =
      let t = taken explain_form (λ j. by_name (gives.0 j) (gives.1 j) (gives.2 j) (gives.3 j)) in
      rw t.0
      (refl, t.1.1, paths_are explain_form explain_sub t ∙ sym (λ j. gives.4 j ∷ []))

  -- words that have both flags are none of a task
  pub contradicted : Contradicts name f → is_well_formed words ≡ false
  contradicted both = go (bytes_eq name (codes "check")) refl (bytes_eq name (codes "reach")) refl (bytes_eq name (codes "diff")) refl
    where
      go : (b : Bool) → bytes_eq name (codes "check") ≡ b → (a : Bool) → bytes_eq name (codes "reach") ≡ a
          → (d : Bool) → bytes_eq name (codes "diff") ≡ d → is_well_formed words ≡ false
      go true e a k d l =
          let t = taken check_form (λ j. by_name (e j) (k j) (l j) (both.0 j)) in
          rw t.0 (grind (arith, ap is_some (explaining_is check_form check_sub t None refl refl both.1)))
      go false e true k d l =
          let t = taken reach_form (λ j. by_name (e j) (k j) (l j) (both.0 j)) in
          rw t.0 (grind (arith, ap is_some (explaining_is reach_form reach_sub t None refl refl both.1)))
      go false e false k true l =
          let t = taken diff_form (λ j. by_name (e j) (k j) (l j) (both.0 j)) in
          rw t.0 (grind (arith, ap is_some (explaining_is diff_form diff_sub t None refl refl both.1)))
      go false e false k false l =
          let t = taken run_form (λ j. by_name (e j) (k j) (l j) (both.0 j)) in
          rw t.0 (grind (arith, ap is_some (explaining_is run_form run_sub t None refl refl both.1)))

-- ---- errors

pub refused : (app : App) (words : List Text) (e : Error) → app ≡ program_app
    → (is_simple_and_free app ≡ true → HasKind (fault_of app words) e)
    → fault_of program_app words ≡ [] → kind_of e ≡ OutOfMemory
refused app words e is kinds none =
    grind (
      arith,
      subst (λ (ks : Kinds). HasKind ks e) (ap (λ (a : App). fault_of a words) is ∙ none)
          (kinds (ap is_simple_and_free is ∙ is_simple_program)),
    )

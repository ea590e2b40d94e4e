-- clap's parse of the words of a command of some paths, with some flags, and with an option that has a file or not, is
-- the pass over them (`parsed`): where the pass finds nothing the parse has a fault, and else it has none and the
-- rows are those of what the pass found.
use Rattle.std.proofs.Common.{◌&&◌, ◌++◌, ◌+◌, ◌==◌, ◌||◌, ◌∙◌, ◌∷◌, ◌≡◌, [], ℕ, Bool, List, None, Option, Some, ap, append-nil, arith, codes, cond, false}
use Rattle.std.proofs.Common.{is_some, length, not, refl, sym, true, true≢false, subst, find, fold, min, slice_get, bytes_eq, unwrap_or}
use Rattle.std.specs.List.{list_any}
use Rattle.std.specs.Option.{option_map_or, option_or}
use Rattle.std.specs.Str.{chars}
use Rattle.std.proofs.lemmas.Slice.Eq.{bytes_eq-Decides}
use Rattle.std.proofs.lemmas.List.Folds.{find-append}
use Rattle.clap.specs.Faults.{bundle_fault, bundle_step_fault, defaults_fault, flags_fault, long_fault, step_fault}
use Rattle.clap.specs.Faults.{turn_fault, check_fault, settle_fault, use_fault, walk_fault}
use Rattle.clap.specs.Kinds.{Kinds, or_else, check_kinds}
use Rattle.clap.specs.Lexer.{long_of, short_of, usize_max}
use Rattle.clap.specs.Simple.{Shape, filled, help_rule, new_shape, version_rule, with_index}
use Rattle.clap.specs.Takes.{is_given}
use Rattle.clap.specs.Walk.{Held, Names, Outcome, Row, Rule, Step, Text, Waiting, Walk, after_flag, after_step, arg_by_id, arg_by_index, arg_by_long}
use Rattle.clap.specs.Walk.{arg_by_short, at_row, has_row, idle, long_word, more_values, plain, plain_word, reading_by, short_or_plain}
use Rattle.clap.specs.Walk.{subcommand_met, trailing, walked, with_default, with_values, without, finished, long_met as clap_long_met}
use Rattle.clap.specs.Walk.{option, settled, settled_rows, to_positional, used_by_id, value}
use Rattle.clap.specs.declared.error.kind.ErrorKind.{ErrorKind}
use Rattle.clap.specs.declared.builder.value_parser.Reading.{Reading}
use Rattle.clap.specs.declared.parser.matches.ValueSource.{ValueSource}
use Rattle.clap.specs.declared.parser.matches.ValueSource.TheVariants.{CommandLine, DefaultValue}
use Rattle.clap.proofs.WalkLemmas.{bundle_ends}
use Rattle.clap.proofs.FaultLemmas.{fault_ends}
use Rattle.command_line.specs.steps.Program.{file_rule, flag_rule, path_rule}
use Rattle.command_line.proofs.Words.{AreFlags, Pairs, Seen, has_no_short, Place, after, are_closed, at_end, before, closed, closes, fewer, flag_word}
use Rattle.command_line.proofs.Words.{is_flag_in, is_in, is_open, is_taken, keeps_open, long_text, naming, none_of, not_flag, operand_met, scan, word_met}
use Rattle.clap.specs.declared.error.kind.ErrorKind.TheVariants.{ArgumentConflict}
use Rattle.command_line.specs.CommandLine.{as_option, option_named}

abbrev pub Each : (Text → Type 0) → List Text → Type 0
Each P [] = Unit {0}
Each P (word ∷ rest) = P word × Each P rest

-- ---- rows: one for each argument that was used, in the order of the words

-- the first row of an argument
abbrev pub row_at : Text → List Row → Option Row
row_at id rows = find (λ r. bytes_eq r.id id) rows

-- the first row stays the first
pub still : (id : Text) (all more : List Row) (r : Row) → row_at id all ≡ Some r → row_at id (all ++ more) ≡ Some r
still id all more r e = find-append (λ r. bytes_eq r.id id) all more ∙ ap (λ (o : Option Row). option_or o (row_at id more)) e

-- one more row is the first where there was none
pub newly : (all : List Row) (r : Row) → row_at r.id all ≡ None → row_at r.id (all ++ r ∷ []) ≡ Some r
newly all r none = find-append (λ x. bytes_eq x.id r.id) all (r ∷ [])
    ∙ (λ j. option_or (none j) (cond ((bytes_eq-Decides r.id r.id).1 refl j) (Some r) None))

pub kept : (id : Text) (all : List Row) (r : Row) → bytes_eq r.id id ≡ false → row_at id (all ++ r ∷ []) ≡ row_at id all
kept id [] r other = grind arith
kept id (x ∷ xs) r other = grind (arith, kept id xs)

pub has_row-at : (id : Text) (all : List Row) → has_row id all ≡ is_some (row_at id all)
has_row-at id [] = refl
has_row-at id (x ∷ xs) = grind (arith, has_row-at id xs)

past_rows : (id : Text) (change : Row → List Row) (missing all : List Row) → row_at id all ≡ None
    → at_row id change missing all ≡ all ++ missing
past_rows id change missing [] none = refl
past_rows id change missing (x ∷ xs) none = grind (arith, past_rows id change missing xs)

abbrev pub new_row : Text → Reading → ValueSource → List Text → Row
new_row id how s values = record { id = id; values = values; count = None; source = Some s; reading = how }

pub appended : (id : Text) (how : Reading) (s : ValueSource) (values : List Text) (all : List Row)
    → row_at id all ≡ None → with_values id how s values all ≡ all ++ new_row id how s values ∷ []
appended id how s values all none = past_rows id (more_values s values) (new_row id how s values ∷ []) all none

pub appended_anew : (id : Text) (how : Reading) (s : ValueSource) (values : List Text) (all : List Row)
    → row_at id all ≡ None → with_values id how s values (without id all) ≡ all ++ new_row id how s values ∷ []
appended_anew id how s values all none =
    grind (arith, past_rows id (λ _. []) [] all none, append-nil all, appended id how s values all none)

-- a value is the word itself, of a path and of an option's file
abbrev pub row : Text → Text → Row
row id v = new_row id (reading_by (filled (path_rule id))) CommandLine (v ∷ [])

abbrev pub set_row : Text → Row
set_row id = new_row id (reading_by (filled (flag_rule id))) CommandLine (codes "true" ∷ [])

abbrev pub unset_row : Text → Row
unset_row id = new_row id (reading_by (filled (flag_rule id))) DefaultValue (codes "false" ∷ [])

-- the row of an option's file, and of a flag before and after its default is in
abbrev pub row_of : Text → Option Text → Option Row
row_of id o = cond (is_some o) (Some (row id (unwrap_or o []))) None

abbrev pub flag_of : Text → Bool → Option Row
flag_of id met = cond met (Some (set_row id)) None

abbrev pub source_of : Text → Bool → Row
source_of id met = cond met (set_row id) (unset_row id)

-- ---- lists of kinds

pub not_nil : {A : Type 0} (k : ErrorKind) (ks : Kinds) → k ∷ ks ≡ [] → A
not_nil k ks e = cc

pub first_nil : (a b : Kinds) → or_else a b ≡ [] → a ≡ []
first_nil a b e = grind arith

pub then_nil : (a b : Kinds) → or_else a b ≡ [] → b ≡ []
then_nil a b e = grind arith

-- ---- one word, for any command whose one short flag asks for help

abbrev pub Pending : Type 0
Pending = Option (Text × List Text)

abbrev pub at : List Row → Pending → Held
at rows pending = record { rows = rows; pending = pending; skip = 0 }

abbrev pub walk_with : Waiting → Held → ℕ → Bool → Walk
walk_with waiting h p t = record { held = h; waiting = waiting; position = p; is_trailing = t; stopped = None }

abbrev pub idle_walk : Held → ℕ → Bool → Walk
idle_walk h p t = walk_with idle h p t

abbrev pub help : Rule
help = with_index 1 (filled help_rule)

abbrev pub version : Rule
version = with_index 1 (filled version_rule)

-- each short flag shows a text
abbrev pub AsksHelp : Shape → Type 0
AsksHelp s = (x : ℕ) → (a : Bool) × (b : Bool) × (arg_by_short s.rules x ≡ cond a (Some help) (cond b (Some version) None))

module _ (s : Shape) (asks : AsksHelp s) (names : Names) (waiting : Waiting) (rows : List Row) (pending : Pending) (p : ℕ)
    (word : Text) where
  abbrev held_now : Held
  held_now = at rows pending

  abbrev walk_now : Walk
  walk_now = walk_with waiting held_now p false

  -- the word has this fault in its turn, and is this step
  abbrev pub Turn : Kinds → Held × Step → Type 0
  Turn k m = (turn_fault s names walk_now word ≡ or_else k (step_fault s p m.0 m.1))
      × (walked s.rules names walk_now word ≡ after_step s.rules word walk_now m.0 m.1)

  -- where no short flag begins the word is no option
  bare_met : (u : Option Text) → has_no_short u ≡ true
      → (option_map_or (λ flags. bundle_fault s.rules s.args_override_self flags held_now) u [] ≡ [])
      × (short_or_plain s.rules waiting word u held_now ≡ plain_word s.rules waiting word held_now)
  bare_met None e = (refl, refl)
  bare_met (Some flags) e =
      let none : None ≡ slice_get (chars flags) 0 = sym (none_of (slice_get (chars flags) 0) e) in (
        sym (fault_ends s.rules s.args_override_self (length flags) flags 0 held_now none),
        ap (λ (q : Held × Outcome). after_flag s.rules waiting word q.0 q.1)
            (sym (bundle_ends s.rules (length flags) flags 0 plain held_now none)),
      )

  short_fails : (u : Option Text) → has_no_short u ≡ false
      → option_map_or (λ flags. bundle_fault s.rules s.args_override_self flags held_now) u [] ≡ [] → ⊥
  unfolding flags_fault chars
  short_fails (Some (x ∷ rest)) some e = first (slice_get (chars (x ∷ rest)) 0) some e
    where
      first : (o : Option ℕ) → not (is_some o) ≡ false → bundle_step_fault s.rules s.args_override_self o (x ∷ rest) 0 held_now
          (flags_fault s.rules s.args_override_self (length rest)) ≡ [] → ⊥
      first None none f = true≢false none
      first (Some y) none f = grind (arith, (asks y).2, f)
  short_fails u some e = true≢false some

  -- a word is `--`, an option by its long name, no option, or a bundle of short flags, which has a fault
  pub by_word : subcommand_met names waiting word ≡ None → (P : Bool → Option (Text × Option Text) → Bool → Type 0)
      → ((o : Option (Text × Option Text)) (b : Bool) → Turn [] (held_now, trailing p) → P true o b)
      → ((q : Text × Option Text) (b : Bool) → long_of word ≡ Some q
      → Turn (long_fault s.rules s.args_override_self (arg_by_long s.rules q.0) q.1 held_now)
      (long_word s.rules waiting word q.0 q.1 held_now) → P false (Some q) b)
      → (Turn [] (plain_word s.rules waiting word held_now) → P false None true)
      → ((turn_fault s names walk_now word ≡ [] → ⊥) → P false None false)
      → P (bytes_eq word (codes "--")) (long_of word) (has_no_short (short_of word))
  unfolding walked
  by_word none P dashed long bare short =
      go (bytes_eq word (codes "--")) refl (long_of word) refl (has_no_short (short_of word)) refl
    where
      go : (d : Bool) → bytes_eq word (codes "--") ≡ d → (o : Option (Text × Option Text)) → long_of word ≡ o
          → (b : Bool) → has_no_short (short_of word) ≡ b → P d o b
      go true d o is b e = dashed o b (grind (arith, none, d), grind (arith, none, d))
      go false d (Some q) is b e = long q b is (grind (arith, none, d, is), grind (arith, none, d, is))
      go false d None is true e =
          let met = bare_met (short_of word) e in bare (grind (arith, none, d, is, met.0), grind (arith, none, d, is, met.1))
      go false d None is false e = short (λ f. short_fails (short_of word) e (grind (arith, none, d, is, f)))

pub either : {A : Type 0} (b : Bool) (x : A) → cond b x x ≡ x
either true x = refl
either false x = refl

-- ---- the command

abbrev pub leaf : Text → List Rule → Shape
leaf name rules = record (new_shape name) { rules = rules; disable_help_subcommand = true; is_built = true }

-- options that show a text, and others that are unknown
pub shown_long : (c : List Rule) (b d : Bool) (v : Option Text) (h : Held)
    → long_fault c false (cond b (Some help) (cond d (Some version) None)) v h ≡ [] → ⊥
shown_long c b d v h e = grind arith

abbrev pub flag_filled : Text → Rule
flag_filled flag = filled (flag_rule flag)

abbrev pub file_filled : Text → Rule
file_filled opt = filled (file_rule opt)

-- the option of a name, of a command with these flags, and with the option that has a file or not
abbrev pub option_by : Text → List Text → Bool → Text → Option Rule
option_by opt [] has_file name =
    let other = cond (bytes_eq (codes "help") name || false) (Some help) None in
    cond (bytes_eq opt name || false) (cond has_file (Some (file_filled opt)) other) other
option_by opt (flag ∷ flags) has_file name =
    cond (bytes_eq flag name || false) (Some (flag_filled flag)) (option_by opt flags has_file name)

abbrev pub place_of : Text → ℕ → Rule
place_of id p = with_index p (filled (path_rule id))

abbrev pub Other : Text → List Text → Type 0
Other id others = Each (λ other. bytes_eq id other ≡ false) others

-- the paths from a position on, each with an id of its own, which isn't the name of the option that has a file
abbrev pub Paths : Text → List Rule → List Text → ℕ → List Text → Type 0
Paths opt rules flags p [] = arg_by_index rules p ≡ None
Paths opt rules flags p (id ∷ left) =
    (arg_by_index rules p ≡ Some (place_of id p)) × (arg_by_id rules id ≡ Some (place_of id p))
    × Other id (opt ∷ left) × (is_in flags id ≡ false) × (bytes_eq opt id ≡ false)
    × Paths opt rules flags (min (p + 1) usize_max) left

abbrev pub lacks : List Row → List Text → Bool
lacks rows ids = list_any (λ id. not (is_given id rows)) ids

-- the form of a subcommand: its rules, the ids of its paths, its flags, the name of an option that has a file,
-- whether it has that option, and with what file the pass over its words begins
pub record Form : Type 0 where
  pub name : Text
  pub rules : List Rule
  pub ids : List Text
  pub flags : List Text
  pub file_option : Text
  pub has_file : Bool
  pub file : Option Text

-- the default of a flag
abbrev pub defaulted : List Row → Text → List Row
defaulted all flag = with_default all (flag_filled flag)

-- only flags have a default, which its parser takes
abbrev pub Defaults : Form → Type 0
Defaults c = (all : List Row) → (fold with_default all c.rules ≡ fold defaulted all c.flags)
    × (defaults_fault all c.rules ≡ [])

-- the rules are those of the form
pub record IsCommand (c : Form) : Type 0 where
  pub shorts : (x : ℕ) → arg_by_short c.rules x ≡ cond (104 == x || false) (Some help) None
  pub longs : (name : Text) → arg_by_long c.rules name ≡ option_by c.file_option c.flags c.has_file name
  pub by_option : arg_by_id c.rules c.file_option ≡ cond c.has_file (Some (file_filled c.file_option)) None
  pub paths : Paths c.file_option c.rules c.flags 1 c.ids
  pub are : AreFlags c.file_option c.flags
  pub defaults : Defaults c
  pub required : (rows : List Row) → list_any (λ a. a.required && not (is_given a.id rows)) c.rules ≡ lacks rows c.ids

-- two names, of which one is a flag
flag_apart : (flags : List Text) (flag id : Text) → is_in flags id ≡ false → is_in flags flag ≡ true → bytes_eq id flag ≡ false
flag_apart flags flag id none some = go (bytes_eq id flag) refl
  where
    go : (b : Bool) → bytes_eq id flag ≡ b → bytes_eq id flag ≡ false
    go false e = e
    go true e = grind (arith, bytes_eq-Decides id flag, e, none, some)

-- ---- the rows

-- these paths are there
abbrev pub Holds : List Row → Pairs → Type 0
Holds rows [] = Unit {0}
Holds rows (q ∷ done) = (row_at q.0 rows ≡ Some (row q.0 q.1)) × Holds rows done

pub holds_more : (all more : List Row) (done : Pairs) → Holds all done → Holds (all ++ more) done
holds_more all more [] holds = tt
holds_more all more (q ∷ done) holds = (still q.0 all more _ holds.0, holds_more all more done holds.1)

each_kept : (r : Row) (all : List Row) (left : List Text) → Other r.id left → Each (λ id. row_at id all ≡ None) left
    → Each (λ id. row_at id (all ++ r ∷ []) ≡ None) left
each_kept r all [] other none = tt
each_kept r all (id ∷ left) other none = (kept id all r other.0 ∙ none.0, each_kept r all left other.1 none.1)

module _ (c : Form) where
  -- what is known of the rows on the way
  pub record Fits (all : List Row) (done : Pairs) (left free : List Text) (file : Option Text) : Type 0 where
    pub holds : Holds all done
    pub unused : Each (λ id. row_at id all ≡ None) left
    pub flagged : (flag : Text) → is_in c.flags flag ≡ true → row_at flag all ≡ flag_of flag (not (is_in free flag))
    pub known : (flag : Text) → is_in free flag ≡ true → is_in c.flags flag ≡ true
    pub are : AreFlags c.file_option free
    pub filed : (c.has_file ≡ true → row_at c.file_option all ≡ row_of c.file_option file) × (c.has_file ≡ false → is_some file ≡ true)
    pub owes : (final : List Row) → Holds final done → lacks final c.ids ≡ lacks final left

  -- and of those at the end
  pub record Gives (seen : Seen) (final : List Row) : Type 0 where
    pub holds : Holds final seen.0
    pub flagged : (flag : Text) → is_in c.flags flag ≡ true → row_at flag final ≡ Some (source_of flag (not (is_in seen.1 flag)))
    pub filed : c.has_file ≡ true → row_at c.file_option final ≡ row_of c.file_option seen.2

  module _ (all : List Row) (done : Pairs) (left free : List Text) where
    pub fits_path : (id word : Text) (file : Option Text) → Other id (c.file_option ∷ left) → is_in c.flags id ≡ false
        → Fits all done (id ∷ left) free file → Fits (all ++ row id word ∷ []) ((id, word) ∷ done) left free file
    fits_path id word file other apart fits = record {
      holds = (newly all r fits.unused.0, holds_more all (r ∷ []) done fits.holds);
      unused = each_kept r all left other.1 fits.unused.1;
      flagged = λ flag is. kept flag all r (flag_apart c.flags flag id apart is) ∙ fits.flagged flag is;
      known = fits.known;
      are = fits.are;
      filed = (λ so. kept c.file_option all r other.0 ∙ fits.filed.0 so, fits.filed.1);
      owes = λ final holds. grind (arith, fits.owes final holds.1, holds.0);
    }
      where
        r : Row
        r = row id word

    pub fits_flag : (flag : Text) (file : Option Text) → is_in free flag ≡ true → row_at flag all ≡ None → Other flag (c.file_option ∷ left)
        → Fits all done left free file → Fits (all ++ set_row flag ∷ []) done left (closed (45 ∷ 45 ∷ flag) free) file
    fits_flag flag file is none other fits = record {
      holds = holds_more all (r ∷ []) done fits.holds;
      unused = each_kept r all left other.1 fits.unused;
      flagged = λ name of. met name of (bytes_eq flag name) refl;
      known = λ name of. fits.known name (still_open name of);
      are = are_closed c.file_option (45 ∷ 45 ∷ flag) free fits.are;
      filed = (λ so. kept c.file_option all r other.0 ∙ fits.filed.0 so, fits.filed.1);
      owes = fits.owes;
    }
      where
        r : Row
        r = set_row flag

        still_open : (name : Text) → is_in (closed (45 ∷ 45 ∷ flag) free) name ≡ true → is_in free name ≡ true
        still_open name e = grind (arith, fewer (45 ∷ 45 ∷ flag) name free, e)

        met : (name : Text) → is_in c.flags name ≡ true → (b : Bool) → bytes_eq flag name ≡ b
            → row_at name (all ++ r ∷ []) ≡ flag_of name (not (is_in (closed (45 ∷ 45 ∷ flag) free) name))
        met name of true e =
            let same : flag ≡ name = (bytes_eq-Decides flag name).0 e in
            subst (λ (n : Text). row_at n (all ++ r ∷ []) ≡ flag_of n (not (is_in (closed (45 ∷ 45 ∷ flag) free) n))) same
            (newly all r none ∙ ap (λ b. flag_of flag (not b)) (sym (closes c.file_option flag free fits.are)))
        met name of false e = kept name all r e ∙ fits.flagged name of
            ∙ ap (λ b. flag_of name (not b)) (sym (keeps_open flag name free e))

    pub fits_file : (f : Text) (file : Option Text) → row_at c.file_option all ≡ None → is_in c.flags c.file_option ≡ false
        → Other c.file_option left → Fits all done left free file → Fits (all ++ row c.file_option f ∷ []) done left free (Some f)
    fits_file f file none apart other fits = record {
      holds = holds_more all (r ∷ []) done fits.holds;
      unused = each_kept r all left other fits.unused;
      flagged = λ flag is. kept flag all r (flag_apart c.flags flag c.file_option apart is) ∙ fits.flagged flag is;
      known = fits.known;
      are = fits.are;
      filed = (λ so. newly all r none, λ so. refl);
      owes = fits.owes;
    }
      where
        r : Row
        r = row c.file_option f

-- ---- the defaults of flags

default_is : (flag : Text) (all : List Row) → defaulted all flag ≡ cond (has_row flag all) all (all ++ unset_row flag ∷ [])
default_is flag all = go (row_at flag all) refl
  where
    go : (o : Option Row) → row_at flag all ≡ o → defaulted all flag ≡ cond (has_row flag all) all (all ++ unset_row flag ∷ [])
    go None e = grind (arith, has_row-at flag all, e, appended flag (unset_row flag).reading DefaultValue (codes "false" ∷ []) all e)
    go (Some r) e = grind (arith, has_row-at flag all, e)

-- what holds with the default and without it holds of the rows with it
with_flag : (P : List Row → Type 0) (flag : Text) (all : List Row) → P all → P (all ++ unset_row flag ∷ []) → P (defaulted all flag)
with_flag P flag all here more = subst P (sym (default_is flag all)) (go (has_row flag all))
  where
    go : (b : Bool) → P (cond b all (all ++ unset_row flag ∷ []))
    go true = here
    go false = more

defaults_stay : (flags : List Text) (id : Text) (all : List Row) (r : Row) → row_at id all ≡ Some r → row_at id (fold defaulted all flags) ≡ Some r
defaults_stay [] id all r e = e
defaults_stay (flag ∷ flags) id all r e = defaults_stay flags id (defaulted all flag) r
    (with_flag (λ rows. row_at id rows ≡ Some r) flag all e (still id all (unset_row flag ∷ []) r e))

defaults_hold : (flags : List Text) (all : List Row) (done : Pairs) → Holds all done → Holds (fold defaulted all flags) done
defaults_hold [] all done holds = holds
defaults_hold (flag ∷ flags) all done holds = defaults_hold flags (defaulted all flag) done
    (with_flag (λ rows. Holds rows done) flag all holds (holds_more all (unset_row flag ∷ []) done holds))

apart_too : (a b : Text) → bytes_eq a b ≡ false → bytes_eq b a ≡ false
apart_too a b e = grind (arith, bytes_eq-Decides a b, bytes_eq-Decides b a, e)

no_default : (flag id : Text) (all : List Row) → bytes_eq id flag ≡ false → row_at id (defaulted all flag) ≡ row_at id all
no_default flag id all e = with_flag (λ rows. row_at id rows ≡ row_at id all) flag all refl (kept id all (unset_row flag) (apart_too id flag e))

defaults_apart : (flags : List Text) (id : Text) (all : List Row) → is_in flags id ≡ false → row_at id (fold defaulted all flags) ≡ row_at id all
defaults_apart [] id all e = refl
defaults_apart (flag ∷ flags) id all e =
    defaults_apart flags id (defaulted all flag) (grind (arith, e)) ∙ no_default flag id all (grind (arith, e))

unmet_default : (flags : List Text) (id : Text) (all : List Row) → is_in flags id ≡ true → row_at id all ≡ None
    → row_at id (fold defaulted all flags) ≡ Some (unset_row id)
unmet_default [] id all e none = absurd (true≢false (sym e))
unmet_default (flag ∷ flags) id all e none = go (bytes_eq id flag) refl (unmet_default flags id (defaulted all flag))
  where
    go : (b : Bool) → bytes_eq id flag ≡ b
        → (is_in flags id ≡ true → row_at id (defaulted all flag) ≡ None → row_at id (fold defaulted (defaulted all flag) flags) ≡ Some (unset_row id))
        → row_at id (fold defaulted (defaulted all flag) flags) ≡ Some (unset_row id)
    go true same later = defaults_stay flags id (defaulted all flag) (unset_row id)
        (subst (λ (x : Text). row_at id (defaulted all x) ≡ Some (unset_row id)) ((bytes_eq-Decides id flag).0 same)
        (ap (row_at id) (default_is id all ∙ ap (λ b. cond b all (all ++ unset_row id ∷ [])) (has_row-at id all ∙ ap is_some none))
        ∙ newly all (unset_row id) none))
    go false other later = later (grind (arith, e, other)) (no_default flag id all other ∙ none)

defaults_flag : (flags : List Text) (id : Text) (met : Bool) (all : List Row) → is_in flags id ≡ true → row_at id all ≡ flag_of id met
    → row_at id (fold defaulted all flags) ≡ Some (source_of id met)
defaults_flag flags id true all is e = defaults_stay flags id all (set_row id) e
defaults_flag flags id false all is e = unmet_default flags id all is e

-- ---- the option of a name

option_flag : (opt : Text) (flags : List Text) (has_file : Bool) (name : Text) → is_in flags name ≡ true
    → option_by opt flags has_file name ≡ Some (flag_filled name)
option_flag opt [] has_file name e = absurd (true≢false (sym e))
option_flag opt (flag ∷ flags) has_file name e = go (bytes_eq name flag) refl (option_flag opt flags has_file name)
  where
    go : (b : Bool) → bytes_eq name flag ≡ b → (is_in flags name ≡ true → option_by opt flags has_file name ≡ Some (flag_filled name))
        → option_by opt (flag ∷ flags) has_file name ≡ Some (flag_filled name)
    go true same later = subst (λ (x : Text). option_by opt (x ∷ flags) has_file name ≡ Some (flag_filled name)) ((bytes_eq-Decides name flag).0 same)
        (ap (λ b. cond (b || false) (Some (flag_filled name)) (option_by opt flags has_file name)) ((bytes_eq-Decides name name).1 refl))
    go false other later = ap (λ b. cond (b || false) (Some (flag_filled flag)) (option_by opt flags has_file name)) (apart_too name flag other)
        ∙ later (grind (arith, e, other))

option_other : (opt : Text) (flags : List Text) (has_file : Bool) (name : Text) → is_in flags name ≡ false
    → option_by opt flags has_file name ≡ option_by opt [] has_file name
option_other opt [] has_file name e = refl
option_other opt (flag ∷ flags) has_file name e =
    ap (λ b. cond (b || false) (Some (flag_filled flag)) (option_by opt flags has_file name)) (apart_too name flag (grind (arith, e)))
    ∙ option_other opt flags has_file name (grind (arith, e))

-- ---- faults

-- a flag that is met settles what is pending
long_settles : (c : List Rule) (a : Option Rule) (v : Option Text) (h : Held) → long_fault c false a v h ≡ []
    → settle_fault c false h ≡ []
long_settles c a v h e = grind arith

-- a second use is refused
abbrev repeats : Bool → Kinds
repeats b = or_else (cond (b && true) (ArgumentConflict ∷ []) []) []

-- ---- the command

module _ (c : Form) (is : IsCommand c) where
  abbrev s : Shape
  s = leaf c.name c.rules

  asks : AsksHelp s
  asks x = (104 == x || false, false, is.shorts x)

  -- what may be at fault at the end of a walk
  abbrev pub ends : Walk → Kinds
  ends w = or_else (settle_fault c.rules false w.held)
      (or_else (defaults_fault (settled c.rules w.held).rows c.rules) (check_fault s (finished c.rules w.held) false))

  abbrev pub end_of : Walk → List Text → Walk
  end_of w rest = fold (walked c.rules []) w rest

  abbrev pub fault : Walk → List Text → Kinds
  fault w rest = or_else (walk_fault s [] w rest) (ends (end_of w rest))

  abbrev fits : List Row → Pairs → List Text → List Text → Option Text → Type 0
  fits = Fits c

  -- the walk with these faults and this end answers as the pass does
  abbrev pub AnswersAt : Kinds → Walk → Option Seen → Type 0
  AnswersAt k e None = k ≡ [] → ⊥
  AnswersAt k e (Some seen) = (k ≡ []) × Gives c seen (finished c.rules e.held)

  abbrev pub Answers : Walk → List Text → Option Seen → Type 0
  Answers w words seen = AnswersAt (fault w words) (end_of w words) seen

  -- a word without a fault, and one with a fault
  passes : (w v : Walk) (word : Text) (rest : List Text) (o : Option Seen)
      → turn_fault s [] w word ≡ [] → walked c.rules [] w word ≡ v → Answers v rest o → Answers w (word ∷ rest) o
  unfolding walk_fault
  passes w v word rest o none goes a =
      subst (λ (x : Kinds × Walk). AnswersAt (or_else (or_else x.0 (walk_fault s [] x.1 rest)) (ends (end_of x.1 rest)))
      (end_of x.1 rest) o) (λ j. (sym none j, sym goes j)) a

  stops : (w : Walk) (word : Text) (rest : List Text) → (turn_fault s [] w word ≡ [] → ⊥) → fault w (word ∷ rest) ≡ [] → ⊥
  unfolding walk_fault
  stops w word rest bad e = bad (first_nil _ _ (first_nil _ _ e))

  -- ---- where the words end

  -- what is pending has no fault
  abbrev Stands : List Row → Pending → Type 0
  Stands rows pending = settle_fault c.rules false (at rows pending) ≡ []

  -- the rows with it
  abbrev now : List Row → Pending → List Row
  now rows pending = settled_rows c.rules pending rows

  abbrev Ended : List Text → List Row → List Row → Type 0
  Ended free all final = ((done : Pairs) → Holds all done → Holds final done)
      × ((id : Text) → is_in c.flags id ≡ false → row_at id final ≡ row_at id all)
      × ((flag : Text) → is_in c.flags flag ≡ true → row_at flag final ≡ Some (source_of flag (not (is_in free flag))))

  ended : (all : List Row) (free : List Text)
      → ((flag : Text) → is_in c.flags flag ≡ true → row_at flag all ≡ flag_of flag (not (is_in free flag)))
      → Ended free all (fold with_default all c.rules)
  ended all free unset = subst (Ended free all) (sym (is.defaults all).0) (
    λ done holds. defaults_hold c.flags all done holds,
    λ id none. defaults_apart c.flags id all none,
    λ flag of. defaults_flag c.flags flag (not (is_in free flag)) all of (unset flag of),
  )

  end_faults : (rows : List Row) (pending : Pending) (p : ℕ) (t : Bool) (left : List Text) → Stands rows pending
      → let final = finished c.rules (at rows pending) in lacks final c.ids ≡ lacks final left
      → ends (idle_walk (at rows pending) p t) ≡ check_kinds false false (lacks final left)
  end_faults rows pending p t left stands owes = simp (stands, (is.defaults (now rows pending)).1, is.required, owes)

  words_end : (t : Bool) (done : Pairs) (left free : List Text) (file : Option Text) (p : ℕ) (rows : List Row) (pending : Pending)
      → Paths c.file_option c.rules c.flags p left → Stands rows pending → fits (now rows pending) done left free file
      → AnswersAt (ends (idle_walk (at rows pending) p t)) (idle_walk (at rows pending) p t) (at_end done left free file)
  words_end t done [] free file p rows pending paths stands known =
      let end = ended (now rows pending) free known.flagged in (
        end_faults rows pending p t [] stands (known.owes _ (end.0 done known.holds)),
        record {
          holds = end.0 done known.holds;
          flagged = end.2;
          filed = λ so. end.1 c.file_option (not_flag c.file_option c.flags is.are) ∙ known.filed.0 so;
        },
      )
  words_end t done (id ∷ left) free file p rows pending paths stands known =
      let end = ended (now rows pending) free known.flagged in
      grind (arith, end.1 id paths.3, known.unused.0, end_faults rows pending p t (id ∷ left) stands (known.owes _ (end.0 done known.holds)))

  -- ---- an operand

  -- a word that is pending becomes a row
  abbrev Pends : Text → Text → List Row → Type 0
  Pends id word rows =
      Stands rows (Some (id, word ∷ [])) × (now rows (Some (id, word ∷ [])) ≡ rows ++ row id word ∷ [])

  pends : (id word : Text) (a : Rule) (rows : List Row) → arg_by_id c.rules id ≡ Some a → row_at id rows ≡ None
      → use_fault false a (word ∷ []) rows ≡ repeats (has_row id rows)
      → used_by_id (Some a) (word ∷ []) rows ≡ with_values id (row id word).reading CommandLine (word ∷ []) (without id rows) → Pends id word rows
  pends id word a rows found none fault used =
      grind (arith, found, fault, used, has_row-at id rows, appended_anew id (row id word).reading CommandLine (word ∷ []) rows none)

  abbrev place_by : Bool → Place
  place_by t = cond t after before

  -- the words answer, wherever the walk over them begins
  abbrev Go : Bool → List Text → Type 0
  Go t rest = (done : Pairs) (left free : List Text) (file : Option Text) (p : ℕ) (rows : List Row) (pending : Pending)
      → Paths c.file_option c.rules c.flags p left → Stands rows pending → fits (now rows pending) done left free file
      → Answers (idle_walk (at rows pending) p t) rest (scan c.file_option is_taken rest (place_by t) done left free file)

  operand_answers : (t : Bool) (word : Text) (rest : List Text) (done : Pairs) (left free : List Text) (file : Option Text)
      (p : ℕ) (rows : List Row) (pending : Pending)
      → turn_fault s [] (idle_walk (at rows pending) p t) word ≡ step_fault s p (at rows pending) value
      → walked c.rules [] (idle_walk (at rows pending) p t) word
      ≡ to_positional c.rules (arg_by_index c.rules p) word (idle_walk (at rows pending) p t) (at rows pending)
      → Paths c.file_option c.rules c.flags p left → Stands rows pending → fits (now rows pending) done left free file → Go t rest
      → Answers (idle_walk (at rows pending) p t) (word ∷ rest)
      (operand_met word (place_by t) done left free file (scan c.file_option is_taken rest))
  operand_answers t word rest done [] free file p rows pending turn goes paths stands known later =
      stops (idle_walk (at rows pending) p t) word rest (λ e. grind (arith, turn, paths, e))
  operand_answers t word rest done (id ∷ left) free file p rows pending turn goes paths stands known later =
      let all = now rows pending in
      let pends = pends id word (place_of id p) all paths.1 known.unused.0 refl refl in
      passes (idle_walk (at rows pending) p t) (idle_walk (at all (Some (id, word ∷ []))) (min (p + 1) usize_max) t) word rest _
      (grind (arith, turn, paths.0, stands)) (grind (arith, goes, paths.0))
      (later ((id, word) ∷ done) left free file (min (p + 1) usize_max) all (Some (id, word ∷ [])) paths.5 pends.0
      (rw pends.1 (fits_path c all done left free id word file paths.2 paths.3 known)))

  -- ---- what is pending has a fault, whatever follows

  abbrev Bad : List Row → Pending → Type 0
  Bad rows pending = settle_fault c.rules false (at rows pending) ≡ [] → ⊥

  bad_step : (rows : List Row) (pending : Pending) (p : ℕ) (left : List Text) → Paths c.file_option c.rules c.flags p left → Bad rows pending
      → step_fault s p (at rows pending) value ≡ [] → ⊥
  bad_step rows pending p [] paths bad e = grind (arith, paths, e)
  bad_step rows pending p (id ∷ left) paths bad e = grind (arith, paths.0, bad, e)

  bad_after : (waiting : Waiting) (rows : List Row) (pending : Pending) (p : ℕ) (left rest : List Text) → Paths c.file_option c.rules c.flags p left
      → Bad rows pending → fault (walk_with waiting (at rows pending) p true) rest ≡ [] → ⊥
  unfolding walk_fault
  bad_after waiting rows pending p left [] paths bad e = bad (first_nil _ _ e)
  bad_after waiting rows pending p left (word ∷ rest) paths bad e =
      bad_step rows pending p left paths bad (first_nil _ _ (first_nil _ _ e))

  -- the word has to be a value of what is pending
  bad_word : (waiting : Waiting) (word : Text) (rest left : List Text) (rows : List Row) (pending : Pending) (p : ℕ) (o : Option Seen)
      → subcommand_met [] waiting word ≡ None → Paths c.file_option c.rules c.flags p left → Bad rows pending → let w = walk_with waiting (at rows pending) p false in
      (Turn s asks [] waiting rows pending p word [] (plain_word c.rules waiting word (at rows pending)) → Answers w (word ∷ rest) o)
      → Answers w (word ∷ rest) (cond (is_taken word) o None)
  bad_word waiting word rest left rows pending p o none paths bad bare =
      let w = walk_with waiting (at rows pending) p false in
      by_word s asks [] waiting rows pending p word none
      (λ d q b. Answers w (word ∷ rest) (cond (not d && (not (is_some q) && b)) o None))
      (λ q b turn. passes w (walk_with waiting (at rows pending) p true) word rest None turn.0 turn.1
      (bad_after waiting rows pending p left rest paths bad))
      (λ q b is_long turn. stops w word rest (λ e.
      bad (long_settles c.rules (arg_by_long c.rules q.0) q.1 (at rows pending) (first_nil _ _ (sym turn.0 ∙ e)))))
      bare (λ fails. stops w word rest fails)

  bad_before : (rows : List Row) (pending : Pending) (p : ℕ) (left rest : List Text) → Paths c.file_option c.rules c.flags p left
      → Bad rows pending → fault (idle_walk (at rows pending) p false) rest ≡ [] → ⊥
  unfolding walk_fault
  bad_before rows pending p left [] paths bad = λ e. bad (first_nil _ _ e)
  bad_before rows pending p left (word ∷ rest) paths bad =
      let w = idle_walk (at rows pending) p false in
      subst (Answers w (word ∷ rest)) (either (is_taken word) None) (bad_word idle word rest left rows pending p None refl paths bad
      (λ turn. stops w word rest (λ e. bad_step rows pending p left paths bad (sym turn.0 ∙ e))))

  -- ---- the word behind the option that has a file

  abbrev file_pending : List Text → Pending
  file_pending words = Some (c.file_option, words)

  abbrev pub waits : List Row → ℕ → Walk
  waits all p = walk_with (option c.file_option) (at all (file_pending [])) p false

  option_is : c.has_file ≡ true → arg_by_id c.rules c.file_option ≡ Some (file_filled c.file_option)
  option_is so = is.by_option ∙ ap (λ b. cond b (Some (file_filled c.file_option)) None) so

  unnamed_bad : (all : List Row) → c.has_file ≡ true → Bad all (file_pending [])
  unnamed_bad all so e = grind (arith, is.by_option, so, e)

  named_so : (word : Text) (rest left : List Text) (p : ℕ) (all : List Row) (o : Option Seen) → c.has_file ≡ true
      → Paths c.file_option c.rules c.flags p left → Answers (idle_walk (at all (file_pending (word ∷ []))) p false) rest o
      → Answers (waits all p) (word ∷ rest) (cond (is_taken word) o None)
  named_so word rest left p all o so paths later =
      let same = (bytes_eq-Decides c.file_option c.file_option).1 refl in
      bad_word (option c.file_option) word rest left all (file_pending []) p o refl paths (unnamed_bad all so) (λ turn.
      passes (waits all p) (idle_walk (at all (file_pending (word ∷ []))) p false) word rest o
      (grind (arith, turn.0, option_is so)) (grind (arith, turn.1, option_is so, same)) later)

  -- ---- the words

  -- of a second such option the file is refused
  abbrev Wait : List Text → Type 0
  Wait rest = (done : Pairs) (left free : List Text) (file : Option Text) (p : ℕ) (all : List Row) → c.has_file ≡ true
      → Paths c.file_option c.rules c.flags p left → fits all done left free file
      → Answers (waits all p) rest (cond (is_some file) None (scan c.file_option is_taken rest naming done left free None))

  others : (flag : Text) → is_in c.flags flag ≡ true → (left : List Text) (p : ℕ) → Paths c.file_option c.rules c.flags p left → Other flag left
  others flag of [] p paths = tt
  others flag of (id ∷ left) p paths =
      (apart_too id flag (flag_apart c.flags flag id paths.3 of), others flag of left (min (p + 1) usize_max) paths.5)

  file_others : (left : List Text) (p : ℕ) → Paths c.file_option c.rules c.flags p left → Other c.file_option left
  file_others [] p paths = tt
  file_others (id ∷ left) p paths = (paths.4, file_others left (min (p + 1) usize_max) paths.5)

  -- a flag isn't the option that has a file
  flag_no_option : (flag : Text) → is_in c.flags flag ≡ true → bytes_eq flag c.file_option ≡ false
  flag_no_option flag of = apart_too c.file_option flag (flag_apart c.flags flag c.file_option (not_flag c.file_option c.flags is.are) of)

  module _ (word : Text) (rest : List Text) (done : Pairs) (left : List Text) (p : ℕ) (rows : List Row) (pending : Pending)
      (paths : Paths c.file_option c.rules c.flags p left) (stands : Stands rows pending) (goes_on : Go false rest) (waits_on : Wait rest) where
    abbrev so_far : List Row
    so_far = now rows pending

    abbrev w : Walk
    w = idle_walk (at rows pending) p false

    abbrev After : Bool → Bool → Option (Option Text) → Bool → List Text → Option Text → Type 0
    After d f r a free file = Answers w (word ∷ rest) (word_met d f r a word done left free file (scan c.file_option is_taken rest))

    abbrev Turned : Option Text → Option Rule → Type 0
    Turned v a = let m = clap_long_met c.rules a v (at rows pending) in
        Turn s asks [] idle rows pending p word (long_fault c.rules false a v (at rows pending)) (after_flag c.rules idle word m.0 m.1)

    -- an option is used with these values, for the first time or again
    used : (id : Text) (how : Reading) (values : List Text) (met : Bool) (r : Row) (o : Option Seen)
        → (turn_fault s [] w word ≡ or_else (or_else (settle_fault c.rules false (at rows pending)) (repeats (has_row id so_far))) [])
        × (walked c.rules [] w word ≡ idle_walk (at (with_values id how CommandLine values (without id so_far)) None) p false)
        → row_at id so_far ≡ cond met (Some r) None
        → (row_at id so_far ≡ None → Answers (idle_walk (at (so_far ++ new_row id how CommandLine values ∷ []) None) p false) rest o)
        → Answers w (word ∷ rest) (cond met None o)
    used id how values false r o turn none later =
        passes w (idle_walk (at (so_far ++ new_row id how CommandLine values ∷ []) None) p false) word rest o
        (grind (arith, turn.0, stands, none, has_row-at id so_far))
        (grind (arith, turn.1, appended_anew id how CommandLine values so_far none)) (later none)
    used id how values true r o turn there later = stops w word rest (λ e. grind (arith, turn.0, e, there, has_row-at id so_far))

    flag_met : (name : Text) (free : List Text) (file : Option Text) → fits so_far done left free file → long_of word ≡ Some (name, None)
        → Turned None (Some (flag_filled name)) → is_in c.flags name ≡ true → After false (is_in free name && true) None false free file
    flag_met name free file known is_long turn of = go (is_in free name) refl
      where
        less : List Text
        less = closed (45 ∷ 45 ∷ name) free

        first : is_in free name ≡ true → row_at name so_far ≡ None → Answers (idle_walk (at (so_far ++ set_row name ∷ []) None) p false) rest
            (scan c.file_option is_taken rest before done left less file)
        first e none = goes_on done left less file p (so_far ++ set_row name ∷ []) None paths refl
            (fits_flag c so_far done left free name file e none (flag_no_option name of, others name of left p paths) known)

        met : (b : Bool) → is_in free name ≡ b → row_at name so_far ≡ flag_of name (not b)
        met b e = known.flagged name of ∙ ap (λ x. flag_of name (not x)) e

        not_none : ◌≡◌ {A = Option Row} None (Some (set_row name)) → ⊥
        not_none e = cc

        go : (b : Bool) → is_in free name ≡ b → After false (b && true) None false free file
        go true e = subst (λ (x : Text). Answers w (word ∷ rest) (scan c.file_option is_taken rest before done left (closed x free) file))
            (sym (long_text word name is_long))
            (used name (set_row name).reading (codes "true" ∷ []) false (set_row name) _ turn (met true e) (first e))
        go false e = used name (set_row name).reading (codes "true" ∷ []) true (set_row name) None turn (met false e)
            (λ none. absurd (not_none (sym none ∙ met false e)))

    file_met : (v : Option Text) (free : List Text) (file : Option Text) → fits so_far done left free file → Turned v (Some (file_filled c.file_option))
        → c.has_file ≡ true → After false false (Some v) false free file
    file_met None free file known turn so =
        passes w (waits so_far p) word rest _ (turn.0 ∙ ap (λ k. or_else k []) stands) turn.1
        (waits_on done left free file p so_far so paths known)
    file_met (Some f) free file known turn so = used c.file_option (row c.file_option f).reading (f ∷ []) (is_some file)
        (row c.file_option (unwrap_or file [])) _ turn (known.filed.0 so)
        (λ none. goes_on done left free (Some f) p (so_far ++ row c.file_option f ∷ []) None paths refl
        (fits_file c so_far done left free f file none (not_flag c.file_option c.flags is.are) (file_others left p paths) known))

    no_option : (b : Bool) (v : Option Text) → Turned v (cond b (Some help) None) → fault w (word ∷ rest) ≡ [] → ⊥
    no_option b v turn = stops w word rest (λ e. shown_long c.rules b false v (at rows pending) (first_nil _ _ (sym turn.0 ∙ e)))

    flag_long : (name : Text) (v : Option Text) (free : List Text) (file : Option Text) → fits so_far done left free file
        → long_of word ≡ Some (name, v) → Turned v (Some (flag_filled name)) → is_in c.flags name ≡ true
        → After false (is_in free name && not (is_some v)) None false free file
    flag_long name None free file known is_long turn of = flag_met name free file known is_long turn of
    flag_long name (Some x) free file known is_long turn of = go (is_in free name)
      where
        refused : Answers w (word ∷ rest) None
        refused = stops w word rest (λ e. not_nil _ _ (sym turn.0 ∙ e))

        go : (b : Bool) → After false (b && false) None false free file
        go true = refused
        go false = refused

    other_long : (name : Text) (v : Option Text) (free : List Text) (file : Option Text) → fits so_far done left free file
        → (r : Bool) → bytes_eq c.file_option name ≡ r → (hr : Bool) → c.has_file ≡ hr
        → Turned v (let other = cond (bytes_eq (codes "help") name || false) (Some help) None in
        cond (r || false) (cond hr (Some (file_filled c.file_option)) other) other)
        → After false false (cond r (Some v) None) false free file
    other_long name v free file known true re true hr turn = file_met v free file known turn hr
    other_long name v free (Some g) known true re false hr turn = no_option _ v turn
    other_long name v free None known true re false hr turn = absurd (true≢false (sym (known.filed.1 hr)))
    other_long name v free file known false re hr hre turn = no_option _ v turn

    long_answers : (name : Text) (v : Option Text) (free : List Text) (file : Option Text) → fits so_far done left free file
        → long_of word ≡ Some (name, v) → Turned v (option_by c.file_option c.flags c.has_file name)
        → After false (is_in free name && not (is_some v)) (cond (bytes_eq c.file_option name) (Some v) None) false free file
    long_answers name v free file known is_long turn = go (is_in c.flags name) refl
      where
        never : is_in c.flags name ≡ false → (b : Bool) → is_in free name ≡ b → is_in free name ≡ false
        never none true e = absurd (true≢false (sym (known.known name e) ∙ none))
        never none false e = e

        go : (b : Bool) → is_in c.flags name ≡ b
            → After false (is_in free name && not (is_some v)) (cond (bytes_eq c.file_option name) (Some v) None) false free file
        go true of = rw (apart_too name c.file_option (flag_no_option name of))
            (flag_long name v free file known is_long (subst (Turned v) (option_flag c.file_option c.flags c.has_file name of) turn) of)
        go false none = rw (never none (is_in free name) refl)
            (other_long name v free file known (bytes_eq c.file_option name) refl c.has_file refl
            (subst (Turned v) (option_other c.file_option c.flags c.has_file name none) turn))

    word_answers : (free : List Text) (file : Option Text) → fits so_far done left free file → Go true rest
        → After (bytes_eq word (codes "--")) (is_open free word) (as_option c.file_option word) (is_taken word) free file
    word_answers free file known trails =
        rw (flag_word c.file_option free known.are word)
        (by_word s asks [] idle rows pending p word refl
        (λ d q b. After d (is_flag_in free q) (option_named c.file_option q) (not d && (not (is_some q) && b)) free file)
        (λ q b turn. passes w (idle_walk (at rows pending) p true) word rest _ turn.0 turn.1
        (trails done left free file p rows pending paths stands known))
        (λ q b is_long turn. long_answers q.0 q.1 free file known is_long (subst (Turned q.1) (is.longs q.0) turn))
        (λ turn. operand_answers false word rest done left free file p rows pending turn.0 turn.1 paths stands known goes_on)
        (λ fails. stops w word rest fails))

  mutual
    unfolding walked walk_fault

    pub parsed : (t : Bool) (rest : List Text) → Go t rest
    parsed true [] done left free file p rows pending paths stands known =
        words_end true done left free file p rows pending paths stands known
    parsed false [] done left free file p rows pending paths stands known =
        words_end false done left free file p rows pending paths stands known
    parsed true (word ∷ rest) done left free file p rows pending paths stands known =
        operand_answers true word rest done left free file p rows pending refl refl paths stands known (parsed true rest)
    parsed false (word ∷ rest) done left free file p rows pending paths stands known =
        word_answers word rest done left p rows pending paths stands (parsed false rest) (named rest) free file known
        (parsed true rest)

    named : (rest : List Text) → Wait rest
    named [] done left free file p all so paths known =
        subst (Answers (waits all p) []) (sym (either (is_some file) None)) (λ e. unnamed_bad all so (first_nil _ _ e))
    named (word ∷ rest) done left free None p all so paths known = named_so word rest left p all _ so paths
        (let pends = pends c.file_option word (file_filled c.file_option) all (option_is so) (known.filed.0 so) refl refl in
        parsed false rest done left free (Some word) p all (file_pending (word ∷ [])) paths pends.0
        (rw pends.1 (fits_file c all done left free word None (known.filed.0 so) (not_flag c.file_option c.flags is.are) (file_others left p paths) known)))
    named (word ∷ rest) done left free (Some file) p all so paths known =
        subst (Answers (waits all p) (word ∷ rest)) (either (is_taken word) None) (named_so word rest left p all None so paths
        (bad_before all (file_pending (word ∷ [])) p left rest paths
        (λ e. grind (arith, is.by_option, so, known.filed.0, has_row-at c.file_option all, e))))

-- Rules keep the interfaces and the earlier events; a NAT statement and a `notrack` that take effect are among their events.
use Rattle.std.proofs.Common.{arith}
use Rattle.translation_laws.proofs.Names.{◌++◌, BaseChain, Bool, Chains, CtFacts, Event, Facts, HookResult, HookVerdict, InTurn, Interface, IsTrue, Known}
use Rattle.translation_laws.proofs.Names.{List, NoChain, None, NotLookedUp, Notrack, Option, PlantTree, RunsBaseChain, Some, Translated, Traversal, []}
use Rattle.translation_laws.proofs.Names.{did_translate, did_untrack, false, list_any, or_left, or_parts, or_right, policy_of, refl, subst, sym, true}
use Rattle.translation_laws.proofs.Names.{with_policy, ℕ, ◌∙◌, ◌∷◌, ◌≡◌}
use Rattle.nft_tree.specs.Tree.{Statement, TableTree, VerdictTree}
use Rattle.nft_tree.specs.declared.chain.Policy.{Policy}
use Rattle.nft_tree.specs.declared.statement.MarkField.{MarkField}
use Rattle.rule_meaning.specs.Runs.{Program, Remainder, RunResult, Runs, at_end, over, table_program}
use Rattle.rule_meaning.specs.Sets.{Scope}
use Rattle.rule_meaning.specs.Statements.{StatementEffect, note, sets_notrack}
use Rattle.rule_meaning.specs.Statements.{statement_effect, writes, writes_connection}
use Rattle.rule_meaning.specs.declared.event.ChainNo.{ChainNo}
use Rattle.rule_meaning.specs.declared.event.Event.TheVariants.{Counted, Logged, Marked, Untracked}
use Rattle.rule_meaning.specs.declared.event.StatementPosition.{StatementPosition}
use Rattle.std.proofs.Math.Bool.{or-false}
use Rattle.std.proofs.lemmas.List.Folds.{list_any-append}
use Rattle.rule_meaning.specs.Hooks as hooks
use Rattle.nft_tree.specs.declared.statement.MarkField.TheVariants as marks
use Rattle.rule_meaning.specs.Runs as runs
use Rattle.nft_tree.specs.Tree as tree

-- ---- events

abbrev pub did_nat_act : List Event → Bool
did_nat_act es = list_any did_translate es

-- no NAT statement took effect before either
pub none_earlier : (es later : List Event) → did_nat_act (es ++ later) ≡ false → did_nat_act es ≡ false
none_earlier es later none =
    (or_parts (did_nat_act es) (did_nat_act later) (sym (list_any-append did_translate es later) ∙ none)).0

nat_acted_last : (es : List Event) (e : Event) → IsTrue (did_translate e) → IsTrue (did_nat_act (es ++ e ∷ []))
nat_acted_last es e is = grind (arith, list_any-append, or_right, or_left)

-- ---- whether a `notrack` took effect

abbrev pub did_exempt : List Event → Bool
did_exempt es = list_any did_untrack es

-- what the facts tell of it: of a packet that wasn't looked up yet (`None`), and of one that was, with what was so at its
-- look-up (`Some`)
abbrev pub TellExempt : CtFacts → Option Bool → Bool → Type 0
TellExempt NotLookedUp None exempt = exempt ≡ false
TellExempt Notrack None exempt = exempt ≡ true
TellExempt _ None exempt = ⊥
TellExempt NotLookedUp (Some then) exempt = ⊥
TellExempt Notrack (Some then) exempt = ⊥
TellExempt _ (Some then) exempt = exempt ≡ then

-- other events don't change it
told_still : (ct : CtFacts) (at_look_up : Option Bool) (es later : List Event) → did_exempt later ≡ false
    → TellExempt ct at_look_up (did_exempt es) → TellExempt ct at_look_up (did_exempt (es ++ later))
told_still ct at_look_up es later none told = rw (list_any-append did_untrack es later, none, or-false (did_exempt es)) told

exempted : (at_look_up : Option Bool) (es : List Event) → TellExempt NotLookedUp at_look_up (did_exempt es)
    → TellExempt Notrack at_look_up (did_exempt (es ++ Untracked ∷ []))
exempted at_look_up es told = grind (arith, list_any-append, did_untrack, or_right)

-- a NAT statement that took effect is among the events
abbrev pub RecordsNat : HookVerdict → List Event → Type 0
RecordsNat (Translated t) es = IsTrue (did_nat_act es)
RecordsNat _ es = Unit {0}

-- ==== What rules keep: the interfaces, what the facts tell of a `notrack`, and each property that further events keep.

pub record Held (input : Interface) (at_look_up : Option Bool) (Q : Option Interface → List Event → Type 0) (f : Facts)
    (es : List Event) : Type 0 where
  pub entered : f.input ≡ input
  pub told : TellExempt f.ct at_look_up (did_exempt es)
  pub so : Q f.output es

module _ (input : Interface) (at_look_up : Option Bool) (Q : Option Interface → List Event → Type 0)
    (grows : (output : Option Interface) (es later : List Event) → Q output es → Q output (es ++ later)) where
  abbrev pub Holds : Facts → List Event → Type 0
  Holds f es = Held input at_look_up Q f es

  held_on : (f : Facts) (es later : List Event) → did_exempt later ≡ false → Holds f es → Holds f (es ++ later)
  held_on f es later none h =
      record { entered = h.entered; told = told_still f.ct at_look_up es later none h.told; so = grows f.output es later h.so }

  -- ---- statements

  abbrev WayHeld : Facts → StatementEffect → Type 0
  WayHeld f (note e g) = (es : List Event) → Holds f es → Holds g (es ++ e ∷ [])
  WayHeld f _ = Unit {0}

  -- with this event the facts become those
  note_held : (f g : Facts) (e : Event) → g.input ≡ f.input → g.output ≡ f.output
      → ((es : List Event) → TellExempt f.ct at_look_up (did_exempt es) → TellExempt g.ct at_look_up (did_exempt (es ++ e ∷ [])))
      → WayHeld f (note e g)
  note_held f g e same alike tells es h =
      record { entered = same ∙ h.entered; told = tells es h.told; so = rw alike (grows f.output es (e ∷ []) h.so) }

  writes_held : (field : MarkField) (f : Facts) (n : ℕ) → WayHeld f (writes field f n)
  writes_held marks.Meta f n =
      note_held f _ (Marked marks.Meta n) refl refl (λ es told. told_still f.ct at_look_up es (Marked marks.Meta n ∷ []) refl told)
  writes_held marks.Ct f n = by_facts f.ct refl
    where
      by_facts : (ct : CtFacts) → f.ct ≡ ct → WayHeld f (writes_connection f ct n)
      by_facts (Known c) is = note_held f _ (Marked marks.Ct n) refl refl
          (λ es told. told_still (Known c) at_look_up es (Marked marks.Ct n ∷ []) refl (rw is at told))
      by_facts _ is = tt

  notrack_held : (f : Facts) (ct : CtFacts) → f.ct ≡ ct → WayHeld f (sets_notrack f ct)
  notrack_held f NotLookedUp is = note_held f _ Untracked refl refl (λ es told. exempted at_look_up es (rw is at told))
  notrack_held f _ is = tt

  statement_held : (scope : Scope) (position : StatementPosition) (s : Statement) (f : Facts)
      → WayHeld f (statement_effect scope position s f)
  statement_held scope position (tree.matching m) f = grind arith
  statement_held scope position (tree.counter start) f = λ es. held_on f es (Counted position ∷ []) refl
  statement_held scope position (tree.log text) f = λ es. held_on f es (Logged position ∷ []) refl
  statement_held scope position (tree.set_mark field operand) f = grind (arith, writes_held field f)
  statement_held scope position (tree.verdict_map s m) f = grind arith
  statement_held scope position (tree.verdict v) f = tt
  statement_held scope position tree.notrack f = notrack_held f f.ct refl
  statement_held scope position (tree.nat n) f = grind arith

  -- ---- a chain

  abbrev RunHeld : RunResult → Type 0
  RunHeld (at_end g later) = Holds g later
  RunHeld (over e g later) = Holds g later × RecordsNat e later

  module _ {S : Type 0} (p : Program S)
      (kept : (position : StatementPosition) (s : S) (f : Facts) → WayHeld f (p.effect_of position s f)) where
    runs_held : {c n : ℕ} {l : Remainder S} {f : Facts} {es : List Event} {o : RunResult} → Runs p c n l f es o → Holds f es
        → RunHeld o
    runs_held runs.chain_ends h = h
    runs_held (runs.next_rule r) h = runs_held r h
    runs_held (runs.rule_ends r) h = runs_held r h
    runs_held (runs.passes w r) h = runs_held r h
    runs_held (runs.fails w r) h = runs_held r h
    runs_held (runs.notes {c = c} {n = n} {k = k} {s = s} {f = f} e g {es = es} w r) h =
        runs_held r (subst (WayHeld f) w (kept (runs.statement_position p c n k) s f) es h)
    runs_held (runs.accepts {f = f} {es = es} w) h = (held_on f es _ refl h, tt)
    runs_held (runs.drops {f = f} {es = es} w) h = (held_on f es _ refl h, tt)
    runs_held (runs.translates t {f = f} {es = es} w) h = (held_on f es _ refl h, nat_acted_last es _ refl)
    runs_held (runs.continues {f = f} {es = es} w r) h = runs_held r (held_on f es _ refl h)
    runs_held (runs.returns {f = f} {es = es} w) h = held_on f es _ refl h
    runs_held (runs.jumps t {f = f} g {es = es} later chain w at first then) h =
        runs_held then (runs_held first (held_on f es _ refl h))
    runs_held (runs.jumps_away t {f = f} {es = es} chain w at first ends) h = runs_held first (held_on f es _ refl h)
    runs_held (runs.goes t {f = f} {es = es} chain w at first) h = runs_held first (held_on f es _ refl h)

  -- ---- base chains and hooks

  abbrev pub EndHeld : HookResult → Type 0
  EndHeld end = Holds end.facts end.events × RecordsNat end.verdict end.events

  closed_held : (number : ChainNo) (policy : Policy) (o : RunResult) → RunHeld o → EndHeld (with_policy number policy o)
  closed_held number policy (at_end g later) h = (held_on g later _ refl h, grind arith)
  closed_held number policy (over e g later) h = h

  abbrev pub HoldsThrough : Traversal → Type 0
  HoldsThrough passage = (f : Facts) (es : List Event) (end : HookResult) → passage f es end → Holds f es → EndHeld end

  pub nothing_holds : HoldsThrough NoChain
  nothing_holds f es end is h = subst EndHeld (sym is) (h, tt)

  module _ (network : PlantTree) (tables : List TableTree) where
    base_holds : (b : BaseChain) → HoldsThrough (RunsBaseChain network tables b)
    base_holds b f es end r h = subst EndHeld (sym r.is) (closed_held b.number (policy_of b.head) r.after
        (runs_held (table_program network b.number.table r.table)
        (statement_held (record { network = network; table = r.table })) r.runs h))

    in_turn_hold : (bs : List BaseChain) → HoldsThrough (InTurn network tables bs)
    in_turn_hold [] f es end r h = nothing_holds f es end r h
    in_turn_hold (b ∷ bs) f es end (hooks.goes_on m r on s) h =
        in_turn_hold bs m.facts m.events end s (base_holds b f es m r h).0
    in_turn_hold (b ∷ bs) f es end (hooks.stops r ends) h = base_holds b f es end r h

    pub chains_hold : (test : BaseChain → Bool) → HoldsThrough (Chains network tables test)
    chains_hold test f es end r = in_turn_hold r.order f es end r.run

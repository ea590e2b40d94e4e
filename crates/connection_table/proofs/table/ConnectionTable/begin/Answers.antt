use Rattle.std.proofs.Common.{◌≡◌, ℕ, ◌<◌, ◌≤◌, ◌++◌, ◌⊎◌, List, length, Result, inl, inr, Ok, Err, sym, ap, arith}
use Rattle.std.specs.List.{Contains}
use Rattle.std.proofs.lemmas.List.Elements.{Contains-append_cases, Contains-append_right}
use Rattle.std.proofs.lemmas.Bool.{cases_lt}
use Rattle.ip_headers.specs.declared.tuple.Mapping.{Mapping}
use Rattle.conntrack.specs.declared.connection.ConnId.{ConnId}
use Rattle.conntrack.specs.declared.tracker.BeginError.{BeginError}
use Rattle.conntrack.specs.declared.tracker.BeginError.TheVariants.{Full}
use Rattle.conntrack.specs.declared.connection.ConntrackEntry.{ConntrackEntry}
use Rattle.nat_mapping.specs.HeldMappings.{HoldsSame, holders_of}
use Rattle.translation.specs.declared.ct_info.NewConnection.{NewConnection}
use Rattle.translation.specs.Fitting.{IsFitting}
use Rattle.translation.specs.LiveMappings.{listed, mappings_in}
use Rattle.connection_table.proofs.Counts.{holders-append, holders-le-length, length-listed, listed_is, same_more}
use Rattle.connection_table.proofs.Mapped.{holders-begun, length-mappings_in}
use Rattle.connection_table.proofs.table.ConnectionTable.begin.Goals as goal

-- the mapping of its destination is one of those held
among_others : (new_connection : NewConnection) (mappings : List Mapping) → IsFitting new_connection mappings → (m : Mapping)
    → Contains (listed new_connection.dest) m ⊎ Contains (listed new_connection.source ++ mappings) m
    → Contains (listed new_connection.source ++ mappings) m
among_others new_connection mappings fits m (inl first) =
    Contains-append_right (listed new_connection.source) mappings m (fits.among m (listed_is new_connection.dest m first))
among_others new_connection mappings fits m (inr other) = other

few_held : (held : List ConntrackEntry) (mappings : List Mapping) → HoldsSame (mappings_in held) mappings → length held < 1048576
    → (m : Mapping) → holders_of m mappings ≤ 2097150
few_held held mappings same few m =
    omega (arith, same m, holders-le-length m (mappings_in held), length-mappings_in held)

fits_there : (new_connection : NewConnection) (one other : List ConntrackEntry) → one ≡ other → IsFitting new_connection (mappings_in other)
    → IsFitting new_connection (mappings_in one)
fits_there new_connection one other same fits = rw same fits

not_full : (id : ConnId) (n : ℕ) → (1048576 ≤ n → ◌≡◌ {A = Result ConnId BeginError} (Ok id) (Err Full)) → n < 1048576
not_full id n full = elim (cases_lt n 1048576) [ inl few ↦ few | inr many ↦ let e = full many in cc ]

pub hold-requires-clause-one_to_one : goal.hold-requires-clause-one_to_one
hold-requires-clause-one_to_one g c =
    let fits = fits_there c.args.new_connection.now _ _ (ap (λ t. t.held) c.self.view_is) c.requires.fits in
    let source = listed c.args.new_connection.now.source in
    c.same_answers.ensures.one_to_one _ _ (same_more source _ _ (λ m. sym (c.self.invariant m))) fits.one

pub hold-requires-clause-few : goal.hold-requires-clause-few
hold-requires-clause-few g c m =
    grind (arith, c.self.inside.tracker, not_full, c.in_ok-begin.field-0, c.in_ok-begin.ensures.full.1, few_held, c.self.invariant)

pub hold-requires-2-clause-one_to_one : goal.hold-requires-2-clause-one_to_one
hold-requires-2-clause-one_to_one g c =
    let source = listed c.args.new_connection.now.source in
    let dest = listed c.args.new_connection.now.dest in
    let before = mappings_in (g.T.Tracker.held c.self.inside.tracker) in
    let now = c.hold.new.mappings.held in
    let fits = fits_there c.args.new_connection.now _ _ (ap (λ t. t.held) c.self.view_is) c.requires.fits in
    let same : HoldsSame now (source ++ before) =
    λ m. omega (arith, c.hold.ensures.held m, same_more source _ _ c.self.invariant m) in
    c.stays_one_to_one.ensures.within (dest ++ now) (source ++ before)
    (λ m among. among_others c.args.new_connection.now before fits m
    (elim (Contains-append_cases dest now m among) [
      | inl first ↦ inl first
      | inr other ↦ inr (c.same_answers.ensures.members _ _ m same other)
    ]))
    fits.one

pub hold-requires-2-clause-few : goal.hold-requires-2-clause-few
hold-requires-2-clause-few g c m =
    let held = g.T.Tracker.held c.self.inside.tracker in
    let few = not_full c.in_ok-begin.field-0 (length held) c.in_ok-begin.ensures.full.1 in
    let source = listed c.args.new_connection.now.source in
    let now = holders-append m source c.self.inside.mappings.held in
    let one = holders-le-length m source in
    let most = length-listed c.args.new_connection.now.source in
    omega (arith, few_held _ _ c.self.invariant few m, c.hold.ensures.held m, now, one, most)

pub invariant_of-self-2 : goal.invariant_of-self-2
invariant_of-self-2 g c m =
    let source = listed c.args.new_connection.now.source in
    let dest = listed c.args.new_connection.now.dest in
    let first = holders-append m source c.self.inside.mappings.held in
    let second = holders-append m dest c.hold.new.mappings.held in
    rw (c.in_ok-begin.ensures.ok, holders-begun)
    (omega (arith, first, second, c.self.invariant m, c.hold.ensures.held m, c.hold-2.ensures.held m))

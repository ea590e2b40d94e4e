-- A base chain and its stage see the same packets.
use Rattle.std.proofs.Common.{◌≡◌, ◌∙◌, ◌&&◌, not, cond, Bool, true, false, ap, refl, sym}
use Rattle.nft_tree.specs.declared.chain.ChainKind.{ChainKind}
use Rattle.nft_tree.specs.declared.chain.ChainKind.TheVariants as kinds
use Rattle.nft_tree.specs.declared.chain.Hook.{Hook}
use Rattle.nft_tree.specs.declared.chain.Hook.TheVariants as hooks
use Rattle.nft_tree.specs.declared.selector.Selector.TheVariants.{CtState}
use Rattle.nft_tree.specs.Priorities.{DSTNAT, SRCNAT, AFTER_CONNTRACK}
use Rattle.rule_meaning.specs.declared.facts.Facts.{Facts}
use Rattle.rule_meaning.specs.declared.stage.HookStage.{HookStage}
use Rattle.rule_meaning.specs.declared.stage.HookStage.TheVariants as stages
use Rattle.rule_meaning.specs.Hooks.{BaseChain, chains_in_stage, filter_chains_on, nat_chains_on, is_after_conntrack, is_below, is_filter, is_prerouting_raw}
use Rattle.rule_meaning.specs.Hooks.{same_hook}
use Rattle.coming_sets.specs.Coming.{can_come, can_come_to, has_output, has_state, has_state_in, has_value, hook_of, is_packet}

left : (a b : Bool) → (a && b) ≡ true → a ≡ true
left true b e = refl
left false b e = cc

right : (a b : Bool) → (a && b) ≡ true → b ≡ true
right true b e = e
right false b e = cc

hook_is : (h k : Hook) → same_hook h k ≡ true → h ≡ k
hook_is hooks.Prerouting hooks.Prerouting e = refl
hook_is hooks.Input hooks.Input e = refl
hook_is hooks.Forward hooks.Forward e = refl
hook_is hooks.Output hooks.Output e = refl
hook_is hooks.Postrouting hooks.Postrouting e = refl
hook_is h k e = cc

filter_is : (k : ChainKind) → is_filter k ≡ true → k ≡ kinds.Filter
filter_is kinds.Filter e = refl
filter_is kinds.Nat e = cc

nat_is : (k : ChainKind) → not (is_filter k) ≡ true → k ≡ kinds.Nat
nat_is kinds.Nat e = refl
nat_is kinds.Filter e = cc

on : (hook : Hook) (b : BaseChain) → filter_chains_on hook b ≡ true → b.head.hook ≡ hook
on hook b e = hook_is b.head.hook hook (left (same_hook b.head.hook hook) (is_filter b.head.kind) e)

of_kind : (hook : Hook) (b : BaseChain) → filter_chains_on hook b ≡ true → b.head.kind ≡ kinds.Filter
of_kind hook b e = filter_is b.head.kind (right (same_hook b.head.hook hook) (is_filter b.head.kind) e)

on_nat : (hook : Hook) (b : BaseChain) → nat_chains_on hook b ≡ true → b.head.hook ≡ hook
on_nat hook b e = hook_is b.head.hook hook (left (same_hook b.head.hook hook) (not (is_filter b.head.kind)) e)

of_nat : (hook : Hook) (b : BaseChain) → nat_chains_on hook b ≡ true → b.head.kind ≡ kinds.Nat
of_nat hook b e = nat_is b.head.kind (right (same_hook b.head.hook hook) (not (is_filter b.head.kind)) e)

unraw : (a : Bool) → not a ≡ true → a ≡ false
unraw true e = cc
unraw false e = refl

-- elsewhere than before routing no chain is before the lookup
elsewhere : (h : Hook) (b : BaseChain) → (same_hook h hooks.Prerouting ≡ false) → b.head.hook ≡ h → is_prerouting_raw b ≡ false
elsewhere h b not_there on = ap (λ k. (same_hook k hooks.Prerouting && is_filter b.head.kind) && is_below AFTER_CONNTRACK b) on
    ∙ ap (λ x. (x && is_filter b.head.kind) && is_below AFTER_CONNTRACK b) not_there

seen_there : (stage : HookStage) (b : BaseChain) (f : Facts) → b.head.hook ≡ hook_of stage → has_state b.head.kind b f ≡ has_state_in stage f
    → can_come b f ≡ can_come_to stage f
seen_there stage b f on state = ap (λ h. is_packet f && (has_output h f && has_state b.head.kind b f)) on
    ∙ ap (λ s. is_packet f && (has_output (hook_of stage) f && s)) state

state_if : (b : BaseChain) (f : Facts) (raw : Bool) → b.head.kind ≡ kinds.Filter → is_prerouting_raw b ≡ raw
    → has_state b.head.kind b f ≡ cond raw (not (has_value CtState f)) (has_value CtState f)
state_if b f raw kind is = ap (λ k. has_state k b f) kind ∙ ap (λ r. cond r (not (has_value CtState f)) (has_value CtState f)) is

after : (stage : HookStage) (b : BaseChain) (f : Facts) → is_after_conntrack b ≡ true → hook_of stage ≡ hooks.Prerouting
    → has_state_in stage f ≡ has_value CtState f → can_come b f ≡ can_come_to stage f
after stage b f e hook state =
    let filter = left (filter_chains_on hooks.Prerouting b) (not (is_prerouting_raw b)) e in
    let raw = unraw (is_prerouting_raw b) (right (filter_chains_on hooks.Prerouting b) (not (is_prerouting_raw b)) e) in
    seen_there stage b f (on hooks.Prerouting b filter ∙ sym hook) (state_if b f false (of_kind hooks.Prerouting b filter) raw ∙ sym state)

plain : (stage : HookStage) (b : BaseChain) (f : Facts) → filter_chains_on (hook_of stage) b ≡ true
    → same_hook (hook_of stage) hooks.Prerouting ≡ false → has_state_in stage f ≡ has_value CtState f → can_come b f ≡ can_come_to stage f
plain stage b f e not_there state =
    seen_there stage b f (on (hook_of stage) b e) (state_if b f false (of_kind (hook_of stage) b e)
    (elsewhere (hook_of stage) b not_there (on (hook_of stage) b e)) ∙ sym state)

pub at_its_stage : (stage : HookStage) (b : BaseChain) → chains_in_stage stage b ≡ true → (f : Facts) → can_come b f ≡ can_come_to stage f
at_its_stage stages.PreroutingRaw b e f =
    let filter = left (filter_chains_on hooks.Prerouting b) (is_below AFTER_CONNTRACK b) e in
    seen_there stages.PreroutingRaw b f (on hooks.Prerouting b filter) (state_if b f true (of_kind hooks.Prerouting b filter) e)
at_its_stage stages.PreroutingBeforeNat b e f =
    after stages.PreroutingBeforeNat b f (left (is_after_conntrack b) (is_below DSTNAT b) e) refl refl
at_its_stage stages.PreroutingNat b e f =
    seen_there stages.PreroutingNat b f (on_nat hooks.Prerouting b e) (ap (λ k. has_state k b f) (of_nat hooks.Prerouting b e))
at_its_stage stages.PreroutingAfterNat b e f =
    after stages.PreroutingAfterNat b f (left (is_after_conntrack b) (not (is_below DSTNAT b)) e) refl refl
at_its_stage stages.Input b e f = plain stages.Input b f e refl refl
at_its_stage stages.Forward b e f = plain stages.Forward b f e refl refl
at_its_stage stages.PostroutingBeforeNat b e f =
    plain stages.PostroutingBeforeNat b f (left (filter_chains_on hooks.Postrouting b) (is_below SRCNAT b) e) refl refl
at_its_stage stages.PostroutingNat b e f =
    seen_there stages.PostroutingNat b f (on_nat hooks.Postrouting b e) (ap (λ k. has_state k b f) (of_nat hooks.Postrouting b e))
at_its_stage stages.PostroutingAfterNat b e f =
    plain stages.PostroutingAfterNat b f (left (filter_chains_on hooks.Postrouting b) (not (is_below SRCNAT b)) e) refl refl

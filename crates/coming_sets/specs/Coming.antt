-- With which facts a packet can come to a base chain, by what selectors read of it. Facts that no packet has
-- there may be left, but none that some packet has is ruled out.
use Rattle.std.specs.Prelude.{ℕ, ◌&&◌, not, cond, Bool, false}
use Rattle.nft_tree.specs.declared.chain.ChainKind.{ChainKind}
use Rattle.nft_tree.specs.declared.chain.ChainKind.TheVariants as kinds
use Rattle.nft_tree.specs.declared.chain.Hook.{Hook}
use Rattle.nft_tree.specs.declared.chain.Hook.TheVariants as hooks
use Rattle.nft_tree.specs.declared.selector.Selector.{Selector}
use Rattle.nft_tree.specs.declared.selector.Selector.TheVariants.{CtState, IcmpType, InputIndex, IpLength, IpProtocol}
use Rattle.nft_tree.specs.declared.selector.Selector.TheVariants.{OutputIndex, TcpSource, UdpSource}
use Rattle.nft_tree.specs.declared.statement.Operator.{Operator}
use Rattle.nft_tree.specs.declared.statement.Operator.TheVariants.{AtLeast, Equal, Unequal}
use Rattle.nft_tree.specs.ValueTypes.{STATE_NEW}
use Rattle.nft_values.specs.Values.{one_number}
use Rattle.rule_meaning.specs.declared.facts.Facts.{Facts}
use Rattle.rule_meaning.specs.declared.stage.HookStage.{HookStage}
use Rattle.rule_meaning.specs.declared.stage.HookStage.TheVariants as stages
use Rattle.rule_meaning.specs.Hooks.{BaseChain, is_prerouting_raw}
use Rattle.rule_meaning.specs.Matches.{compares, tests}
use Rattle.rule_meaning.specs.Selectors.{value}

-- ---- selectors

-- the match of a selector with a number (nft(8), "Expressions"); it fails without a value, under `!=` too
abbrev pub matches : Selector → Operator → ℕ → Facts → Bool
matches s o n f = tests (value s f) (compares o (one_number n))

abbrev pub has_value : Selector → Facts → Bool
has_value s f = matches s AtLeast 0 f

-- ---- the packet itself

-- it came in by an interface: the indexes of interfaces begin at 1 (Linux, and the box file)
abbrev pub has_input : Facts → Bool
has_input f = matches InputIndex Unequal 0 f

-- a field of a protocol's header has a value exactly in packets of that protocol: those whose header isn't whole
-- are dropped before any rule
abbrev pub is_field_of : ℕ → Selector → Facts → Bool
is_field_of protocol s f = cond (matches IpProtocol Equal protocol f) (has_value s f) (not (has_value s f))

-- TCP is 6, UDP 17, ICMP 1 (IANA, "Protocol Numbers")
abbrev pub has_headers : Facts → Bool
has_headers f = (is_field_of 6 TcpSource f && is_field_of 17 UdpSource f) && is_field_of 1 IcmpType f

-- its total length counts the header, of at least 20 octets (RFC 791, section 3.1)
abbrev pub has_length : Facts → Bool
has_length f = matches IpLength AtLeast 20 f

abbrev pub is_packet : Facts → Bool
is_packet f = has_input f && (has_length f && has_headers f)

-- ---- the hook (nft(8), "Chains", "Meta expressions")

-- before routing and where the box itself is the destination there is no output interface; where packets are
-- forwarded there is one. None comes to the output hook: the box sends none of its own
abbrev pub has_output : Hook → Facts → Bool
has_output hooks.Prerouting f = not (has_value OutputIndex f)
has_output hooks.Input f = not (has_value OutputIndex f)
has_output hooks.Forward f = matches OutputIndex Unequal 0 f
has_output hooks.Postrouting f = matches OutputIndex Unequal 0 f
has_output hooks.Output f = false

-- ---- connection tracking

-- filter chains before the conntrack lookup see no state, those after it one (NF_IP_PRI_CONNTRACK is -200);
-- chains of type nat only the first packet of a connection, which is new (nft(8), "Chains")
abbrev pub has_state : ChainKind → BaseChain → Facts → Bool
has_state kinds.Filter b f = cond (is_prerouting_raw b) (not (has_value CtState f)) (has_value CtState f)
has_state kinds.Nat b f = matches CtState Equal STATE_NEW f

-- ---- all of it

-- it is where the base chain runs
abbrev pub is_at : BaseChain → Facts → Bool
is_at b f = has_output b.head.hook f && has_state b.head.kind b f

abbrev pub can_come : BaseChain → Facts → Bool
can_come b f = is_packet f && is_at b f

-- ---- the stages of a hook, by which base chains run

abbrev pub hook_of : HookStage → Hook
hook_of stages.PreroutingRaw = hooks.Prerouting
hook_of stages.PreroutingBeforeNat = hooks.Prerouting
hook_of stages.PreroutingNat = hooks.Prerouting
hook_of stages.PreroutingAfterNat = hooks.Prerouting
hook_of stages.Input = hooks.Input
hook_of stages.Forward = hooks.Forward
hook_of stages.PostroutingBeforeNat = hooks.Postrouting
hook_of stages.PostroutingNat = hooks.Postrouting
hook_of stages.PostroutingAfterNat = hooks.Postrouting

-- the state that its chains see
abbrev pub has_state_in : HookStage → Facts → Bool
has_state_in stages.PreroutingRaw f = not (has_value CtState f)
has_state_in stages.PreroutingNat f = matches CtState Equal STATE_NEW f
has_state_in stages.PostroutingNat f = matches CtState Equal STATE_NEW f
has_state_in _ f = has_value CtState f

abbrev pub can_come_to : HookStage → Facts → Bool
can_come_to stage f = is_packet f && (has_output (hook_of stage) f && has_state_in stage f)
